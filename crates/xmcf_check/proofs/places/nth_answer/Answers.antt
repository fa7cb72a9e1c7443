use Rattle.std.proofs.Common.{◌∙◌, ◌≤◌, arith, get_or, length}
use Rattle.xm_conf.specs.declared.health.Event.TheVariants as event
use Rattle.xmcf_check.specs.Places.{event_items}
use Rattle.xmcf_check.proofs.PlaceLemmas.{found_here, found_later, found_nowhere}
use Rattle.xmcf_check.proofs.places.nth_answer.Goals as goal

pub returns-then-left-count : goal.returns-then-left-count
returns-then-left-count c =
    c.nth_grandchild.ensures
    ∙ found_here (event_items c.args.entries.now c.args.part) c.args.events.now c.loop-event.event-index c.loop-event.left c.args.n event.PartitionError c.loop-event-test.true (rw (← c.count-count.ensures) c.if-left-count.true) c.loop-event.invariant

pub loop-event-preserved : goal.loop-event-preserved
loop-event-preserved c =
    let some : length (event_items c.args.entries.now c.args.part (get_or c.args.events.now c.loop-event.event-index event.PartitionError)) ≤ c.loop-event.left = omega (arith, c.count-count.ensures) in
    rw (c.count-count.ensures) (found_later (event_items c.args.entries.now c.args.part) c.args.events.now c.loop-event.event-index c.loop-event.left c.args.n event.PartitionError c.loop-event-test.true some c.loop-event.invariant)

pub returns : goal.returns
returns c = found_nowhere (event_items c.args.entries.now c.args.part) c.args.events.now c.loop-event.event-index c.loop-event.left c.args.n (omega arith) c.loop-event.invariant
