use Rattle.std.proofs.Common.{ℕ, ◌<◌, ◌+◌, ◌∙◌, ap, arith, length, sym}
use Rattle.saved_machines.specs.Savable.{IsSavedHealth}
use Rattle.xm_traces.specs.Ring.{entry_at}
use Rattle.machine_saves.proofs.RangeLemmas.{all_of_each, each_more, entry_there}
use Rattle.machine_saves.proofs.ranges.look_at_health.Goals as goal

pub loop-place-preserved : goal.loop-place-preserved
loop-place-preserved c =
    let log = c.args.health.now in
    let below : c.loop-place.place < length log.entries = omega (arith, c.loop-place-test.true, c.counts-counts.ensures.first, c.counts-counts.ensures.next, c.counts-counts.ensures.kept.count) in
    let there = sym (entry_there log c.loop-place.place c.counts-counts.ensures.kept below) ∙ ap (λ (first : ℕ). entry_at (first + c.loop-place.place) log) (sym c.counts-counts.ensures.first) ∙ sym c.in-Some.ensures.value in
    each_more IsSavedHealth log.entries c.loop-place.place c.in-Some.entry there c.look_at_event.ensures c.loop-place.invariant

pub returns-clause-entries : goal.returns-clause-entries
returns-clause-entries c =
    all_of_each IsSavedHealth c.args.health.now.entries c.loop-place.place (omega (arith, c.loop-place-test.false, c.counts-counts.ensures.first, c.counts-counts.ensures.next, c.counts-counts.ensures.kept.count)) c.loop-place.invariant
