use Rattle.std.proofs.Common.{arith}
use Rattle.span_engine.proofs.HereLemmas.{can_take, gap_is, owned_here, slot_of, some_part}
use Rattle.span_engine.specs.lemmas.PlaceLemmas.{fewer_ticks}
use Rattle.span_engine.proofs.slot.run_part.Goals as goal

pub run_slot-requires-clause-take : goal.run_slot-requires-clause-take
run_slot-requires-clause-take c =
    can_take c.args.sys.now _ c.args.most c.requires.machine c.requires.running (owned_here c.args.sys.now _ c.args.place.slot c.requires.machine c.in-Some.is c.requires.place.covers)
    c.requires.some
    c.requires.ticks
    (omega (arith, c.requires.place.stretch.within, c.requires.left))

pub run_slot-requires-clause-slot : goal.run_slot-requires-clause-slot
run_slot-requires-clause-slot c =
    slot_of c.args.sys.now _ c.args.place.slot c.requires.place.slot c.in-Some.is (owned_here c.args.sys.now _ c.args.place.slot c.requires.machine c.in-Some.is c.requires.place.covers)

pub wait-requires-clause-nobodys : goal.wait-requires-clause-nobodys
wait-requires-clause-nobodys c = gap_is c.args.sys.now c.args.place.slot c.requires.place.slot c.in-None.is

pub wait-requires-clause-parts : goal.wait-requires-clause-parts
wait-requires-clause-parts c = some_part c.args.sys.now c.requires.machine

pub run_slot-requires-clause-stretch : goal.run_slot-requires-clause-stretch
run_slot-requires-clause-stretch c = fewer_ticks c.args.sys.now.machine c.args.place.left c.args.most c.requires.left c.requires.place.stretch

pub wait-requires-clause-stretch : goal.wait-requires-clause-stretch
wait-requires-clause-stretch c = fewer_ticks c.args.sys.now.machine c.args.place.left c.args.most c.requires.left c.requires.place.stretch
