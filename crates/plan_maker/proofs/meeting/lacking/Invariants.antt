-- What is lacking after the slots so far.
use Rattle.std.proofs.Common.{◌≡◌, ◌-◌, sum_by, take}
use Rattle.plan_maker.specs.lemmas.ServedTerms.{shared}
use Rattle.plan_maker.proofs.meeting.lacking.Given as goal

abbrev pub invariant-loop-slot : goal.invariant-loop-slot
invariant-loop-slot l = l.lacking ≡ l.ticks - sum_by (shared l.part l.start l.end) (take l.slot-index l.slots)
