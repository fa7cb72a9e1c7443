use Rattle.std.proofs.Common.{inr, sym, ◌∙◌}
use Rattle.span_engine.proofs.slot.run_slot.Goals as goal

pub wait-requires-clause-nobodys : goal.wait-requires-clause-nobodys
wait-requires-clause-nobodys c = inr (_, _, _, c.requires.slot, sym c.takes_turns.ensures ∙ c.if-takes_turns.false)
