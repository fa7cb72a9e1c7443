use Rattle.std.proofs.Common.{rules}
use Rattle.virt_traps.specs.Settled.{settled}
use Rattle.virt_traps.proofs.SettledLemmas.{settled_pieces, turned_trap}
use Rattle.virt_traps.proofs.step.settle_cached.Goals as goal

pub after_trap-requires-clause-overflow : goal.after_trap-requires-clause-overflow
after_trap-requires-clause-overflow g c = (turned_trap _ _ _ _ _ _ c.in-Trap.ensures.turn c.in-Trap.ensures.core c.in-Trap.ensures.memory).overflow

pub after_trap-requires-clause-underflow : goal.after_trap-requires-clause-underflow
after_trap-requires-clause-underflow g c = (turned_trap _ _ _ _ _ _ c.in-Trap.ensures.turn c.in-Trap.ensures.core c.in-Trap.ensures.memory).underflow

pub returns-in-Trap-clause-turn : goal.returns-in-Trap-clause-turn
unfolding settled
returns-in-Trap-clause-turn g c = search rules

pub returns-in-Trap-clause-core : goal.returns-in-Trap-clause-core
unfolding settled
returns-in-Trap-clause-core g c = search rules

pub returns-in-Trap-clause-memory : goal.returns-in-Trap-clause-memory
unfolding settled
returns-in-Trap-clause-memory g c = search rules

pub returns-in-Trap-clause-failed : goal.returns-in-Trap-clause-failed
returns-in-Trap-clause-failed g c =
    (settled_pieces (g.B.Bus.areas c.args.bus.now) _ _ _ _ _ (returns-in-Trap-clause-turn g c) (returns-in-Trap-clause-core g c) (returns-in-Trap-clause-memory g c)).failed

pub returns-in-Trap-clause-trapped : goal.returns-in-Trap-clause-trapped
returns-in-Trap-clause-trapped g c =
    (settled_pieces (g.B.Bus.areas c.args.bus.now) _ _ _ _ _ (returns-in-Trap-clause-turn g c) (returns-in-Trap-clause-core g c) (returns-in-Trap-clause-memory g c)).trapped

pub returns-in-Trap-clause-called : goal.returns-in-Trap-clause-called
returns-in-Trap-clause-called g c =
    (settled_pieces (g.B.Bus.areas c.args.bus.now) _ _ _ _ _ (returns-in-Trap-clause-turn g c) (returns-in-Trap-clause-core g c) (returns-in-Trap-clause-memory g c)).called

pub returns-in-Call-clause-turn : goal.returns-in-Call-clause-turn
unfolding settled
returns-in-Call-clause-turn g c = search rules

pub returns-in-Call-clause-core : goal.returns-in-Call-clause-core
unfolding settled
returns-in-Call-clause-core g c = search rules

pub returns-in-Call-clause-memory : goal.returns-in-Call-clause-memory
unfolding settled
returns-in-Call-clause-memory g c = search rules

pub returns-in-Call-clause-called : goal.returns-in-Call-clause-called
returns-in-Call-clause-called g c =
    (settled_pieces (g.B.Bus.areas c.args.bus.now) _ _ _ _ _ (returns-in-Call-clause-turn g c) (returns-in-Call-clause-core g c) (returns-in-Call-clause-memory g c)).called
