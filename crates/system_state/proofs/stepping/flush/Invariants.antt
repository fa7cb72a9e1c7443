use Rattle.std.proofs.Common.{◌≡◌, ◌-◌}
use Rattle.machine_model.specs.OwnEffects.{flushed}
use Rattle.virt_traps.specs.Moves.{move_made}
use Rattle.system_state.proofs.stepping.flush.Given as goal

abbrev pub invariant-loop : goal.invariant-loop
invariant-loop g l = record {
  rest : flushed (8 - l.counter) (g.B.Bus.areas l.fn.bus) (move_made l.own (g.B.Bus.memory l.bus)) ≡ flushed 8 (g.B.Bus.areas l.fn.bus) (move_made l.fn.own (g.B.Bus.memory l.fn.bus));
  areas : g.B.Bus.areas l.bus ≡ g.B.Bus.areas l.fn.bus;
  others : g.B.Bus.others l.bus ≡ g.B.Bus.others l.fn.bus;
}
