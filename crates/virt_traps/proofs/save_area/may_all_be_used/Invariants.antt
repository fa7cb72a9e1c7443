use Rattle.std.proofs.Common.{◌≡◌, ◌*◌, true}
use Rattle.guest_bus.specs.Words.{allows}
use Rattle.virt_traps.specs.lemmas.SaveAreaTerms.{allowed_for}
use Rattle.virt_traps.proofs.save_area.may_all_be_used.Given as goal

abbrev pub invariant-loop-i : goal.invariant-loop-i
invariant-loop-i g l = record {
  passed : allows (allowed_for l.fn.which (g.B.Bus.areas l.fn.bus)) l.fn.address (8 * l.i) ≡ true;
  memory : g.B.Bus.memory l.bus ≡ g.B.Bus.memory l.fn.bus;
  areas : g.B.Bus.areas l.bus ≡ g.B.Bus.areas l.fn.bus;
  others : g.B.Bus.others l.bus ≡ g.B.Bus.others l.fn.bus;
}
