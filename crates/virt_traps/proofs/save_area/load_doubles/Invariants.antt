use Rattle.std.proofs.Common.{◌≡◌, ◌+◌, ◌-◌, ◌*◌, length}
use Rattle.guest_bus.specs.Words.{words_at}
use Rattle.std.proofs.lemmas.List.Edits.{sets}
use Rattle.virt_traps.proofs.save_area.load_doubles.Given as goal

abbrev pub invariant-loop-i : goal.invariant-loop-i
invariant-loop-i g l = record {
  left : sets l.words (2 * l.i) (words_at (g.B.Bus.memory l.fn.bus) (l.fn.address + 8 * l.i) (2 * (l.fn.doubles - l.i))) ≡ sets l.fn.words 0 (words_at (g.B.Bus.memory l.fn.bus) l.fn.address (2 * l.fn.doubles));
  counted : length l.words ≡ 2 * l.fn.doubles;
  memory : g.B.Bus.memory l.bus ≡ g.B.Bus.memory l.fn.bus;
  areas : g.B.Bus.areas l.bus ≡ g.B.Bus.areas l.fn.bus;
  others : g.B.Bus.others l.bus ≡ g.B.Bus.others l.fn.bus;
}
