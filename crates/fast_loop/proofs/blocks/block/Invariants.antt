use Rattle.std.proofs.Common.{◌≡◌, ◌-◌, drop, length}
use Rattle.fast_loop.specs.Keeping.{AreRowsOf}
use Rattle.fast_loop.proofs.BlockLemmas.{InBlock}
use Rattle.fast_loop.proofs.blocks.block.Given as goal

abbrev pub invariant-loop-at : goal.invariant-loop-at
invariant-loop-at g l = record {
  words : InBlock l.rows l.origin l.fn.from l.at l.limit (g.B.Bus.areas l.fn.bus) l.fn.own l.own (g.B.Bus.memory l.fn.bus) (g.B.Bus.memory l.bus);
  rest : l.rest ≡ drop l.at l.rows;
  rows : AreRowsOf l.rows (g.B.Bus.areas l.fn.bus) (g.B.Bus.memory l.bus) l.origin;
  areas : g.B.Bus.areas l.bus ≡ g.B.Bus.areas l.fn.bus;
  others : g.B.Bus.others l.bus ≡ g.B.Bus.others l.fn.bus;
}

abbrev pub decreases-loop-at : goal.decreases-loop-at
decreases-loop-at g l = length l.rows - l.at
