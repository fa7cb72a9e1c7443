use Rattle.std.proofs.Common.{◌≡◌, ◌-◌, ◌<◌, length}
use Rattle.fast_loop.specs.lemmas.Coming.{left_at}
use Rattle.fast_loop.specs.Keeping.{AreRowsOf}
use Rattle.fast_loop.specs.lemmas.Ahead.{IsAheadWithin}
use Rattle.fast_loop.proofs.RunningLemmas.{IsRunning}
use Rattle.fast_loop.proofs.blocks.blocks.Given as goal

abbrev pub invariant-loop-part : goal.invariant-loop-part
invariant-loop-part g l = record {
  running : IsRunning l.origin l.fn.from (l.end - l.fn.from) l.at l.limit (g.B.Bus.areas l.fn.bus) l.fn.own l.own (g.B.Bus.memory l.fn.bus) (g.B.Bus.memory l.bus);
  place : l.at < length l.rows;
  ahead : IsAheadWithin l.rows l.at l.limit;
  rows : AreRowsOf l.rows (g.B.Bus.areas l.bus) (g.B.Bus.memory l.bus) l.origin;
  areas : g.B.Bus.areas l.bus ≡ g.B.Bus.areas l.fn.bus;
  others : g.B.Bus.others l.bus ≡ g.B.Bus.others l.fn.bus;
}

abbrev pub decreases-loop-part : goal.decreases-loop-part
decreases-loop-part g l = left_at l.at l.limit
