use Rattle.std.proofs.Common.{take}
use Rattle.machine_model.specs.Facts.{HaveEight}
use Rattle.core_files.proofs.logs.look_at.Given as goal

abbrev pub invariant-loop-place : goal.invariant-loop-place
invariant-loop-place l = HaveEight (take l.place l.traces.entries)
