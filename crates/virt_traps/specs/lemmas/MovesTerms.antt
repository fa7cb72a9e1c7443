-- For proofs and private clauses: windows that move between the registers and the stack: spills and fills, as a guest's own trap handlers would make them.
use Rattle.std.specs.Prelude.{ℕ, ◌≢◌, ◌+◌, ◌%◌, List}
use Rattle.guest_bus.specs.Memory.{Area, Memory}
use Rattle.sparc_step.specs.Registers.{Registers}
use Rattle.virt_traps.specs.declared.windows.WindowMove.{WindowMove}
use Rattle.virt_traps.specs.declared.windows.WindowMove.TheVariants.{Spill, Fill}
use Rattle.virt_traps.specs.Moves.{Moved, spilled, filled}
use Rattle.virt_traps.specs.SaveArea.{with_registers}

-- a spill may be asked for where the window above the current one is not the invalid one, and a fill where the window above the invalid one is not the current one
abbrev pub CanMove : WindowMove → Registers → Type 0
CanMove Spill core = (core.cwp + 1) % 8 ≢ core.inv
CanMove Fill core = (core.inv + 1) % 8 ≢ core.cwp

-- the outcome of a move of a window
abbrev pub moved_by : WindowMove → List Area → Registers → Memory → Moved
moved_by Spill areas core memory = spilled areas core memory
moved_by Fill areas core memory = filled areas core memory

-- the registers after a fill with these words: those of the invalid window are loaded, and the one above it becomes the invalid one
abbrev pub loaded_with : List ℕ → Registers → Registers
loaded_with words core = record core { windows = with_registers core.windows core.inv 16 words; inv = (core.inv + 1) % 8 }
