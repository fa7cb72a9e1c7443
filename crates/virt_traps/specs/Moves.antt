-- Windows that move between the registers and the stack: spills and fills, as a guest's own trap handlers would make them.
use Rattle.std.specs.Prelude.{ℕ, ◌+◌, ◌%◌, if◌then◌else◌, List, Result, Ok, Err}
use Rattle.guest_bus.specs.Memory.{Area, Memory, is_readable, is_writable, with_bytes}
use Rattle.sparc_step.specs.Registers.{Registers}
use Rattle.guest_bus.specs.Words.{bytes_of, words_at}
use Rattle.virt_traps.specs.SaveArea.{is_usable, register_of, saved, with_registers}
use Rattle.virt_traps.specs.declared.windows.StackFault.{StackFault}

-- the outcome of a spill or a fill, and what it left
pub record Moved : Type 0 where
  pub answer : Result (Unit {0}) StackFault
  pub core : Registers
  pub memory : Memory

-- one that was made
abbrev pub move_made : Registers → Memory → Moved
move_made core memory = record { answer = Ok tt; core = core; memory = memory }

-- one whose stack could not be used; it changed nothing
abbrev pub move_refused : Registers → Memory → Moved
move_refused core memory = record { answer = Err (record {}); core = core; memory = memory }

-- the window that a spill stores: the one below the invalid one
abbrev pub spill_window : Registers → ℕ
spill_window core = (core.inv + 7) % 8

-- where it is stored: at its own stack pointer, register 14
unfoldable pub spill_address : Registers → ℕ
spill_address core = register_of core.windows (spill_window core) 14

-- a spill: that window is stored, and becomes the invalid one
unfoldable pub spilled : List Area → Registers → Memory → Moved
spilled areas core memory =
    if is_usable (is_writable areas) (spill_address core)
    then move_made (record core { inv = spill_window core }) (with_bytes memory (spill_address core) (bytes_of (saved core.windows (spill_window core))))
    else move_refused core memory

-- where the invalid window is loaded from: the current window's frame pointer, register 30
unfoldable pub fill_address : Registers → ℕ
fill_address core = register_of core.windows core.cwp 30

-- a fill: the invalid window is loaded, its locals and ins, and the one above it becomes the invalid one
unfoldable pub filled : List Area → Registers → Memory → Moved
filled areas core memory =
    if is_usable (is_readable areas) (fill_address core)
    then move_made (record core { windows = with_registers core.windows core.inv 16 (words_at memory (fill_address core) 16); inv = (core.inv + 1) % 8 }) memory
    else move_refused core memory
