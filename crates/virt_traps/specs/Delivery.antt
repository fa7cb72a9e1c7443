-- A virtual trap that is taken, and the return from it.
use Rattle.std.specs.Prelude.{◌≡◌, ℕ, ◌+◌, ◌*◌, ◌/◌, ◌%◌, ◌^◌, Bool, false, ◌&&◌, ◌==◌, if◌then◌else◌, List, Result, Ok, Err, IsFalse, IsTrue}
use Rattle.std.specs.Int.{bit_at}
use Rattle.guest_bus.specs.Memory.{Area, Memory, is_readable}
use Rattle.sparc_step.specs.Registers.{Registers, in_window, register_at, with_register}
use Rattle.virt_traps.specs.Moves.{Moved, fill_address, filled, move_made, spilled}
use Rattle.virt_traps.specs.SaveArea.{is_usable}
use Rattle.virt_traps.specs.Virtual.{VirtualTraps}
use Rattle.virt_traps.specs.declared.delivery.IretFault.{IretFault}
use Rattle.virt_traps.specs.declared.delivery.IretFault.TheVariants.{Unaligned, Stack}
use Rattle.virt_traps.specs.declared.windows.StackFault.{StackFault}

-- the virtual PSR: the condition codes in bits 23 to 20, bit 7 set, bit 5 set where traps are enabled, and the current window in bits 4 to 0
unfoldable pub virtual_psr : Bool → ℕ → ℕ → ℕ
virtual_psr enabled icc cwp = icc * 2 ^ 20 + 2 ^ 7 + (if enabled then 2 ^ 5 else 0) + cwp

-- the condition codes of a PSR
abbrev pub icc_of : ℕ → ℕ
icc_of psr = psr / 2 ^ 20 % 2 ^ 4

-- whether traps are enabled in a PSR
abbrev pub enabled_of : ℕ → Bool
enabled_of psr = bit_at psr 5 == 1

-- the window below made free: a spill where it is the invalid one
unfoldable pub freed_below : List Area → Registers → Memory → Moved
freed_below areas core memory = if (core.cwp + 7) % 8 == core.inv then spilled areas core memory else move_made core memory

-- the registers in the window below, whose locals 0 to 2 have the virtual PSR and the two program counters
unfoldable pub entered_below : Bool → Registers → Registers
entered_below enabled core =
    with_register (with_register (with_register (in_window core ((core.cwp + 7) % 8)) 16 (virtual_psr enabled core.icc core.cwp)) 17 core.pc) 18 core.npc

-- the registers at the entry of a trap in the table, which has 16 bytes for each
unfoldable pub at_entry : ℕ → ℕ → Registers → Registers
at_entry base type core = record core { pc = base + 16 * type; npc = base + 16 * type + 4 }

-- the outcome of a delivery, and what it left
pub record Delivered : Type 0 where
  pub answer : Result (Unit {0}) StackFault
  pub traps : VirtualTraps
  pub core : Registers
  pub memory : Memory

-- what follows where the window below was made free, or was not
abbrev pub delivered_below : Result (Unit {0}) StackFault → VirtualTraps → Registers → Memory → ℕ → Delivered
delivered_below (Ok free) v core memory type = record {
  answer = Ok tt;
  traps = record v { enabled = false };
  core = at_entry v.base type (entered_below v.enabled core);
  memory = memory;
}
delivered_below (Err fault) v core memory type = record { answer = Err fault; traps = v; core = core; memory = memory }

-- a virtual trap of a type, delivered
unfoldable pub delivered : List Area → VirtualTraps → Registers → Memory → ℕ → Delivered
delivered areas v core memory type =
    let free = freed_below areas core memory in delivered_below free.answer v free.core free.memory type

-- local 1 and local 2 of the current window are multiples of 4
abbrev pub are_aligned : Registers → Bool
are_aligned core = (register_at core 17 % 4 == 0) && (register_at core 18 % 4 == 0)

-- the window above brought back: a fill where it is the invalid one
unfoldable pub brought_above : List Area → Registers → Memory → Moved
brought_above areas core memory = if (core.cwp + 1) % 8 == core.inv then filled areas core memory else move_made core memory

-- the registers in the window above, with the condition codes of a PSR and these program counters
unfoldable pub restored : ℕ → ℕ → ℕ → Registers → Registers
restored psr pc npc core = record core { pc = pc; npc = npc; icc = icc_of psr; cwp = (core.cwp + 1) % 8 }

-- the outcome of a return, and what it left
pub record Returned : Type 0 where
  pub answer : Result (Unit {0}) IretFault
  pub traps : VirtualTraps
  pub core : Registers

-- a return that was refused; it changed nothing
abbrev pub refused_return : IretFault → VirtualTraps → Registers → Returned
refused_return fault v core = record { answer = Err fault; traps = v; core = core }

-- what follows where the window above was brought back, or was not
abbrev pub returned_above : Result (Unit {0}) StackFault → ℕ → ℕ → ℕ → VirtualTraps → Registers → Returned
returned_above (Ok there) psr pc npc v core = record {
  answer = Ok tt;
  traps = record v { enabled = enabled_of psr };
  core = restored psr pc npc core;
}
returned_above (Err fault) psr pc npc v core = refused_return Stack v core

-- a return from a virtual trap, as locals 0 to 2 of the current window say
unfoldable pub returned : List Area → VirtualTraps → Registers → Memory → Returned
returned areas v core memory =
    if are_aligned core
    then returned_above (brought_above areas core memory).answer (register_at core 16) (register_at core 17) (register_at core 18) v (brought_above areas core memory).core
    else refused_return Unaligned v core

-- local 1 and local 2 are multiples of 4, but the window above is the invalid one, and it cannot be filled
pub record LacksWindow (areas : List Area) (core : Registers) : Type 0 where
  pub aligned : IsTrue (are_aligned core)
  pub invalid : (core.cwp + 1) % 8 ≡ core.inv
  pub unusable : IsFalse (is_usable (is_readable areas) (fill_address core))
