-- For proofs and private clauses: the registers of each window, and its save area: the 64 bytes at its stack pointer that hold its locals and ins (section 4.1 and appendix D of the SPARC V8 manual).
use Rattle.std.specs.Prelude.{ℕ, Bool, List}
use Rattle.guest_bus.specs.Memory.{Area, is_readable, is_writable}
use Rattle.virt_traps.specs.declared.windows.WindowMove.{WindowMove}
use Rattle.virt_traps.specs.declared.windows.WindowMove.TheVariants.{Spill, Fill}

-- the addresses that may be used for a move of a window: a spill writes its save area, and a fill reads it
abbrev pub allowed_for : WindowMove → List Area → ℕ → Bool
allowed_for Spill areas = is_writable areas
allowed_for Fill areas = is_readable areas
