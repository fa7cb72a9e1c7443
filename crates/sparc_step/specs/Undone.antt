-- What the rows have in common: a trap changes nothing, and a call of the hypervisor only goes on after it.
use Rattle.std.specs.Prelude.{◌≡◌}
use Rattle.guest_bus.specs.Memory.{Memory}
use Rattle.sparc_step.specs.Registers.{Registers}
use Rattle.sparc_step.specs.declared.outcome.Turn.{Turn}
use Rattle.sparc_step.specs.declared.outcome.Turn.TheVariants.{Went, Trap, Call}

-- after a trap the registers and the memory are as before
abbrev pub IsUndone : Turn → Registers → Registers → Memory → Memory → Type 0
IsUndone Went before after old new = Unit {0}
IsUndone (Trap type) before after old new = (after ≡ before) × (new ≡ old)
IsUndone Call before after old new = Unit {0}
