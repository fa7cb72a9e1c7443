-- Steps of a processor, one after another.
use Rattle.std.specs.Prelude.{ℕ, zero, suc, List}
use Rattle.guest_bus.specs.Memory.{Area, Memory}
use Rattle.sparc_step.specs.Execution.{Turned, done}
use Rattle.sparc_step.specs.Registers.{Registers}
use Rattle.sparc_step.specs.declared.outcome.Turn.{Turn}
use Rattle.sparc_step.specs.declared.outcome.Turn.TheVariants.{Went, Trap, Call}
use Rattle.virt_traps.specs.Settled.{settled}

-- one step more, unless the last one did more than go
abbrev pub then_settled : Turn → List Area → Turned → Turned
then_settled Went areas t = settled areas t.core t.memory
then_settled (Trap type) areas t = t
then_settled Call areas t = t

-- this many steps, one after another
abbrev pub stepped : ℕ → List Area → Registers → Memory → Turned
stepped zero areas core memory = done core memory
stepped (suc count) areas core memory = then_settled (stepped count areas core memory).turn areas (stepped count areas core memory)
