-- Steps of a run, one after another.
use Rattle.std.proofs.Common.{◌≡◌, ℕ, List}
use Rattle.guest_bus.specs.Memory.{Area, Memory}
use Rattle.sparc_step.specs.Registers.{Registers}
use Rattle.sparc_step.specs.declared.outcome.Turn.TheVariants.{Went}
use Rattle.virt_traps.specs.Stepping.{stepped}
use Rattle.fast_loop.specs.Turning.{calling}
use Rattle.virt_traps.specs.Settled.{settled}

-- this many steps that all went, and what they left
pub record AreSteps (count : ℕ) (areas : List Area) (core : Registers) (memory : Memory) (after : Registers) (new : Memory) : Type 0 where
  pub went : (stepped count areas core memory).turn ≡ Went
  pub registers : after ≡ (stepped count areas core memory).core
  pub bytes : new ≡ (stepped count areas core memory).memory

-- the instruction at pc calls the hypervisor, and changes nothing else
abbrev pub IsCall : List Area → Registers → Memory → Type 0
IsCall areas core memory = settled areas core memory ≡ calling core memory
