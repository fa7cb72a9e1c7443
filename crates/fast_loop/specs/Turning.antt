-- Where instructions go that do not go on to the next word.
use Rattle.guest_bus.specs.Memory.{Memory}
use Rattle.sparc_step.specs.Execution.{Turned}
use Rattle.sparc_step.specs.Registers.{Registers, advanced}
use Rattle.sparc_step.specs.declared.outcome.Turn.TheVariants.{Call}

-- the outcome of an instruction that calls the hypervisor: the program resumes after it
abbrev pub calling : Registers → Memory → Turned
calling core memory = record { turn = Call; core = advanced core; memory = memory }
