-- The names of a partition's states.
use Rattle.std.specs.Prelude.{ℕ, List, codes}
use Rattle.xm_base.specs.declared.partition.State.{State}
use Rattle.xm_base.specs.declared.partition.State.TheVariants.{Ready, Idle, Suspended, Halted}

-- the name of a state as the report has it
abbrev pub state_text : State → List ℕ
state_text Ready = codes "ready"
state_text Idle = codes "idle"
state_text Suspended = codes "suspended"
state_text Halted = codes "halted"
