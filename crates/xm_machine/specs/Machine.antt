-- What a machine means: its state, and what it keeps.
use Rattle.std.specs.Prelude.{ℕ, List}
use Rattle.machine_model.specs.Machine.{Machine}
use Rattle.tick_steps.specs.Kept.{KeptTick}

-- the meaning of a machine: its state, what is kept of its last tick, and the console bytes of its last ticks of one partition in isolation
pub record Meaning : Type 0 where
  pub state : Machine
  pub kept : KeptTick
  pub said : List ℕ
