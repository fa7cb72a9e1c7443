-- For proofs and private clauses: what the ticks of a slot do to a partition beside its instructions.
use Rattle.std.specs.Prelude.{◌≡◌, ℕ, Bool, List, Some}
use Rattle.guest_bus.specs.Memory.{Memory}
use Rattle.machine_model.specs.LocalTick.{with_interrupts}
use Rattle.machine_model.specs.Traffic.{interrupted}
use Rattle.system_state.specs.State.{OwnState, with_memory}

-- the interrupts of a tick have reached a partition, whatever its memory and its input words are
abbrev pub HasMet : ℕ → Bool → OwnState → OwnState → Type 0
HasMet now first own new = (memory : Memory) (words : List ℕ) → with_memory new memory words ≡ with_interrupts now first (with_memory own memory words)

-- an interrupt has reached a partition, whatever its memory and its input words are
abbrev pub HasHeard : ℕ → OwnState → OwnState → Type 0
HasHeard interrupt own new = (memory : Memory) (words : List ℕ) → with_memory new memory words ≡ interrupted (Some interrupt) (with_memory own memory words)
