-- How many bytes of its memory a tick of a partition changes, at most.
use Rattle.std.specs.Prelude.{◌≡◌, ◌⊎◌, ℕ, ◌+◌, ◌≤◌, false, List, length, All, None, Some, slice_get, slice_index_or}
use Rattle.std.specs.FinMap.{get}
use Rattle.guest_bus.specs.Memory.{Memory}
use Rattle.xm_conf.specs.Description.{described}
use Rattle.xm_conf.specs.Fits.{Fits}
use Rattle.xm_ports.specs.Channels.{Content, Queuing, Sampling}
use Rattle.machine_model.specs.Alone.{Alone, alone_step}
use Rattle.machine_model.specs.Cue.{Cue}
use Rattle.machine_model.specs.Emission.{Sight}
use Rattle.machine_model.specs.Laws.{HasLoads}
use Rattle.machine_model.specs.Lengths.{ShowsAtMost}
use Rattle.machine_model.specs.Machine.{Machine, run, start, step}
use Rattle.machine_model.specs.Partition.{PartitionState, loaded_memory}
use Rattle.machine_model.specs.View.{PartitionView, System, has_number, view_of}

-- a memory has changed at this many addresses, at most: at each address that is not among them it holds what it held
pub record ChangesFew (most : ℕ) (before after : Memory) : Type 0 where
  pub addresses : List ℕ
  pub few : length addresses ≤ most
  pub others : (address : ℕ) → has_number addresses address ≡ false → get after address ≡ get before address

-- the bytes of a window that is saved, those of the widest store, those of the longest message, and those of the word that says whether a message is valid
abbrev pub window_bytes : ℕ
window_bytes = 64

abbrev pub store_bytes : ℕ
store_bytes = 8

abbrev pub message_bytes : ℕ
message_bytes = 4096

abbrev pub validity_bytes : ℕ
validity_bytes = 4

-- the most bytes that a tick changes: an instruction with the window that it needs, and what a call writes
abbrev pub most_changed : ℕ
most_changed = window_bytes + store_bytes + (message_bytes + validity_bytes)

-- a memory after a tick: it has changed at few addresses, or it is the image loaded again
abbrev pub ChangesOrLoads : PartitionView → ℕ → Memory → Memory → Type 0
ChangesOrLoads view most before after = ChangesFew most before after ⊎ (after ≡ loaded_memory view)

-- the messages that a channel holds have at most this many bytes
abbrev pub HoldsShort : ℕ → Content → Type 0
HoldsShort most (Sampling None) = Unit {0}
HoldsShort most (Sampling (Some sample)) = length sample.bytes ≤ most
HoldsShort most (Queuing messages) = All (λ message. length message ≤ most) messages

-- what a partition may read in a tick is short: the messages in its channels, what an observing call is shown, and the entries of its traces
pub record IsShort (a : Alone) (seen : Sight) : Type 0 where
  pub messages : (q : ℕ) (content : Content) → slice_index_or a.copies q None ≡ Some content → HoldsShort message_bytes content
  pub shown : ShowsAtMost 24 seen
  pub loads : HasLoads a.state

-- so a tick of a partition alone changes few bytes of its memory, or loads its image again
abbrev pub TickChangesFew : Type 0
TickChangesFew = (view : PartitionView) (a : Alone) (cue : Cue) → IsShort a cue.seen
    → ChangesOrLoads view most_changed a.state.memory (alone_step view a cue).state.memory

-- and so does each tick of a run, of each partition, whatever any of them executes
pub record ChangesFewIn (g : Machine) (p : ℕ) (ps : PartitionState) : Type 0 where
  pub after : PartitionState
  pub there : slice_get (step g).parts p ≡ Some after
  pub changes : ChangesOrLoads (view_of g.system p) most_changed ps.memory after.memory

abbrev pub RunsChangeFew : Type 0
RunsChangeFew = (system : System) (count p : ℕ) (ps : PartitionState) → Fits (described system.conf) → slice_get (run (start system) count).parts p ≡ Some ps
    → ChangesFewIn (run (start system) count) p ps
