-- The numbers in a machine's state, each in the range of what it stands for: a byte, a word, or an address of a trap table.
use Rattle.std.specs.Prelude.{ℕ, ◌≡◌, ◌+◌, ◌<◌, ◌≤◌, ◌^◌, Some, None, slice_get}
use Rattle.std.specs.List.{AllByRecursion}
use Rattle.xm_base.specs.Bytes.{AreBytes}
use Rattle.xef_images.specs.Image.{Image}
use Rattle.xm_ports.specs.Channels.{Content, Queuing, Sampling}
use Rattle.machine_model.specs.Machine.{Machine}
use Rattle.machine_model.specs.Partition.{PartitionState}
use Rattle.machine_model.specs.View.{System}
use Rattle.range_model.specs.Numbers.{IsByteMemory}
use Rattle.range_model.specs.Registers.{AreWordRegisters}

-- the numbers of one partition: its registers are words and its memory is bytes, its table of traps ends among the addresses, the status of its last reset
-- is a word, and what its trace entries hold is bytes
pub record IsPartitionInRange (ps : PartitionState) : Type 0 where
  pub core : AreWordRegisters ps.core
  pub memory : IsByteMemory ps.memory
  pub table : ps.traps.base + 4096 ≤ 2 ^ 32
  pub status : ps.reset_status < 2 ^ 32
  pub traces : AllByRecursion (λ entry. AreBytes entry.load) ps.traces.entries

-- each message that a channel holds is bytes
abbrev pub IsContentInRange : Content → Type 0
IsContentInRange (Sampling None) = Unit {0}
IsContentInRange (Sampling (Some held)) = AreBytes held.bytes
IsContentInRange (Queuing messages) = AllByRecursion AreBytes messages

-- the numbers of each partition and of each channel
pub record IsMachineInRange (g : Machine) : Type 0 where
  pub parts : (p : ℕ) (ps : PartitionState) → slice_get g.parts p ≡ Some ps → IsPartitionInRange ps
  pub channels : AllByRecursion IsContentInRange g.channels

-- an image begins at a word, and what it loads is bytes
pub record IsImageInRange (image : Image) : Type 0 where
  pub entry : image.entry < 2 ^ 32
  pub bytes : AllByRecursion (λ segment. AreBytes segment.bytes) image.segments

-- each image of a system is such a one
abbrev pub HasRanges : System → Type 0
HasRanges system = AllByRecursion IsImageInRange system.images
