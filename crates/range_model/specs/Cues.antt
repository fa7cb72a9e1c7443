-- The numbers in a cue, each in the range of what it stands for.
use Rattle.xm_base.specs.Bytes.{AreBytes}
use Rattle.machine_model.specs.Cue.{Cue}
use Rattle.machine_model.specs.Emission.{NotKept, OwnPuts, OwnSignals, OwnStill, OwnTakes, OwnTraffic, Sight, Unseen, Words}
use Rattle.cue_scripts.specs.Script.{IsOrder}

-- a message is bytes
abbrev pub HasMessageBytes : OwnTraffic → Type 0
HasMessageBytes OwnStill = Unit {0}
HasMessageBytes (OwnPuts name bytes) = AreBytes bytes
HasMessageBytes (OwnTakes name) = Unit {0}
HasMessageBytes (OwnSignals number) = Unit {0}

-- what is shown is bytes
abbrev pub HasShownBytes : Sight → Type 0
HasShownBytes Unseen = Unit {0}
HasShownBytes NotKept = Unit {0}
HasShownBytes (Words bytes) = AreBytes bytes

-- the numbers in a cue that come out of a memory or a register are in the ranges of these: a message and what is shown are bytes, and the status of a
-- reset is a word
pub record HasNumbers (cue : Cue) : Type 0 where
  pub message : HasMessageBytes cue.traffic
  pub status : IsOrder cue.order
  pub shown : HasShownBytes cue.seen
