-- What a script that is kept keeps to, for whichever partition.
use Rattle.std.specs.Prelude.{◌<◌, ◌≤◌, ◌^◌, List, length, None}
use Rattle.std.specs.List.{AllByRecursion}
use Rattle.machine_model.specs.Cue.{Cue}
use Rattle.machine_model.specs.Emission.{NotKept, OwnPuts, OwnSignals, OwnStill, OwnTakes, OwnTraffic, Sight, Unseen, Words}
use Rattle.cue_scripts.specs.Entries.{Alike, AreLongest, Entry, Other, expanded}

-- two bytes can hold the length of a message
abbrev pub HasTrafficRange : OwnTraffic → Type 0
HasTrafficRange OwnStill = Unit {0}
HasTrafficRange (OwnPuts name bytes) = length bytes < 2 ^ 16
HasTrafficRange (OwnTakes name) = Unit {0}
HasTrafficRange (OwnSignals number) = Unit {0}

-- a byte can count the bytes that were shown
abbrev pub HasSightRange : Sight → Type 0
HasSightRange Unseen = Unit {0}
HasSightRange NotKept = Unit {0}
HasSightRange (Words bytes) = length bytes < 256

-- the lengths in a cue are in the ranges of their fields
pub record HasCueRanges (cue : Cue) : Type 0 where
  pub traffic : HasTrafficRange cue.traffic
  pub seen : HasSightRange cue.seen

-- the same for an entry
abbrev pub HasEntryRanges : Entry → Type 0
HasEntryRanges (Alike own count) = Unit {0}
HasEntryRanges (Other cue) = HasCueRanges cue

-- entries that are kept: each is as long as it can be, their cues are not too many, and their lengths are in the ranges of their fields
pub record AreKeptEntries (entries : List Entry) : Type 0 where
  pub longest : AreLongest None entries
  pub few : length (expanded entries) ≤ 4000000000
  pub ranges : AllByRecursion HasEntryRanges entries
