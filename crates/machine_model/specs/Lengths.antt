-- How many bytes a tick puts into a channel, and how many a partition is shown in it, at most.
use Rattle.std.specs.Prelude.{ℕ, ◌≤◌, length}
use Rattle.xm_conf.specs.Description.{described}
use Rattle.xm_conf.specs.Fits.{Fits}
use Rattle.machine_model.specs.Facts.{HasFacts}
use Rattle.machine_model.specs.Machine.{Machine, happened, sight}
use Rattle.machine_model.specs.Emission.{NotKept, Sight, Unseen, Words}
use Rattle.machine_model.specs.Traffic.{Puts, Signals, Still, Takes, Traffic}

-- a message that is put has this many bytes at most
abbrev pub PutsAtMost : ℕ → Traffic → Type 0
PutsAtMost most Still = Unit {0}
PutsAtMost most (Puts channel bytes) = length bytes ≤ most
PutsAtMost most (Takes channel) = Unit {0}
PutsAtMost most (Signals source number) = Unit {0}

-- bytes that are shown are at most this many
abbrev pub ShowsAtMost : ℕ → Sight → Type 0
ShowsAtMost most Unseen = Unit {0}
ShowsAtMost most NotKept = Unit {0}
ShowsAtMost most (Words bytes) = length bytes ≤ most

-- under a configuration that meets the rules a message is no longer than the longest that they allow
abbrev pub PutsFewBytes : Type 0
PutsFewBytes = (g : Machine) → Fits (described g.system.conf) → PutsAtMost 4096 (happened g).traffic

-- what a partition is shown is no longer than an entry of a trace log
abbrev pub ShowsFewBytes : Type 0
ShowsFewBytes = (g : Machine) (p : ℕ) → HasFacts g → ShowsAtMost 24 (sight g p)
