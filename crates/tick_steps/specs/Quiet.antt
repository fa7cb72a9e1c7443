-- Which acts end a stretch of ticks, and ticks without one.
use Rattle.std.specs.Prelude.{◌≡◌, ℕ, ◌+◌, ◌<◌, Bool, true, false}
use Rattle.machine_model.specs.Machine.{Machine, act_of, local, run}
use Rattle.machine_model.specs.Emission.{Act, Nothing, OwnSignals, OwnTraffic, Plans, Trades, Upon, UponAll}

-- whether traffic is a signal
abbrev pub is_signal : OwnTraffic → Bool
is_signal (OwnSignals number) = true
is_signal other = false

-- whether an act ends a stretch: it is neither none nor a message that is put or taken
abbrev pub ends_stretch : Act → Bool
ends_stretch Nothing = false
ends_stretch (Trades traffic) = is_signal traffic
ends_stretch (Upon id order) = true
ends_stretch (Plans change) = true
ends_stretch (UponAll event) = true

-- whether the act of the machine's next tick does
unfoldable pub ends_in : Machine → Bool
ends_in g = ends_stretch (act_of (local g))

-- of this many ticks none before the last has such an act
abbrev pub AreQuiet : ℕ → Machine → Type 0
AreQuiet done g = (k : ℕ) → k + 1 < done → ends_in (run g k) ≡ false
