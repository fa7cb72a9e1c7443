-- What an observing call is shown, by its tests.
use Rattle.std.specs.Prelude.{List, [], ◌∷◌, Some, None}
use Rattle.machine_model.specs.Caller.{Test}
use Rattle.machine_model.specs.Emission.{Sight, Unseen}

-- a call that is refused is shown nothing
abbrev pub seen_when : List Test → Sight → Sight
seen_when [] sight = sight
seen_when (Some code ∷ tests) sight = Unseen
seen_when (None ∷ tests) sight = seen_when tests sight
