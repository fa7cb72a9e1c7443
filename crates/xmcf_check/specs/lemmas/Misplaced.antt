-- The places of ids that are not their places.
use Rattle.std.specs.Prelude.{ℕ, ◌==◌, List}
use Rattle.xm_conf.specs.Along.{unless}

-- a place, where the id there is another
abbrev pub misplace : ℕ → ℕ → List ℕ
misplace n id = unless (id == n) n
