-- Where a partition's links go.
use Rattle.std.specs.Prelude.{◌≢◌, ℕ, ◌<◌, length}
use Rattle.xm_conf.specs.Configuration.{Conf}

-- a link of such a number goes from one partition to another that there is
pub record GoesTo (conf : Conf) (p number dest : ℕ) : Type 0 where
  pub small : number < 8
  pub there : dest < length conf.parts
  pub differ : dest ≢ p
