-- What is gathered out of a draft.
use Rattle.std.specs.Prelude.{List}
use Rattle.xm_conf.specs.Configuration.{Conf}
use Rattle.xm_conf.specs.Description.{HealthAnswer, Ids}

-- a configuration, its ids, and the answers of each partition to health events
pub record Gathered : Type 0 where
  pub raw : Conf
  pub ids : Ids
  pub answers : List (List HealthAnswer)
