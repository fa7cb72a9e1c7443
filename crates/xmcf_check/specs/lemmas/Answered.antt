-- What answers to health events break.
use Rattle.std.specs.Prelude.{ℕ, List}
use Rattle.xm_conf.specs.Along.{along}
use Rattle.xm_conf.specs.Description.{HealthAnswer}
use Rattle.xm_conf.specs.Rules.{answer_broken}
use Rattle.xm_conf.specs.declared.item.Broken.{Broken}

-- the answers of a partition that may not stand
unfoldable pub answers_broken : ℕ → ℕ → List HealthAnswer → List Broken
answers_broken plans p answers = along (answer_broken plans p) answers
