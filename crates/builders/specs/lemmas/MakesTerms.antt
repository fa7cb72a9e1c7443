-- For proofs and private clauses: what is answered where something is made out of a file.
use Rattle.std.specs.Prelude.{◌≡◌, ℕ, List, Result, Ok, Err}
use Rattle.xm_conf.specs.Configuration.{Conf}
use Rattle.builders.specs.declared.unmade.Unmade.{Unmade}
use Rattle.builders.specs.Makes.{IsUnmade}

-- the configuration is that of the definition, and so is the text of a refusal
abbrev pub Describes : Result Conf Unmade → Result Conf (List ℕ) → Type 0
Describes (Ok conf) described = described ≡ Ok conf
Describes (Err why) described = IsUnmade why described
