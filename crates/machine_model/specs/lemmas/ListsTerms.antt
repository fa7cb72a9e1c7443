-- For proofs and private clauses: words on lists and options in which the machine is defined.
use Rattle.std.specs.Prelude.{Bool, true, false, List, [], ◌∷◌}

-- a list of one element where a test holds
abbrev pub then_one : {X : Type 0} → Bool → X → List X
then_one true x = x ∷ []
then_one false x = []
