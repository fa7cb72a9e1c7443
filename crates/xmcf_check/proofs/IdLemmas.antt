-- The first id that is not its place, as a rule reports it.
use Rattle.std.proofs.Common.{◌≡◌, ℕ, ◌+◌, Bool, true, false, List, [], ◌∷◌, ◌++◌, Some, None, refl, ap, ◌∙◌}
use Rattle.std.specs.Prelude.{◌==◌}
use Rattle.xm_base.specs.Options.{on}
use Rattle.xm_conf.specs.Along.{head_of, added_by_each, each_from, unless}
use Rattle.xm_conf.specs.Rules.{alone, misplaced}
use Rattle.xm_conf.specs.declared.item.Item.{Item}
use Rattle.xm_conf.specs.declared.item.Broken.{Broken}
use Rattle.xmcf_check.specs.lemmas.Misplaced.{misplace}

-- the first id that is not its place is the first that is reported
first_from : (numbered : ℕ → Item) (n : ℕ) (ids : List ℕ)
    → on (λ k. alone 2 (numbered k)) (head_of (each_from misplace n ids)) ≡ head_of (each_from (misplaced numbered) n ids)
first_from numbered n [] = refl
first_from numbered n (id ∷ ids) = at (id == n) (first_from numbered (n + 1) ids)
  where
    at : (b : Bool) → on (λ k. alone 2 (numbered k)) (head_of (each_from misplace (n + 1) ids)) ≡ head_of (each_from (misplaced numbered) (n + 1) ids)
        → on (λ k. alone 2 (numbered k)) (head_of (unless b n ++ each_from misplace (n + 1) ids))
        ≡ head_of (unless b (alone 2 (numbered n)) ++ each_from (misplaced numbered) (n + 1) ids)
    at true later = later
    at false later = refl

-- the first id that is not its place is the first that is reported
pub first_misplaced : (numbered : ℕ → Item) (ids : List ℕ)
    → on (λ k. alone 2 (numbered k)) (head_of (added_by_each misplace ids)) ≡ head_of (added_by_each (misplaced numbered) ids)
first_misplaced numbered ids = first_from numbered 0 ids

-- what is reported of an id that is not its place
pub some_misplaced : (numbered : ℕ → Item) (ids : List ℕ) (n : ℕ) (reported : Broken) → Some n ≡ head_of (added_by_each misplace ids)
    → reported ≡ alone 2 (numbered n) → Some reported ≡ head_of (added_by_each (misplaced numbered) ids)
some_misplaced numbered ids n reported found is =
    ap (λ b. Some b) is ∙ ap (λ place. on (λ k. alone 2 (numbered k)) place) found ∙ first_misplaced numbered ids

-- nothing is reported where each id is its place
pub none_misplaced : (numbered : ℕ → Item) (ids : List ℕ) → None ≡ head_of (added_by_each misplace ids) → None ≡ head_of (added_by_each (misplaced numbered) ids)
none_misplaced numbered ids found = ap (λ place. on (λ k. alone 2 (numbered k)) place) found ∙ first_misplaced numbered ids
