-- Pieces that are put one after another.
use Rattle.std.proofs.Common.{◌≡◌, ℕ, ◌+◌, ◌<◌, List, ◌++◌, length, get_or, drop, sym, ◌∙◌, ap, subst, append_assoc}
use Rattle.std.specs.Prelude.{flat_map}
use Rattle.std.specs.List.{AllWithin}
use Rattle.std.proofs.lemmas.List.Elements.{AllWithin-more}
use Rattle.std.proofs.lemmas.List.{at_drop_more, get_or_default}

-- one piece after another
pub put_then : (old mid new a b : List ℕ) → mid ≡ old ++ a → new ≡ mid ++ b → new ≡ old ++ (a ++ b)
put_then old mid new a b first second = second ∙ ap (λ front. front ++ b) first ∙ append_assoc old a b

-- one more element
pub put_more : {X : Type 0} (f : X → List ℕ) (xs : List X) (n : ℕ) (d x : X) (old new r : List ℕ) → n < length xs → x ≡ get_or xs n d
    → new ≡ old ++ f x → old ++ flat_map f (drop n xs) ≡ r → new ++ flat_map f (drop (n + 1) xs) ≡ r
put_more f xs n d x old new r below is put sofar =
    ap (λ front. front ++ flat_map f (drop (n + 1) xs)) put
    ∙ append_assoc old (f x) (flat_map f (drop (n + 1) xs))
    ∙ ap (λ y. old ++ (f y ++ flat_map f (drop (n + 1) xs))) is
    ∙ sym (at_drop_more (λ rest. old ++ flat_map f rest) xs n d below)
    ∙ sofar

-- one more element of which something holds
pub put_within : {X : Type 0} (P : X → Type 0) (xs : List X) (n : ℕ) (d x : X) → n < length xs → x ≡ get_or xs n d → P x → AllWithin P xs 0 n → AllWithin P xs 0 (n + 1)
put_within P xs n d x below is holds sofar = AllWithin-more P xs 0 n sofar (λ e. subst P (is ∙ get_or_default xs n d e below) holds)
