-- Bytes that are written one part after another.
use Rattle.std.proofs.Common.{◌≡◌, ℕ, ◌+◌, ◌<◌, List, ◌++◌, length, take, get_or, sym, ap, ◌∙◌, append_assoc}
use Rattle.std.specs.Prelude.{Some, slice_get}
use Rattle.std.specs.List.{flat_map}
use Rattle.std.proofs.lemmas.List.{flat_map_more, take_more}
use Rattle.std.proofs.lemmas.Option.{get_or_from_slice_get}

module _ {X : Type 0} where
  -- a part after another one
  pub then_written : (start mid new a b : List X) → mid ≡ start ++ a → new ≡ mid ++ b → new ≡ start ++ (a ++ b)
  then_written start mid new a b first second = second ∙ ap (λ (xs : List X). xs ++ b) first ∙ append_assoc start a b

  -- a part after all that was written
  pub and_written : (whole mid new b : List X) → mid ≡ whole → new ≡ mid ++ b → new ≡ whole ++ b
  and_written whole mid new b first second = second ∙ ap (λ (xs : List X). xs ++ b) first

  -- two parts after all that was written
  pub and_both : (whole mid new a b : List X) → mid ≡ whole → new ≡ mid ++ a ++ b → new ≡ whole ++ a ++ b
  and_both whole mid new a b first second = second ∙ ap (λ (xs : List X). xs ++ a ++ b) first

  -- the part of one element more
  pub element_written : {Y : Type 0} (f : Y → List X) (start mid new : List X) (ys : List Y) (i : ℕ) (d : Y) → i < length ys
      → mid ≡ start ++ flat_map f (take i ys) → new ≡ mid ++ f (get_or ys i d) → new ≡ start ++ flat_map f (take (i + 1) ys)
  element_written {Y} f start mid new ys i d below first second =
      second ∙ ap (λ (xs : List X). xs ++ f (get_or ys i d)) first ∙ flat_map_more f start (take i ys) (get_or ys i d)
      ∙ ap (λ (zs : List Y). start ++ flat_map f zs) (sym (take_more ys i d below))

  -- the same of an element that was found
  pub found_written : {Y : Type 0} (f : Y → List X) (start mid new : List X) (ys : List Y) (i : ℕ) (y : Y) → i < length ys → slice_get ys i ≡ Some y
      → mid ≡ start ++ flat_map f (take i ys) → new ≡ mid ++ f y → new ≡ start ++ flat_map f (take (i + 1) ys)
  found_written {Y} f start mid new ys i y below there first second =
      element_written f start mid new ys i y below first (second ∙ ap (λ (z : Y). mid ++ f z) (sym (get_or_from_slice_get ys i y y there)))
