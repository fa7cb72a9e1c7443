-- For proofs and private clauses: what a device that takes bytes has got, where that is known, and how that grows.
use Rattle.std.specs.Prelude.{◌≡◌, ℕ, ◌+◌, ◌<◌, ◌≤◌, List, [], ◌++◌, length, take, Option, Some, None, Result, Ok, Err, refl}
use Rattle.std.proofs.Common.{sym, ◌∙◌, ap, arith, append_assoc, length-append}
use Rattle.std.proofs.Math.Seq.{take-append-add}
use Rattle.std.proofs.lemmas.List.{append-nil, take-append-le}
use Rattle.xm_outside.specs.Growth.{grown, GrewByPrefix, Writes}

-- grown by nothing
pub grown-nothing : (old : Option (List ℕ)) → grown old [] ≡ old
grown-nothing None = refl
grown-nothing (Some got) = ap Some (append-nil got)

-- grown twice is grown once by both texts
pub grown_grown : (old : Option (List ℕ)) (a b : List ℕ) → grown (grown old a) b ≡ grown old (a ++ b)
grown_grown None a b = refl
grown_grown (Some got) a b = ap Some (append_assoc got a b)

-- a prefix of the first text is a prefix of both
pub prefix_first : (old new : Option (List ℕ)) (a b : List ℕ) → GrewByPrefix old a new → GrewByPrefix old (a ++ b) new
prefix_first old new a b p = record {
  count = p.count;
  short = (let bound : p.count < length a = p.short in omega (arith, length-append a b));
  grew = (let bound : p.count ≤ length a = omega (arith, p.short) in p.grew ∙ ap (grown old) (sym (take-append-le p.count a b bound)));
}

-- the first text and a prefix of the second is a prefix of both
pub prefix_second : (old mid new : Option (List ℕ)) (a b : List ℕ) → mid ≡ grown old a → GrewByPrefix mid b new → GrewByPrefix old (a ++ b) new
prefix_second old mid new a b first p = record {
  count = length a + p.count;
  short = (let bound : p.count < length b = p.short in omega (arith, length-append a b));
  grew = p.grew ∙ ap (λ m. grown m (take p.count b)) first ∙ grown_grown old a (take p.count b) ∙ ap (grown old) (sym (take-append-add a b p.count));
}

-- the first text was written, and then the second as its answer says: so both were written
pub writes_then : {T E : Type 0} (r : Result T E) (old mid new : Option (List ℕ)) (a b : List ℕ) → mid ≡ grown old a → Writes r mid b new → Writes r old (a ++ b) new
writes_then (Ok _) old mid new a b first w = w ∙ ap (λ m. grown m b) first ∙ grown_grown old a b
writes_then (Err _) old mid new a b first p = prefix_second old mid new a b first p
