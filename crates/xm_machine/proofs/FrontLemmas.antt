-- A sink that took a prefix of some bytes among others took a prefix of them all.
use Rattle.std.proofs.Common.{◌≡◌, ℕ, ◌+◌, ◌<◌, ◌≤◌, List, ◌++◌, length, take, Option, sym, ap, ◌∙◌, arith, length-append}
use Rattle.std.proofs.Math.Seq.{take-append-add}
use Rattle.std.proofs.lemmas.List.{take-append-le}
use Rattle.xm_outside.specs.Growth.{grown, GrewByPrefix}
use Rattle.xm_outside.specs.lemmas.GrowthLemmas.{grown_grown}

-- what went out falls short of all the bytes
pub short_of_all : (before bytes after all : List ℕ) (count : ℕ) → all ≡ before ++ bytes ++ after → count < length bytes → length before + count < length all
short_of_all before bytes after all count these short =
    omega (arith, ap length these, length-append (before ++ bytes) after, length-append before bytes)

-- what went out is a prefix of all the bytes
pub grew_by_all : (had mid got : Option (List ℕ)) (before bytes after all : List ℕ) (count : ℕ) → all ≡ before ++ bytes ++ after → mid ≡ grown had before → count < length bytes → got ≡ grown mid (take count bytes) → got ≡ grown had (take (length before + count) all)
grew_by_all had mid got before bytes after all count these first short grew =
    let fits : length before + count ≤ length (before ++ bytes) = omega (arith, length-append before bytes) in
    grew ∙ ap (λ (m : Option (List ℕ)). grown m (take count bytes)) first ∙ grown_grown had before (take count bytes)
    ∙ ap (grown had) (sym (take-append-add before bytes count) ∙ sym (take-append-le (length before + count) (before ++ bytes) after fits)
    ∙ ap (λ (xs : List ℕ). take (length before + count) xs) (sym these))

-- all that stands before went out, and a prefix of the bytes: so a prefix of all
abbrev pub front_of_all : (had mid got : Option (List ℕ)) (before bytes after all : List ℕ) → all ≡ before ++ bytes ++ after → mid ≡ grown had before → GrewByPrefix mid bytes got → GrewByPrefix had all got
front_of_all had mid got before bytes after all these first front = record {
  count = length before + front.count;
  short = short_of_all before bytes after all front.count these front.short;
  grew = grew_by_all had mid got before bytes after all front.count these first front.short front.grew;
}
