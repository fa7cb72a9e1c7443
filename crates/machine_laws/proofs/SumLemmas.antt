-- How many lines a partition emits, and how many console bytes: bounds that add up.
use Rattle.std.proofs.Common.{ℕ, ◌≤◌, ◌+◌, List, [], ◌++◌, length, ap, ◌∙◌, arith}
use Rattle.std.specs.List.{flat_map}
use Rattle.std.proofs.lemmas.Grind.{flat_map-append}
use Rattle.std.proofs.lemmas.List.{length-append}
use Rattle.machine_model.specs.Emission.{Emission}
use Rattle.machine_model.specs.LocalTick.{said_in}

-- what is emitted is at most this many lines, and at most this many console bytes
pub record Few (emitted : List Emission) (most bytes : ℕ) : Type 0 where
  pub lines : length emitted ≤ most
  pub said : length (flat_map said_in emitted) ≤ bytes

pub none_few : (most bytes : ℕ) → Few [] most bytes
none_few most bytes = record { lines = omega arith; said = omega arith }

pub more_few : (emitted : List Emission) (a b c d : ℕ) → Few emitted a b → (a ≤ c) → (b ≤ d) → Few emitted c d
more_few emitted a b c d few more also = record { lines = let e = few.lines in omega (arith, e, more); said = let e = few.said in omega (arith, e, also) }

pub both_few : (xs ys : List Emission) (a b c d : ℕ) → Few xs a b → Few ys c d → Few (xs ++ ys) (a + c) (b + d)
both_few xs ys a b c d first second = record {
  lines = let e = length-append xs ys in let f = first.lines in let g = second.lines in omega (arith, e, f, g);
  said = let e = ap length (flat_map-append said_in xs ys) ∙ length-append (flat_map said_in xs) (flat_map said_in ys) in
      let f = first.said in let g = second.said in omega (arith, e, f, g);
}
