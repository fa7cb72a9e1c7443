-- For proofs: lines of upsets in the order of their ticks, of which the first are those of one tick.
use Rattle.std.proofs.Common.{◌≡◌, ℕ, zero, suc, ◌+◌, ◌<◌, ◌≤◌, Bool, true, false, List, [], ◌∷◌, drop, take, refl, sym, ap, ◌∙◌, arith}
use Rattle.std.specs.Prelude.{◌==◌, if◌then◌else◌, Some, slice_get}
use Rattle.std.proofs.lemmas.Option.{same_Some}
use Rattle.std.proofs.lemmas.Bool.Decides.{nat_tests}
use Rattle.upset_model.specs.Coming.{AreOrdered}
use Rattle.upset_model.specs.lemmas.ComingTerms.{count_due}
use Rattle.upset_model.specs.Places.{due}
use Rattle.upset_model.specs.declared.upset_line.UpsetLine.{UpsetLine}

-- lines of which none has a tick before this one are ordered after an earlier one, too
pub ordered_from : (first other : ℕ) (lines : List UpsetLine) → first ≤ other → AreOrdered other lines → AreOrdered first lines
ordered_from first other [] less ordered = tt
ordered_from first other (line ∷ lines) less ordered = (omega (arith, less, ordered.0), ordered.1)

-- none is due before the tick of the first
pub none_due : (first k : ℕ) (lines : List UpsetLine) → AreOrdered first lines → k < first → due lines k ≡ []
none_due first k [] ordered below = refl
none_due first k (line ∷ lines) ordered below =
    let other : (line.tick == k) ≡ false = grind (arith, nat_tests, ordered.0, below) in
    ap (λ b. if b then line ∷ due lines k else due lines k) other ∙ none_due line.tick k lines ordered.1 (omega (arith, below, ordered.0))

-- the first lines are those of the tick
pub take_due : (tick : ℕ) (lines : List UpsetLine) → AreOrdered tick lines → take (count_due tick lines) lines ≡ due lines tick
take_due tick [] ordered = refl
take_due tick (line ∷ lines) ordered = at (line.tick == tick) refl (take_due tick lines (ordered_from tick line.tick lines ordered.0 ordered.1))
  where
    at : (b : Bool) → (line.tick == tick) ≡ b → take (count_due tick lines) lines ≡ due lines tick
        → take (if b then suc (count_due tick lines) else zero) (line ∷ lines) ≡ (if b then line ∷ due lines tick else due lines tick)
    at true same more = ap (λ rest. line ∷ rest) more
    at false other more = sym (none_due line.tick tick lines ordered.1 (grind (arith, nat_tests, ordered.0, other)))

-- those of later ticks stand after them
pub drop_due : (tick k : ℕ) (lines : List UpsetLine) → tick < k → due (drop (count_due tick lines) lines) k ≡ due lines k
drop_due tick k [] below = refl
drop_due tick k (line ∷ lines) below = at (line.tick == tick) refl (drop_due tick k lines below)
  where
    at : (b : Bool) → (line.tick == tick) ≡ b → due (drop (count_due tick lines) lines) k ≡ due lines k
        → due (drop (if b then suc (count_due tick lines) else zero) (line ∷ lines)) k ≡ due (line ∷ lines) k
    at true same more =
        let other : (line.tick == k) ≡ false = grind (arith, nat_tests, same, below) in
        more ∙ sym (ap (λ b. if b then line ∷ due lines k else due lines k) other)
    at false other more = refl

-- and have the order that all have
pub drop_ordered : (tick : ℕ) (lines : List UpsetLine) → AreOrdered tick lines → AreOrdered (tick + 1) (drop (count_due tick lines) lines)
drop_ordered tick [] ordered = tt
drop_ordered tick (line ∷ lines) ordered = at (line.tick == tick) refl (drop_ordered tick lines (ordered_from tick line.tick lines ordered.0 ordered.1))
  where
    at : (b : Bool) → (line.tick == tick) ≡ b → AreOrdered (tick + 1) (drop (count_due tick lines) lines)
        → AreOrdered (tick + 1) (drop (if b then suc (count_due tick lines) else zero) (line ∷ lines))
    at true same more = more
    at false other more = (grind (arith, nat_tests, ordered.0, other), ordered.1)

-- the tick of the first line is the least of all
pub first_least : (first : ℕ) (lines : List UpsetLine) (line : UpsetLine) (n : ℕ) → slice_get lines 0 ≡ Some line → n ≤ line.tick → AreOrdered first lines → AreOrdered n lines
first_least first [] line n is less ordered = tt
first_least first (x ∷ lines) line n is less ordered = (omega (arith, less, ap (λ (l : UpsetLine). l.tick) (same_Some x line is)), ordered.1)
