-- Things that are made one after the other, by their numbers.
use Rattle.std.proofs.Common.{◌≡◌, ℕ, ◌+◌, List, [], ◌∷◌, ◌++◌, sym, ap, ◌∙◌, arith, add-one}
use Rattle.std.proofs.lemmas.List.FromFn.{map-range_with_len_more}
use Rattle.xm_conf.specs.declared.plan.Slot.{Slot}
use Rattle.generated_system.specs.Generated.{drawn, next_drawn, numbered, slot_drawn, generated_slot}

-- one more
pub numbered_more : {X : Type 0} (f : ℕ → X) (xs : List X) (i : ℕ) (x : X) → xs ≡ numbered f i → x ≡ f i → xs ++ x ∷ [] ≡ numbered f (i + 1)
numbered_more f xs i x before is =
    ap (λ l. l ++ x ∷ []) before ∙ ap (λ y. numbered f i ++ y ∷ []) is ∙ sym (map-range_with_len_more f 0 i i (omega arith))

-- the number that is drawn next
pub drawn_more : (number i x : ℕ) → x ≡ drawn number i → next_drawn x ≡ drawn number (i + 1)
drawn_more number i x is = ap next_drawn is ∙ ap (drawn number) (sym (add-one i))

-- and the slot that lasts as long
pub slots_more : (number i x : ℕ) (slots : List Slot) → slots ≡ numbered (generated_slot number) i → x ≡ drawn number i → slots ++ slot_drawn i (next_drawn x) ∷ [] ≡ numbered (generated_slot number) (i + 1)
slots_more number i x slots before is = numbered_more (generated_slot number) slots i (slot_drawn i (next_drawn x)) before (ap (λ y. slot_drawn i (next_drawn y)) is)
