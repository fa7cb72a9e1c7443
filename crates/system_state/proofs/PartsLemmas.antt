-- The partitions as they are kept, and as they are seen.
use Rattle.std.proofs.Common.{◌≡◌, ℕ, zero, suc, ◌+◌, ◌<◌, Bool, true, false, ◌||◌, List, [], ◌∷◌, length, map, set, get_or, nat_lt, nat_le, refl, sym, ap, subst, ◌∙◌, ◌≤◌, ◌^◌, arith}
use Rattle.std.proofs.lemmas.Bool.Decides.{nat_tests}
use Rattle.std.proofs.lemmas.Option.{get_or_from_slice_get, slice_get_within}
use Rattle.std.specs.List.{list_any}
use Rattle.std.specs.FinMap.{empty}
use Rattle.std.specs.Prelude.{◌==◌, Option, None, Some, is_some, IfSome, if◌then◌else◌, slice_get}
use Rattle.guest_bus.specs.Memory.{Memory}
use Rattle.machine_model.specs.Lists.{is_number}
use Rattle.machine_model.specs.Partition.{PartitionState}
use Rattle.virt_clocks.specs.Clocks.{PartitionClocks, is_due, looked_at, moved_to, next_deadline, rearmed}
use Rattle.virt_clocks.specs.declared.timer.Timer.{Timer}
use Rattle.system_state.specs.State.{AreFrom, IsFrom, NoneDue, NoneTimed, OwnState, any_timed, is_timed, with_memories, with_memory}

-- as many partitions are seen as are kept
pub memories-length : (owns : List OwnState) (maps : List Memory) (inputs : List (List ℕ)) → length maps ≡ length owns → length inputs ≡ length owns → length (with_memories owns maps inputs) ≡ length owns
memories-length [] maps inputs held given = refl
memories-length (own ∷ owns) [] inputs held given = absurd (omega (arith, held))
memories-length (own ∷ owns) (memory ∷ maps) [] held given = absurd (omega (arith, given))
memories-length (own ∷ owns) (memory ∷ maps) (words ∷ inputs) held given = ap suc (memories-length owns maps inputs (omega (arith, held)) (omega (arith, given)))

-- a partition with its memory and its input words
pub memories-there : (owns : List OwnState) (maps : List Memory) (inputs : List (List ℕ)) (p : ℕ) (own : OwnState) (other : PartitionState) → length maps ≡ length owns → length inputs ≡ length owns → p < length owns
    → get_or (with_memories owns maps inputs) p other ≡ with_memory (get_or owns p own) (get_or maps p empty) (get_or inputs p [])
memories-there [] maps inputs p own other held given below = absurd (omega (arith, below))
memories-there (first ∷ owns) [] inputs p own other held given below = absurd (omega (arith, held))
memories-there (first ∷ owns) (memory ∷ maps) [] p own other held given below = absurd (omega (arith, given))
memories-there (first ∷ owns) (memory ∷ maps) (words ∷ inputs) zero own other held given below = refl
memories-there (first ∷ owns) (memory ∷ maps) (words ∷ inputs) (suc p) own other held given below =
    memories-there owns maps inputs p own other (omega (arith, held)) (omega (arith, given)) (omega (arith, below))

-- another state and another memory of one partition
pub memories-set : (owns : List OwnState) (maps : List Memory) (inputs : List (List ℕ)) (p : ℕ) (own : OwnState) (memory : Memory)
    → with_memories (set owns p own) (set maps p memory) inputs ≡ set (with_memories owns maps inputs) p (with_memory own memory (get_or inputs p []))
memories-set [] maps inputs p own memory = refl
memories-set (first ∷ owns) [] inputs zero own memory = refl
memories-set (first ∷ owns) [] inputs (suc p) own memory = refl
memories-set (first ∷ owns) (here ∷ maps) [] zero own memory = refl
memories-set (first ∷ owns) (here ∷ maps) [] (suc p) own memory = refl
memories-set (first ∷ owns) (here ∷ maps) (words ∷ inputs) zero own memory = refl
memories-set (first ∷ owns) (here ∷ maps) (words ∷ inputs) (suc p) own memory =
    ap (λ (rest : List PartitionState). with_memory first here words ∷ rest) (memories-set owns maps inputs p own memory)

-- another state of one partition, whose memory stays
pub memories-set_own : (owns : List OwnState) (maps : List Memory) (inputs : List (List ℕ)) (p : ℕ) (own : OwnState)
    → with_memories (set owns p own) maps inputs ≡ set (with_memories owns maps inputs) p (with_memory own (get_or maps p empty) (get_or inputs p []))
memories-set_own [] maps inputs p own = refl
memories-set_own (first ∷ owns) [] inputs zero own = refl
memories-set_own (first ∷ owns) [] inputs (suc p) own = refl
memories-set_own (first ∷ owns) (here ∷ maps) [] zero own = refl
memories-set_own (first ∷ owns) (here ∷ maps) [] (suc p) own = refl
memories-set_own (first ∷ owns) (here ∷ maps) (words ∷ inputs) zero own = refl
memories-set_own (first ∷ owns) (here ∷ maps) (words ∷ inputs) (suc p) own =
    ap (λ (rest : List PartitionState). with_memory first here words ∷ rest) (memories-set_own owns maps inputs p own)

-- another memory of one partition, whose state stays
pub memories-set_map : (owns : List OwnState) (maps : List Memory) (inputs : List (List ℕ)) (p : ℕ) (own : OwnState) (memory : Memory)
    → with_memories owns (set maps p memory) inputs ≡ set (with_memories owns maps inputs) p (with_memory (get_or owns p own) memory (get_or inputs p []))
memories-set_map [] maps inputs p own memory = refl
memories-set_map (first ∷ owns) [] inputs zero own memory = refl
memories-set_map (first ∷ owns) [] inputs (suc p) own memory = refl
memories-set_map (first ∷ owns) (here ∷ maps) [] zero own memory = refl
memories-set_map (first ∷ owns) (here ∷ maps) [] (suc p) own memory = refl
memories-set_map (first ∷ owns) (here ∷ maps) (words ∷ inputs) zero own memory = refl
memories-set_map (first ∷ owns) (here ∷ maps) (words ∷ inputs) (suc p) own memory =
    ap (λ (rest : List PartitionState). with_memory first here words ∷ rest) (memories-set_map owns maps inputs p own memory)

-- the memories of all partitions are seen
pub memories-seen : (owns : List OwnState) (maps : List Memory) (inputs : List (List ℕ)) → length maps ≡ length owns → length inputs ≡ length owns → maps ≡ map (λ part. part.memory) (with_memories owns maps inputs)
memories-seen [] [] inputs held given = refl
memories-seen [] (memory ∷ maps) inputs held given = absurd (omega (arith, held))
memories-seen (own ∷ owns) [] inputs held given = absurd (omega (arith, held))
memories-seen (own ∷ owns) (memory ∷ maps) [] held given = absurd (omega (arith, given))
memories-seen (own ∷ owns) (memory ∷ maps) (words ∷ inputs) held given =
    ap (λ (rest : List Memory). memory ∷ rest) (memories-seen owns maps inputs (omega (arith, held)) (omega (arith, given)))

-- the timers of all partitions are seen
pub memories-timed : (owns : List OwnState) (maps : List Memory) (inputs : List (List ℕ)) → length maps ≡ length owns → length inputs ≡ length owns
    → list_any (λ own. is_timed own.clocks) owns ≡ any_timed (with_memories owns maps inputs)
memories-timed [] maps inputs held given = refl
memories-timed (own ∷ owns) [] inputs held given = absurd (omega (arith, held))
memories-timed (own ∷ owns) (memory ∷ maps) [] held given = absurd (omega (arith, given))
memories-timed (own ∷ owns) (memory ∷ maps) (words ∷ inputs) held given =
    ap (λ (others : Bool). is_timed own.clocks || others) (memories-timed owns maps inputs (omega (arith, held)) (omega (arith, given)))

-- neither of two tests holds
or_false_left : (a b : Bool) → (a || b) ≡ false → a ≡ false
or_false_left true b none = none
or_false_left false b none = refl

or_false_right : (a b : Bool) → (a || b) ≡ false → b ≡ false
or_false_right true b none = cc
or_false_right false b none = none

or_false : (a b : Bool) → a ≡ false → b ≡ false → (a || b) ≡ false
or_false true b one other = one
or_false false b one other = other

-- no timer is armed where none was, and that of one partition is not by its change
pub none-set : (owns : List OwnState) (p : ℕ) (own new : OwnState) → own ≡ get_or owns p own → (is_timed own.clocks ≡ false → is_timed new.clocks ≡ false) → NoneTimed owns → NoneTimed (set owns p new)
none-set [] p own new here keeps none = none
none-set (first ∷ owns) zero own new here keeps none =
    or_false (is_timed new.clocks) (list_any (λ own. is_timed own.clocks) owns)
    (keeps (ap (λ (o : OwnState). is_timed o.clocks) here ∙ or_false_left (is_timed first.clocks) (list_any (λ own. is_timed own.clocks) owns) none))
    (or_false_right (is_timed first.clocks) (list_any (λ own. is_timed own.clocks) owns) none)
none-set (first ∷ owns) (suc p) own new here keeps none =
    or_false (is_timed first.clocks) (list_any (λ own. is_timed own.clocks) (set owns p new))
    (or_false_left (is_timed first.clocks) (list_any (λ own. is_timed own.clocks) owns) none)
    (none-set owns p own new here keeps (or_false_right (is_timed first.clocks) (list_any (λ own. is_timed own.clocks) owns) none))

-- a look arms no timer
pub look-arms-none : (now : ℕ) (timer new : Option Timer) → new ≡ looked_at now timer → is_some timer ≡ false → is_some new ≡ false
unfolding looked_at
look-arms-none now None new is none = ap is_some is
look-arms-none now (Some timer) new is none = cc

-- a timer that is not due before a time is not due before an earlier one
from-earlier : (earlier least : ℕ) (timer : Option Timer) → earlier ≤ least → IsFrom least timer → IsFrom earlier timer
from-earlier earlier least None before from = tt
from-earlier earlier least (Some timer) before from = omega (arith, before, from)

-- nor is it due then
from-undue : (time least : ℕ) (timer : Option Timer) → time < least → IsFrom least timer → is_due time timer ≡ false
from-undue time least None before from = refl
from-undue time least (Some timer) before from = grind (arith, nat_tests, before, from)

-- one that is not armed is due at no time
unarmed-from : (least : ℕ) (timer : Option Timer) → is_some timer ≡ false → IsFrom least timer
unarmed-from least None none = tt
unarmed-from least (Some timer) none = absurd cc

-- none is due where none is armed
pub unarmed_from : (but : Option ℕ) (least : ℕ) (owns : List OwnState) → NoneTimed owns → AreFrom but least owns
unarmed_from but least owns none q own there other = at owns q none there
  where
    at : (os : List OwnState) (k : ℕ) → NoneTimed os → slice_get os k ≡ Some own → IsFrom least own.clocks.hardware_timer
    at [] k unarmed here = absurd cc
    at (first ∷ os) zero unarmed here =
        let same : first ≡ own = cc in
        unarmed-from least own.clocks.hardware_timer (ap (λ (o : OwnState). is_timed o.clocks) (sym same) ∙ or_false_left (is_timed first.clocks) (list_any (λ o. is_timed o.clocks) os) unarmed)
    at (first ∷ os) (suc k) unarmed here = at os k (or_false_right (is_timed first.clocks) (list_any (λ o. is_timed o.clocks) os) unarmed) here

-- what holds of each state holds where that of one partition is changed, and it holds of that still
each-set : (P : ℕ → OwnState → Type 0) (owns : List OwnState) (p : ℕ) (new : OwnState) → ((o : OwnState) → slice_get owns p ≡ Some o → P p o → P p new)
    → ((q : ℕ) (o : OwnState) → slice_get owns q ≡ Some o → P q o) → (q : ℕ) (o : OwnState) → slice_get (set owns p new) q ≡ Some o → P q o
each-set P [] p new keeps all q o is = all q o is
each-set P (first ∷ owns) zero new keeps all zero o is =
    let same : new ≡ o = cc in
    subst (λ (x : OwnState). P zero x) same (keeps first refl (all zero first refl))
each-set P (first ∷ owns) zero new keeps all (suc q) o is = all (suc q) o is
each-set P (first ∷ owns) (suc p) new keeps all zero o is = all zero o is
each-set P (first ∷ owns) (suc p) new keeps all (suc q) o is = each-set (λ k. P (suc k)) owns p new keeps (λ k. all (suc k)) q o is

-- none is due earlier where the timer of one partition is moved on
pub from-set : (lent : Option ℕ) (least : ℕ) (owns : List OwnState) (p : ℕ) (own new : OwnState) → own ≡ get_or owns p own → (IsFrom least own.clocks.hardware_timer → IsFrom least new.clocks.hardware_timer)
    → AreFrom lent least owns → AreFrom lent least (set owns p new)
from-set lent least owns p own new here stays all =
    each-set (λ q o. is_number lent q ≡ false → IsFrom least o.clocks.hardware_timer) owns p new
    (λ o there holds other. stays (subst (λ (x : OwnState). IsFrom least x.clocks.hardware_timer) (sym (here ∙ get_or_from_slice_get owns p o own there)) (holds other))) all

-- a number is itself
equal-self : (p : ℕ) → is_number (Some p) p ≡ false → ⊥
equal-self p apart = grind (arith, nat_tests, apart)

-- or where it is changed in any way and does not count
pub from-lent : (least : ℕ) (owns : List OwnState) (p : ℕ) (new : OwnState) → AreFrom (Some p) least owns → AreFrom (Some p) least (set owns p new)
from-lent least owns p new all =
    each-set (λ q o. is_number (Some p) q ≡ false → IsFrom least o.clocks.hardware_timer) owns p new (λ o there holds apart. absurd (equal-self p apart)) all

-- what is seen of the clocks of each state
each-seen : (P : ℕ → PartitionClocks → Type 0) (owns : List OwnState) (maps : List Memory) (inputs : List (List ℕ)) → ((q : ℕ) (own : OwnState) → slice_get owns q ≡ Some own → P q own.clocks)
    → (q : ℕ) (ps : PartitionState) → slice_get (with_memories owns maps inputs) q ≡ Some ps → P q ps.clocks
each-seen P [] maps inputs all q ps is = absurd cc
each-seen P (own ∷ owns) [] inputs all q ps is = absurd cc
each-seen P (own ∷ owns) (memory ∷ maps) [] all q ps is = absurd cc
each-seen P (own ∷ owns) (memory ∷ maps) (words ∷ inputs) all zero ps is =
    let same : with_memory own memory words ≡ ps = cc in
    let clocks : own.clocks ≡ ps.clocks = ap (λ (x : PartitionState). x.clocks) same in
    subst (λ (c : PartitionClocks). P zero c) clocks (all zero own refl)
each-seen P (own ∷ owns) (memory ∷ maps) (words ∷ inputs) all (suc q) ps is = each-seen (λ k. P (suc k)) owns maps inputs (λ k. all (suc k)) q ps is

-- where none is due before a time, none is seen to be due earlier
pub from-seen : (but : Option ℕ) (least time : ℕ) (owns : List OwnState) (maps : List Memory) (inputs : List (List ℕ)) → time < least → AreFrom but least owns → NoneDue but time (with_memories owns maps inputs)
from-seen but least time owns maps inputs before all =
    each-seen (λ q clocks. is_number but q ≡ false → is_due time clocks.hardware_timer ≡ false) owns maps inputs
    (λ q own is other. from-undue time least own.clocks.hardware_timer before (all q own is other))

-- the timer of one partition counts, too, and that of another no more
pub from-both : (one other : Option ℕ) (least deadline new : ℕ) (owns : List OwnState) → IfSome one (λ p. IfSome (slice_get owns p) (λ own. IsFrom deadline own.clocks.hardware_timer)) → new ≤ least → new ≤ deadline
    → AreFrom one least owns → AreFrom other new owns
from-both None other least deadline new owns there few less all q own is apart = from-earlier new least own.clocks.hardware_timer few (all q own is refl)
from-both (Some p) other least deadline new owns there few less all q own is apart = at (p == q) refl
  where
    at : (b : Bool) → (p == q) ≡ b → IsFrom new own.clocks.hardware_timer
    at false different = from-earlier new least own.clocks.hardware_timer few (all q own is different)
    at true equal =
        let same : p ≡ q = grind (arith, nat_tests, equal) in
        let here : slice_get owns p ≡ Some own = ap (slice_get owns) same ∙ is in
        from-earlier new deadline own.clocks.hardware_timer less (subst (λ (found : Option OwnState). IfSome found (λ own. IsFrom deadline own.clocks.hardware_timer)) here there)

-- a look moves a timer on
pub look-moves_on : (now least : ℕ) (timer new : Option Timer) → new ≡ looked_at now timer → IsFrom least timer → IsFrom least new
unfolding looked_at
look-moves_on now least None new is from = subst (λ (t : Option Timer). IsFrom least t) (sym is) tt
look-moves_on now least (Some timer) new is from = subst (λ (t : Option Timer). IsFrom least t) (sym is) (at (nat_le timer.deadline now) refl)
  where
    moved : (few : Bool) (deadline : ℕ) → least ≤ deadline → IsFrom least (if few then Some (record timer { deadline = deadline }) else None)
    moved true deadline later = later
    moved false deadline later = tt

    rearms : (once : Bool) → IsFrom least (if once then None else moved_to (next_deadline now timer) timer)
    rearms true = tt
    rearms false = moved (nat_lt (next_deadline now timer) (2 ^ 63)) (next_deadline now timer) (omega (arith, from))

    at : (b : Bool) → nat_le timer.deadline now ≡ b → IsFrom least (if b then rearmed now timer else Some timer)
    at true due = rearms (timer.interval == 0)
    at false undue = from

-- no state of the first this many has a hardware timer that is due before a time, but for the one of a number
abbrev pub FirstAreFrom : ℕ → Option ℕ → ℕ → List OwnState → Type 0
FirstAreFrom p but least owns = (q : ℕ) (own : OwnState) → q < p → slice_get owns q ≡ Some own → is_number but q ≡ false → IsFrom least own.clocks.hardware_timer

-- one more
pub first-more : (p : ℕ) (but : Option ℕ) (least deadline new : ℕ) (owns : List OwnState) → new ≤ least → new ≤ deadline
    → (is_number but p ≡ false → IfSome (slice_get owns p) (λ own. IsFrom deadline own.clocks.hardware_timer)) → FirstAreFrom p but least owns → FirstAreFrom (p + 1) but new owns
first-more p but least deadline new owns few less last all = λ q own below there other. at q own below there other (nat_lt q p) refl
  where
    at : (q : ℕ) (own : OwnState) → q < p + 1 → slice_get owns q ≡ Some own → is_number but q ≡ false → (b : Bool) → nat_lt q p ≡ b → IsFrom new own.clocks.hardware_timer
    at q own below there other true before = from-earlier new least own.clocks.hardware_timer few (all q own (grind (arith, nat_tests, before)) there other)
    at q own below there other false after =
        let same : q ≡ p = grind (arith, nat_tests, after, below) in
        let unequal : is_number but p ≡ false = ap (is_number but) (sym same) ∙ other in
        let here : slice_get owns p ≡ Some own = ap (slice_get owns) (sym same) ∙ there in
        from-earlier new deadline own.clocks.hardware_timer less (subst (λ (found : Option OwnState). IfSome found (λ own. IsFrom deadline own.clocks.hardware_timer)) here (last unequal))

-- all of them
pub first-end : (p : ℕ) (but : Option ℕ) (least : ℕ) (owns : List OwnState) → length owns ≤ p → FirstAreFrom p but least owns → AreFrom but least owns
first-end p but least owns past all q own there other = all q own (omega (arith, past, slice_get_within owns q own there)) there other
