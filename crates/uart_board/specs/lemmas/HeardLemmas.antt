-- For proofs and private clauses: what is said to the places of a board, and what comes of it.
use Rattle.std.specs.Prelude.{◌≡◌, ◌≢◌, ℕ, ◌<◌, List, [], ◌++◌, length, Option, Some, None, ◌⊎◌, ◌==◌, refl}
use Rattle.std.proofs.Common.{Bool, true, false, cond, sym, ◌∙◌, ap, subst, inl, inr, arith, length-append}
use Rattle.std.proofs.lemmas.Bool.Decides.{nat_tests}
use Rattle.xm_base.specs.Options.{on}
use Rattle.xm_outside.specs.Causes.{Rose}
use Rattle.xm_outside.specs.lemmas.GrowthLemmas.{grown-nothing, grown_grown}
use Rattle.uart_board.specs.Views.{BoardView, UartView, mark_at, view_at}
use Rattle.uart_board.specs.Heard.{uart_hearing, TookAll, IsLost, HasLostUart, IsHeardAt, IsHeard, said_to, IsOneWrite}

-- there is none, or there is one
none_some : (uart : UartView) → None ≡ Some uart → ⊥
none_some uart same = cc

-- UARTs that are one have one count
same_faults : (a b : UartView) → Some a ≡ Some b → a.faults ≡ b.faults
same_faults a b same = let one : a ≡ b = cc in ap (λ uart. uart.faults) one

-- a UART that got nothing is as before
pub hearing_nothing : (uart : Option UartView) → on (uart_hearing []) uart ≡ uart
hearing_nothing None = refl
hearing_nothing (Some uart) = ap (λ got. Some (record { got = got; faults = uart.faults })) (grown-nothing uart.got)

-- two texts that a UART got are one
pub hearing_twice : (first second : List ℕ) (uart : Option UartView) → on (uart_hearing second) (on (uart_hearing first) uart) ≡ on (uart_hearing (first ++ second)) uart
hearing_twice first second None = refl
hearing_twice first second (Some uart) = ap (λ got. Some (record { got = got; faults = uart.faults })) (grown_grown uart.got first second)

-- a UART that failed after it got bytes failed as the one that it was before
later_lost : (bytes : List ℕ) (uart mid now : Option UartView) (after : Option ℕ) → mid ≡ on (uart_hearing bytes) uart → IsLost mid now after → IsLost uart now after
later_lost bytes None mid now after first gone = absurd (none_some gone.before (sym first ∙ gone.stood))
later_lost bytes (Some uart) mid now after first gone = record {
  before = uart;
  count = gone.count;
  stood = refl;
  empty = gone.empty;
  marked = gone.marked;
  rose = subst (λ faults. Rose faults gone.count) (sym (same_faults (uart_hearing bytes uart) gone.before (sym first ∙ gone.stood))) gone.rose;
}

pub gone_later : (first second : List ℕ) (uart mid now : Option UartView) (after : Option ℕ) → mid ≡ on (uart_hearing first) uart → HasLostUart second mid now after → HasLostUart (first ++ second) uart now after
gone_later first second uart mid now after before lost = record {
  some = (let some : 0 < length second = lost.some in omega (arith, length-append first second));
  gone = later_lost first uart mid now after before lost.gone;
}

-- nothing stands at an empty place later
first_lost : (bytes : List ℕ) (uart mid now : Option UartView) (mark after : Option ℕ) → IsLost uart mid mark → TookAll bytes mid mark now after → IsLost uart now after
first_lost bytes uart mid now mark after gone kept = record {
  before = gone.before;
  count = gone.count;
  stood = gone.stood;
  empty = kept.stands ∙ ap (on (uart_hearing bytes)) gone.empty;
  marked = kept.same ∙ gone.marked;
  rose = gone.rose;
}

pub gone_first : (first second : List ℕ) (uart mid now : Option UartView) (mark after : Option ℕ) → HasLostUart first uart mid mark → TookAll second mid mark now after → HasLostUart (first ++ second) uart now after
gone_first first second uart mid now mark after lost kept = record {
  some = (let some : 0 < length first = lost.some in omega (arith, length-append first second));
  gone = first_lost second uart mid now mark after lost.gone kept;
}

-- one text and then another were said to a place
pub heard_at_then : (first second : List ℕ) (uart mid now : Option UartView) (mark between after : Option ℕ) → IsHeardAt first uart mark mid between → IsHeardAt second mid between now after → IsHeardAt (first ++ second) uart mark now after
heard_at_then first second uart mid now mark between after (inl kept) (inl more) = inl record {
  stands = more.stands ∙ ap (on (uart_hearing second)) kept.stands ∙ hearing_twice first second uart;
  same = more.same ∙ kept.same;
}
heard_at_then first second uart mid now mark between after (inl kept) (inr gone) = inr (gone_later first second uart mid now after kept.stands gone)
heard_at_then first second uart mid now mark between after (inr gone) (inl kept) = inr (gone_first first second uart mid now between after gone kept)
heard_at_then first second uart mid now mark between after (inr gone) (inr again) = absurd (none_some again.gone.before (sym gone.gone.empty ∙ again.gone.stood))

-- what was said, and then more to the same places
pub heard_then : (first second : ℕ → List ℕ) (old mid new : BoardView) → IsHeard first old mid → IsHeard second mid new → IsHeard (λ place. first place ++ second place) old new
heard_then first second old mid new before later place =
    heard_at_then (first place) (second place) (view_at place old) (view_at place mid) (view_at place new) (mark_at place old.marks) (mark_at place mid.marks) (mark_at place new.marks) (before place) (later place)

-- where nothing is said nothing changes
pub heard_nothing : (board : BoardView) → IsHeard (λ place. []) board board
heard_nothing board place = inl record { stands = sym (hearing_nothing (view_at place board)); same = refl }

-- one write of at least one byte is bytes said to its place, and none to the others
pub heard_write : (place : ℕ) (bytes : List ℕ) (old new : BoardView) → 0 < length bytes → IsOneWrite place bytes old new → IsHeard (said_to place bytes) old new
heard_write place bytes old new some write other = at (other == place) refl
  where
    with_some : TookAll bytes (view_at place old) (mark_at place old.marks) (view_at place new) (mark_at place new.marks) ⊎ IsLost (view_at place old) (view_at place new) (mark_at place new.marks)
        → IsHeardAt bytes (view_at place old) (mark_at place old.marks) (view_at place new) (mark_at place new.marks)
    with_some (inl took) = inl took
    with_some (inr gone) = inr record { some = some; gone = gone }

    at : (here : Bool) → (other == place) ≡ here
        → IsHeardAt (cond here bytes []) (view_at other old) (mark_at other old.marks) (view_at other new) (mark_at other new.marks)
    at true here =
        let same : other ≡ place = grind (arith, nat_tests) in
        subst (λ (p : ℕ). IsHeardAt bytes (view_at p old) (mark_at p old.marks) (view_at p new) (mark_at p new.marks)) (sym same) (with_some write.here)
    at false away =
        let differ : other ≢ place = λ same. grind (arith, nat_tests) in
        inl (write.others other differ)
