-- What is known of a board after bytes were written to one of its places.
use Rattle.std.proofs.Common.{◌≡◌, ◌≢◌, ℕ, zero, suc, ◌<◌, List, [], ◌∷◌, length, map, Option, Some, None, refl, sym, ◌∙◌, ap, subst, arith, ◌⊎◌, inl, inr, slice_index_or, slice_set, IfSome}
use Rattle.std.proofs.lemmas.List.{get_or-set_same, get_or-set_other, set-get_or}
use Rattle.std.specs.Global.{Global}
use Rattle.std.specs.Prelude.{option_map}
use Rattle.std.specs.declared.dyn_box.DynBox.{DynBox}
use Rattle.xm_base.specs.Options.{on}
use Rattle.xm_outside.specs.Causes.{Rose}
use Rattle.xm_outside.specs.Growth.{grown}
use Rattle.uart_board.specs.declared.board.Board.{Board}
use Rattle.uart_board.specs.Board.{LosesUart, IsTaken, lost, uart_at, with_uart}
use Rattle.uart_board.specs.Heard.{IsOneWrite, TookAll, uart_hearing}
use Rattle.uart_board.specs.lemmas.HeardLemmas.{hearing_nothing}
use Rattle.uart_board.specs.Views.{BoardView, HasFailed, HasTaken, UartView, mark_at}

-- an element of a list, set twice
set_twice : {X : Type 0} (xs : List X) (i : ℕ) (a b : X) → slice_set (slice_set xs i a) i b ≡ slice_set xs i b
set_twice [] i a b = refl
set_twice (x ∷ xs) zero a b = refl
set_twice (x ∷ xs) (suc i) a b = ap (λ rest. x ∷ rest) (set_twice xs i a b)

-- what is at a place, is within
stands_within : {X : Type 0} (xs : List (Option X)) (i : ℕ) (x : X) → slice_index_or xs i None ≡ Some x → i < length xs
stands_within [] i x stood = absurd cc
stands_within (y ∷ xs) zero x stood = omega arith
stands_within (y ∷ xs) (suc i) x stood = let within : i < length xs = stands_within xs i x stood in omega arith

-- what is known of the UART at a place is what is known of the one that stands there
view_index : {U : Type 0} (view : U → UartView) (places : List (Option U)) (place : ℕ) → slice_index_or (map (option_map view) places) place None ≡ option_map view (slice_index_or places place None)
view_index view [] place = refl
view_index view (uart ∷ rest) zero = refl
view_index view (uart ∷ rest) (suc place) = view_index view rest place

-- two UARTs of which the same is known
same_view : (uart : UartView) (got : Option (List ℕ)) (faults : ℕ) → uart.got ≡ got → uart.faults ≡ faults → uart ≡ record { got = got; faults = faults }
same_view uart got faults same_got same_faults = ap (λ g. record { got = g; faults = uart.faults }) same_got ∙ ap (λ f. record { got = got; faults = f }) same_faults

-- what is known of the other places when one is set
others_stay : {U : Type 0} (view : U → UartView) (places : List (Option U)) (place other : ℕ) (uart : Option U) → other ≢ place
    → slice_index_or (map (option_map view) (slice_set places place uart)) other None ≡ on (uart_hearing []) (slice_index_or (map (option_map view) places) other None)
others_stay view places place other uart differ =
    view_index view (slice_set places place uart) other ∙ ap (option_map view) (get_or-set_other places place other uart None differ)
    ∙ sym (view_index view places other) ∙ sym (hearing_nothing (slice_index_or (map (option_map view) places) other None))

-- the place has what is set there
set_view : {U : Type 0} (view : U → UartView) (places : List (Option U)) (place : ℕ) (uart : Option U) → place < length places
    → slice_index_or (map (option_map view) (slice_set places place uart)) place None ≡ option_map view uart
set_view view places place uart within = view_index view (slice_set places place uart) place ∙ ap (option_map view) (get_or-set_same places place uart None within)

-- the other places when one is set
others_same : {U : Type 0} (view : U → UartView) (places : List (Option U)) (place other : ℕ) (uart : Option U) (mark after : Option ℕ) → other ≢ place → after ≡ mark
    → TookAll [] (slice_index_or (map (option_map view) places) other None) mark (slice_index_or (map (option_map view) (slice_set places place uart)) other None) after
others_same view places place other uart mark after differ same = record { stands = others_stay view places place other uart differ; same = same }

-- the UART at the place took the bytes
pub taken_heard : {U : Type 0} (view : U → UartView) (places : List (Option U)) (marks : List (Option ℕ)) (place : ℕ) (bytes : List ℕ) (uart after : U)
    → slice_index_or places place None ≡ Some uart → (view after).got ≡ grown (view uart).got bytes → (view after).faults ≡ (view uart).faults
    → IsOneWrite place bytes record { places = map (option_map view) places; marks = marks } record { places = map (option_map view) (slice_set places place (Some after)); marks = marks }
taken_heard view places marks place bytes uart after stood got faults = record {
  here = inl record {
    stands = set_view view places place (Some after) (stands_within places place uart stood)
        ∙ ap Some (same_view (view after) (grown (view uart).got bytes) (view uart).faults got faults)
        ∙ ap (on (uart_hearing bytes)) (sym (view_index view places place ∙ ap (option_map view) stood));
    same = refl;
  };
  others = λ other differ. others_same view places place other (Some after) (mark_at other marks) (mark_at other marks) differ refl;
}

-- the UART at the place failed
pub lost_heard : {U : Type 0} (view : U → UartView) (places : List (Option U)) (marks : List (Option ℕ)) (place : ℕ) (bytes : List ℕ) (uart : U) (count : ℕ)
    → slice_index_or places place None ≡ Some uart → Rose (view uart).faults count → mark_at place (slice_set marks place (Some count)) ≡ Some count
    → IsOneWrite place bytes record { places = map (option_map view) places; marks = marks } record { places = map (option_map view) (slice_set places place None); marks = slice_set marks place (Some count) }
lost_heard view places marks place bytes uart count stood rose marked = record {
  here = inr record {
    before = view uart;
    count = count;
    stood = view_index view places place ∙ ap (option_map view) stood;
    empty = set_view view places place None (stands_within places place uart stood);
    marked = marked;
    rose = rose;
  };
  others = λ other differ.
      others_same view places place other None (mark_at other marks) (mark_at other (slice_set marks place (Some count))) differ (get_or-set_other marks place other (Some count) None differ);
}

-- nothing stands at the place
pub empty_heard : {U : Type 0} (view : U → UartView) (places : List (Option U)) (marks : List (Option ℕ)) (place : ℕ) (bytes : List ℕ)
    → slice_index_or places place None ≡ None
    → IsOneWrite place bytes record { places = map (option_map view) places; marks = marks } record { places = map (option_map view) places; marks = marks }
empty_heard view places marks place bytes empty =
    let none : slice_index_or (map (option_map view) places) place None ≡ None = view_index view places place ∙ ap (option_map view) empty in
    record {
      here = inl record { stands = none ∙ sym (ap (on (uart_hearing bytes)) none); same = refl };
      others = λ other differ. record { stands = sym (hearing_nothing (slice_index_or (map (option_map view) places) other None)); same = refl };
    }

-- what is taken from an empty place leaves the board
pub taken_from_empty : {X : Type 0} {F : X → Type 0} (place : ℕ) (old new : Board X F) → None ≡ uart_at place old → new ≡ with_uart place None old → new ≡ old
taken_from_empty place old new empty out =
    out ∙ ap (λ places. record { places = places; marks = old.marks }) (ap (λ uart. slice_set old.places place uart) empty ∙ set-get_or old.places place None)

-- what is known of a board, by what is known of a UART
abbrev pub shown : {X : Type 0} {F : X → Type 0} → (DynBox X Global F → UartView) → Board X F → BoardView
shown view board = record { places = map (option_map view) board.places; marks = board.marks }

-- nothing stood at the place
pub none_heard : {X : Type 0} {F : X → Type 0} (view : DynBox X Global F → UartView) (place : ℕ) (bytes : List ℕ) (old new : Board X F)
    → None ≡ uart_at place old → new ≡ with_uart place None old → IsOneWrite place bytes (shown view old) (shown view new)
none_heard view place bytes old new empty out =
    subst (λ board. IsOneWrite place bytes (shown view old) (shown view board)) (sym (taken_from_empty place old new empty out))
    (empty_heard view old.places old.marks place bytes (sym empty))

-- a UART that was taken out took the bytes, and was put back
pub put_back : {X : Type 0} {F : X → Type 0} (view : DynBox X Global F → UartView) (place : ℕ) (bytes : List ℕ) (uart after : DynBox X Global F) (old mid new : Board X F)
    → mid ≡ with_uart place None old → HasTaken (view uart) bytes (view after) → new ≡ with_uart place (Some after) mid → IsTaken view place bytes uart old new
put_back view place bytes uart after old mid new out took back = record {
  after = after;
  took = took;
  board = back ∙ ap (with_uart place (Some after)) out ∙ ap (λ places. record { places = places; marks = old.marks }) (set_twice old.places place None (Some after));
}

-- a UART that was taken out failed
pub given_up : {X : Type 0} {F : X → Type 0} (view : DynBox X Global F → UartView) (place : ℕ) (bytes : List ℕ) (uart after : DynBox X Global F) (count : ℕ) (old mid new : Board X F)
    → mid ≡ with_uart place None old → HasFailed (view uart) bytes (view after) → count ≡ (view after).faults → new ≡ lost place count mid → mark_at place new.marks ≡ Some count
    → LosesUart view place bytes uart old new
given_up view place bytes uart after count old mid new out failed counted gone marked = record {
  after = after;
  failed = failed;
  marked = marked ∙ ap Some counted;
  board = gone ∙ ap (lost place count) out ∙ ap (λ n. lost place n (with_uart place None old)) counted
      ∙ ap (λ places. record { places = places; marks = slice_set old.marks place (Some (view after).faults) }) (set_twice old.places place None None);
}

-- what came of the UART that stood at the place
pub of_the_one : {X : Type 0} {F : X → Type 0} (view : DynBox X Global F → UartView) (place : ℕ) (bytes : List ℕ) (uart : DynBox X Global F) (old new : Board X F)
    → Some uart ≡ uart_at place old → IsTaken view place bytes uart old new ⊎ LosesUart view place bytes uart old new
    → IfSome (uart_at place old) (λ one. IsTaken view place bytes one old new ⊎ LosesUart view place bytes one old new)
of_the_one view place bytes uart old new stood came = subst (λ found. IfSome found (λ one. IsTaken view place bytes one old new ⊎ LosesUart view place bytes one old new)) stood came

-- what is then known of the board
pub one_heard : {X : Type 0} {F : X → Type 0} (view : DynBox X Global F → UartView) (place : ℕ) (bytes : List ℕ) (uart : DynBox X Global F) (old new : Board X F)
    → Some uart ≡ uart_at place old → IsTaken view place bytes uart old new ⊎ LosesUart view place bytes uart old new
    → IsOneWrite place bytes (shown view old) (shown view new)
one_heard view place bytes uart old new stood (inl taken) =
    subst (λ board. IsOneWrite place bytes (shown view old) (shown view board)) (sym taken.board)
    (taken_heard view old.places old.marks place bytes uart taken.after (sym stood) taken.took.got taken.took.faults)
one_heard view place bytes uart old new stood (inr gone) =
    subst (λ board. IsOneWrite place bytes (shown view old) (shown view board)) (sym gone.board)
    (lost_heard view old.places old.marks place bytes uart (view gone.after).faults (sym stood) gone.failed.faults (ap (λ board. mark_at place board.marks) (sym gone.board) ∙ gone.marked))
