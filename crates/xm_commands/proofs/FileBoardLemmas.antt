-- A board that gets the UARTs of files, one after the other.
use Rattle.std.proofs.Common.{◌≡◌, ℕ, zero, suc, ◌+◌, ◌-◌, ◌<◌, List, ◌∷◌, ◌++◌, map, Option, Some, None, replicate, refl, ◌∙◌, ap, arith, slice_set}
use Rattle.std.proofs.lemmas.List.{map-set}
use Rattle.std.specs.Prelude.{option_map}
use Rattle.uart_board.specs.Views.{BoardView, UartView}
use Rattle.xm_commands.specs.Ended.{files_below, unwritten}

-- the board with the UARTs of files at the places below this number, and no mark
abbrev pub filled : ℕ → BoardView
filled count = record { places = files_below count; marks = replicate 8 None }

-- the first of the rest becomes one of those before it
next_set : {X : Type 0} (count rest : ℕ) (x y : X) → slice_set (replicate count x ++ replicate (suc rest) y) count x ≡ replicate (suc count) x ++ replicate rest y
next_set zero rest x y = refl
next_set (suc count) rest x y = ap (λ others. x ∷ others) (next_set count rest x y)

-- the UART of a file at one place more
file_more : {U : Type 0} (view : U → UartView) (places : List (Option U)) (place : ℕ) (uart : U) → place < 8 → map (option_map view) places ≡ files_below place → view uart ≡ unwritten
    → map (option_map view) (slice_set places place (Some uart)) ≡ files_below (place + 1)
file_more view places place uart within before same =
    let rest : 8 - place ≡ suc (7 - place) = omega (arith, within) in
    let one : suc place ≡ place + 1 = omega arith in
    let after : 7 - place ≡ 8 - (place + 1) = omega arith in
    map-set (option_map view) places place (Some uart)
    ∙ ap (λ boxed. slice_set boxed place (Some (view uart))) before
    ∙ ap (λ boxed. slice_set (files_below place) place (Some boxed)) same
    ∙ ap (λ n. slice_set (replicate place (Some unwritten) ++ replicate n None) place (Some unwritten)) rest
    ∙ next_set place (7 - place) (Some unwritten) None
    ∙ ap (λ n. replicate n (Some unwritten) ++ replicate (7 - place) None) one
    ∙ ap (λ n. replicate (place + 1) (Some unwritten) ++ replicate n None) after

-- the board with it
pub board_more : {U : Type 0} (view : U → UartView) (places : List (Option U)) (marks : List (Option ℕ)) (place : ℕ) (uart : U) → place < 8
    → ◌≡◌ {A = BoardView} (record { places = map (option_map view) places; marks = marks }) (filled place) → view uart ≡ unwritten
    → ◌≡◌ {A = BoardView} (record { places = map (option_map view) (slice_set places place (Some uart)); marks = marks }) (filled (place + 1))
board_more view places marks place uart within before same =
    ap (λ boxed. record { places = boxed; marks = marks }) (file_more view places place uart within (ap (λ (b : BoardView). b.places) before) same)
    ∙ ap (λ (m : List (Option ℕ)). record { places = files_below (place + 1); marks = m }) (ap (λ (b : BoardView). b.marks) before)
