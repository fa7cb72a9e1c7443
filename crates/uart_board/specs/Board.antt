-- Boards: what stands at a place, and how a call changes the board.
use Rattle.std.specs.Prelude.{◌≡◌, ℕ, List, Option, Some, None, replicate, slice_index_or, slice_set}
use Rattle.std.specs.Global.{Global}
use Rattle.std.specs.declared.dyn_box.DynBox.{DynBox}
use Rattle.uart_board.specs.declared.board.Board.{Board}
use Rattle.uart_board.specs.Views.{HasFailed, HasTaken, UartView, mark_at}

-- the UART at the place, where there is one
abbrev pub uart_at : {X : Type 0} {F : X → Type 0} → ℕ → Board X F → Option (DynBox X Global F)
uart_at place board = slice_index_or board.places place None

-- the board with this at the place, a UART or nothing
abbrev pub with_uart : {X : Type 0} {F : X → Type 0} → ℕ → Option (DynBox X Global F) → Board X F → Board X F
with_uart place uart board = record board { places = slice_set board.places place uart }

-- the board without marks
abbrev pub unmarked : {X : Type 0} {F : X → Type 0} → Board X F → Board X F
unmarked board = record board { marks = replicate 8 None }

-- a board without UARTs and without marks
abbrev pub empty_board : {X : Type 0} {F : X → Type 0} → Board X F
empty_board = record { places = replicate 8 None; marks = replicate 8 None }

-- the board with nothing at the place, and the count as the place's mark
abbrev pub lost : {X : Type 0} {F : X → Type 0} → ℕ → ℕ → Board X F → Board X F
lost place count board = record { places = slice_set board.places place None; marks = slice_set board.marks place (Some count) }

-- the UART took all of the bytes: it stands at its place, and nothing else of the board has changed
pub record IsTaken {X : Type 0} {F : X → Type 0} (view : DynBox X Global F → UartView) (place : ℕ) (bytes : List ℕ) (uart : DynBox X Global F) (old new : Board X F) : Type 0 where
  pub after : DynBox X Global F
  pub took : HasTaken (view uart) bytes (view after)
  pub board : new ≡ with_uart place (Some after) old

-- the write failed: the UART's place is empty and has as its mark what the UART then counts,
-- and nothing else of the board has changed
pub record LosesUart {X : Type 0} {F : X → Type 0} (view : DynBox X Global F → UartView) (place : ℕ) (bytes : List ℕ) (uart : DynBox X Global F) (old new : Board X F) : Type 0 where
  pub after : DynBox X Global F
  pub failed : HasFailed (view uart) bytes (view after)
  pub marked : mark_at place new.marks ≡ Some (view after).faults
  pub board : new ≡ lost place (view after).faults old
