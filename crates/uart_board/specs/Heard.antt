-- What is said to the places of a board, and what comes of it.
use Rattle.std.specs.Prelude.{◌≡◌, ◌≢◌, ℕ, ◌<◌, List, [], length, Option, Some, None, ◌⊎◌, if◌then◌else◌, ◌==◌}
use Rattle.xm_base.specs.Options.{on}
use Rattle.xm_outside.specs.Causes.{Rose}
use Rattle.xm_outside.specs.Growth.{grown}
use Rattle.uart_board.specs.Views.{BoardView, UartView, mark_at, view_at}

-- a UART after it got the bytes
abbrev pub uart_hearing : List ℕ → UartView → UartView
uart_hearing bytes uart = record { got = grown uart.got bytes; faults = uart.faults }

-- the UART of a place, where there is one, took all of the bytes, and no mark came or went
pub record TookAll (bytes : List ℕ) (uart : Option UartView) (mark : Option ℕ) (now : Option UartView) (after : Option ℕ) : Type 0 where
  pub stands : now ≡ on (uart_hearing bytes) uart
  pub same : after ≡ mark

-- the UART of a place failed: the place is empty, and its mark is above what the UART had counted
pub record IsLost (uart now : Option UartView) (after : Option ℕ) : Type 0 where
  pub before : UartView
  pub count : ℕ
  pub stood : uart ≡ Some before
  pub empty : now ≡ None
  pub marked : after ≡ Some count
  pub rose : Rose before.faults count

-- at least one byte was said to a place, and its UART failed; a UART to which nothing is said is never lost
pub record HasLostUart (bytes : List ℕ) (uart now : Option UartView) (after : Option ℕ) : Type 0 where
  pub some : 0 < length bytes
  pub gone : IsLost uart now after

-- what becomes of one place to which bytes are said
abbrev pub IsHeardAt : List ℕ → Option UartView → Option ℕ → Option UartView → Option ℕ → Type 0
IsHeardAt bytes uart mark now after = TookAll bytes uart mark now after ⊎ HasLostUart bytes uart now after

-- to each place bytes were said: what becomes of the board
abbrev pub IsHeard : (ℕ → List ℕ) → BoardView → BoardView → Type 0
IsHeard said old new = (place : ℕ) → IsHeardAt (said place) (view_at place old) (mark_at place old.marks) (view_at place new) (mark_at place new.marks)

-- the bytes to one place, and none to the others
abbrev pub said_to : ℕ → List ℕ → ℕ → List ℕ
said_to place bytes other = if other == place then bytes else []

-- one write to one place: its UART took all of the bytes, or failed, as it may in a write of no bytes, too; every other place is as before
pub record IsOneWrite (place : ℕ) (bytes : List ℕ) (old new : BoardView) : Type 0 where
  pub here : TookAll bytes (view_at place old) (mark_at place old.marks) (view_at place new) (mark_at place new.marks)
      ⊎ IsLost (view_at place old) (view_at place new) (mark_at place new.marks)
  pub others : (other : ℕ) → other ≢ place → TookAll [] (view_at other old) (mark_at other old.marks) (view_at other new) (mark_at other new.marks)
