-- What is known of a UART, and of the places of a board.
use Rattle.std.specs.Prelude.{◌≡◌, ℕ, List, Option, None, replicate, slice_index_or}
use Rattle.xm_outside.specs.Causes.{Rose}
use Rattle.xm_outside.specs.Growth.{GrewBySome, grown}

-- what it got, where that is known, and how many of its writes failed
pub record UartView : Type 0 where
  pub got : Option (List ℕ)
  pub faults : ℕ

-- a write after which the UART has got all of the bytes
pub record HasTaken (before : UartView) (bytes : List ℕ) (after : UartView) : Type 0 where
  pub got : after.got ≡ grown before.got bytes
  pub faults : after.faults ≡ before.faults

-- a write that failed, after which the UART has got a prefix of the bytes
pub record HasFailed (before : UartView) (bytes : List ℕ) (after : UartView) : Type 0 where
  pub got : GrewBySome before.got bytes after.got
  pub faults : Rose before.faults after.faults

-- what is known of the UART at each place, where there is one, and the mark of each place, a count of failed writes
pub record BoardView : Type 0 where
  pub places : List (Option UartView)
  pub marks : List (Option ℕ)

-- what is known of the UART at the place, where there is one
abbrev pub view_at : ℕ → BoardView → Option UartView
view_at place board = slice_index_or board.places place None

-- the mark of the place, where it has one
abbrev pub mark_at : ℕ → List (Option ℕ) → Option ℕ
mark_at place marks = slice_index_or marks place None

-- the same places, and no mark
abbrev pub without_marks : BoardView → BoardView
without_marks board = record { places = board.places; marks = replicate 8 None }
