-- Blocks whose exit is ahead.
use Rattle.std.specs.Prelude.{ℕ, ◌≤◌, List}
use Rattle.predecode.specs.declared.rows.Row.{Row}
use Rattle.fast_loop.specs.Keeping.{EndsWithin}

-- an exit is ahead of a place
pub record IsAhead (rows : List Row) (at : ℕ) : Type 0 where
  pub end : ℕ
  pub ends : EndsWithin rows at end

-- and before a limit of the steps that are left
pub record IsAheadWithin (rows : List Row) (at limit : ℕ) : Type 0 where
  pub end : ℕ
  pub ends : EndsWithin rows at end
  pub room : end ≤ limit
