-- Which partitions have images, by their numbers.
use Rattle.std.specs.Prelude.{ℕ, zero, suc, ◌+◌, ◌-◌, ◌==◌, Bool, not, if◌then◌else◌, List, Option, Some, None}
use Rattle.std.specs.List.{list_any}

-- the smallest number that passes a test, of this many from one on
abbrev pub least_where : (ℕ → Bool) → ℕ → ℕ → Option ℕ
least_where test from zero = None
least_where test from (suc count) = if test from then Some from else least_where test (from + 1) count

-- whether a number is among these
unfoldable pub has_id : List ℕ → ℕ → Bool
has_id ids id = list_any (λ other. other == id) ids

-- the smallest of these numbers that is none of the partitions', which are those below a count
unfoldable pub extra : ℕ → List ℕ → Option ℕ
extra parts ids = least_where (has_id ids) parts (256 - parts)

-- the smallest number of a partition that is none of these
unfoldable pub missing : ℕ → List ℕ → Option ℕ
missing parts ids = least_where (λ id. not (has_id ids id)) 0 parts
