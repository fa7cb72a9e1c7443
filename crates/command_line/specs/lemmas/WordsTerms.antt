-- For proofs and private clauses: the words of a command line, and the commands that they spell.
use Rattle.std.specs.Prelude.{◌≡◌, ◌≢◌, ℕ, ◌≤◌, List, length, slice_index}

-- neither a plus sign nor a needless zero stands in front
abbrev pub IsPlain : List ℕ → Type 0
IsPlain word = (slice_index word 0 ≢ 43) × (slice_index word 0 ≡ 48 → length word ≤ 1)
