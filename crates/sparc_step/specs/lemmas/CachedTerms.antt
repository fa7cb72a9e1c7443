-- For proofs and private clauses: registers of which the current window is kept apart, each register of it by its number.
use borrow.Rule.Slice.PartMut.{put_mid}
use Rattle.std.specs.Prelude.{ℕ, List}

-- words of which the first eight are others
unfoldable pub with_first : List ℕ → List ℕ → List ℕ
with_first words first = put_mid 0 8 words first
