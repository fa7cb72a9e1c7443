-- For proofs and private clauses: a file with a head and a digest: the name of its format, one of its versions, the length of the whole, its fields, and the MD5 of all of them.
use Rattle.std.specs.Prelude.{ℕ, List, ◌++◌}
use Rattle.std.specs.Int.{w16, w32, to_be_bytes}

-- the first 10 bytes: a name of four, the version, and the length of the whole
abbrev pub lead_text : List ℕ → ℕ → ℕ → List ℕ
lead_text name version size = name ++ to_be_bytes w16 version ++ to_be_bytes w32 size
