-- For proofs and private clauses: what is printed of the groups of a system description's partitions.
use Rattle.std.specs.Prelude.{ℕ, Bool, true, false, List, [], ◌++◌, codes, decimal}

-- what stands before a number: nothing before the first one, and a comma before each other
abbrev pub comma_unless : Bool → List ℕ
comma_unless true = []
comma_unless false = codes ","

-- what is written for a partition, which may be a member
abbrev pub id_text : Bool → Bool → ℕ → List ℕ
id_text first true p = comma_unless first ++ decimal p
id_text first false p = []
