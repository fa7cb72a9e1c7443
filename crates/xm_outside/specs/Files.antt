-- The files of a store, where they are known, and what a read and a write do to them.
use Rattle.std.specs.Prelude.{◌≡◌, ◌≢◌, ℕ, ◌+◌, List, take, Option, Some, None, Result, Ok, Err}
use Rattle.std.specs.FinMap.{FinMap, get, insert}
use Rattle.std.specs.Ordering.{nat_cmp}
use Rattle.std.specs.Cmp.Lexicographic.{slice_cmp}
use Rattle.xm_base.specs.Options.{on}

-- bytes by name
abbrev pub Files : Type 0
Files = FinMap (slice_cmp nat_cmp) (List ℕ)

-- the bytes are those of the file with this name, or its first `most + 1` where it has more;
-- of a store whose files are not known nothing is said
abbrev pub ReadsFile : Option Files → List ℕ → ℕ → List ℕ → Type 0
ReadsFile None name most bytes = Unit {0}
ReadsFile (Some files) name most bytes = on (take (most + 1)) (get files name) ≡ Some bytes

-- the store's files are known, and none has this name
abbrev pub IsAbsent : Option Files → List ℕ → Type 0
IsAbsent None name = ⊥
IsAbsent (Some files) name = get files name ≡ None

-- the files after one was written
abbrev pub stored : Option Files → List ℕ → List ℕ → Option Files
stored None name bytes = None
stored (Some files) name bytes = Some (insert files name bytes)

-- every file but this one is as before
abbrev pub OthersStay : Option Files → List ℕ → Option Files → Type 0
OthersStay None name None = Unit {0}
OthersStay (Some old) name (Some new) = (other : List ℕ) → other ≢ name → get new other ≡ get old other
OthersStay None name (Some new) = ⊥
OthersStay (Some old) name None = ⊥

-- the writing of a whole file; after a fault the other files stand
abbrev pub StoresFile : {T E : Type 0} → Result T E → Option Files → List ℕ → List ℕ → Option Files → Type 0
StoresFile (Ok _) old name bytes new = new ≡ stored old name bytes
StoresFile (Err _) old name bytes new = OthersStay old name new
