-- A store in memory: its files, what it is to fail at, and what it counted.
use Rattle.std.specs.Prelude.{◌≡◌, ℕ, List, map, None, String, Vec}
use Rattle.std.specs.Coded.{Coded, coded_ℕ, coded_list}
use Rattle.std.specs.FinMap.{code, get, from_entries}
use Rattle.std.specs.List.{Contains}
use Rattle.std.specs.String.{string_bytes}
use Rattle.xm_outside.specs.Files.{Files}

-- the files, the calls that are to fail, and the counts
pub record StoreState : Type 0 where
  pub files : Files
  pub fails : List ℕ
  pub calls : ℕ
  pub read_faults : ℕ
  pub write_faults : ℕ
  pub starved : ℕ

-- files as data
abbrev pub files_code : Coded Files
files_code = code (coded_list coded_ℕ) (coded_list coded_ℕ)

-- a file as its name and its bytes
abbrev pub file_of : {A B : Type 0} → String A × Vec ℕ B → List ℕ × List ℕ
file_of entry = (string_bytes entry.0, entry.1.items)

-- the files that a table of them has
abbrev pub files_of : {A B : Type 0} → List (String A × Vec ℕ B) → Files
files_of entries = from_entries (map file_of entries)

-- the next call isn't to fail, and no file has the name
abbrev pub IsMissing : StoreState → List ℕ → Type 0
IsMissing store name = (¬ Contains store.fails store.calls) × (get store.files name ≡ None)
