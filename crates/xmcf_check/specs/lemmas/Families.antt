-- The entries that stand within an entry: those after it up to the first whose parent stands before it.
use Rattle.std.specs.Prelude.{ℕ, ◌+◌, nat_le, List, Option, None, Some, drop, take_while}
use Rattle.xmcf_reader.specs.declared.draft.Element.{Element}
use Rattle.xmcf_reader.specs.declared.draft.Entry.{Entry}

-- the entries within the entry of a number
unfoldable pub within : ℕ → List Entry → List Entry
within number entries = take_while (λ entry. nat_le number entry.parent) (drop (number + 1) entries)

-- what the element of an entry adds, where there is such an entry
abbrev pub picked : {X : Type 0} → (Element → Option X) → Option Entry → Option X
picked pick None = None
picked pick (Some entry) = pick entry.what
