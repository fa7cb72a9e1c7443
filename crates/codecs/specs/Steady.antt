-- Where the first fault lies: what is read, and which fault is found, follows from the bytes up to it, whatever stands after them; only a field
-- that passes the end is short.
use Rattle.std.specs.Prelude.{◌≡◌, ℕ, ◌≤◌, ◌⊎◌, List, ◌++◌, length, Result, Ok, Err}
use Rattle.xm_base.specs.Cursor.{Place}

-- more bytes after those of a cursor
abbrev pub with_more : Place → List ℕ → Place
with_more place more = record { bytes = place.bytes ++ more; at = place.at }

-- a cursor that is not past its bytes
abbrev pub IsNotPast : Place → Type 0
IsNotPast place = place.at ≤ length place.bytes

-- what a read of more bytes answers, where the read of the bytes answered so: the same value, and the place after it is among the bytes; or the
-- same fault, unless the bytes were short at a place among them
abbrev pub AnswersAlike : {F X : Type 0} → (ℕ → F) → Place → List ℕ → Result (X × Place) F → Result (X × Place) F → Type 0
AnswersAlike short place more (Ok x) answer = (answer ≡ Ok (x.0, with_more x.1 more)) × IsNotPast x.1 × (place.at ≤ x.1.at) × (x.1.bytes ≡ place.bytes)
AnswersAlike short place more (Err fault) answer = (answer ≡ Err fault) ⊎ ((at : ℕ) × (fault ≡ short at) × (place.at ≤ at) × (at ≤ length place.bytes))

-- a read answers so wherever it begins, and whatever the more bytes are
abbrev pub IsSteady : {F X : Type 0} → (ℕ → F) → (Place → Result (X × Place) F) → Type 0
IsSteady short read = (place : Place) (more : List ℕ) → IsNotPast place → AnswersAlike short place more (read place) (read (with_more place more))
