-- For proofs and private clauses: the faults of a text: all that the tokens and the rest break, and the least of them.
use Rattle.std.specs.Prelude.{◌≡◌, List, [], ◌∷◌, Option, Some, None, Result, Ok, Err, ◌⊎◌}
use Rattle.xmcf_reader.specs.declared.fault.ReadFault.{ReadFault}
use Rattle.xmcf_reader.specs.declared.fault.ReadFault.TheVariants as fault

-- the first of faults
abbrev pub first_of : List ReadFault → Option ReadFault
first_of [] = None
first_of (one ∷ others) = Some one

-- a fault is the first of faults; out of memory may always be the answer
abbrev pub IsFirst : ReadFault → List ReadFault → Type 0
IsFirst found [] = found ≡ fault.Memory
IsFirst found (one ∷ others) = (found ≡ fault.Memory) ⊎ (found ≡ one)

-- an answer to faults: Ok where there are none, else the first
abbrev pub Checks : {A : Type 0} → Result A ReadFault → List ReadFault → Type 0
Checks (Ok _) faults = faults ≡ []
Checks (Err one) faults = IsFirst one faults

-- an answer of what only memory can refuse: what was to come has come
abbrev pub DoesUnlessMemory : {A B : Type 0} → Result A ReadFault → B → B → Type 0
DoesUnlessMemory (Ok _) expected found = found ≡ expected
DoesUnlessMemory (Err one) expected found = one ≡ fault.Memory

-- an answer, with what was to come of it and what has come
abbrev pub AnswersFirst : {A B : Type 0} → Result A ReadFault → List ReadFault → B → B → Type 0
AnswersFirst (Ok _) faults expected found = (faults ≡ []) × (found ≡ expected)
AnswersFirst (Err one) faults expected found = IsFirst one faults
