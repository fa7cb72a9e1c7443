-- The answer of a reading.
use Rattle.std.specs.Prelude.{◌≡◌, List, [], Result, Ok, Err}
use Rattle.xmcf_reader.specs.lemmas.FaultsTerms.{IsFirst}
use Rattle.xmcf_reader.specs.declared.draft.Entry.{Entry}
use Rattle.xmcf_reader.specs.declared.fault.ReadFault.{ReadFault}

-- a reading answers the draft where there is no fault, else the first fault; out of memory may always be the answer
abbrev pub IsReadingOf : Result (List Entry) ReadFault → List ReadFault → List Entry → Type 0
IsReadingOf (Ok draft) faults expected = (faults ≡ []) × (draft ≡ expected)
IsReadingOf (Err found) faults expected = IsFirst found faults
