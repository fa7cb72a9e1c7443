-- For proofs and private clauses: the calls on traces and on the health log: numbers 24 to 29.
use Rattle.std.specs.Prelude.{ℕ, List}
use Rattle.xm_traces.specs.Ring.{Kept}
use Rattle.machine_model.specs.Caller.{Caller, Served}
use Rattle.machine_model.specs.Calls.{counts_read, entry_read}
use Rattle.machine_model.specs.Effects.{performed}

-- an entry of this many bytes is read to c
abbrev pub reading : {T : Type 0} → ℕ → (T → List ℕ) → Kept T → Caller → Served
reading size bytes kept caller = performed (entry_read size bytes kept caller) caller

-- the counts of a log are read to b
abbrev pub counting : {T : Type 0} → Kept T → Caller → Served
counting kept caller = performed (counts_read kept caller) caller
