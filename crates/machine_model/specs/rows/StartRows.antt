-- Rows on systems that are started: a partition alone writes to its console and halts, and two begin with their input words.
use Rattle.std.specs.Prelude.{◌≡◌, ℕ, false, List, [], ◌∷◌, codes, map}
use Rattle.xm_base.specs.declared.partition.State.TheVariants.{Ready, Halted}
use Rattle.xm_report.specs.Report.{SystemLine, ConsoleLine, MovedLine, EndPart, EndWhole}
use Rattle.xm_report.specs.declared.line.Move.TheVariants as move
use Rattle.machine_model.specs.Lines.{report}
use Rattle.machine_model.specs.Machine.{start}
use Rattle.machine_model.specs.rows.Rows.{Prints, entered_at, small_conf, image, plain_part, program, slot}
use Rattle.machine_model.specs.rows.SlotRows.{in_turns}
use Rattle.machine_model.specs.View.{System}

-- a program that writes the two bytes after its words, `hi`, to the console, and halts
abbrev pub hi_bytes : List ℕ
hi_bytes = program (0x13100000 ∷ 0x92126020 ∷ 0x94102002 ∷ 0x90102020 ∷ 0x91d02070 ∷ 0x90102002 ∷ 0x92102000 ∷ 0x91d02070 ∷ []) (codes "hi")

-- the system of one partition with this program
abbrev pub hi : System
hi = record {
  conf = small_conf (record { frame = 1000; slots = slot 0 1000 0 ∷ [] } ∷ []) (plain_part 0x40000000 34 ∷ []) [];
  images = image 0x40000000 hi_bytes ∷ [];
  inputs = [] ∷ [];
}

-- a system of two partitions, each with an input word of its own
abbrev pub two_with_inputs : System
two_with_inputs = record {
  conf = in_turns;
  images = entered_at (0x40000000 ∷ 0x40000100 ∷ []);
  inputs = (1 ∷ []) ∷ (2 ∷ []) ∷ [];
}

-- each partition begins with the input words that are its own
abbrev pub BeginsWithInputs : Type 0
BeginsWithInputs = map (λ ps. ps.inputs) (start two_with_inputs).parts ≡ (1 ∷ []) ∷ (2 ∷ []) ∷ []

-- the report of no tick: its first line has the two partitions and the one plan
abbrev pub ReportsTwo : Type 0
ReportsTwo = report two_with_inputs 0
    ≡ SystemLine 2 1 0 ∷ EndPart 0 Ready 0 0 0x40000000 ∷ EndPart 1 Ready 0 0 0x40000100 ∷ EndWhole false 0 0 0 ∷ []

-- no tick does nothing: the partition is ready at its entry
abbrev pub BeginsAtEntry : Type 0
BeginsAtEntry = Prints (start hi) 0 (EndPart 0 Ready 0 0 0x40000000 ∷ EndWhole false 0 0 0 ∷ [])

-- the console has `hi` in the fifth tick, and the partition halts in the eighth, after its last word
abbrev pub HaltsAfterHi : Type 0
HaltsAfterHi = Prints (start hi) 8
    (ConsoleLine 4 0 (codes "hi") ∷ MovedLine 7 0 move.Halt ∷ EndPart 0 Halted 0 8 0x40000020 ∷ EndWhole false 0 8 8 ∷ [])

-- the ticks that follow print nothing, and leave the partition as it is
abbrev pub StaysHalted : Type 0
StaysHalted = Prints (start hi) 100
    (ConsoleLine 4 0 (codes "hi") ∷ MovedLine 7 0 move.Halt ∷ EndPart 0 Halted 0 8 0x40000020 ∷ EndWhole false 0 100 100 ∷ [])

-- the whole report
abbrev pub ReportsHi : Type 0
ReportsHi = report hi 100
    ≡ SystemLine 1 1 100 ∷ ConsoleLine 4 0 (codes "hi") ∷ MovedLine 7 0 move.Halt ∷ EndPart 0 Halted 0 8 0x40000020 ∷ EndWhole false 0 100 100 ∷ []
