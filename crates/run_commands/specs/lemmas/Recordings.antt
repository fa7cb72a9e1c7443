-- For proofs and private clauses: what is recorded of what partitions receive.
use Rattle.std.specs.Prelude.{◌≡◌, ℕ, ◌+◌, ◌<◌, List, [], ◌∷◌, ◌++◌, length}
use Rattle.std.specs.List.{AllByRecursion}
use Rattle.machine_model.specs.Machine.{Machine}
use Rattle.upset_model.specs.Upsets.{Schedule, upset_script}
use Rattle.command_line.specs.Words.{PartFile}
use Rattle.cue_scripts.specs.Written.{IsWritten}
use Rattle.recording_model.specs.Receiving.{HasNumbers}
use Rattle.run_commands.specs.declared.recording.Recording.{Recording}
use Rattle.xm_machine.specs.Cues.{last_received}
use Rattle.xm_machine.specs.Machine.{Meaning}
use Rattle.xm_machine.specs.Spans.{span_cues}

-- what the partition of a recording receives in this many ticks of a machine with upsets is written in it, and its numbers are those of a memory
-- and of a register
pub record IsRecorded (s : Schedule) (g : Machine) (ticks : ℕ) (recording : Recording) : Type 0 where
  pub written : IsWritten (upset_script s g recording.p ticks) recording.writer
  pub numbers : AllByRecursion HasNumbers (upset_script s g recording.p ticks)

-- what each partition receives in these ticks after the first of a machine with upsets, by what it received in the last of them
abbrev pub ReceivesMore : Schedule → Machine → ℕ → ℕ → Meaning → Type 0
ReceivesMore s g done ticks new =
    (p : ℕ) → p < length new.state.parts → upset_script s g p (done + ticks) ≡ upset_script s g p done ++ span_cues ticks (last_received new p)

-- the partitions of scripts that options name, in their order
abbrev pub parts_of : List PartFile → List ℕ
parts_of [] = []
parts_of (named ∷ scripts) = named.part ∷ parts_of scripts
