use Rattle.std.proofs.Common.{◌≡◌, ℕ, List, map}
use Rattle.std.specs.Prelude.{All}
use Rattle.std.specs.Vec.Iter.{into_iter_items}
use Rattle.command_line.specs.Seen.{seen_files}
use Rattle.file_commands.specs.Outcome.{scripts_for}
use Rattle.machine_model.specs.Machine.{start}
use Rattle.upset_model.specs.Places.{schedule_of}
use Rattle.upset_model.specs.declared.upset_line.UpsetLine.{UpsetLine}
use Rattle.machine_model.specs.View.{System}
use Rattle.run_commands.specs.lemmas.Recordings.{IsRecorded, parts_of}
use Rattle.run_commands.specs.lemmas.Made.{made_output}
use Rattle.run_commands.proofs.ScriptLemmas.{recorded_parts, scripts_before}
use Rattle.run_commands.proofs.scripts.finish_all.Given as goal

abbrev pub invariant-loop-recording : goal.invariant-loop-recording
invariant-loop-recording l = record {
  partitions : recorded_parts (into_iter_items l.recording-iterator) ≡ parts_of (seen_files l.rest);
  recorded : (upsets : List UpsetLine) (system : System) (ticks : ℕ) → All (IsRecorded (schedule_of upsets) (start system) ticks) l.fn.recordings.items → All (IsRecorded (schedule_of upsets) (start system) ticks) (into_iter_items l.recording-iterator);
  goes : (upsets : List UpsetLine) (system : System) (ticks : ℕ) → All (IsRecorded (schedule_of upsets) (start system) ticks) l.fn.recordings.items
      → scripts_for upsets system ticks (seen_files l.fn.scripts) ≡ scripts_before (map made_output l.made.items) (scripts_for upsets system ticks (seen_files l.rest));
}
