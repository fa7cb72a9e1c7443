use Rattle.std.proofs.Common.{◌≡◌, [], ◌++◌, length}
use Rattle.std.specs.Prelude.{All}
use Rattle.command_line.specs.Seen.{seen_files}
use Rattle.cue_scripts.specs.Written.{IsWritten}
use Rattle.run_commands.specs.declared.recording.Recording.{Recording}
use Rattle.run_commands.specs.lemmas.Recordings.{parts_of}
use Rattle.run_commands.proofs.ScriptLemmas.{recorded_parts}
use Rattle.run_commands.proofs.scripts.begun.Given as goal

abbrev pub invariant-loop-first : goal.invariant-loop-first
invariant-loop-first l = record {
  partitions : recorded_parts l.recordings.items ++ parts_of (seen_files l.rest) ≡ parts_of (seen_files l.fn.scripts);
  empty : All (λ (recording : Recording). IsWritten [] recording.writer) l.recordings.items;
}

abbrev pub decreases-loop-first : goal.decreases-loop-first
decreases-loop-first l = length (seen_files l.rest)
