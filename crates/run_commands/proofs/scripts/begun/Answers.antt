use Rattle.std.proofs.Common.{[], subst, sym}
use Rattle.std.specs.Prelude.{All}
use Rattle.std.proofs.lemmas.List.Elements.{All-nil, All-push}
use Rattle.command_line.specs.Seen.{seen_file, seen_files}
use Rattle.cue_scripts.specs.Written.{IsWritten}
use Rattle.run_commands.specs.declared.recording.Recording.{Recording}
use Rattle.run_commands.proofs.ScriptLemmas.{all_begun, none_begun, one_begun}
use Rattle.run_commands.proofs.scripts.begun.Goals as goal

-- nothing is recorded yet
abbrev IsEmpty : Recording → Type 0
IsEmpty recording = IsWritten [] recording.writer

pub loop-first-init : goal.loop-first-init
loop-first-init c = record {
  partitions = none_begun _ (seen_files c.args.scripts) c.new-recordings.ensures.items;
  empty = subst (All IsEmpty) (sym c.new-recordings.ensures.items) (All-nil IsEmpty);
}

pub loop-first-preserved : goal.loop-first-preserved
loop-first-preserved c = record {
  partitions = one_begun c.loop-first.recordings.items _ c.new.result (seen_files c.args.scripts) _ _ (seen_file c.in-Some.first) c.in-Some.ensures.value c.new.ensures.partition c.in_ok-push.ensures.items
      c.loop-first.invariant.partitions;
  empty = subst (All IsEmpty) (sym c.in_ok-push.ensures.items) (All-push IsEmpty c.loop-first.recordings.items c.new.result c.loop-first.invariant.empty c.new.ensures.written);
}

pub returns-clause-partitions : goal.returns-clause-partitions
returns-clause-partitions c = all_begun c.loop-first.recordings.items (seen_files c.args.scripts) _ c.in_default.ensures.value c.loop-first.invariant.partitions
