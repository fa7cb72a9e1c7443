use Rattle.std.proofs.Common.{◌≡◌, ap, arith, length, map, refl, subst, sym, ◌∙◌}
use Rattle.std.specs.Prelude.{All}
use Rattle.std.specs.Vec.Iter.{into_iter_items}
use Rattle.command_line.specs.Seen.{seen_file, seen_files}
use Rattle.file_commands.specs.EndingValues.{ending_of}
use Rattle.machine_model.specs.Machine.{start}
use Rattle.upset_model.specs.Places.{schedule_of}
use Rattle.run_commands.specs.lemmas.Recordings.{IsRecorded}
use Rattle.run_commands.specs.lemmas.Made.{made_output}
use Rattle.run_commands.proofs.ScriptLemmas.{all_made, first_recorded, next_denied, next_made, next_recording, no_recording, recorded_parts, scripts_begun}
use Rattle.run_commands.proofs.scripts.finish_all.Goals as goal

pub loop-recording-init : goal.loop-recording-init
loop-recording-init c =
    let all = c.into_iter-recording-iterator.ensures.into_iter_gives.0 in
    record {
      partitions = ap recorded_parts all ∙ c.requires;
      recorded = λ upsets system ticks have. subst (All (IsRecorded (schedule_of upsets) (start system) ticks)) (sym all) have;
      goes = λ upsets system ticks have. scripts_begun upsets system ticks (seen_files c.args.scripts) _ _ refl (ap (map made_output) c.new-made.ensures.items);
    }

pub finished-requires : goal.finished-requires
finished-requires c =
    (next_recording _ (into_iter_items c.next.new.self) c.in-Some.recording _ _ (seen_file c.in-Some-split_first.first) c.in-Some.ensures.steps.0 c.in-Some-split_first.ensures.value c.loop-recording.invariant.partitions).0

pub returns-in-Err : goal.returns-in-Err
returns-in-Err c = λ upsets system ticks have.
    let recorded = first_recorded (schedule_of upsets) (start system) ticks _ (into_iter_items c.next.new.self) c.in-Some.recording c.in-Some.ensures.steps.0 (c.loop-recording.invariant.recorded upsets system ticks have) in
    next_denied upsets system ticks (seen_files c.args.scripts) _ _ (seen_file c.in-Some-split_first.first) _ (ending_of c.in-Err.ending)
    c.in-Some-split_first.ensures.value (c.in-Err.ensures upsets system ticks recorded.0) (c.loop-recording.invariant.goes upsets system ticks have)

pub loop-recording-preserved : goal.loop-recording-preserved
loop-recording-preserved c = record {
  partitions =
      (next_recording _ (into_iter_items c.next.new.self) c.in-Some.recording _ _ (seen_file c.in-Some-split_first.first) c.in-Some.ensures.steps.0 c.in-Some-split_first.ensures.value c.loop-recording.invariant.partitions).1;
  recorded = λ upsets system ticks have.
      (first_recorded (schedule_of upsets) (start system) ticks _ (into_iter_items c.next.new.self) c.in-Some.recording c.in-Some.ensures.steps.0 (c.loop-recording.invariant.recorded upsets system ticks have)).1;
  goes = λ upsets system ticks have.
      let recorded = first_recorded (schedule_of upsets) (start system) ticks _ (into_iter_items c.next.new.self) c.in-Some.recording c.in-Some.ensures.steps.0 (c.loop-recording.invariant.recorded upsets system ticks have) in
      next_made upsets system ticks (seen_files c.args.scripts) _ _ (seen_file c.in-Some-split_first.first) _ _ (made_output c.in-Ok.script)
      c.in-Some-split_first.ensures.value (c.in-Ok.ensures upsets system ticks recorded.0) c.in-Ok-put_made.ensures (c.loop-recording.invariant.goes upsets system ticks have);
}

pub returns : goal.returns
returns c = λ upsets system ticks have.
    let none : length (into_iter_items c.loop-recording.recording-iterator) ≡ 0 = omega (arith, c.loop-recording.recording-iterator.rest.ok.0, c.in-None.ensures.steps.0) in
    all_made upsets system ticks (seen_files c.args.scripts) _ _ (no_recording (into_iter_items c.loop-recording.recording-iterator) (seen_files c.loop-recording.rest) none c.loop-recording.invariant.partitions)
    (c.loop-recording.invariant.goes upsets system ticks have)
