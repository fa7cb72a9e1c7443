use Rattle.std.proofs.Common.{◌≡◌, ap, length, subst, sym, ◌∙◌}
use Rattle.std.specs.Prelude.{All}
use Rattle.std.proofs.lemmas.List.{with_items_is}
use Rattle.std.specs.Vec.{with_items}
use Rattle.command_line.specs.Seen.{seen_files}
use Rattle.continuation_laws.specs.Onward.{coming}
use Rattle.upset_model.specs.Places.{upsets_of}
use Rattle.run_commands.specs.lemmas.Recordings.{IsRecorded, parts_of}
use Rattle.run_commands.proofs.ScriptLemmas.{all_inside, as_many, recorded_parts}
use Rattle.run_commands.proofs.scripts.record_all.Goals as goal

pub record-requires-clause-inside : goal.record-requires-clause-inside
record-requires-clause-inside c =
    let names = seen_files c.args.scripts in
    let same : recorded_parts c.deref_mut.result.now ≡ parts_of names = ap recorded_parts c.deref_mut.ensures.value ∙ c.in_ok-recordings.ensures.partitions in
    all_inside (length c.args.machine.now.state.system.conf.parts) c.deref_mut.result.now names same c.requires.inside

pub returns-clause-recorded : goal.returns-clause-recorded
returns-clause-recorded c =
    let whole : (with_items c.in_ok-recordings.recordings c.record.new.recordings).items ≡ c.record.new.recordings =
    with_items_is c.in_ok-recordings.recordings c.record.new.recordings (as_many c.deref_mut.result.now c.record.new.recordings c.in_ok-record.ensures.partitions ∙ c.deref_mut.ensures.len) in
    subst (All (IsRecorded (upsets_of (coming c.args.upsets.now c.args.machine.now.state)) c.args.machine.now.state c.args.ticks)) (sym whole) c.in_ok-record.ensures.recorded
