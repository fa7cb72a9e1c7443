use Rattle.std.proofs.Common.{Ok, Err, refl}
use Rattle.machine_model.specs.Caller.{answering}
use Rattle.control_calls.proofs.ProcessorLemmas.{flush_answered, undone_changed}
use Rattle.system_state.specs.lemmas.ServedLemmas.{served_changed}
use Rattle.system_state.specs.State.{areas_in, part_at}
use Rattle.system_state.specs.Stepping.{after_flush, flushed_in}
use Rattle.control_calls.proofs.processor_calls.flush_regwin.Goals as goal

pub returns-in-Ok : goal.returns-in-Ok
returns-in-Ok c =
    let old = c.args.sys.now in
    let ps = part_at c.args.site.part old.machine in
    flush_answered c.args.site old c.answer.new.sys c.answer.result (Ok tt) c.in-Ok.ensures.answer
    (served_changed c.args.site old c.flush_in.new.self c.answer.new.sys (after_flush (flushed_in (areas_in c.args.site.part old.machine) ps) ps) c.answer.result (answering 0) refl refl c.requires.caller c.flush_in.ensures.value c.answer.ensures)

pub returns-in-Err : goal.returns-in-Err
returns-in-Err c =
    let old = c.args.sys.now in
    let ps = part_at c.args.site.part old.machine in
    flush_answered c.args.site old c.undo.new.sys c.undo.result (Err c.in-Err.field-0) c.in-Err.ensures.answer
    (undone_changed c.args.site old c.flush_in.new.self c.undo.new.sys (after_flush (flushed_in (areas_in c.args.site.part old.machine) ps) ps) c.undo.result c.requires.caller c.flush_in.ensures.value c.undo.ensures)
