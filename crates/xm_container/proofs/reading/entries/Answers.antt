use Rattle.std.proofs.Common.{refl}
use Rattle.std.proofs.lemmas.Result.{err_from_is_err_and}
use Rattle.xm_container.specs.Entries.{Entries}
use Rattle.xm_container.specs.Reading.{image_entries_at}
use Rattle.xm_container.proofs.Fronts.{entries_pushed, entries_fail, entries_done, rise_of}
use Rattle.xm_container.proofs.reading.entries.Goals as goal

pub returns-in_err-id-clause-exact : goal.returns-in_err-id-clause-exact
returns-in_err-id-clause-exact c =
    let p = err_from_is_err_and c.from_residual.result c.from_residual.ensures.1 in
    rw (p.1, p.2) (entries_fail c.in_err-id.field-0.0 c.loop.ids.items c.loop.images.items c.args.count c.loop.counter c.loop.floor c.loop.cursor (image_entries_at c.args.count 0 c.args.cursor.now) c.loop-test.true c.in_err-id.ensures c.loop.invariant)

pub loop-preserved : goal.loop-preserved
loop-preserved c =
    entries_pushed c.loop.ids.items _ c.loop.images.items _ c.args.count c.loop.counter c.loop.floor c.from-floor.result c.in_ok-id.field-0.id c.in_ok-id.field-0.xef c.loop.cursor c.in_ok-id.field-0 c.entry.new.cursor (image_entries_at c.args.count 0 c.args.cursor.now)
    c.loop-test.true c.in_ok-id.ensures refl refl c.in_ok-push.ensures.items c.in_ok-push-2.ensures.items c.from-floor.ensures c.loop.invariant

pub returns-clause-exact : goal.returns-clause-exact
returns-clause-exact c = entries_done c.loop.ids.items c.loop.images.items c.args.count c.loop.counter c.loop.floor c.loop.cursor (image_entries_at c.args.count 0 c.args.cursor.now) c.loop-test.false c.loop.invariant

pub returns-clause-entries : goal.returns-clause-entries
returns-clause-entries c =
    let entries : Entries = record { ids = c.loop.ids.items; images = c.loop.images.items } in
    let risen = rise_of c.args.count 0 c.args.cursor.now entries c.loop.cursor (returns-clause-exact c) in
    record { rise = risen.0; counted = risen.1 }
