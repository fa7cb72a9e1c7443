use Rattle.std.proofs.lemmas.Result.{err_from_is_err_and}
use Rattle.xef_images.specs.Reading.{rows_at}
use Rattle.xef_images.proofs.Fronts.{rows_on, rows_fail, rows_done}
use Rattle.xef_images.proofs.reading.rows.Goals as goal

pub returns-in_err-row : goal.returns-in_err-row
returns-in_err-row c =
    let p = err_from_is_err_and c.from_residual.result c.from_residual.ensures.1 in
    rw (p.1, p.2) (rows_fail c.in_err-row.field-0.0 c.loop.rows.items c.args.count c.loop.counter c.loop.floor c.loop.cursor (rows_at c.args.count 0 c.args.cursor.now) c.loop-test.true c.in_err-row.ensures c.loop.invariant)

pub loop-preserved : goal.loop-preserved
loop-preserved c =
    rw (c.in_ok-push.ensures.items, c.end-floor.ensures)
    (rows_on c.loop.rows.items c.args.count c.loop.counter c.loop.floor c.loop.cursor c.in_ok-row.row c.row.new.cursor (rows_at c.args.count 0 c.args.cursor.now) c.loop-test.true c.in_ok-row.ensures c.loop.invariant)

pub returns : goal.returns
returns c = rows_done c.loop.rows.items c.args.count c.loop.counter c.loop.floor c.loop.cursor (rows_at c.args.count 0 c.args.cursor.now) c.loop-test.false c.loop.invariant
