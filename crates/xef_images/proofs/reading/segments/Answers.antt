use Rattle.std.proofs.lemmas.Result.{err_from_is_err_and}
use Rattle.xef_images.specs.Reading.{segments_at}
use Rattle.xef_images.proofs.Fronts.{segments_on, segments_fail, segments_done}
use Rattle.xef_images.proofs.reading.segments.Goals as goal

pub returns-in_err-segment : goal.returns-in_err-segment
returns-in_err-segment c =
    let p = err_from_is_err_and c.from_residual.result c.from_residual.ensures.1 in
    rw (p.1, p.2) (segments_fail c.in_err-segment.field-0.0 c.loop-row.segments.items c.args.rows.now c.loop-row.row-index _ c.loop-row.cursor (segments_at c.args.rows.now c.args.cursor.now) c.loop-row-test.true c.in_err-segment.ensures c.loop-row.invariant)

pub loop-row-preserved : goal.loop-row-preserved
loop-row-preserved c =
    rw c.in_ok-push.ensures.items
    (segments_on c.loop-row.segments.items c.args.rows.now c.loop-row.row-index _ c.loop-row.cursor c.in_ok-segment.segment c.segment.new.cursor (segments_at c.args.rows.now c.args.cursor.now) c.loop-row-test.true c.in_ok-segment.ensures c.loop-row.invariant)

pub returns : goal.returns
returns c = segments_done c.loop-row.segments.items c.args.rows.now c.loop-row.row-index c.loop-row.cursor (segments_at c.args.rows.now c.args.cursor.now) c.loop-row-test.false c.loop-row.invariant
