use Rattle.std.proofs.Common.{◌<◌, ◌+◌, ◌∙◌, arith, drop, length, map, subst}
use Rattle.std.proofs.lemmas.Result.{err_from_is_err_and}
use Rattle.xm_report.specs.Report.{ReportLine, line_value}
use Rattle.xm_report.specs.declared.line.Line.TheVariants.{System}
use Rattle.std.specs.Prelude.{List, slice_index_or}
use Rattle.xm_machine.proofs.OutLemmas.{AreOut, more_out, next_line, out_cut, short_line}
use Rattle.xm_machine.proofs.report.put_all.Goals as goal

pub put_line-requires : goal.put_line-requires
put_line-requires g c =
    short_line c.args.lines.now c.loop-line.line-index (System 0 0 0) c.requires.short (omega (arith, c.loop-line-test.true, c.loop-line.auto.line-index-end))

pub returns-in_err-put_line-clause-printed : goal.returns-in_err-put_line-clause-printed
returns-in_err-put_line-clause-printed g c =
    let p = err_from_is_err_and c.from_residual.result c.from_residual.ensures.1 in
    let below : c.loop-line.line-index < length c.args.lines.now = omega (arith, c.loop-line-test.true, c.loop-line.auto.line-index-end) in
    let next = subst (λ (rest : List ReportLine). AreOut (map line_value c.args.lines.now) rest c.loop-line.count (g.O.Sink.got c.args.out.now) (g.O.Sink.got c.loop-line.out))
    (next_line c.args.lines.now c.loop-line.line-index (System 0 0 0) below) c.loop-line.invariant.out in
    rw (p.1) (out_cut (map line_value c.args.lines.now) (map line_value (drop (c.loop-line.line-index + 1) c.args.lines.now)) (line_value (slice_index_or c.args.lines.now c.loop-line.line-index (System 0 0 0)))
    c.loop-line.count (g.O.Sink.got c.args.out.now) (g.O.Sink.got c.loop-line.out) (g.O.Sink.got c.put_line.new.out) next c.in_err-put_line.ensures.got)

pub loop-line-preserved : goal.loop-line-preserved
loop-line-preserved g c =
    let below : c.loop-line.line-index < length c.args.lines.now = omega (arith, c.loop-line-test.true, c.loop-line.auto.line-index-end) in
    let next = subst (λ (rest : List ReportLine). AreOut (map line_value c.args.lines.now) rest c.loop-line.count (g.O.Sink.got c.args.out.now) (g.O.Sink.got c.loop-line.out))
    (next_line c.args.lines.now c.loop-line.line-index (System 0 0 0) below) c.loop-line.invariant.out in
    record {
      out = more_out (map line_value c.args.lines.now) (map line_value (drop (c.loop-line.line-index + 1) c.args.lines.now)) (line_value (slice_index_or c.args.lines.now c.loop-line.line-index (System 0 0 0)))
          c.loop-line.count (g.O.Sink.got c.args.out.now) (g.O.Sink.got c.loop-line.out) (g.O.Sink.got c.put_line.new.out) next c.in_ok-put_line.ensures.got;
      count = omega (arith, c.loop-line.invariant.count);
      faults = c.in_ok-put_line.ensures.cause ∙ c.loop-line.invariant.faults;
    }
