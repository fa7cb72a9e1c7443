use Rattle.std.proofs.Common.{◌<◌, ◌+◌, ◌∙◌, List, arith, drop, length, map, subst, ap}
use Rattle.std.proofs.lemmas.Result.{err_from_is_err_and}
use Rattle.std.specs.Prelude.{slice_index_or}
use Rattle.xm_report.specs.Report.{ReportLine}
use Rattle.upset_model.specs.Reports.{struck_line}
use Rattle.xm_machine.proofs.OutLemmas.{AreOut, more_out, out_cut}
use Rattle.xm_machine.proofs.UpsetLemmas.{next_upset, some_upset}
use Rattle.xm_machine.proofs.upset.put_struck.Goals as goal

pub returns-in_err-put_line-clause-printed : goal.returns-in_err-put_line-clause-printed
returns-in_err-put_line-clause-printed g c =
    let p = err_from_is_err_and c.from_residual.result c.from_residual.ensures.1 in
    let cut = rw c.struck_line.ensures at c.in_err-put_line.ensures.got in
    let below : c.loop-line.line-index < length c.args.lines.now = omega (arith, c.loop-line-test.true, c.loop-line.auto.line-index-end) in
    let next = subst (λ (rest : List ReportLine). AreOut (map struck_line c.args.lines.now) rest c.loop-line.count (g.O.Sink.got c.args.out.now) (g.O.Sink.got c.loop-line.out))
    (ap (map struck_line) (next_upset c.args.lines.now c.loop-line.line-index some_upset below)) c.loop-line.invariant.out in
    rw (p.1) (out_cut (map struck_line c.args.lines.now) (map struck_line (drop (c.loop-line.line-index + 1) c.args.lines.now)) (struck_line (slice_index_or c.args.lines.now c.loop-line.line-index some_upset))
    c.loop-line.count (g.O.Sink.got c.args.out.now) (g.O.Sink.got c.loop-line.out) (g.O.Sink.got c.put_line.new.out) next cut)

pub loop-line-preserved : goal.loop-line-preserved
loop-line-preserved g c =
    let put = rw c.struck_line.ensures at c.in_ok-put_line.ensures.got in
    let below : c.loop-line.line-index < length c.args.lines.now = omega (arith, c.loop-line-test.true, c.loop-line.auto.line-index-end) in
    let next = subst (λ (rest : List ReportLine). AreOut (map struck_line c.args.lines.now) rest c.loop-line.count (g.O.Sink.got c.args.out.now) (g.O.Sink.got c.loop-line.out))
    (ap (map struck_line) (next_upset c.args.lines.now c.loop-line.line-index some_upset below)) c.loop-line.invariant.out in
    record {
      out = more_out (map struck_line c.args.lines.now) (map struck_line (drop (c.loop-line.line-index + 1) c.args.lines.now)) (struck_line (slice_index_or c.args.lines.now c.loop-line.line-index some_upset))
          c.loop-line.count (g.O.Sink.got c.args.out.now) (g.O.Sink.got c.loop-line.out) (g.O.Sink.got c.put_line.new.out) next put;
      count = omega (arith, c.loop-line.invariant.count);
      faults = c.in_ok-put_line.ensures.cause ∙ c.loop-line.invariant.faults;
    }
