use Rattle.std.proofs.Common.{List, ◌++◌, sym, ap, ◌∙◌}
use Rattle.system_state.specs.State.{SysState}
use Rattle.xm_report.specs.Report.{ReportLine}
use Rattle.span_model.specs.Spans.{plan_line}
use Rattle.span_engine.proofs.EndLemmas.{span_ending}
use Rattle.span_engine.proofs.ending.end_plainly.Goals as goal

pub returns-clause-lines : goal.returns-clause-lines
returns-clause-lines c =
    c.end_ticks.ensures.lines ∙ ap (λ (s : SysState). c.args.lines.now ++ plan_line 0 s.machine) c.rest.ensures
    ∙ ap (λ (emitted : List ReportLine). c.args.lines.now ++ emitted) (sym (span_ending c.args.sys.now.machine))
