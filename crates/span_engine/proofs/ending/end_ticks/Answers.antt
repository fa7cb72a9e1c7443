use Rattle.std.proofs.Common.{ℕ, ◌+◌, ◌-◌, List, [], ◌∷◌, ◌++◌, None, Some, sym, ap, ◌∙◌}
use Rattle.std.proofs.lemmas.List.{append-nil}
use Rattle.xm_report.specs.Report.{PlanLine, ReportLine}
use Rattle.span_engine.proofs.EndLemmas.{span_line}
use Rattle.span_engine.proofs.ending.end_ticks.Goals as goal

pub returns-in-Some-clause-lines : goal.returns-in-Some-clause-lines
returns-in-Some-clause-lines c =
    c.push.ensures.value
    ∙ ap (λ (n : ℕ). c.args.lines.now ++ PlanLine (n + c.args.ticks - 1) c.in-Some.plan ∷ []) c.ticks.ensures.value
    ∙ ap (λ (emitted : List ReportLine). c.args.lines.now ++ emitted) (sym (span_line c.args.sys.now.machine c.args.ticks (Some c.in-Some.plan) c.requires.some c.in-Some.ensures.plan))

pub returns-in_default-clause-lines : goal.returns-in_default-clause-lines
returns-in_default-clause-lines c =
    sym (append-nil c.args.lines.now)
    ∙ ap (λ (emitted : List ReportLine). c.args.lines.now ++ emitted) (sym (span_line c.args.sys.now.machine c.args.ticks None c.requires.some c.in_default.ensures.plan))
