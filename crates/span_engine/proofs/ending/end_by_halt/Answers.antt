use Rattle.std.proofs.Common.{ℕ, List, [], ◌∷◌, ◌++◌, sym, ap, ◌∙◌}
use Rattle.xm_report.specs.Report.{ReportLine, WholeLine}
use Rattle.xm_report.specs.declared.line.Move.TheVariants as move
use Rattle.span_engine.proofs.EndLemmas.{halt_ending}
use Rattle.span_engine.proofs.ending.end_by_halt.Goals as goal

pub returns-clause-lines : goal.returns-clause-lines
returns-clause-lines c =
    c.push.ensures.value ∙ ap (λ (n : ℕ). c.args.lines.now ++ WholeLine n move.Halt ∷ []) c.ticks.ensures.value
    ∙ ap (λ (emitted : List ReportLine). c.args.lines.now ++ emitted) (sym (halt_ending c.args.sys.now.machine))
