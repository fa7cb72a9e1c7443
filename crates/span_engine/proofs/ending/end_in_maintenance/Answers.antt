use Rattle.std.proofs.Common.{rules, ◌≡◌, List, ◌++◌, sym, ap, ◌∙◌}
use Rattle.xm_report.specs.Report.{ReportLine}
use Rattle.cyclic_plans.specs.PlanClock.{in_maintenance}
use Rattle.machine_model.specs.Lines.{plan_lines}
use Rattle.span_engine.proofs.EndLemmas.{maintenance_ending}
use Rattle.span_engine.proofs.ending.end_in_maintenance.Goals as goal

pub returns-clause-lines : goal.returns-clause-lines
returns-clause-lines c =
    let emitted : c.put_plan.new.lines ≡ c.args.lines.now ++ plan_lines c.args.sys.now.machine.ticks c.args.sys.now.machine.clock.plan (in_maintenance c.args.sys.now.machine.time).plan = search rules in
    emitted ∙ ap (λ (emitted : List ReportLine). c.args.lines.now ++ emitted) (sym (maintenance_ending c.args.sys.now.machine))
