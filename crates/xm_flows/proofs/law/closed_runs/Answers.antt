use Rattle.xm_flows.specs.Laws.{ClosedRunsAlike, NoneSteers}
use Rattle.xm_flows.specs.lemmas.CalmLemmas.{none_steers}
use Rattle.xm_flows.proofs.RunLemmas.{closed_runs, unsteered_runs}
use Rattle.xm_flows.proofs.law.closed_runs.Goals as goal

pub returns : goal.returns
returns c =
    let law : ClosedRunsAlike =
    closed_runs c.one_tick.ensures.law c.all_ticks.ensures.law c.boots_alone.ensures.law c.acts_by_right.ensures.law c.sees_nothing.ensures.law c.keeps_numbers.ensures.ticks
    c.keeps_numbers.ensures.runs
    in
    let none : NoneSteers = none_steers c.acts_by_right.ensures.law c.keeps_numbers.ensures.ticks in
    record { law = law; none = none; unsteered = unsteered_runs law none }
