use Rattle.flow_laws.proofs.PlannedLemmas as lemmas
use Rattle.flow_laws.proofs.law.slots_as_planned.Goals as goal

pub returns : goal.returns
returns c =
    let rights = c.acts_by_right.ensures.law in
    let numbers = c.keeps_numbers.ensures.ticks in
    let boots = c.keeps_plans.ensures.boots in
    record {
      law = lemmas.slots_as_planned rights numbers boots c.goes_as_planned.ensures.law;
      needs = lemmas.needs_are_served rights numbers boots c.serves_needs.ensures.law;
    }
