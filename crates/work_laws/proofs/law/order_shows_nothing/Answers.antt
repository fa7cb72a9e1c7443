use Rattle.work_laws.proofs.OrderLemmas as lemmas
use Rattle.work_laws.proofs.law.order_shows_nothing.Goals as goal

pub returns : goal.returns
returns c =
    let tick = lemmas.order_shows_nothing c.one_tick.ensures.law c.never_upon_itself.ensures.law in
    record { tick = tick; runs = lemmas.report_shows_nothing tick }
