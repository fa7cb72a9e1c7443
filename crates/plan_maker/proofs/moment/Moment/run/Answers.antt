-- The jobs that spent their ticks have room.
use Rattle.std.proofs.Common.{sym, subst}
use Rattle.plan_maker.specs.lemmas.Turns.{HaveWindowRoom, Moment}
use Rattle.plan_maker.proofs.SpentLemmas.{spent_room}
use Rattle.plan_maker.proofs.moment.Moment.run.Goals as goal

pub come-requires : goal.come-requires
come-requires c =
    subst (λ (moment : Moment). HaveWindowRoom moment.jobs) (sym c.in_ok-give.ensures)
    (spent_room c.args.due.part c.min-ticks.result c.args.self.now.jobs c.requires.room.ends)
