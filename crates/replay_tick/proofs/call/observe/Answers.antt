use Rattle.std.proofs.Common.{sym, ◌∙◌}
use Rattle.tick_steps.specs.CueValues.{sight_value}
use Rattle.replay_tick.proofs.LoneCallLemmas.{shown_few, shows_done, shows_not}
use Rattle.replay_tick.proofs.call.observe.Goals as goal

pub count_tick-requires-clause-clock : goal.count_tick-requires-clause-clock
count_tick-requires-clause-clock c = shown_few c.args.site c.args.asked (sight_value c.args.seen) c.args.sys.now c.show.new.sys c.requires.take c.show.ensures

pub returns-then-shows_this : goal.returns-then-shows_this
returns-then-shows_this c =
    rw c.silent.ensures (shows_done c.observes_as_tested.ensures.tested c.args.site c.args.asked (sight_value c.args.seen) c.args.sys.now c.show.new.sys c.count_tick.new.sys
    c.requires.take.partition c.requires.asked (sym c.shows_this.ensures ∙ c.if-shows_this.true) c.show.ensures c.count_tick.ensures.value)

pub returns-else-shows_this : goal.returns-else-shows_this
returns-else-shows_this c =
    shows_not c.args.site c.args.asked (sight_value c.args.seen) c.args.sys.now c.requires.asked (sym c.shows_this.ensures ∙ c.if-shows_this.false)
