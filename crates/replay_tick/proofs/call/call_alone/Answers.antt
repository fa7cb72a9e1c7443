use Rattle.std.proofs.Common.{refl, sym, ◌∙◌}
use Rattle.tick_steps.specs.CueValues.{sight_value}
use Rattle.replay_tick.proofs.LoneCallLemmas.{asks_nothing, site_asks, site_calls}
use Rattle.replay_tick.proofs.LoneWorkLemmas.{lone_as, lone_silent}
use Rattle.replay_tick.proofs.call.call_alone.Goals as goal

pub observe-requires-clause-asked : goal.observe-requires-clause-asked
observe-requires-clause-asked c = sym (site_asks _ c.args.sys.now) ∙ sym c.asked_by.ensures ∙ c.in-Some.is

pub call_plain-requires-clause-unasked : goal.call_plain-requires-clause-unasked
call_plain-requires-clause-unasked c = asks_nothing _ (sym (site_asks _ c.args.sys.now) ∙ sym c.asked_by.ensures ∙ c.in-None.is)

pub returns-in-Some : goal.returns-in-Some
returns-in-Some c =
    lone_silent c.args.site.part c.observe.result _ (sight_value c.args.seen) _ c.args.sys.now c.observe.new.sys c.args.lines.now c.requires.empty
    (lone_as c.args.site.part c.observe.result _ _ (sight_value c.args.seen) _ _ c.args.sys.now c.observe.new.sys _ refl
    (site_calls c.args.site (sight_value c.args.seen) c.args.sys.now c.requires.at)
    c.observe.ensures)

pub returns-in-None : goal.returns-in-None
returns-in-None c =
    lone_as c.args.site.part c.call_plain.result _ _ (sight_value c.args.seen) _ _ c.args.sys.now c.call_plain.new.sys c.call_plain.new.lines
    (sym (asks_nothing _ (sym (site_asks _ c.args.sys.now) ∙ sym c.asked_by.ensures ∙ c.in-None.is))) refl c.call_plain.ensures
