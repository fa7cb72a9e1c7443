use Rattle.std.proofs.Common.{rules}
use Rattle.tick_steps.specs.lemmas.HealthLemmas.{handled, handled_act}
use Rattle.tick_steps.proofs.health.handle_event.Goals as goal

pub returns-clause-done : goal.returns-clause-done
returns-clause-done c =
    handled c.args.p c.args.event c.args.word c.args.trap c.effect_on-effect.result c.args.sys.now c.enter.new.sys c.pass_over.new.sys _ c.args.lines.now c.enter.new.lines _
    c.requires.partition c.effect_on-effect.ensures (search rules) (search rules) (search rules)

pub returns-clause-act : goal.returns-clause-act
returns-clause-act c = handled_act _ _ c.args.event c.args.word c.args.trap _ _ c.effect_on-effect.ensures
