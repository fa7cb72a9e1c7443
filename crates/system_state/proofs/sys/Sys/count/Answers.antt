use Rattle.std.proofs.Common.{length, ap, ◌∙◌, sym}
use Rattle.system_state.specs.State.{SysState}
use Rattle.system_state.proofs.InsideLemmas.{is_counted}
use Rattle.system_state.proofs.sys.Sys.count.Goals as goal

pub returns-clause-parts : goal.returns-clause-parts
returns-clause-parts c = is_counted c.self.inside c.args.self.now c.self.invariant c.self.view_is

pub returns-clause-value : goal.returns-clause-value
returns-clause-value c =
    c.count.ensures.value ∙ ap (λ (s : SysState). length s.machine.system.conf.parts) c.self.view_is
    ∙ sym (is_counted c.self.inside c.args.self.now c.self.invariant c.self.view_is)
