use Rattle.std.proofs.Common.{length, get_or, arith, ap, ◌∙◌}
use Rattle.std.proofs.lemmas.List.{get_or_default}
use Rattle.machine_model.specs.View.{no_part, part_of, view_of}
use Rattle.xm_conf.specs.Configuration.{Conf}
use Rattle.system_state.specs.State.{SysState}
use Rattle.system_state.proofs.InsideLemmas.{is_in_conf}
use Rattle.system_state.proofs.sys.Sys.configured.Goals as goal

pub index-requires : goal.index-requires
index-requires c =
    let conf = c.behind-conf.view_is ∙ c.raw.ensures.value ∙ c.conf.ensures.value in
    omega (arith, c.from.ensures, is_in_conf c.self.inside c.args.self.now c.args.p c.self.invariant c.self.view_is c.requires, ap (λ (conf : Conf). length conf.parts) conf)

pub returns : goal.returns
unfolding view_of part_of
returns c =
    let conf = c.behind-conf.view_is ∙ c.raw.ensures.value ∙ c.conf.ensures.value in
    let here = rw c.from.ensures at c.index.ensures in
    let below = is_in_conf c.self.inside c.args.self.now c.args.p c.self.invariant c.self.view_is c.requires in
    record {
      value = here ∙ ap (λ (conf : Conf). get_or conf.parts c.args.p c.index.result.now) conf
          ∙ get_or_default c.self.inside.system.conf.parts c.args.p c.index.result.now no_part below
          ∙ ap (λ (s : SysState). (view_of s.machine.system c.args.p).part) c.self.view_is;
    }
