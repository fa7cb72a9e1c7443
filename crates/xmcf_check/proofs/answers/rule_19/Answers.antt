use Rattle.std.proofs.Common.{sym, ap, ◌∙◌}
use Rattle.xm_conf.specs.Along.{head_of}
use Rattle.xmcf_check.specs.lemmas.Answered.{answers_broken}
use Rattle.xmcf_check.proofs.ListLemmas.{each_from-map}
use Rattle.xmcf_check.proofs.answers.rule_19.Goals as goal

pub returns : goal.returns
returns c = c.lists_broken.ensures ∙ ap head_of (sym (each_from-map (answers_broken c.args.plans) (λ list. list.items) 0 c.args.answers.now))
