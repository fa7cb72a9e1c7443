use Rattle.std.proofs.Common.{◌≡◌, take, drop}
use Rattle.xm_conf.specs.Along.{along_from, head_of}
use Rattle.xm_conf.specs.Rules as rules
use Rattle.xmcf_check.specs.lemmas.Answered.{answers_broken}
use Rattle.xmcf_check.proofs.OnceLemmas.{IsOnce}
use Rattle.xmcf_check.proofs.answers.answers_broken.Given as goal

abbrev pub invariant-loop-n : goal.invariant-loop-n
invariant-loop-n l = record {
  first : head_of (along_from (rules.answer_broken l.plans l.p) (take l.n l.answers) (drop l.n l.answers)) ≡ head_of (answers_broken l.plans l.p l.answers);
  once : IsOnce (take l.n l.answers);
}
