use Rattle.std.proofs.Common.{◌≡◌, ◌++◌, map, drop, filter}
use Rattle.xmcf_check.specs.Described.{given_answer, is_to}
use Rattle.xmcf_check.proofs.gathering.health.push_answers.Given as goal

abbrev pub invariant-loop-one : goal.invariant-loop-one
invariant-loop-one l = l.answers.items ++ map given_answer (filter (is_to l.event) (drop l.one-index l.given)) ≡ l.fn.answers.items ++ map given_answer (filter (is_to l.event) l.given)
