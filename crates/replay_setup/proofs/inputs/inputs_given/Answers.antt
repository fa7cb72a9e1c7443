use Rattle.std.proofs.Common.{Err, ap, ◌∙◌, arith}
use Rattle.builders.specs.Ready.{OddInput}
use Rattle.replay_setup.proofs.InputLemmas.{given_odd, given_words}
use Rattle.replay_setup.proofs.inputs.inputs_given.Goals as goal

pub returns-in-Ok-set-clause-value : goal.returns-in-Ok-set-clause-value
returns-in-Ok-set-clause-value c =
    given_words c.args.parts c.args.p c.args.bytes.now c.in-Ok.inputs c.set.new.self _ _ c.in-Ok.ensures.value c.in-Ok-set.ensures.length (search c.in-Ok-set.ensures.set)

pub returns-in-Err-Length-clause-value : goal.returns-in-Err-Length-clause-value
returns-in-Err-Length-clause-value c =
    let cause = rw c.in-Err-Length.field-0-is at c.in-Err-Length.ensures.cause in
    rw c.in-Err-Length.field-0-is (given_odd c.args.parts c.args.p c.args.bytes.now c.in-Err-Length.found cause.0 cause.1 ∙ ap (λ n. Err (OddInput n)) (omega arith))
