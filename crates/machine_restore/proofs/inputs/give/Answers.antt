use Rattle.std.proofs.Common.{List, ℕ, length, slice_set, ap, subst, ◌∙◌, arith}
use Rattle.system_state.specs.Inputs.{HasInputCause, words_in}
use Rattle.machine_restore.proofs.InputLemmas.{fourfold, length-word_bytes, words_in-word_bytes}
use Rattle.machine_restore.proofs.inputs.give.Goals as goal

pub set-requires-clause-few : goal.set-requires-clause-few
set-requires-clause-few c = omega (arith, ap length c.deref.ensures.value, ap length c.in_ok-bytes.ensures, length-word_bytes c.args.words.now, c.requires.few)

pub returns-in-Ok : goal.returns-in-Ok
returns-in-Ok c =
    c.in-Ok.ensures.set
    ∙ ap (λ (words : List ℕ). slice_set c.args.inputs.now c.args.p words)
    (ap words_in (c.deref.ensures.value ∙ c.in_ok-bytes.ensures) ∙ words_in-word_bytes c.args.words.now c.type_inv.words)

pub unreachable-requires : goal.unreachable-requires
unreachable-requires c =
    let cause = subst (HasInputCause (length c.deref.result.now)) c.in-Err-Length.field-0-is c.in-Err-Length.ensures.cause in
    cause.1 (fourfold (length c.deref.result.now) (length c.args.words.now) (ap length c.deref.ensures.value ∙ ap length c.in_ok-bytes.ensures ∙ length-word_bytes c.args.words.now))
