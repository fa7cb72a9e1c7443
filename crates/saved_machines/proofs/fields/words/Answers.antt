use Rattle.std.proofs.Common.{◌≤◌, ◌<◌, length, take, ◌∙◌, arith}
use Rattle.std.proofs.lemmas.List.{length-set, take_more_set}
use Rattle.std.proofs.lemmas.Result.{err_from_is_err_and}
use Rattle.codecs.specs.lemmas.LoopLemmas.{items_done, items_on}
use Rattle.saved_machines.specs.SavedFields.{any_word}
use Rattle.saved_machines.proofs.ReadLemmas.{take_whole, times_fail}
use Rattle.saved_machines.proofs.fields.words.Goals as goal

pub returns-in_err-into : goal.returns-in_err-into
returns-in_err-into c =
    let p = err_from_is_err_and c.from_residual.result c.from_residual.ensures.1 in
    let below : c.loop-place.place < length c.args.into.now = omega (arith, c.loop-place-test.true, c.loop-place.invariant.0) in
    rw (p.1, p.2) (times_fail any_word (take c.loop-place.place c.loop-place.into) (length c.args.into.now) c.loop-place.place c.loop-place.cursor c.in_err-into.field-0.0 _ below c.in_err-into.ensures c.loop-place.invariant.1)

pub loop-place-preserved : goal.loop-place-preserved
loop-place-preserved c =
    let below : c.loop-place.place < length c.args.into.now = omega (arith, c.loop-place-test.true, c.loop-place.invariant.0) in
    let within : c.loop-place.place < length c.loop-place.into = omega (arith, below, c.loop-place.invariant.0) in (
      length-set c.loop-place.into c.loop-place.place _ ∙ c.loop-place.invariant.0,
      rw (take_more_set c.loop-place.into c.loop-place.place c.in_ok-into.field-0 within)
          (items_on (λ (u : Unit {0}). any_word) (λ u x. u) (take c.loop-place.place c.loop-place.into) (length c.args.into.now) c.loop-place.place tt c.loop-place.cursor c.in_ok-into.field-0 c.word.new.cursor _ below c.in_ok-into.ensures c.loop-place.invariant.1),
    )

pub returns : goal.returns
returns c =
    let all : length c.args.into.now ≤ c.loop-place.place = omega (arith, c.loop-place-test.false) in
    let whole = take_whole c.loop-place.into c.loop-place.place (omega (arith, all, c.loop-place.invariant.0)) in
    rw whole at (items_done (λ (u : Unit {0}). any_word) (λ u x. u) (take c.loop-place.place c.loop-place.into) (length c.args.into.now) c.loop-place.place tt c.loop-place.cursor _ all c.loop-place.invariant.1)
