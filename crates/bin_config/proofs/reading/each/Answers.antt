use Rattle.std.proofs.Common.{◌<◌, ◌≤◌, arith}
use Rattle.std.proofs.lemmas.Result.{err_from_is_err_and}
use Rattle.bin_config.proofs.ElementsLemmas.{elements_begin, elements_more, elements_fails, elements_all}
use Rattle.bin_config.proofs.reading.each.Goals as goal

pub loop-init : goal.loop-init
loop-init g c = λ read stated. elements_begin read c.args.count c.args.cursor.now c.new-elements.result.items c.new-elements.ensures.items

pub returns-in_err-one : goal.returns-in_err-one
returns-in_err-one g c = λ read stated.
    let below : c.loop.counter < c.args.count = omega (arith, c.loop-test.true) in
    let p = err_from_is_err_and c.from_residual.result c.from_residual.ensures.1 in
    rw (p.1, p.2) (elements_fails read c.args.count c.loop.counter c.loop.cursor c.loop.elements.items c.in_err-one.field-0.0 _ below (stated _ _ _ c.in_err-one.ensures) (c.loop.invariant read stated))

pub loop-preserved : goal.loop-preserved
loop-preserved g c = λ read stated.
    let below : c.loop.counter < c.args.count = omega (arith, c.loop-test.true) in
    rw c.in_ok-push.ensures.items (elements_more read c.args.count c.loop.counter c.loop.cursor c.element.new.arg2 c.loop.elements.items c.in_ok-one.one _ below (stated _ _ _ c.in_ok-one.ensures) (c.loop.invariant read stated))

pub returns : goal.returns
returns g c = λ read stated.
    let past : c.args.count ≤ c.loop.counter = omega (arith, c.loop-test.false) in
    elements_all read c.args.count c.loop.counter c.loop.cursor c.loop.elements.items _ past (c.loop.invariant read stated)
