use Rattle.std.specs.Prelude.{◌≡◌, ◌<◌, length}
use Rattle.std.proofs.Common.{arith}
use Rattle.std.proofs.lemmas.Bool.Decides.{nat_tests}
use Rattle.std.proofs.lemmas.Result.{err_from_is_err_and}
use Rattle.upset_files.proofs.LoopLemmas.{all_read, fault_met, left_first, line_more}
use Rattle.upset_files.specs.declared.reading.TheConstants.{UPSETS}
use Rattle.upset_files.proofs.reading.lines.Goals as goal

pub loop-rest-init : goal.loop-rest-init
loop-rest-init c = rw c.new-lines.ensures.items (left_first UPSETS c.args.conf.now c.args.begun c.args.ticks c.args.text.now)

pub loop-rest-preserved : goal.loop-rest-preserved
loop-rest-preserved c =
    let some : 0 < length c.loop-rest.rest.now = grind (arith, nat_tests, c.is_empty.ensures, c.loop-rest-test.true) in
    rw c.in_ok-push.ensures.items (line_more c.args.conf.now c.args.begun c.args.ticks c.loop-rest.lines.len c.loop-rest.lines.items c.loop-rest.before c.loop-rest.rest.now c.args.text.now c.in_ok-line.line c.in_ok-line.after.now
    c.loop-rest.lines.ok.0 some (rw c.len.ensures at c.in_ok-line.ensures.value) c.loop-rest.invariant)

pub returns-in_err-line : goal.returns-in_err-line
returns-in_err-line c =
    let some : 0 < length c.loop-rest.rest.now = grind (arith, nat_tests, c.is_empty.ensures, c.loop-rest-test.true) in
    let p = err_from_is_err_and c.from_residual.result c.from_residual.ensures.1 in
    rw (p.1, p.2) (fault_met c.args.conf.now c.args.begun c.args.ticks c.loop-rest.lines.len c.loop-rest.lines.items c.loop-rest.before c.loop-rest.rest.now c.args.text.now c.in_err-line.field-0.0
    c.loop-rest.lines.ok.0 some (rw c.len.ensures at c.in_err-line.ensures.value) c.loop-rest.invariant)

pub returns : goal.returns
returns c =
    let end : length c.loop-rest.rest.now ≡ 0 = grind (arith, nat_tests, c.is_empty.ensures, c.loop-rest-test.false) in
    all_read c.args.conf.now c.args.begun c.args.ticks c.loop-rest.lines.items c.loop-rest.before c.loop-rest.rest.now c.args.text.now end c.loop-rest.invariant
