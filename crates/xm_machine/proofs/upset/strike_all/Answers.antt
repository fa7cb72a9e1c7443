use Rattle.std.proofs.Common.{◌+◌, ◌<◌, ◌≤◌, List, arith, drop, length, subst}
use Rattle.std.specs.Prelude.{slice_index_or}
use Rattle.upset_model.specs.declared.upset_line.UpsetLine.{UpsetLine}
use Rattle.xm_machine.proofs.UpsetLemmas.{AreStriking, all_struck, drop_past, next_upset, some_upset, strikes_on}
use Rattle.xm_machine.proofs.upset.strike_all.Goals as goal

pub loop-line-preserved : goal.loop-line-preserved
loop-line-preserved c =
    let below : c.loop-line.line-index < length c.args.lines.now = omega (arith, c.loop-line-test.true, c.loop-line.auto.line-index-end) in
    strikes_on c.args.lines.now (drop (c.loop-line.line-index + 1) c.args.lines.now) (slice_index_or c.args.lines.now c.loop-line.line-index some_upset) c.args.sys.now c.loop-line.sys c.strike.new.sys
    (subst (λ (rest : List UpsetLine). AreStriking c.args.lines.now rest c.args.sys.now c.loop-line.sys) (next_upset c.args.lines.now c.loop-line.line-index some_upset below) c.loop-line.invariant)
    c.strike.ensures

pub returns : goal.returns
returns c =
    let past : length c.args.lines.now ≤ c.loop-line.line-index = omega (arith, c.loop-line-test.false, c.loop-line.auto.line-index-end) in
    all_struck c.args.lines.now c.args.sys.now c.loop-line.sys
    (subst (λ (rest : List UpsetLine). AreStriking c.args.lines.now rest c.args.sys.now c.loop-line.sys) (drop_past c.loop-line.line-index c.args.lines.now past) c.loop-line.invariant)
