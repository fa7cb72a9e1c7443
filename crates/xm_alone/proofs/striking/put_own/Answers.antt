use Rattle.std.proofs.Common.{◌<◌, ◌≤◌, ◌+◌, ◌∙◌, List, arith, drop, length, refl, subst}
use Rattle.std.proofs.lemmas.Result.{err_from_is_err_and}
use Rattle.std.specs.Prelude.{slice_index_or}
use Rattle.upset_model.specs.declared.upset_line.UpsetLine.{UpsetLine}
use Rattle.xm_alone.proofs.ComingLemmas.{AreOut, all_out, more_out, next_upset, none_out, out_cut, some_upset}
use Rattle.xm_alone.proofs.striking.put_own.Goals as goal

pub loop-line-init : goal.loop-line-init
loop-line-init g c = record { out = none_out c.args.p c.args.upsets.now (g.O.Sink.got c.args.out.now); faults = refl }

pub returns-in_err-put_one-clause-got : goal.returns-in_err-put_one-clause-got
returns-in_err-put_one-clause-got g c =
    let p = err_from_is_err_and c.from_residual.result c.from_residual.ensures.1 in
    let below : c.loop-line.line-index < length c.args.upsets.now = omega (arith, c.loop-line-test.true, c.loop-line.auto.line-index-end) in
    rw (p.1) (out_cut c.args.p c.args.upsets.now (slice_index_or c.args.upsets.now c.loop-line.line-index some_upset) (drop (c.loop-line.line-index + 1) c.args.upsets.now)
    (g.O.Sink.got c.args.out.now) (g.O.Sink.got c.loop-line.out) (g.O.Sink.got c.put_one.new.out)
    (subst (λ (rest : List UpsetLine). AreOut c.args.p c.args.upsets.now rest (g.O.Sink.got c.args.out.now) (g.O.Sink.got c.loop-line.out)) (next_upset c.args.upsets.now c.loop-line.line-index below) c.loop-line.invariant.out)
    c.in_err-put_one.ensures.got)

pub loop-line-preserved : goal.loop-line-preserved
loop-line-preserved g c =
    let below : c.loop-line.line-index < length c.args.upsets.now = omega (arith, c.loop-line-test.true, c.loop-line.auto.line-index-end) in
    record {
      out = more_out c.args.p c.args.upsets.now (slice_index_or c.args.upsets.now c.loop-line.line-index some_upset) (drop (c.loop-line.line-index + 1) c.args.upsets.now)
          (g.O.Sink.got c.args.out.now) (g.O.Sink.got c.loop-line.out) (g.O.Sink.got c.put_one.new.out)
          (subst (λ (rest : List UpsetLine). AreOut c.args.p c.args.upsets.now rest (g.O.Sink.got c.args.out.now) (g.O.Sink.got c.loop-line.out)) (next_upset c.args.upsets.now c.loop-line.line-index below) c.loop-line.invariant.out)
          c.in_ok-put_one.ensures.got;
      faults = c.in_ok-put_one.ensures.cause ∙ c.loop-line.invariant.faults;
    }

pub returns-clause-got : goal.returns-clause-got
returns-clause-got g c =
    let past : length c.args.upsets.now ≤ c.loop-line.line-index = omega (arith, c.loop-line-test.false, c.loop-line.auto.line-index-end) in
    all_out c.args.p c.args.upsets.now c.loop-line.line-index (g.O.Sink.got c.args.out.now) (g.O.Sink.got c.loop-line.out) past c.loop-line.invariant.out
