use Rattle.std.proofs.Common.{[], ◌∷◌, ◌+◌, ◌<◌, List, drop, length, ◌∙◌, arith, subst}
use Rattle.std.proofs.lemmas.Result.{err_from_is_err_and}
use Rattle.xm_report.specs.Report.{ReportLine}
use Rattle.system_state.specs.State.{part_at}
use Rattle.machine_model.specs.Lines.{end_line}
use Rattle.machine_model.specs.Lists.{all_of}
use Rattle.machine_model.specs.Machine.{booted_part}
use Rattle.xm_machine.proofs.OutLemmas.{AreOut, ends_from, more_out, next_end, out_cut}
use Rattle.xm_machine.proofs.report.end_parts.Goals as goal

pub returns-in_err-put_line-clause-printed : goal.returns-in_err-put_line-clause-printed
returns-in_err-put_line-clause-printed g c =
    let p = err_from_is_err_and c.from_residual.result c.from_residual.ensures.1 in
    let cut = rw c.end_line.ensures at c.in_err-put_line.ensures.got in
    let below : c.loop-p.p < length c.args.sys.now.machine.parts = omega (arith, c.loop-p-test.true, c.count.ensures.value) in
    let next = subst (λ (rest : List ReportLine). AreOut (all_of (λ p ps. end_line p ps ∷ []) c.args.sys.now.machine.parts) rest c.loop-p.p (g.O.Sink.got c.args.out.now) (g.O.Sink.got c.loop-p.out))
    (next_end c.loop-p.p c.args.sys.now.machine.parts (booted_part c.args.sys.now.machine.system c.loop-p.p) below) c.loop-p.invariant.out in
    rw (p.1) (out_cut (all_of (λ p ps. end_line p ps ∷ []) c.args.sys.now.machine.parts) (ends_from (c.loop-p.p + 1) (drop (c.loop-p.p + 1) c.args.sys.now.machine.parts))
    (end_line c.loop-p.p (part_at c.loop-p.p c.args.sys.now.machine)) c.loop-p.p (g.O.Sink.got c.args.out.now) (g.O.Sink.got c.loop-p.out) (g.O.Sink.got c.put_line.new.out) next cut)

pub loop-p-preserved : goal.loop-p-preserved
loop-p-preserved g c =
    let put = rw c.end_line.ensures at c.in_ok-put_line.ensures.got in
    let below : c.loop-p.p < length c.args.sys.now.machine.parts = omega (arith, c.loop-p-test.true, c.count.ensures.value) in
    let next = subst (λ (rest : List ReportLine). AreOut (all_of (λ p ps. end_line p ps ∷ []) c.args.sys.now.machine.parts) rest c.loop-p.p (g.O.Sink.got c.args.out.now) (g.O.Sink.got c.loop-p.out))
    (next_end c.loop-p.p c.args.sys.now.machine.parts (booted_part c.args.sys.now.machine.system c.loop-p.p) below) c.loop-p.invariant.out in
    record {
      out = more_out (all_of (λ p ps. end_line p ps ∷ []) c.args.sys.now.machine.parts) (ends_from (c.loop-p.p + 1) (drop (c.loop-p.p + 1) c.args.sys.now.machine.parts))
          (end_line c.loop-p.p (part_at c.loop-p.p c.args.sys.now.machine)) c.loop-p.p (g.O.Sink.got c.args.out.now) (g.O.Sink.got c.loop-p.out) (g.O.Sink.got c.put_line.new.out) next put;
      within = omega (arith, below);
      faults = c.in_ok-put_line.ensures.cause ∙ c.loop-p.invariant.faults;
    }
