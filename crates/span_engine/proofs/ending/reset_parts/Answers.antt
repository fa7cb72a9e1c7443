use Rattle.std.proofs.Common.{◌<◌, ◌≤◌, length, ap, arith}
use Rattle.system_state.specs.State.{SysState}
use Rattle.machine_model.specs.Partition.{reset}
use Rattle.machine_model.specs.View.{view_of}
use Rattle.span_model.specs.Passes.{part_at}
use Rattle.tick_steps.specs.lemmas.PassLemmas.{passed_end, passed_length, passed_more}
use Rattle.span_engine.proofs.ending.reset_parts.Goals as goal

pub reset-requires : goal.reset-requires
reset-requires c =
    omega (arith, passed_length _ c.loop-p.p c.args.sys.now c.loop-p.sys c.loop-p.invariant, c.loop-p-test.true, c.count-p-end.ensures.value)

pub loop-p-preserved : goal.loop-p-preserved
loop-p-preserved c =
    let below : c.loop-p.p < length c.args.sys.now.machine.parts = omega (arith, c.loop-p-test.true, c.count-p-end.ensures.value) in
    passed_more _ c.loop-p.p c.args.sys.now c.loop-p.sys c.reset.new.sys _ below c.loop-p.invariant c.reset.ensures
    (ap (λ (s : SysState). reset (view_of s.machine.system c.loop-p.p) c.args.mode 0 (part_at c.loop-p.p c.loop-p.sys.machine)) c.loop-p.invariant)

pub returns : goal.returns
returns c =
    let all : length c.args.sys.now.machine.parts ≤ c.loop-p.p = omega (arith, c.loop-p-test.false, c.count-p-end.ensures.value) in
    passed_end _ c.loop-p.p c.args.sys.now c.loop-p.sys all c.loop-p.invariant
