use Rattle.std.proofs.Common.{◌≡◌, ◌<◌, ◌≤◌, length, Bool, true, false, if◌then◌else◌, sym, ap, ◌∙◌, arith}
use Rattle.machine_model.specs.Lists.{is_number}
use Rattle.machine_model.specs.Partition.{rested}
use Rattle.span_model.specs.Passes.{part_at}
use Rattle.tick_steps.specs.lemmas.PassLemmas.{passed_end, passed_length, passed_more, passed_skip}
use Rattle.tick_steps.proofs.resting.rest_each.Goals as goal
use Rattle.tick_steps.proofs.resting.rest_each.Goals.{then-not-is_working, else-not-is_working}

pub rest_one-requires : goal.rest_one-requires
rest_one-requires c =
    omega (arith, passed_length _ c.loop-p.p c.args.sys.now c.loop-p.sys c.loop-p.invariant, c.loop-p-test.true, c.count-p-end.ensures.value)

pub loop-p-preserved : goal.loop-p-preserved
loop-p-preserved c =
    let below : c.loop-p.p < length c.args.sys.now.machine.parts = omega (arith, c.loop-p-test.true, c.count-p-end.ensures.value) in
    elim c.if-not-is_working.branch [
      | then-not-is_working w ↦
          (let other : is_number c.args.working c.loop-p.p ≡ false = cc in
          w.sys-is ∙ passed_more _ c.loop-p.p c.args.sys.now c.loop-p.sys _ _ below c.loop-p.invariant w.rest_one.ensures
          (ap (λ (b : Bool). if b then part_at c.loop-p.p c.loop-p.sys.machine else rested c.args.time (part_at c.loop-p.p c.loop-p.sys.machine)) (sym other)))
      | else-not-is_working w ↦
          (let working : is_number c.args.working c.loop-p.p ≡ true = cc in
          w.sys-is ∙ passed_skip _ c.loop-p.p c.args.sys.now c.loop-p.sys c.loop-p.invariant
          (λ ps. ap (λ (b : Bool). if b then ps else rested c.args.time ps) working))
    ]

pub returns : goal.returns
returns c =
    let all : length c.args.sys.now.machine.parts ≤ c.loop-p.p = omega (arith, c.loop-p-test.false, c.count-p-end.ensures.value) in
    passed_end _ c.loop-p.p c.args.sys.now c.loop-p.sys all c.loop-p.invariant
