use Rattle.std.proofs.Common.{refl}
use Rattle.span_engine.proofs.StepsLemmas.{below_steps, done_before, has_turned, next_after, went_done}
use Rattle.span_engine.proofs.slot.execute.Goals as goal

pub call_after-requires-clause-next : goal.call_after-requires-clause-next
call_after-requires-clause-next c =
    let gone = rw c.in-Call.is at c.step_many-gone.ensures.gone in
    next_after c.args.p c.step_many-gone.result.went _ _ _ c.step_many-gone.new.self c.count_on.new.sys
    (below_steps c.args.p _ c.args.sys.now c.step_many-gone.new.self c.requires.take.partition c.step_many-gone.ensures.others) c.count_on.ensures gone.1 gone.2

pub returns-in-Went : goal.returns-in-Went
returns-in-Went c =
    let gone = rw c.in-Went.is at c.step_many-gone.ensures.gone in
    record {
      done = λ g first ps is undelivered.
          went_done g c.args.p first ps c.args.most c.args.sys.now is c.undisturbed_ticks.ensures.law c.calm_ticks.ensures.gone c.slot_goes_on.ensures.left c.tick_in_passes.ensures.others c.keeps_numbers.ensures.runs
          c.ticks_undisturbed-most.result c.step_many-gone.result.went _ _ c.step_many-gone.new.self c.count_on.new.sys c.pass.new.sys c.args.lines.now c.pass.new.lines c.pass.new.span
          undelivered c.ticks_undisturbed-most.ensures.some c.ticks_undisturbed-most.ensures.within c.ticks_undisturbed-most.ensures.calm
          (record { gone = c.step_many-gone.ensures.went; its_core = refl; its_memory = refl; others = c.step_many-gone.ensures.others; counted = c.count_on.ensures })
          gone c.requires.empty c.pass.ensures.state c.pass.ensures.lines c.pass.ensures.few c.pass.ensures.span;
    }

pub returns-in-Trap : goal.returns-in-Trap
returns-in-Trap c =
    let gone = rw c.in-Trap.is at c.step_many-gone.ensures.gone in
    record {
      done = λ g first ps is undelivered.
          done_before c.trap_after.new.span c.args.most c.args.p c.step_many-gone.result.went g c.args.sys.now c.step_many-gone.new.self c.count_on.new.sys c.trap_after.new.sys c.trap_after.new.lines
          c.count_on.ensures c.step_many-gone.ensures.others
          (c.trap_after.ensures.done g first ps c.args.most
          (has_turned g c.args.p first ps c.args.most c.args.sys.now is c.slot_goes_on.ensures.left _ c.ticks_undisturbed-most.result c.step_many-gone.result.went c.step_many-gone.result.pc _ _
          c.step_many-gone.new.self c.count_on.new.sys undelivered c.ticks_undisturbed-most.ensures.within c.ticks_undisturbed-most.ensures.calm
          (record { gone = c.step_many-gone.ensures.went; its_core = refl; its_memory = refl; others = c.step_many-gone.ensures.others; counted = c.count_on.ensures })
          gone.0 gone.1 gone.2 gone.3 c.step_many-gone.ensures.at));
    }

pub returns-in-Call : goal.returns-in-Call
returns-in-Call c =
    let gone = rw c.in-Call.is at c.step_many-gone.ensures.gone in
    record {
      done = λ g first ps is undelivered.
          done_before c.call_after.new.span c.args.most c.args.p c.step_many-gone.result.went g c.args.sys.now c.step_many-gone.new.self c.count_on.new.sys c.call_after.new.sys c.call_after.new.lines
          c.count_on.ensures c.step_many-gone.ensures.others
          (c.call_after.ensures.done g first ps c.args.most
          (has_turned g c.args.p first ps c.args.most c.args.sys.now is c.slot_goes_on.ensures.left _ c.ticks_undisturbed-most.result c.step_many-gone.result.went c.step_many-gone.result.pc _ _
          c.step_many-gone.new.self c.count_on.new.sys undelivered c.ticks_undisturbed-most.ensures.within c.ticks_undisturbed-most.ensures.calm
          (record { gone = c.step_many-gone.ensures.went; its_core = refl; its_memory = refl; others = c.step_many-gone.ensures.others; counted = c.count_on.ensures })
          gone.0 gone.1 gone.2 gone.3 c.step_many-gone.ensures.at));
    }
