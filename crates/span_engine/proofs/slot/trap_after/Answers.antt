use Rattle.std.proofs.Common.{arith}
use Rattle.span_engine.proofs.SpanLemmas.{can_work, worked_can_end, worked_frame}
use Rattle.span_engine.proofs.TurnedLemmas.{trap_done}
use Rattle.span_engine.proofs.slot.trap_after.Goals as goal

pub meet_trap-reach-requires-clause-partition : goal.meet_trap-reach-requires-clause-partition
meet_trap-reach-requires-clause-partition c = (can_work c.args.p c.args.went c.args.sys.now c.stand_after.new.sys c.requires.take c.stand_after.ensures).partition

pub meet_trap-reach-requires-clause-clock : goal.meet_trap-reach-requires-clause-clock
meet_trap-reach-requires-clause-clock c = (can_work c.args.p c.args.went c.args.sys.now c.stand_after.new.sys c.requires.take c.stand_after.ensures).clock

pub meet_trap-reach-requires-clause-log : goal.meet_trap-reach-requires-clause-log
meet_trap-reach-requires-clause-log c = (can_work c.args.p c.args.went c.args.sys.now c.stand_after.new.sys c.requires.take c.stand_after.ensures).health

pub end_tick-requires-clause-can : goal.end_tick-requires-clause-can
end_tick-requires-clause-can c =
    worked_can_end c.args.p c.args.went _ _ c.meet_trap-reach.result c.args.sys.now c.stand_after.new.sys c.meet_trap-reach.new.sys c.meet_trap-reach.new.lines
    c.requires.take c.stand_after.ensures c.meet_trap-reach.ensures.worked (omega (arith, c.meet_trap-reach.ensures.few))

pub end_tick-requires-clause-frame : goal.end_tick-requires-clause-frame
end_tick-requires-clause-frame c =
    worked_frame c.args.p _ _ c.meet_trap-reach.result c.stand_after.new.sys c.meet_trap-reach.new.sys c.meet_trap-reach.new.lines c.meet_trap-reach.ensures.worked
    (can_work c.args.p c.args.went c.args.sys.now c.stand_after.new.sys c.requires.take c.stand_after.ensures).frame

pub returns : goal.returns
returns c = record {
  done = λ g first ps most is.
      trap_done c.tick_in_passes.ensures.others c.calm_ticks.ensures.gone c.undisturbed_ticks.ensures.next c.tick_in_passes.ensures.next c.acts_within_bounds.ensures.law c.keeps_numbers.ensures.runs
      g c.args.p first ps c.args.went most c.args.pc c.args.tt c.meet_trap-reach.result c.args.sys.now c.stand_after.new.sys c.meet_trap-reach.new.sys c.end_tick.new.sys c.meet_trap-reach.new.lines c.end_tick.new.lines c.quiet.result
      is c.stand_after.ensures c.meet_trap-reach.ensures.worked c.end_tick.ensures.state c.end_tick.ensures.lines c.end_tick.ensures.few c.quiet.ensures;
}
