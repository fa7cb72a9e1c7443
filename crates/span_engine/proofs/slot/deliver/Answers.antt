use Rattle.span_engine.proofs.TurnedLemmas.{deliver_done}
use Rattle.span_engine.proofs.slot.deliver.Goals as goal

pub returns : goal.returns
returns c = record {
  done = λ g first ps most is some enabled waits.
      deliver_done c.next_tick.ensures.met c.tick_in_passes.ensures.law c.acts_within_bounds.ensures.law c.keeps_numbers.ensures.runs
      g c.args.p first ps most c.args.n c.args.sys.now c.take_interrupt.new.sys c.end_tick.new.sys c.take_interrupt.new.lines c.end_tick.new.lines c.quiet.result
      is some enabled waits c.take_interrupt.ensures.worked c.end_tick.ensures.state c.end_tick.ensures.lines c.end_tick.ensures.few c.quiet.ensures;
}
