use Rattle.replay_model.proofs.ReceivingLemmas.{booted_taken, script_taken, tick_taken}
use Rattle.replay_model.proofs.law.received_can_be_taken.Goals as goal

pub returns : goal.returns
returns c =
    let tick = tick_taken c.received_as_allowed.ensures.traffic c.received_as_allowed.ensures.answers c.acts_within_bounds.ensures.law in
    let run = script_taken tick c.one_tick.ensures.law c.keeps_numbers.ensures.ticks c.keeps_facts.ensures.ticks c.keeps_shapes.ensures.ticks in
    record {
      tick = tick;
      run = run;
      booted = booted_taken run c.boots_alone.ensures.law c.keeps_numbers.ensures.boots c.keeps_facts.ensures.boots c.keeps_shapes.ensures.boots;
    }
