use Rattle.std.proofs.Common.{arith}
use Rattle.cue_scripts.specs.Values.{event_value}
use Rattle.tick_steps.specs.CueValues.{cue_value}
use Rattle.replay_tick.proofs.SpanEndLemmas.{work_can_end}
use Rattle.replay_tick.proofs.LoneTurnLemmas.{can_take, few_room, is_turn, not_seen, turn_machine, turn_noted, turn_system, undone_machine, undone_system}
use Rattle.replay_tick.proofs.alone.turn_in_slot.Goals as goal

pub work_alone-requires-clause-take : goal.work_alone-requires-clause-take
work_alone-requires-clause-take c = can_take c.args.p c.args.sys.now c.requires.can.machine c.requires.can.partition c.requires.can.running c.requires.can.more

pub end_turn-event-requires : goal.end_turn-event-requires
end_turn-event-requires c =
    record {
      can = work_can_end c.args.p _ c.in-Some.work c.args.sys.now c.work_alone.new.sys c.work_alone.new.lines
          (can_take c.args.p c.args.sys.now c.requires.can.machine c.requires.can.partition c.requires.can.running c.requires.can.more) (rw c.in-Some.is at c.work_alone.ensures).1;
    }

pub returns-in-Some : goal.returns-in-Some
returns-in-Some c =
    let turn = is_turn c.args.p c.args.first c.args.cue.now c.args.sys.now c.requires.can.machine c.requires.can.partition c.requires.can.running c.requires.can.more c.requires.own c.requires.can.cue c.requires.turns in
    let work = rw c.in-Some.is at c.work_alone.ensures in
    record {
      tick = turn_noted c.working_ticks.ensures.law c.takes_cues.ensures.working c.passes_keep.ensures.law c.acts_within_bounds.ensures.law c.keeps_facts_alone.ensures.law
          c.args.p c.args.first (cue_value c.args.cue.now) c.in-Some.work (event_value c.end_turn-event.result) c.args.sys.now c.work_alone.new.sys c.end_turn-event.new.sys c.work_alone.new.lines c.end_turn-event.new.lines
          turn work.0 work.1 c.end_turn-event.ensures.event c.end_turn-event.ensures.state c.end_turn-event.ensures.lines c.note_if.result c.is_same_event.result c.is_same_event.ensures c.note_if.ensures
          (omega (arith, few_room _ _ _ _ _ work.1, c.end_turn-event.ensures.few));
      machine = turn_machine c.working_ticks.ensures.law c.takes_cues.ensures.working c.passes_keep.ensures.law c.acts_within_bounds.ensures.law c.keeps_facts_alone.ensures.law
          c.args.p c.args.first (cue_value c.args.cue.now) c.in-Some.work (event_value c.end_turn-event.result) c.args.sys.now c.work_alone.new.sys c.end_turn-event.new.sys c.work_alone.new.lines c.end_turn-event.new.lines
          turn work.0 work.1 c.end_turn-event.ensures.event c.end_turn-event.ensures.state c.end_turn-event.ensures.lines;
      system = turn_system c.working_ticks.ensures.law c.takes_cues.ensures.working c.passes_keep.ensures.law c.acts_within_bounds.ensures.law c.keeps_facts_alone.ensures.law
          c.args.p c.args.first (cue_value c.args.cue.now) c.in-Some.work (event_value c.end_turn-event.result) c.args.sys.now c.work_alone.new.sys c.end_turn-event.new.sys c.work_alone.new.lines c.end_turn-event.new.lines
          turn work.0 work.1 c.end_turn-event.ensures.event c.end_turn-event.ensures.state c.end_turn-event.ensures.lines;
    }

pub returns-in-None : goal.returns-in-None
returns-in-None c =
    let work = rw c.in-None.is at c.work_alone.ensures in
    record {
      tick = not_seen c.takes_cues.ensures.working c.acts_within_bounds.ensures.law c.args.p c.args.first (cue_value c.args.cue.now) c.args.sys.now
          (is_turn c.args.p c.args.first c.args.cue.now c.args.sys.now c.requires.can.machine c.requires.can.partition c.requires.can.running c.requires.can.more c.requires.own c.requires.can.cue c.requires.turns) work.0;
      machine = undone_machine c.args.p c.args.sys.now c.work_alone.new.sys c.requires.can.machine c.requires.can.partition work.1;
      system = undone_system c.args.p c.args.sys.now c.work_alone.new.sys work.1;
    }
