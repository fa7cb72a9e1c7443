use Rattle.std.proofs.Common.{length, sym, ap, ◌∙◌, arith}
use Rattle.replay_model.specs.Passes.{away_passed}
use Rattle.cue_scripts.specs.Values.{slot_value}
use Rattle.tick_steps.specs.CueValues.{cue_value}
use Rattle.replay_tick.proofs.LoneLemmas.{away_done, away_state, away_received, called_by, heard_below, heard_so, its_away, machine_kept, met_below, of_system, put_below, unseen_away}
use Rattle.replay_tick.proofs.alone.tick_away.Goals as goal

pub obey_other-requires-clause-partition : goal.obey_other-requires-clause-partition
obey_other-requires-clause-partition c = heard_below _ c.args.p _ c.args.sys.now c.apply_traffic.new.sys c.requires.can.partition c.apply_traffic.ensures.heard

pub meet_event-requires-clause-partition : goal.meet_event-requires-clause-partition
meet_event-requires-clause-partition c =
    put_below c.args.p _ c.apply_traffic.new.sys c.obey_other.new.sys (heard_below _ c.args.p _ c.args.sys.now c.apply_traffic.new.sys c.requires.can.partition c.apply_traffic.ensures.heard) c.obey_other.ensures.done.state

pub rest_and_pass-requires-clause-partition : goal.rest_and_pass-requires-clause-partition
rest_and_pass-requires-clause-partition c =
    met_below c.args.p _ c.obey_other.new.sys c.meet_event.new.sys
    (put_below c.args.p _ c.apply_traffic.new.sys c.obey_other.new.sys (heard_below _ c.args.p _ c.args.sys.now c.apply_traffic.new.sys c.requires.can.partition c.apply_traffic.ensures.heard) c.obey_other.ensures.done.state)
    c.meet_event.ensures.state

pub returns-then-apply_traffic : goal.returns-then-apply_traffic
returns-then-apply_traffic c =
    let cue = cue_value c.args.cue.now in
    let g = c.args.sys.now.machine in
    let heard = heard_so c.apply_traffic.result c.args.p cue.traffic c.args.sys.now c.apply_traffic.new.sys c.if-apply_traffic.true c.apply_traffic.ensures.heard in
    let kept = c.passes_keep.ensures.law.away g c.args.p cue c.requires.can.running c.requires.can.partition in
    let passed = away_state c.args.p cue c.args.sys.now c.apply_traffic.new.sys c.obey_other.new.sys c.meet_event.new.sys c.rest_and_pass.new.sys heard c.obey_other.ensures.done.state c.meet_event.ensures.state c.rest_and_pass.ensures in
    record {
      tick = away_done c.away_ticks.ensures.law c.takes_cues.ensures.away c.passes_keep.ensures.law c.args.p cue c.args.sys.now c.rest_and_pass.new.sys c.meet_event.new.lines c.requires.can.partition c.requires.can.running
          (ap slot_value c.requires.away) (unseen_away _ _ _ (ap slot_value c.requires.away) c.requires.can.cue.seen) c.requires.can.cue.traffic (sym c.apply_traffic.ensures.taken ∙ c.if-apply_traffic.true) passed
          (away_received c.args.p cue c.args.sys.now c.apply_traffic.new.sys c.obey_other.new.sys c.args.lines.now c.obey_other.new.lines c.meet_event.new.lines c.requires.can.empty heard c.obey_other.ensures.done.state c.obey_other.ensures.done.lines c.meet_event.ensures.lines)
          (omega (arith, c.meet_event.ensures.few, c.obey_other.ensures.few, ap length c.requires.can.empty));
      machine = machine_kept c.keeps_facts_alone.ensures.law c.args.p cue cue.whole c.args.sys.now c.rest_and_pass.new.sys (away_passed c.args.p cue g) c.requires.can.machine c.requires.can.partition c.requires.can.running c.requires.can.more kept
          (c.away_ticks.ensures.law g c.args.p cue c.requires.can.partition (ap slot_value c.requires.away) (called_by g.system.conf c.args.p cue.traffic c.requires.can.cue.traffic)).part
          (its_away _ _ cue _ (ap slot_value c.requires.away)) passed;
      system = of_system c.args.p cue.whole c.args.sys.now c.rest_and_pass.new.sys (away_passed c.args.p cue g) kept passed;
    }
