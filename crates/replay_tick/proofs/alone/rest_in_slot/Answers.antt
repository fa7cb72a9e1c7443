use Rattle.std.proofs.Common.{sym, ◌∙◌}
use Rattle.machine_model.specs.Emission.{NoEvent}
use Rattle.replay_model.specs.Passes.{rested_in, tick_past}
use Rattle.tick_steps.specs.CueValues.{cue_value}
use Rattle.replay_tick.proofs.LoneLemmas.{its_own, machine_kept, of_system, own_slot, rest_done, rest_part}
use Rattle.replay_tick.proofs.alone.rest_in_slot.Goals as goal

pub returns-then-is_same_event : goal.returns-then-is_same_event
returns-then-is_same_event c =
    let cue = cue_value c.args.cue.now in
    let g = c.args.sys.now.machine in
    let own = own_slot c.args.cue.now.mine c.requires.own in
    let quiet = sym c.is_same_event.ensures ∙ c.if-is_same_event.true in
    let kept = c.passes_keep.ensures.law.resting g c.args.p c.requires.can.running c.requires.can.partition in
    record {
      tick = rest_done c.resting_ticks_alone.ensures.law c.takes_cues.ensures.resting c.passes_keep.ensures.law c.args.p own.0 cue c.args.sys.now c.rest_and_pass.new.sys
          c.requires.can.partition c.requires.can.running own.1 c.requires.can.cue.alone (sym c.is_unseen.ensures ∙ c.if-is_unseen.true) quiet c.requires.turns c.rest_and_pass.ensures;
      machine = machine_kept c.keeps_facts_alone.ensures.law c.args.p cue NoEvent c.args.sys.now c.rest_and_pass.new.sys (tick_past NoEvent (rested_in c.args.p g))
          c.requires.can.machine c.requires.can.partition c.requires.can.running c.requires.can.more kept
          (rest_part c.resting_ticks_alone.ensures.law g c.args.p own.0 cue c.requires.can.partition own.1 c.requires.can.cue.alone quiet c.requires.turns)
          (its_own c.args.p g cue own.0 own.1 c.requires.can.cue.alone quiet c.requires.turns) c.rest_and_pass.ensures;
      system = of_system c.args.p NoEvent c.args.sys.now c.rest_and_pass.new.sys (tick_past NoEvent (rested_in c.args.p g)) kept c.rest_and_pass.ensures;
    }
