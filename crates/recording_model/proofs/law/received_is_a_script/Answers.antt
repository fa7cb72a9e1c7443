use Rattle.recording_model.proofs.ReceivingLemmas.{receives_booted, receives_cues, receives_scripts}
use Rattle.recording_model.proofs.law.received_is_a_script.Goals as goal

pub returns : goal.returns
returns c =
    let bounds = c.acts_within_bounds.ensures.law in
    let own = c.acts_within_bounds.ensures.own in
    let never = c.never_upon_itself.ensures.law in
    let nothing = c.sees_nothing.ensures.law in
    let same = c.keeps_numbers.ensures.ticks in
    let keeps = c.keeps_facts.ensures.ticks in
    let none = c.scripts_end.ensures.none in
    record {
      tick = receives_cues bounds own never nothing c.cues_are_in_range.ensures.tick;
      run = receives_scripts bounds own never nothing same keeps none c.cues_are_in_range.ensures.run;
      booted = receives_booted bounds own never nothing same keeps none c.keeps_facts.ensures.boots c.cues_are_in_range.ensures.booted;
    }
