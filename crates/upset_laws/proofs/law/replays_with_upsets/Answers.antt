use Rattle.upset_laws.proofs.ReplayLemmas.{plain_replays, receives_upset_scripts, upset_script_taken}
use Rattle.upset_laws.proofs.law.replays_with_upsets.Goals as goal

pub returns : goal.returns
returns c =
    let numbers = c.keeps_numbers.ensures.ticks in
    let complete = c.keeps_numbers.ensures.boots in
    let facts = c.keeps_facts.ensures.ticks in
    let with_facts = c.keeps_facts.ensures.boots in
    let shapes = c.keeps_shapes.ensures.ticks in
    let with_shapes = c.keeps_shapes.ensures.boots in
    record {
      script = receives_upset_scripts c.places_are_spelled.ensures.strike c.received_is_a_script.ensures.tick numbers facts shapes c.keeps_ranges.ensures.ticks complete with_facts with_shapes
          c.keeps_ranges.ensures.boots;
      taken = upset_script_taken c.received_can_be_taken.ensures.tick c.contains_upsets.ensures.tick numbers facts shapes c.boots_alone.ensures.law complete with_facts with_shapes;
      plain = plain_replays;
    }
