use Rattle.range_model.proofs.MachineLemmas.{booted_scripts_are_in_range, cues_are_in_range, scripts_are_in_range}
use Rattle.range_model.proofs.law.cues_are_in_range.Goals as goal

pub returns : goal.returns
returns c =
    let same = c.keeps_numbers.ensures.ticks in
    record { tick = cues_are_in_range; run = scripts_are_in_range same; booted = booted_scripts_are_in_range same c.keeps_numbers.ensures.boots }
