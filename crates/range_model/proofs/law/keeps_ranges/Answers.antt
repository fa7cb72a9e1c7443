use Rattle.range_model.proofs.MachineLemmas.{boots_in_range, keeps_ranges, runs_in_range}
use Rattle.range_model.proofs.law.keeps_ranges.Goals as goal

pub returns : goal.returns
returns c =
    let same = c.keeps_numbers.ensures.ticks in
    let complete = c.keeps_numbers.ensures.boots in
    record { boots = boots_in_range complete; ticks = keeps_ranges same; runs = runs_in_range same complete }
