use Rattle.range_model.proofs.StepLemmas.{turned_in_range}
use Rattle.range_model.proofs.law.instructions_keep_ranges.Goals as goal

pub returns : goal.returns
returns c = record { law = turned_in_range }
