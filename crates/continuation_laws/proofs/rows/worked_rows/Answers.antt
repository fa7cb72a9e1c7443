use Rattle.continuation_laws.proofs.RowLemmas.{goes_on_at_its_tick, one_is_left, split_at_tick, strikes_at_its_tick}
use Rattle.continuation_laws.proofs.rows.worked_rows.Goals as goal

pub returns : goal.returns
returns c = record { left = one_is_left; upsets = strikes_at_its_tick; split = split_at_tick; onward = goes_on_at_its_tick }
