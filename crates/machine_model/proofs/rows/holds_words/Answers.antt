use Rattle.machine_model.proofs.HeldLemmas.{words_can_be_held}
use Rattle.machine_model.proofs.rows.holds_words.Goals as goal

pub returns : goal.returns
returns c = record { held = words_can_be_held }
