use Rattle.cue_scripts.proofs.FileAgainLemmas.{script_again}
use Rattle.cue_scripts.proofs.law.written_is_read.Goals as goal

pub returns : goal.returns
returns c = script_again
