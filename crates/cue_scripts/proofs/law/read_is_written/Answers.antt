use Rattle.cue_scripts.proofs.FileTakeLemmas.{script_takes}
use Rattle.cue_scripts.proofs.law.read_is_written.Goals as goal

pub returns : goal.returns
returns c = script_takes
