use Rattle.cue_scripts.proofs.WriterLemmas.{first_written}
use Rattle.cue_scripts.proofs.writer.ScriptWriter.new.Goals as goal

pub returns-clause-written : goal.returns-clause-written
returns-clause-written c = rw c.new.ensures.items first_written
