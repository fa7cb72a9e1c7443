use Rattle.xmcf_reader.proofs.Takes.{token_taken}
use Rattle.xmcf_reader.proofs.law.taken.Goals as goal

pub returns : goal.returns
returns c = token_taken
