use Rattle.xmcf_reader.proofs.Faultless.{text_drafted}
use Rattle.xmcf_reader.proofs.law.drafted.Goals as goal

pub returns : goal.returns
returns c = text_drafted
