use Rattle.xmcf_reader.proofs.OfTags.{text_of_tags}
use Rattle.xmcf_reader.proofs.law.nested.Goals as goal

pub returns : goal.returns
returns c = text_of_tags
