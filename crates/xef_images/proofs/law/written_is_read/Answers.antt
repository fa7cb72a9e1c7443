use Rattle.xef_images.specs.lemmas.XefLemmas.{xef_again}
use Rattle.xef_images.proofs.law.written_is_read.Goals as goal

pub returns : goal.returns
returns c = xef_again
