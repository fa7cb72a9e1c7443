use Rattle.xef_images.specs.lemmas.XefLemmas.{xef_ends}
use Rattle.xef_images.proofs.law.none_goes_on.Goals as goal

pub returns : goal.returns
returns c = xef_ends
