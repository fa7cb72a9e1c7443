use Rattle.xef_images.specs.lemmas.XefLemmas.{length-xef_text}
use Rattle.xef_images.proofs.law.length_is_stated.Goals as goal

pub returns : goal.returns
returns c = λ image is. length-xef_text image is.most
