use Rattle.builders.specs.Imaging.{image_lines_of}
use Rattle.builders.specs.lemmas.ImagingLemmas.{image_unmade}
use Rattle.builders.proofs.imaging.image_lines.Goals as goal

pub returns-in-Err : goal.returns-in-Err
unfolding image_lines_of
returns-in-Err c = image_unmade c.in-Err.fault _ c.no_image.result c.in-Err.ensures.exact c.no_image.ensures.text c.no_image.ensures.memory
