use Rattle.builders.specs.Imaging.{xef_of}
use Rattle.builders.specs.lemmas.ImagingLemmas.{program_unmade}
use Rattle.builders.proofs.imaging.make_xef.Goals as goal

pub returns-in-Err : goal.returns-in-Err
unfolding xef_of
returns-in-Err c = program_unmade c.in-Err.fault _ c.no_program.result c.in-Err.ensures c.no_program.ensures.text c.no_program.ensures.memory
