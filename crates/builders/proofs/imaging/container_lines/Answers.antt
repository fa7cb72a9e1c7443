use Rattle.std.proofs.Common.{refl}
use Rattle.builders.specs.Imaging.{container_lines_of, container_lines_by}
use Rattle.builders.specs.lemmas.ImagingLemmas.{container_unmade}
use Rattle.builders.proofs.imaging.container_lines.Goals as goal

pub returns-in-Err : goal.returns-in-Err
unfolding container_lines_of
returns-in-Err c = container_unmade (container_lines_by c.args.file.now) (λ fault. refl) c.in-Err.fault _ c.no_container.result c.in-Err.ensures.exact c.no_container.ensures.text c.no_container.ensures.memory
