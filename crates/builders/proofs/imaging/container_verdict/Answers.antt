use Rattle.std.proofs.Common.{refl}
use Rattle.builders.specs.Imaging.{container_verdict_of, container_verdict_by}
use Rattle.builders.specs.lemmas.ImagingLemmas.{container_unmade}
use Rattle.builders.proofs.imaging.container_verdict.Goals as goal

pub returns-in-Err : goal.returns-in-Err
unfolding container_verdict_of
returns-in-Err c = container_unmade (container_verdict_by) (λ fault. refl) c.in-Err.fault _ c.no_container.result c.in-Err.ensures.exact c.no_container.ensures.text c.no_container.ensures.memory
