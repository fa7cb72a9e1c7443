use Rattle.machine_model.proofs.ShapeFactLemmas.{boots_with_shapes, keeps_shapes, ports_have_kinds, runs_with_shapes}
use Rattle.machine_model.proofs.law.keeps_shapes.Goals as goal

pub returns : goal.returns
returns c = record { boots = boots_with_shapes; ticks = keeps_shapes; runs = runs_with_shapes; kinds = ports_have_kinds }
