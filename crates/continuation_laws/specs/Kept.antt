-- What holds of a machine at all times holds of it with the input words that are left as those that its partitions were given.
use Rattle.machine_model.specs.Facts.{HasFacts, HasShapes, IsClocked, IsComplete, IsTimed}
use Rattle.machine_model.specs.Machine.{Machine}
use Rattle.continuation_laws.specs.Given.{with_left}

-- the facts of its partitions, and that it has all parts, that its clocks are in their bounds, and that its channels hold what they may
pub record KeepsWithLeft (g : Machine) : Type 0 where
  pub facts : HasFacts g → HasFacts (with_left g)
  pub complete : IsComplete g → IsComplete (with_left g)
  pub timed : IsTimed g → IsTimed (with_left g)
  pub clocked : IsClocked g → IsClocked (with_left g)
  pub shapes : HasShapes g → HasShapes (with_left g)

abbrev pub LeftKeepFacts : Type 0
LeftKeepFacts = (g : Machine) → KeepsWithLeft g
