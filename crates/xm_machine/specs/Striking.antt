-- Which upsets may strike a machine.
use Rattle.std.specs.Prelude.{◌≡◌, ◌<◌, true, length}
use Rattle.machine_model.specs.Machine.{Machine}
use Rattle.machine_model.specs.View.{view_of}
use Rattle.upset_model.specs.Places.{is_place}
use Rattle.upset_model.specs.declared.upset_line.UpsetLine.{UpsetLine}

-- the partition of the line is there, and may be struck at its place and its bit
pub record MayStrike (g : Machine) (line : UpsetLine) : Type 0 where
  pub partition : line.part < length g.parts
  pub place : is_place (view_of g.system line.part) line.place line.bit ≡ true
