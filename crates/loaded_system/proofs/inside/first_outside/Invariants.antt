use Rattle.std.proofs.Common.{◌≡◌, drop, take}
use Rattle.std.specs.Prelude.{All}
use Rattle.xef_images.specs.Image.{IsImage}
use Rattle.loaded_system.specs.Inside.{first_outside_from}
use Rattle.loaded_system.proofs.inside.first_outside.Given as goal

abbrev pub invariant-loop-id : goal.invariant-loop-id
invariant-loop-id l = record {
  rest : first_outside_from l.id (drop l.id l.parts) (drop l.id l.images) ≡ first_outside_from 0 l.parts l.images;
  images : All IsImage (take l.id l.images);
}
