use Rattle.std.proofs.Common.{◌≡◌, ◌-◌, drop, length}
use Rattle.std.specs.Prelude.{All}
use Rattle.xef_images.specs.Image.{IsImage}
use Rattle.loaded_system.specs.Inside.{first_outside_from}
use Rattle.xm_container.specs.Pack.{in_order}
use Rattle.xm_container.proofs.writing.first_outside.Given as goal

abbrev pub invariant-loop-id : goal.invariant-loop-id
invariant-loop-id l = record {
  rest : first_outside_from l.id (drop l.id l.parts) (in_order l.images l.id (length l.parts - l.id)) ≡ first_outside_from 0 l.parts (in_order l.images 0 (length l.parts));
  images : All IsImage (in_order l.images l.id (length l.parts - l.id)) → All IsImage (in_order l.images 0 (length l.parts));
}
