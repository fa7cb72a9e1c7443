use Rattle.std.proofs.Common.{◌≡◌, None, length, rules}
use Rattle.std.specs.Prelude.{All}
use Rattle.loaded_system.specs.Inside.{first_outside}
use Rattle.xef_images.specs.Image.{IsImage}
use Rattle.xm_container.specs.Numbers.{missing}
use Rattle.xm_container.specs.Pack.{partition_numbers, in_order}
use Rattle.xm_container.proofs.PackedLemmas.{system_loads, packed_read}
use Rattle.xm_container.proofs.writing.pack_with_files.Goals as goal

pub returns-clause-read : goal.returns-clause-read
returns-clause-read c =
    let conf = c.args.conf.now in
    let images = c.args.images.now in
    let each : All IsImage (in_order c.args.images.now 0 (length c.args.conf.now.parts)) = search rules in
    let none : missing (length c.args.conf.now.parts) (partition_numbers c.args.images.now) ≡ None = search rules in
    let inside : first_outside c.args.conf.now.parts (in_order c.args.images.now 0 (length c.args.conf.now.parts)) ≡ None = search rules in
    packed_read c.packed_is_unpacked.ensures.law conf images c.in_ok-fields.fields.items c.sealed.result (system_loads conf images c.parts-parts.ensures.fits each none inside) c.in_ok-fields.ensures.ranges
    c.in_ok-fields.ensures.value (search rules)
