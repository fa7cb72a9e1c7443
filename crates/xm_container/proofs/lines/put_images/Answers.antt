use Rattle.std.proofs.Common.{◌∙◌}
use Rattle.xm_container.proofs.FileLemmas.{image_begins}
use Rattle.xm_container.proofs.LineLemmas.{lines_on}
use Rattle.xm_container.proofs.lines.put_images.Goals as goal

pub first_file-requires : goal.first_file-requires
first_file-requires c =
    (image_begins c.args.system.now.images c.loop-id.id c.image-xef.result.now c.loop-id.rest.now c.image-xef.ensures.system.images c.image-xef.ensures.value c.loop-id.invariant.rest).0

pub put_image-requires : goal.put_image-requires
put_image-requires c =
    let begun = image_begins c.args.system.now.images c.loop-id.id c.image-xef.result.now c.loop-id.rest.now c.image-xef.ensures.system.images c.image-xef.ensures.value c.loop-id.invariant.rest in
    (c.first_file.ensures begun.0).0 ∙ begun.1

pub loop-id-preserved : goal.loop-id-preserved
loop-id-preserved c =
    let begun = image_begins c.args.system.now.images c.loop-id.id c.image-xef.result.now c.loop-id.rest.now c.image-xef.ensures.system.images c.image-xef.ensures.value c.loop-id.invariant.rest in
    record {
      lines = rw c.in_ok-put_image.ensures (lines_on c.args.system.now.images c.loop-id.id c.image-xef.result.now c.loop-id.lines.items _ c.image-xef.ensures.value c.loop-id.invariant.lines);
      rest = (c.first_file.ensures begun.0).1 ∙ begun.2;
    }
