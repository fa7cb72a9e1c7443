use Rattle.std.proofs.Common.{refl}
use Rattle.xef_images.specs.Texts.{xef_lines}
use Rattle.xef_images.specs.lemmas.XefLemmas.{digest_at_end}
use Rattle.xef_images.proofs.lines.describe.Goals as goal

pub stored_digest-requires : goal.stored_digest-requires
stored_digest-requires c = (digest_at_end c.args.bytes.now c.args.image.now c.requires).0

pub returns : goal.returns
unfolding xef_lines
returns c =
    let digest = (digest_at_end c.args.bytes.now c.args.image.now c.requires).1 in
    rw (c.in_ok-put_digest_line.ensures, c.in_ok-put_segments.ensures, c.in_ok-put_entry.ensures, c.new-lines.ensures.items, c.stored_digest.ensures.value, digest, c.segments.ensures.value, c.entry.ensures.value) refl
