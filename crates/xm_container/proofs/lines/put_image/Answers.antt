use Rattle.std.proofs.Common.{◌≡◌, ℕ, List, ◌++◌, ap, length, subst, ◌∙◌}
use Rattle.std.specs.Prelude.{OnOk}
use Rattle.xef_images.specs.lemmas.XefLemmas.{digest_at_end}
use Rattle.xm_container.specs.Texts.{file_line, image_line}
use Rattle.xm_container.proofs.LineLemmas.{spelled_line}
use Rattle.xm_container.proofs.lines.put_image.Goals as goal

pub stored_digest-requires : goal.stored_digest-requires
stored_digest-requires c = (digest_at_end c.args.file.now c.args.xef.now c.requires).0

pub returns : goal.returns
returns c =
    let is : file_line c.args.id (length c.args.file.now) c.entry.result c.stored_digest.result.now ≡ image_line c.args.id c.args.xef.now
    = ap (file_line c.args.id (length c.args.file.now) c.entry.result) c.stored_digest.ensures.value ∙ spelled_line c.args.id c.entry.result c.args.xef.now c.args.file.now c.requires c.entry.ensures.value in
    subst (λ (line : List ℕ). OnOk c.put_file.result (c.put_file.new.lines.items ≡ c.args.lines.now.items ++ line)) is c.put_file.ensures
