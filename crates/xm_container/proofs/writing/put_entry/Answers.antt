use Rattle.std.proofs.Common.{◌≡◌, ◌∙◌}
use Rattle.xef_images.specs.Spelling.{xef_text}
use Rattle.xm_container.proofs.FileLemmas.{numbered}
use Rattle.xm_container.proofs.writing.put_entry.Goals as goal

pub returns-in-Some : goal.returns-in-Some
returns-in-Some c =
    let is : c.in-Some.bytes.now ≡ xef_text c.args.xef.now = rw c.in-Some.is at c.requires in
    numbered c.put_numbered.result c.args.out.now.items c.put_numbered.new.out.items c.in-Some.bytes.now c.args.id c.args.xef.now is c.put_numbered.ensures

pub returns-in_ok-bytes-in-None : goal.returns-in_ok-bytes-in-None
returns-in_ok-bytes-in-None c =
    numbered c.put_numbered-in-None.result c.args.out.now.items c.put_numbered-in-None.new.out.items c.deref.result.now c.args.id c.args.xef.now (c.deref.ensures.value ∙ c.in_ok-bytes-in-None.ensures) c.put_numbered-in-None.ensures
