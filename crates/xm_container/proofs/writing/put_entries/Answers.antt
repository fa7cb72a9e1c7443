use Rattle.std.specs.Prelude.{option_copied}
use Rattle.xm_container.proofs.FileLemmas.{file_is}
use Rattle.xm_container.proofs.PackLemmas.{entries_on, entries_done}
use Rattle.xm_container.specs.Pack.{image_of}
use Rattle.xm_container.proofs.writing.put_entries.Goals as goal

pub put_entry-requires : goal.put_entry-requires
put_entry-requires c =
    file_is c.image_at.result.now (image_of c.args.images.now c.loop-id.id) (option_copied c.file_of-file.result) c.file_of-file.ensures c.image_at.ensures

pub loop-id-preserved : goal.loop-id-preserved
loop-id-preserved c =
    rw c.in_ok-put_entry.ensures
    (entries_on c.args.images.now c.args.parts c.loop-id.id c.image_at.result.now c.loop-id.out.items _ c.loop-id-test.true c.image_at.ensures c.loop-id.invariant)

pub returns : goal.returns
returns c = entries_done c.args.images.now c.args.parts c.loop-id.id c.loop-id.out.items _ c.loop-id-test.false c.loop-id.invariant
