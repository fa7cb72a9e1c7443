use Rattle.xm_container.proofs.FileLemmas.{sized_room, sized_enough, sized_parts}
use Rattle.xm_container.proofs.files.sized.Goals as goal

pub split_at-requires : goal.split_at-requires
split_at-requires c = sized_room c.args.bytes.now c.requires

pub split_at-requires-2 : goal.split_at-requires-2
split_at-requires-2 c =
    sized_enough c.args.bytes.now c.split_at.result.1.now c.split_at.result.0.now c.word.result c.requires c.split_at.ensures.front c.split_at.ensures.back c.word.ensures

pub returns : goal.returns
returns c = λ begun.
    sized_parts c.args.bytes.now c.split_at.result.1.now c.split_at.result.0.now c.split_at-2.result.0.now c.split_at-2.result.1.now c.word.result begun c.split_at.ensures.front c.split_at.ensures.back c.word.ensures
    c.split_at-2.ensures.front c.split_at-2.ensures.back
