use Rattle.sparc_step.proofs.EnteringLemmas.{moved_eight}
use Rattle.sparc_step.proofs.processor.move_eight.Goals as goal

pub returns : goal.returns
returns c =
    moved_eight c.args.words.now c.copy_within.new.self c.args.from c.args.to c.requires.from c.requires.to c.copy_within.ensures.len
    c.copy_within.ensures.by_index.0 c.copy_within.ensures.by_index.1 c.copy_within.ensures.by_index.2
