use Rattle.guest_memory.specs.Loading.{memory_areas}
use Rattle.predecoded_memory.proofs.KeptLemmas.{first_whole}
use Rattle.predecoded_memory.proofs.predecoded.rows_in.Goals as goal

pub numbered-requires-clause-first : goal.numbered-requires-clause-first
numbered-requires-clause-first c = rw c.first_in-first.ensures (first_whole (memory_areas c.args.part.now) c.requires.placed)
