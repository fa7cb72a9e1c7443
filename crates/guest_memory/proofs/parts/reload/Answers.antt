use Rattle.guest_memory.proofs.parts.reload.Goals as goal

pub load_image-requires-clause-inside : goal.load_image-requires-clause-inside
load_image-requires-clause-inside c = rw c.entries.ensures c.requires.inside
