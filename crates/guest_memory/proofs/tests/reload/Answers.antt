use Rattle.guest_memory.specs.lemmas.LoadingLemmas.{image_lies}
use Rattle.guest_memory.proofs.tests.reload.Goals as goal

pub reload-requires-clause-inside : goal.reload-requires-clause-inside
reload-requires-clause-inside c =
    image_lies c.args.system.now c.args.ram.now c.args.p c.image.result.now c.image.ensures.system c.requires.areas c.requires.partition c.image.ensures.value
