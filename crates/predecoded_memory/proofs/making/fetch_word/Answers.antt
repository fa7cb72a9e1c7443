use Rattle.predecoded_memory.proofs.SelectedLemmas.{bus_same}
use Rattle.predecoded_memory.proofs.making.fetch_word.Goals as goal

pub returns-clause-ram : goal.returns-clause-ram
returns-clause-ram c =
    bus_same c.args.ram.now c.fetch-word.new.self c.selected-before.ensures.memories c.selected-after.ensures.memories c.fetch-word.ensures.others c.fetch-word.ensures.areas c.fetch-word.ensures.memory
