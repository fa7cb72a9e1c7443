use Rattle.predecoded_memory.proofs.SelectedLemmas.{read_kept}
use Rattle.predecoded_memory.proofs.predecoded.PredecodedRamBus.fetch.Goals as goal

pub invariant_of-self : goal.invariant_of-self
invariant_of-self c =
    read_kept c.self.inside.ram c.fetch-word.new.self c.self.inside.rows.items c.self.inside.lengths.items c.self.inside.parts.items c.self.inside.share c.self.inside.top c.self.inside.own
    c.self.invariant c.selected-now.ensures.memories c.fetch-word.ensures.others c.fetch-word.ensures.areas c.fetch-word.ensures.memory
