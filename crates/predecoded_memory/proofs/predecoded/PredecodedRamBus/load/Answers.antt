use Rattle.predecoded_memory.proofs.SelectedLemmas.{read_kept}
use Rattle.predecoded_memory.proofs.predecoded.PredecodedRamBus.load.Goals as goal

pub invariant_of-self : goal.invariant_of-self
invariant_of-self c =
    read_kept c.self.inside.ram c.load-value.new.self c.self.inside.rows.items c.self.inside.lengths.items c.self.inside.parts.items c.self.inside.share c.self.inside.top c.self.inside.own
    c.self.invariant c.selected-now.ensures.memories c.load-value.ensures.others c.load-value.ensures.areas c.load-value.ensures.memory
