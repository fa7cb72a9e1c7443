use Rattle.system_state.proofs.StepLemmas.{selected_became}
use Rattle.system_state.proofs.stepping.settle_part.Goals as goal

pub returns-clause-memory : goal.returns-clause-memory
returns-clause-memory c =
    let memory = rw c.select.ensures.value at c.settle_cached-turn.ensures.memory in
    selected_became c.args.p c.args.ram.now c.select.new.ram c.settle_cached-turn.new.bus _ c.select.ensures.value c.selected-before.ensures.memories c.selected-after.ensures.memories c.settle_cached-turn.ensures.others c.settle_cached-turn.ensures.areas memory
