use Rattle.std.proofs.Common.{ap, ◌∙◌}
use Rattle.guest_memory.specs.Memories.{Memories, map_at, with_selected}
use Rattle.system_state.proofs.InsideLemmas.{map_same}
use Rattle.system_state.proofs.StepLemmas.{selected_became}
use Rattle.system_state.proofs.stepping.return_part.Goals as goal

pub returns-clause-memory : goal.returns-clause-memory
returns-clause-memory c =
    let memory = rw c.select.ensures.value at c.iret_cached-answer.ensures.memory in
    selected_became c.args.p c.args.ram.now c.select.new.ram c.iret_cached-answer.new.bus (map_at c.args.p c.args.ram.now) c.select.ensures.value c.selected-before.ensures.memories c.selected-after.ensures.memories c.iret_cached-answer.ensures.others c.iret_cached-answer.ensures.areas memory
    ∙ ap (λ (m : Memories). with_selected c.args.p m) (map_same c.args.p c.args.ram.now)
