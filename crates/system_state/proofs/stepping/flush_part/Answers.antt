use Rattle.guest_memory.specs.Memories.{areas_at, map_at}
use Rattle.machine_model.specs.OwnEffects.{flushed}
use Rattle.virt_traps.specs.Moves.{move_made}
use Rattle.system_state.proofs.StepLemmas.{selected_became}
use Rattle.system_state.proofs.stepping.flush_part.Goals as goal

pub returns-clause-answer : goal.returns-clause-answer
returns-clause-answer c = rw c.select.ensures.value at c.flush-answer.ensures.moved.answered

pub returns-clause-core : goal.returns-clause-core
returns-clause-core c = rw c.select.ensures.value at c.flush-answer.ensures.moved.registers

pub returns-clause-memory : goal.returns-clause-memory
returns-clause-memory c =
    let memory = rw c.select.ensures.value at c.flush-answer.ensures.moved.bytes in
    selected_became c.args.p c.args.ram.now c.select.new.ram c.flush-answer.new.bus (flushed 8 (areas_at c.args.p c.args.ram.now) (move_made c.args.core.now (map_at c.args.p c.args.ram.now))).memory c.select.ensures.value c.selected-before.ensures.memories c.selected-after.ensures.memories c.flush-answer.ensures.others c.flush-answer.ensures.areas memory
