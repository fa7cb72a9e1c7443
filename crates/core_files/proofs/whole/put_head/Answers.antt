use Rattle.core_files.specs.Head.{core_head}
use Rattle.core_files.proofs.WritingLemmas.{and_both, and_written}
use Rattle.core_files.proofs.whole.put_head.Goals as goal

pub returns-clause-text : goal.returns-clause-text
unfolding core_head
returns-clause-text c =
    let standing = rw c.standing.ensures.value at c.put_structure-at.ensures.text in
    let processor = and_written _ _ _ _ standing (rw c.processor.ensures.value at c.put_structure-at-2.ensures.text) in
    let hardware = and_written _ _ _ _ processor (rw c.timer.ensures.value at c.put_structure-at-3.ensures.text) in
    let execution = and_written _ _ _ _ hardware (rw c.timer-2.ensures.value at c.put_structure-at-4.ensures.text) in
    let inputs = and_written _ _ _ _ execution (rw c.inputs_left.ensures.value at c.put_count-at.ensures.text) in
    let ports = and_written _ _ _ _ inputs (rw c.made_ports.ensures at c.put_word-at.ensures.text) in
    let registers = and_both _ _ _ _ _ ports c.put_registers-at.ensures.text in
    and_both _ _ _ _ _ registers c.put_logs.ensures.text
