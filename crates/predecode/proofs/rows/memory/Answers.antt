use Rattle.predecode.proofs.RowLemmas.{memory_numbers, memory_row}
use Rattle.predecode.proofs.rows.memory.Goals as goal

pub returns-clause-row : goal.returns-clause-row
returns-clause-row c =
    memory_row c.is_number.result c.args.op c.args.rd c.with_source.result c.with_source.ensures.row c.memory_kind-kind.ensures.moved
    c.moved.ensures.register

pub returns-clause-registers : goal.returns-clause-registers
returns-clause-registers c =
    memory_numbers c.is_number.result c.args.op c.with_source.result c.with_source.ensures.row c.memory_kind-kind.ensures.moved c.is_number.ensures c.moved.ensures.number
    c.requires.rs1 c.with_source.ensures.register
