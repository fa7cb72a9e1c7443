use Rattle.predecode.proofs.RowLemmas.{work_numbers, work_row}
use Rattle.predecode.proofs.rows.other_work.Goals as goal

pub returns-clause-row : goal.returns-clause-row
returns-clause-row c =
    work_row c.is_number.result c.args.op c.args.rd c.with_source.result c.with_source.ensures.row c.work_kind-kind.ensures.work c.sunk.ensures.register

pub returns-clause-registers : goal.returns-clause-registers
returns-clause-registers c =
    work_numbers c.is_number.result c.args.op c.with_source.result c.with_source.ensures.row c.work_kind-kind.ensures.work c.is_number.ensures
    (c.sunk.ensures.some, c.sunk.ensures.below) c.requires.rs1 c.with_source.ensures.register
