use Rattle.std.proofs.Common.{refl}
use Rattle.sparc_code.specs.declared.instruction.Instr.TheVariants as instr
use Rattle.predecode.specs.Kinds.{Saves}
use Rattle.predecode.proofs.RowLemmas.{numbers_by_kind, row_by_kind, sum_form, summed}
use Rattle.predecode.proofs.rows.save.Goals as goal

pub returns-clause-row : goal.returns-clause-row
returns-clause-row c =
    let has = c.with_source.ensures.row in
    row_by_kind Saves c.with_source.result _ has refl (summed c.with_source.result instr.Save c.with_source.result.rd c.args.rd has has.result)

pub returns-clause-registers : goal.returns-clause-registers
returns-clause-registers c = numbers_by_kind Saves c.with_source.result c.with_source.ensures.row refl c.requires.rd c.requires.rs1 c.with_source.ensures.register tt (sum_form c.args.src c.with_source.result c.with_source.ensures.row.second)
