use Rattle.std.proofs.Common.{ℕ, refl}
use Rattle.sparc_code.specs.declared.instruction.Instr.TheVariants as instr
use Rattle.sparc_code.specs.declared.instruction.Src.{Src}
use Rattle.predecode.specs.Kinds.{WritesY}
use Rattle.predecode.proofs.RowLemmas.{numbers_by_kind, row_by_kind, sum_form, summed}
use Rattle.predecode.proofs.rows.write_y.Goals as goal

pub returns-clause-row : goal.returns-clause-row
returns-clause-row c =
    let has = c.with_source.ensures.row in
    row_by_kind WritesY c.with_source.result _ has refl (summed c.with_source.result (λ (r n : ℕ) (s : Src). instr.WriteY n s) 0 0 has refl)

pub returns-clause-registers : goal.returns-clause-registers
returns-clause-registers c = numbers_by_kind WritesY c.with_source.result c.with_source.ensures.row refl tt c.requires.rs1 c.with_source.ensures.register tt (sum_form c.args.src c.with_source.result c.with_source.ensures.row.second)
