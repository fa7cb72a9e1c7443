use Rattle.std.proofs.Common.{ap, ◌∙◌, refl}
use Rattle.sparc_code.specs.declared.instruction.Instr.TheVariants as instr
use Rattle.sparc_step.specs.Cached.{register_of}
use Rattle.predecode.specs.Kinds.{Jumps}
use Rattle.predecode.proofs.RowLemmas.{numbers_by_kind, row_by_kind, sum_form, summed}
use Rattle.predecode.proofs.rows.jump.Goals as goal

pub returns-clause-row : goal.returns-clause-row
returns-clause-row c =
    let has = c.with_source.ensures.row in
    row_by_kind Jumps c.with_source.result _ has refl (summed c.with_source.result instr.Jump (register_of c.with_source.result.rd) c.args.rd has (ap register_of has.result ∙ c.sunk.ensures.register))

pub returns-clause-registers : goal.returns-clause-registers
returns-clause-registers c = numbers_by_kind Jumps c.with_source.result c.with_source.ensures.row refl (c.sunk.ensures.some, c.sunk.ensures.below) c.requires.rs1 c.with_source.ensures.register tt (sum_form c.args.src c.with_source.result c.with_source.ensures.row.second)
