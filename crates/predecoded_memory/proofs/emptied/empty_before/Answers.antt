use Rattle.std.proofs.Common.{rules, ◌-◌, ◌<◌, List, length, get_or, arith, subst, sym}
use Rattle.std.proofs.lemmas.Option.{slice_get-get_or}
use Rattle.predecode.specs.declared.rows.Row.{Row}
use Rattle.predecoded_memory.specs.lemmas.SharesTerms.{IsLone, row_of_zeros}
use Rattle.predecoded_memory.proofs.EmptiedLemmas.{branch_lone, other_lone}
use Rattle.predecoded_memory.proofs.emptied.empty_before.Goals as goal

pub returns-then-not-is_branch : goal.returns-then-not-is_branch
returns-then-not-is_branch c =
    let below : c.args.begin - 1 < length c.args.rows.now = omega (arith, c.if-begin-gt0.true, c.requires) in
    subst (λ (rows : List Row). IsLone c.args.begin c.args.rows.now rows) (sym c.empty_row.ensures)
    (other_lone c.args.rows.now c.args.begin (c.args.begin - 1) (get_or c.args.rows.now (c.args.begin - 1) row_of_zeros) (omega (arith, c.if-begin-gt0.true)) below
    (slice_get-get_or c.args.rows.now (c.args.begin - 1) row_of_zeros below) (λ branch. let is = c.is_branch.ensures.1 branch in cc))

pub returns-else-not-is_branch : goal.returns-else-not-is_branch
returns-else-not-is_branch c =
    let below : c.args.begin - 1 < length c.args.rows.now = omega (arith, c.if-begin-gt0.true, c.requires) in
    branch_lone c.args.rows.now c.args.begin (c.args.begin - 1) (get_or c.args.rows.now (c.args.begin - 1) row_of_zeros) (omega (arith, c.if-begin-gt0.true))
    (slice_get-get_or c.args.rows.now (c.args.begin - 1) row_of_zeros below) (c.is_branch.ensures.0 (search rules))
