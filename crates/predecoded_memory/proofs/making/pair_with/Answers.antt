use Rattle.std.proofs.Common.{refl, sym}
use Rattle.guest_memory.specs.Memories.{areas_at, map_at}
use Rattle.predecoded_memory.proofs.PairedLemmas.{paired}
use Rattle.predecoded_memory.proofs.making.pair_with.Goals as goal

pub returns-then-is_branch-clause-made : goal.returns-then-is_branch-clause-made
returns-then-is_branch-clause-made c =
    paired (areas_at c.args.ram.now.selected c.args.ram.now) (map_at c.args.ram.now.selected c.args.ram.now) c.args.first c.args.at c.address_of.result c.in-Ok.word c.row_for-row.result.rs1
    c.args.rows.now c.put_row.new.rows c.set_kind.new.rows c.args.lengths.now c.put_row.new.lengths c.pair_for.result c.args.kind c.row_for-row.result
    c.requires.rows c.requires.lengths c.requires.at c.requires.kind c.requires.alone c.requires.work
    (sym c.in-Ok.ensures.value) c.address_of.ensures c.row_for-row.ensures.row (rw c.if-is_branch.true at c.is_branch.ensures) c.put_row.ensures.rows c.put_row.ensures.lengths refl c.pair_for.ensures.work c.pair_for.ensures.pair c.set_kind.ensures
