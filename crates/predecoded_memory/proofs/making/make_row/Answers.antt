use Rattle.std.proofs.Common.{◌≡◌, ◌∙◌, true, slice_index_or, sym, subst}
use Rattle.guest_memory.specs.Memories.{Memories, areas_at, map_at}
use Rattle.predecode.specs.Kinds.{is_unmade}
use Rattle.fast_loop.specs.Keeping.{AreRowsOf}
use Rattle.predecoded_memory.specs.lemmas.MakingTerms.{AreMade}
use Rattle.predecoded_memory.specs.lemmas.SharesTerms.{row_of_zeros}
use Rattle.predecoded_memory.proofs.MadeLemmas.{made_then, row_made}
use Rattle.predecoded_memory.proofs.making.make_row.Goals as goal

pub pair-requires-clause-rows : goal.pair-requires-clause-rows
pair-requires-clause-rows c =
    let unmade : is_unmade (slice_index_or c.args.rows.now c.args.at row_of_zeros).kind ≡ true = sym c.is_unmade.ensures ∙ c.if-is_unmade.true in
    let one = row_made (areas_at c.args.ram.now.selected c.args.ram.now) (map_at c.args.ram.now.selected c.args.ram.now) c.args.first c.args.at c.address_of.result c.in-Ok.word c.args.rows.now c.put_row.new.rows c.args.lengths.now c.put_row.new.lengths c.row_for.result
    c.requires.rows c.requires.lengths c.requires.at unmade (sym c.in-Ok.ensures.value) c.address_of.ensures c.row_for.ensures.row c.row_for.ensures.alone c.put_row.ensures.rows c.put_row.ensures.lengths in
    subst (λ (m : Memories). AreRowsOf c.put_row.new.rows (areas_at m.selected m) (map_at m.selected m) c.args.first) (sym c.fetch_word.ensures.ram) one.rows

pub pair-requires-clause-lengths : goal.pair-requires-clause-lengths
pair-requires-clause-lengths c =
    let unmade : is_unmade (slice_index_or c.args.rows.now c.args.at row_of_zeros).kind ≡ true = sym c.is_unmade.ensures ∙ c.if-is_unmade.true in
    let one = row_made (areas_at c.args.ram.now.selected c.args.ram.now) (map_at c.args.ram.now.selected c.args.ram.now) c.args.first c.args.at c.address_of.result c.in-Ok.word c.args.rows.now c.put_row.new.rows c.args.lengths.now c.put_row.new.lengths c.row_for.result
    c.requires.rows c.requires.lengths c.requires.at unmade (sym c.in-Ok.ensures.value) c.address_of.ensures c.row_for.ensures.row c.row_for.ensures.alone c.put_row.ensures.rows c.put_row.ensures.lengths in
    one.lengths

pub returns-in-Ok-clause-made : goal.returns-in-Ok-clause-made
returns-in-Ok-clause-made c =
    let unmade : is_unmade (slice_index_or c.args.rows.now c.args.at row_of_zeros).kind ≡ true = sym c.is_unmade.ensures ∙ c.if-is_unmade.true in
    let one = row_made (areas_at c.args.ram.now.selected c.args.ram.now) (map_at c.args.ram.now.selected c.args.ram.now) c.args.first c.args.at c.address_of.result c.in-Ok.word c.args.rows.now c.put_row.new.rows c.args.lengths.now c.put_row.new.lengths c.row_for.result
    c.requires.rows c.requires.lengths c.requires.at unmade (sym c.in-Ok.ensures.value) c.address_of.ensures c.row_for.ensures.row c.row_for.ensures.alone c.put_row.ensures.rows c.put_row.ensures.lengths in
    made_then (areas_at c.args.ram.now.selected c.args.ram.now) (map_at c.args.ram.now.selected c.args.ram.now) c.args.first c.args.at c.args.rows.now c.put_row.new.rows c.pair.new.rows c.args.lengths.now c.put_row.new.lengths c.pair.new.lengths one
    (subst (λ (m : Memories). AreMade (areas_at m.selected m) (map_at m.selected m) c.args.first c.args.at c.put_row.new.rows c.put_row.new.lengths c.pair.new.rows c.pair.new.lengths) c.fetch_word.ensures.ram c.pair.ensures.made)
