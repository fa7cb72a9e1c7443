use borrow.Rule.Slice.PartMut.{put_mid}
use Rattle.std.proofs.Common.{◌≡◌, ◌-◌, ◌≤◌, ℕ, List, length, length-take, take, drop, refl, sym, ap, ◌∙◌, subst, arith}
use Rattle.std.proofs.lemmas.List.{with_items_is}
use Rattle.std.specs.Vec.{with_items}
use Rattle.guest_memory.specs.Memories.{Memories, areas_at, map_at}
use Rattle.predecode.specs.declared.rows.Row.{Row}
use Rattle.fast_loop.specs.Keeping.{AreLengths, AreRowsOf}
use Rattle.predecoded_memory.specs.Shares.{AreKept, made_of}
use Rattle.predecoded_memory.specs.lemmas.MakingTerms.{AreGrown}
use Rattle.predecoded_memory.proofs.GoingLemmas.{share_lengths, share_rows}
use Rattle.predecoded_memory.proofs.PreparedLemmas.{prepared_kept}
use Rattle.predecoded_memory.proofs.predecoded.PredecodedRam.prepare.Goals as goal

pub prepared-top-requires-clause-rows : goal.prepared-top-requires-clause-rows
prepared-top-requires-clause-rows c =
    let begin = c.self.inside.own.words.begin in
    let n = c.self.inside.own.words.end - begin in
    let made : made_of c.self.inside.top c.self.inside.own ≤ n = omega arith in
    let fits : n ≤ c.self.inside.own.words.end - begin = omega arith in
    subst (λ (l : List Row). AreRowsOf (take n (drop begin l)) (areas_at c.self.inside.ram.selected c.self.inside.ram) (map_at c.self.inside.ram.selected c.self.inside.ram) c.self.inside.own.first) (sym c.deref_mut.ensures.value)
    (share_rows c.self.inside.ram c.self.inside.rows.items c.self.inside.lengths.items c.self.inside.parts.items c.self.inside.share c.self.inside.top c.self.inside.own c.self.invariant n made fits)

pub prepared-top-requires-clause-lengths : goal.prepared-top-requires-clause-lengths
prepared-top-requires-clause-lengths c =
    let begin = c.self.inside.own.words.begin in
    let n = c.self.inside.own.words.end - begin in
    let made : made_of c.self.inside.top c.self.inside.own ≤ n = omega arith in
    let fits : n ≤ c.self.inside.own.words.end - begin = omega arith in
    subst (λ (l : List Row). AreLengths (take n (drop begin c.deref_mut-2.result.now)) (take n (drop begin l))) (sym c.deref_mut.ensures.value)
    (subst (λ (l : List ℕ). AreLengths (take n (drop begin l)) (take n (drop begin c.self.inside.rows.items))) (sym c.deref_mut-2.ensures.value)
    (share_lengths c.self.inside.ram c.self.inside.rows.items c.self.inside.lengths.items c.self.inside.parts.items c.self.inside.share c.self.inside.top c.self.inside.own c.self.invariant n made fits))

pub invariant_of-self : goal.invariant_of-self
invariant_of-self c =
    let begin = c.self.inside.own.words.begin in
    let n = c.self.inside.own.words.end - begin in
    let within : c.prepared-top.result ≤ n = omega (arith, c.prepared-top.ensures.within, length-take n (drop begin c.deref_mut.result.now)) in
    let kept = prepared_kept c.self.inside.ram c.self.inside.rows.items c.self.inside.lengths.items c.self.inside.parts.items c.self.inside.share c.self.inside.top c.self.inside.own c.self.invariant n c.prepared-top.result c.prepared-top.new.rows c.prepared-top.new.lengths refl within
    (subst (λ (l : List Row). AreGrown (areas_at c.self.inside.ram.selected c.self.inside.ram) (map_at c.self.inside.ram.selected c.self.inside.ram) c.self.inside.own.first c.prepared-top.result (take n (drop begin l)) (take n (drop begin c.self.inside.lengths.items)) c.prepared-top.new.rows c.prepared-top.new.lengths) c.deref_mut.ensures.value
    (subst (λ (l : List ℕ). AreGrown (areas_at c.self.inside.ram.selected c.self.inside.ram) (map_at c.self.inside.ram.selected c.self.inside.ram) c.self.inside.own.first c.prepared-top.result (take n (drop begin c.deref_mut.result.now)) (take n (drop begin l)) c.prepared-top.new.rows c.prepared-top.new.lengths) c.deref_mut-2.ensures.value
    c.prepared-top.ensures.grown)) in
    let rows_part : put_mid begin n c.deref_mut.result.now c.prepared-top.new.rows ≡ put_mid begin n c.self.inside.rows.items c.prepared-top.new.rows = ap (λ (l : List Row). put_mid begin n l c.prepared-top.new.rows) c.deref_mut.ensures.value in
    let lengths_part : put_mid begin n c.deref_mut-2.result.now c.prepared-top.new.lengths ≡ put_mid begin n c.self.inside.lengths.items c.prepared-top.new.lengths = ap (λ (l : List ℕ). put_mid begin n l c.prepared-top.new.lengths) c.deref_mut-2.ensures.value in
    let many : length (put_mid begin n c.self.inside.rows.items c.prepared-top.new.rows) ≡ length c.self.inside.rows.items = kept.whole ∙ sym c.self.invariant.whole in
    let rows_all : (with_items c.self.inside.rows (put_mid begin n c.deref_mut.result.now c.prepared-top.new.rows)).items ≡ put_mid begin n c.self.inside.rows.items c.prepared-top.new.rows =
    with_items_is c.self.inside.rows (put_mid begin n c.deref_mut.result.now c.prepared-top.new.rows) (ap length rows_part ∙ many ∙ sym (ap length c.deref_mut.ensures.value) ∙ c.deref_mut.ensures.len) ∙ rows_part in
    let lengths_all : (with_items c.self.inside.lengths (put_mid begin n c.deref_mut-2.result.now c.prepared-top.new.lengths)).items ≡ put_mid begin n c.self.inside.lengths.items c.prepared-top.new.lengths =
    with_items_is c.self.inside.lengths (put_mid begin n c.deref_mut-2.result.now c.prepared-top.new.lengths) (ap length lengths_part ∙ kept.measured ∙ many ∙ sym c.self.invariant.measured ∙ sym (ap length c.deref_mut-2.ensures.value) ∙ c.deref_mut-2.ensures.len) ∙ lengths_part in
    subst (λ (r : Memories). AreKept r (with_items c.self.inside.rows (put_mid begin n c.deref_mut.result.now c.prepared-top.new.rows)).items (with_items c.self.inside.lengths (put_mid begin n c.deref_mut-2.result.now c.prepared-top.new.lengths)).items c.self.inside.parts.items c.self.inside.share c.max-self-inside.result c.self.inside.own) (sym c.prepared-top.ensures.ram)
    (subst (λ (l : List Row). AreKept c.self.inside.ram l (with_items c.self.inside.lengths (put_mid begin n c.deref_mut-2.result.now c.prepared-top.new.lengths)).items c.self.inside.parts.items c.self.inside.share c.max-self-inside.result c.self.inside.own) (sym rows_all)
    (subst (λ (l : List ℕ). AreKept c.self.inside.ram (put_mid begin n c.self.inside.rows.items c.prepared-top.new.rows) l c.self.inside.parts.items c.self.inside.share c.max-self-inside.result c.self.inside.own) (sym lengths_all)
    (subst (λ (t : ℕ). AreKept c.self.inside.ram (put_mid begin n c.self.inside.rows.items c.prepared-top.new.rows) (put_mid begin n c.self.inside.lengths.items c.prepared-top.new.lengths) c.self.inside.parts.items c.self.inside.share t c.self.inside.own) (sym c.max-self-inside.ensures) kept)))
