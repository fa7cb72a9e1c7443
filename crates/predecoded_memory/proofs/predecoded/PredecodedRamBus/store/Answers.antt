use Rattle.std.proofs.Common.{◌≡◌, List, length, ap, refl, ◌∙◌, arith, subst, sym}
use Rattle.std.proofs.lemmas.List.{with_items_is}
use Rattle.std.specs.Vec.{with_items}
use Rattle.predecoded_memory.specs.Shares.{AreKept}
use Rattle.predecode.specs.lemmas.Reached.{word_after, words_written}
use Rattle.predecoded_memory.proofs.KeptLemmas.{reached_moved}
use Rattle.predecoded_memory.proofs.SelectedLemmas.{store_kept, top_fits}
use Rattle.predecode.specs.declared.rows.Row.{Row}
use Rattle.predecoded_memory.proofs.predecoded.PredecodedRamBus.store.Goals as goal

pub empty_stored-requires-clause-top : goal.empty_stored-requires-clause-top
empty_stored-requires-clause-top c =
    let whole : length c.deref_mut.result.now ≡ length c.self.inside.rows.items = ap length c.deref_mut.ensures.value in
    omega (arith, whole, top_fits c.self.inside.ram c.self.inside.rows.items c.self.inside.lengths.items c.self.inside.parts.items c.self.inside.share c.self.inside.top c.self.inside.own c.self.invariant)

pub invariant_of-self : goal.invariant_of-self
invariant_of-self c =
    let all : (with_items c.self.inside.rows c.empty_stored.new.rows).items ≡ c.empty_stored.new.rows =
    with_items_is c.self.inside.rows c.empty_stored.new.rows (c.empty_stored.ensures.done.counted ∙ c.deref_mut.ensures.len) in
    let reached = reached_moved c.self.inside.own.words.begin c.self.inside.own.words.begin c.self.inside.top c.word_after-place.result (word_after c.self.inside.own.first c.args.address) (words_written c.args.size) c.deref_mut.result.now c.self.inside.rows.items c.empty_stored.new.rows refl c.word_after-place.ensures.value c.deref_mut.ensures.value c.empty_stored.ensures in
    subst (λ (rows : List Row). AreKept c.store-stored.new.self rows c.self.inside.lengths.items c.self.inside.parts.items c.self.inside.share c.self.inside.top c.self.inside.own) (sym all)
    (store_kept c.self.inside.ram c.store-stored.new.self c.self.inside.rows.items c.empty_stored.new.rows c.self.inside.lengths.items c.self.inside.parts.items c.self.inside.share c.self.inside.top c.self.inside.own c.args.address c.args.value c.args.size
    c.self.invariant c.selected-now.ensures.memories c.store-stored.ensures.others c.store-stored.ensures.areas c.store-stored.ensures.memory (omega (arith, c.ranges.address.fits)) reached)
