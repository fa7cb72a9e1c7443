use Rattle.std.proofs.Common.{◌≡◌, List, length, ap, refl, rules, ◌∙◌, arith, subst, sym}
use Rattle.std.proofs.lemmas.List.{with_items_is}
use Rattle.std.specs.Vec.{with_items}
use Rattle.predecoded_memory.specs.Shares.{AreKept}
use Rattle.predecode.specs.lemmas.Reached.{word_after}
use Rattle.predecoded_memory.proofs.KeptLemmas.{reached_moved}
use Rattle.predecoded_memory.proofs.SelectedLemmas.{put_kept, top_fits}
use Rattle.predecode.specs.declared.rows.Row.{Row}
use Rattle.predecoded_memory.proofs.predecoded.PredecodedRamHasWords.put_words.Goals as goal

pub empty_words-requires-clause-top : goal.empty_words-requires-clause-top
empty_words-requires-clause-top c =
    let whole : length c.deref_mut.result.now ≡ length c.self.inside.rows.items = ap length c.deref_mut.ensures.value in
    omega (arith, whole, top_fits c.self.inside.ram c.self.inside.rows.items c.self.inside.lengths.items c.self.inside.parts.items c.self.inside.share c.self.inside.top c.self.inside.own c.self.invariant)

pub invariant_of-self : goal.invariant_of-self
invariant_of-self c =
    let all : (with_items c.self.inside.rows c.empty_words.new.rows).items ≡ c.empty_words.new.rows =
    with_items_is c.self.inside.rows c.empty_words.new.rows (c.empty_words.ensures.done.counted ∙ c.deref_mut.ensures.len) in
    let counted : length c.args.words.now ≡ 16 = search rules in
    let reached = reached_moved c.self.inside.own.words.begin c.self.inside.own.words.begin c.self.inside.top c.word_after-place.result (word_after c.self.inside.own.first c.args.address) 16 c.deref_mut.result.now c.self.inside.rows.items c.empty_words.new.rows refl c.word_after-place.ensures.value c.deref_mut.ensures.value c.empty_words.ensures in
    subst (λ (rows : List Row). AreKept c.put_words-done.new.self rows c.self.inside.lengths.items c.self.inside.parts.items c.self.inside.share c.self.inside.top c.self.inside.own) (sym all)
    (put_kept c.put_words-done.result c.self.inside.ram c.put_words-done.new.self c.self.inside.rows.items c.empty_words.new.rows c.self.inside.lengths.items c.self.inside.parts.items c.self.inside.share c.self.inside.top c.self.inside.own c.args.address c.args.words.now
    c.self.invariant c.selected-now.ensures.memories c.put_words-done.ensures.others c.put_words-done.ensures.areas c.put_words-done.ensures.free c.put_words-done.ensures.done c.put_words-done.ensures.not_done counted (omega (arith, c.ranges.address.fits)) reached)
