use Rattle.std.proofs.Common.{◌≡◌, ◌*◌, ℕ, List, length, ap, ◌∙◌, arith, subst, sym}
use Rattle.std.proofs.lemmas.List.{with_items_is}
use Rattle.std.specs.Vec.{with_items}
use Rattle.predecoded_memory.specs.Shares.{AreKept, first_address}
use Rattle.predecode.specs.lemmas.Reached.{word_after}
use Rattle.guest_memory.specs.Memories.{areas_at}
use Rattle.predecoded_memory.proofs.KeptLemmas.{flipped_kept, part_at, reached_moved}
use Rattle.predecoded_memory.proofs.ShareLemmas.{share_fits}
use Rattle.predecode.specs.declared.rows.Row.{Row}
use Rattle.predecoded_memory.proofs.predecoded.PredecodedRam.flip.Goals as goal

pub empty_words-requires-clause-top : goal.empty_words-requires-clause-top
empty_words-requires-clause-top c =
    let below = rw (← c.self.view_is) at c.requires.partition in
    let here = rw c.from.ensures at c.index-part.ensures in
    let part = part_at c.self.inside.ram c.self.inside.rows.items c.self.inside.lengths.items c.self.inside.parts.items c.self.inside.share c.self.inside.top c.self.inside.own c.args.p c.index-part.result.now c.self.invariant below here in
    let whole : length c.deref_mut.result.now ≡ length c.self.inside.rows.items = ap length c.deref_mut.ensures.value in
    omega (arith, whole, part.begin, c.self.invariant.whole, c.self.invariant.high, share_fits c.args.p c.self.inside.share (length c.self.inside.ram.areas) below)

pub invariant_of-self : goal.invariant_of-self
invariant_of-self c =
    let below = rw (← c.self.view_is) at c.requires.partition in
    let here = rw c.from.ensures at c.index-part.ensures in
    let part = part_at c.self.inside.ram c.self.inside.rows.items c.self.inside.lengths.items c.self.inside.parts.items c.self.inside.share c.self.inside.top c.self.inside.own c.args.p c.index-part.result.now c.self.invariant below here in
    let all : (with_items c.self.inside.rows c.empty_words.new.rows).items ≡ c.empty_words.new.rows =
    with_items_is c.self.inside.rows c.empty_words.new.rows (c.empty_words.ensures.done.counted ∙ c.deref_mut.ensures.len) in
    let reached = reached_moved c.index-part.result.now.words.begin (c.args.p * c.self.inside.share) c.self.inside.top c.word_after-place.result (word_after (first_address (areas_at c.args.p c.self.inside.ram)) c.args.address) _ c.deref_mut.result.now c.self.inside.rows.items c.empty_words.new.rows part.begin (c.word_after-place.ensures.value ∙ ap (λ (f : ℕ). word_after f c.args.address) part.first) c.deref_mut.ensures.value c.empty_words.ensures in
    subst (λ (rows : List Row). AreKept c.flip.new.self rows c.self.inside.lengths.items c.self.inside.parts.items c.self.inside.share c.self.inside.top c.self.inside.own) (sym all)
    (flipped_kept c.self.inside.ram c.flip.new.self c.self.inside.rows.items c.empty_words.new.rows c.self.inside.lengths.items c.self.inside.parts.items c.self.inside.share c.self.inside.top c.self.inside.own c.args.p c.args.address c.args.bit
    c.self.invariant below (omega (arith, c.ranges.address.fits)) reached c.flip.ensures.value c.selected-now.ensures.memories)

pub flip-requires-clause-readable : goal.flip-requires-clause-readable
flip-requires-clause-readable c = rw (← c.self.view_is) at c.requires.readable
