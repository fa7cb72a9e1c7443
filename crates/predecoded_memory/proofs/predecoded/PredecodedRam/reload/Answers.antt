use Rattle.std.proofs.Common.{◌≡◌, ◌*◌, List, length, ap, refl, ◌∙◌, arith, subst, sym}
use Rattle.std.proofs.lemmas.List.{with_items_is}
use Rattle.std.specs.Vec.{with_items}
use Rattle.predecoded_memory.specs.Shares.{AreKept}
use Rattle.predecoded_memory.proofs.KeptLemmas.{part_at, reached_moved, reloaded_kept}
use Rattle.predecoded_memory.proofs.ShareLemmas.{share_fits}
use Rattle.predecode.specs.declared.rows.Row.{Row}
use Rattle.predecoded_memory.proofs.predecoded.PredecodedRam.reload.Goals as goal

pub empty_words-requires-clause-top : goal.empty_words-requires-clause-top
empty_words-requires-clause-top c =
    let below = rw (← c.self.view_is) at c.requires.partition in
    let here = rw c.from.ensures at c.index.ensures in
    let part = part_at c.self.inside.ram c.self.inside.rows.items c.self.inside.lengths.items c.self.inside.parts.items c.self.inside.share c.self.inside.top c.self.inside.own c.args.p c.index.result.now c.self.invariant below here in
    let whole : length c.deref_mut.result.now ≡ length c.self.inside.rows.items = ap length c.deref_mut.ensures.value in
    omega (arith, whole, part.begin, c.self.invariant.whole, c.self.invariant.high, share_fits c.args.p c.self.inside.share (length c.self.inside.ram.areas) below)

pub empty_words-requires-clause-count : goal.empty_words-requires-clause-count
empty_words-requires-clause-count c =
    let below = rw (← c.self.view_is) at c.requires.partition in
    omega (arith, c.self.invariant.whole, c.self.invariant.few, c.self.invariant.high, share_fits c.args.p c.self.inside.share (length c.self.inside.ram.areas) below)

pub reload-requires-clause-inside : goal.reload-requires-clause-inside
reload-requires-clause-inside c = rw (← c.self.view_is) at c.requires.inside

pub invariant_of-self : goal.invariant_of-self
invariant_of-self c =
    let below = rw (← c.self.view_is) at c.requires.partition in
    let here = rw c.from.ensures at c.index.ensures in
    let part = part_at c.self.inside.ram c.self.inside.rows.items c.self.inside.lengths.items c.self.inside.parts.items c.self.inside.share c.self.inside.top c.self.inside.own c.args.p c.index.result.now c.self.invariant below here in
    let all : (with_items c.self.inside.rows c.empty_words.new.rows).items ≡ c.empty_words.new.rows =
    with_items_is c.self.inside.rows c.empty_words.new.rows (c.empty_words.ensures.done.counted ∙ c.deref_mut.ensures.len) in
    let reached = reached_moved c.index.result.now.words.begin (c.args.p * c.self.inside.share) c.self.inside.top 0 0 c.self.inside.top c.deref_mut.result.now c.self.inside.rows.items c.empty_words.new.rows part.begin refl c.deref_mut.ensures.value c.empty_words.ensures in
    subst (λ (rows : List Row). AreKept c.reload.new.self rows c.self.inside.lengths.items c.self.inside.parts.items c.self.inside.share c.self.inside.top c.self.inside.own) (sym all)
    (reloaded_kept c.self.inside.ram c.reload.new.self _ c.self.inside.rows.items c.empty_words.new.rows c.self.inside.lengths.items c.self.inside.parts.items c.self.inside.share c.self.inside.top c.self.inside.own c.args.p
    c.self.invariant below reached c.reload.ensures.value c.selected-now.ensures.memories)
