use Rattle.std.proofs.Common.{ℕ, ◌+◌, ◌%◌, length, true, ap, ◌∙◌, refl, arith}
use Rattle.fast_loop.proofs.SavedLemmas.{apart_of, length-saved, sixteen_words, spilled_by, word_stays}
use Rattle.fast_loop.proofs.KeptLemmas.{sixteen_rows}
use Rattle.fast_loop.proofs.shifting.spill.Goals as goal

pub returns-then-put_words-clause-done : goal.returns-then-put_words-clause-done
returns-then-put_words-clause-done g c =
    let window : ℕ = (c.inv.result + 7) % 8 in
    let may = c.if-put_words.ensures.free in
    let counted = ap length c.saved-words.ensures.saved ∙ length-saved c.args.own.now.windows window (omega arith) c.saved-words.ensures.whole in
    let apart = apart_of c.args.here c.stack_of-address.result _ (omega (arith, c.ranges.here)) may.inside refl c.if-distance-lt64.false in
    spilled_by c.args.here window c.stack_of-address.result (g.B.Bus.areas c.args.bus.now) c.args.own.now c.set_inv.new.self (g.B.Bus.memory c.args.bus.now) (g.B.Bus.memory c.put_words.new.self) c.saved-words.result
    (ap (λ (n : ℕ). (n + 7) % 8) c.inv.ensures.value) c.requires.needed c.saved-words.ensures.whole c.stack_of-address.ensures c.saved-words.ensures.saved may c.if-put_words.ensures.done c.set_inv.ensures
    (word_stays (g.B.Bus.areas c.args.bus.now) (g.B.Bus.memory c.args.bus.now) (g.B.Bus.memory c.put_words.new.self) c.stack_of-address.result c.args.here c.saved-words.result may.aligned c.requires.aligned (sixteen_words c.saved-words.result counted) apart c.if-put_words.ensures.done)

pub returns-then-put_words-clause-rows : goal.returns-then-put_words-clause-rows
returns-then-put_words-clause-rows g c =
    let window : ℕ = (c.inv.result + 7) % 8 in
    sixteen_rows true c.args.rows.now (g.B.Bus.areas c.args.bus.now) (g.B.Bus.memory c.args.bus.now) (g.B.Bus.memory c.put_words.new.self) c.args.origin c.stack_of-address.result c.saved-words.result
    (c.have_rows.ensures c.if-have_rows.false) c.if-put_words.ensures.free c.if-put_words.ensures.done (λ no. absurd cc)
    (ap length c.saved-words.ensures.saved ∙ length-saved c.args.own.now.windows window (omega arith) c.saved-words.ensures.whole) (omega (arith, c.if-put_words.ensures.free.inside)) c.requires.rows
