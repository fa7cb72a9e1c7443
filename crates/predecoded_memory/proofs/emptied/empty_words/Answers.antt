use Rattle.std.proofs.Common.{◌≡◌, ℕ, ◌+◌, arith, subst, ⊎_elim}
use Rattle.predecoded_memory.specs.lemmas.SharesTerms.{AreEmptied}
use Rattle.predecoded_memory.proofs.emptied.empty_words.Goals as goal

pub returns-then-place-count : goal.returns-then-place-count
returns-then-place-count c =
    let end : c.args.base + c.args.place + c.args.count ≡ c.args.base + (c.args.place + c.args.count) = omega arith in
    record {
      begin = c.args.place;
      end = c.args.place + c.args.count;
      done = subst (λ (n : ℕ). AreEmptied (c.args.base + c.args.place) n c.args.rows.now c.empty_rows.new.rows) end c.empty_rows.ensures;
      each = λ k below hit. ⊎_elim (λ here. here) (λ on. absurd (omega (arith, on, c.if-place-count.true, c.requires.top, c.requires.few))) hit;
    }
