use Rattle.std.proofs.Common.{◌≡◌, ℕ, ◌+◌, ◌-◌, arith, subst}
use Rattle.predecoded_memory.specs.lemmas.SharesTerms.{AreEmptied}
use Rattle.predecoded_memory.proofs.emptied.empty_part.Goals as goal

pub returns : goal.returns
returns c =
    let end : c.args.base + c.reached-begin.result.0 + (c.reached-begin.result.1 - c.reached-begin.result.0) ≡ c.args.base + c.reached-begin.result.1 = omega (arith, c.reached-begin.ensures.order) in
    record {
      begin = c.reached-begin.result.0;
      end = c.reached-begin.result.1;
      done = subst (λ (n : ℕ). AreEmptied (c.args.base + c.reached-begin.result.0) n c.args.rows.now c.empty_rows.new.rows) end c.empty_rows.ensures;
      each = c.reached-begin.ensures.each;
    }
