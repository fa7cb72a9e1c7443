use Rattle.std.proofs.Common.{refl, sym, ◌∙◌}
use Rattle.virt_clocks.proofs.LookLemmas.{none_counted, none_next}
use Rattle.virt_clocks.proofs.clocks.Clocks.next_due.Goals as goal

pub returns-then-not-is_armed : goal.returns-then-not-is_armed
returns-then-not-is_armed c =
    let absent = sym c.is_armed.ensures ∙ c.if-not-is_armed.true in
    record {
      value = none_next c.args.now c.args.running c.args.self.now absent;
      none = (λ _. none_counted c.args.running c.args.self.now absent, λ _. refl);
      least = tt;
    }
