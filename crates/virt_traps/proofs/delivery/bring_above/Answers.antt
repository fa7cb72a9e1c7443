use Rattle.std.specs.Prelude.{◌≡◌, ℕ, ◌+◌, ◌%◌, ◌<◌}
use Rattle.std.proofs.Common.{sym, ◌∙◌, ap, arith}
use Rattle.virt_traps.proofs.DeliveryLemmas.{filled_brings}
use Rattle.virt_traps.proofs.delivery.bring_above.Goals as goal

pub returns-then-above-inv-clause-valid : goal.returns-then-above-inv-clause-valid
returns-then-above-inv-clause-valid g c =
    let core = c.args.processor.now in
    let small : core.inv < 8 = omega (arith, c.inv.ensures.value, c.inv.ensures.below) in
    let invalid : (core.cwp + 1) % 8 ≡ core.inv = ap (λ (n : ℕ). (n + 1) % 8) (sym c.cwp.ensures.value) ∙ c.if-above-inv.true ∙ c.inv.ensures.value in
    filled_brings _ core _ _ _ small invalid c.fill_cached.ensures.answer c.fill_cached.ensures.core
