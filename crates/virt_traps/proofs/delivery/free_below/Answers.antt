use Rattle.std.specs.Prelude.{◌≡◌, ℕ, ◌+◌, ◌%◌, ◌<◌}
use Rattle.std.proofs.Common.{sym, ◌∙◌, ap, arith}
use Rattle.virt_traps.proofs.DeliveryLemmas.{spilled_frees}
use Rattle.virt_traps.proofs.delivery.free_below.Goals as goal

pub returns-then-below-inv-clause-free : goal.returns-then-below-inv-clause-free
returns-then-below-inv-clause-free g c =
    let core = c.args.processor.now in
    let small : core.inv < 8 = omega (arith, c.inv.ensures.value, c.inv.ensures.below) in
    let invalid : (core.cwp + 7) % 8 ≡ core.inv = ap (λ (n : ℕ). (n + 7) % 8) (sym c.cwp.ensures.value) ∙ c.if-below-inv.true ∙ c.inv.ensures.value in
    spilled_frees _ core _ _ _ small invalid c.spill_cached.ensures.answer c.spill_cached.ensures.core
