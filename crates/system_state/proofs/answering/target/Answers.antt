use Rattle.std.proofs.Common.{arith, length, sym, ◌<◌, ◌∙◌}
use Rattle.system_state.proofs.CallerLemmas.{target_seen}
use Rattle.system_state.proofs.answering.target.Goals as goal

pub returns-else-not-is_system-clause-value : goal.returns-else-not-is_system-clause-value
returns-else-not-is_system-clause-value c =
    let below : c.args.site.part < length c.args.sys.now.machine.system.conf.parts = omega (arith, c.requires, c.count.ensures.parts) in
    c.refused_if.ensures
    ∙ target_seen c.args.site c.args.sys.now c.args.id c.from-count.result below (λ same. c.if-id-from.false (same ∙ sym c.from.ensures)) (sym c.is_system.ensures ∙ c.if-not-is_system.false)
    (c.from-count.ensures ∙ c.count.ensures.value ∙ c.count.ensures.parts)
