use Rattle.std.proofs.Common.{ℕ, ◌-◌, ◌∙◌, ap}
use Rattle.guest_bus.specs.Words.{word_address}
use Rattle.sparc_step.specs.Registers.{placed}
use Rattle.fast_loop.proofs.BlockLemmas.{moved_address}
use Rattle.fast_loop.proofs.running.ended_in_slot.Goals as goal

pub returns-clause-at : goal.returns-clause-at
returns-clause-at c =
    c.place.ensures
    ∙ ap (λ (pc : ℕ). placed pc c.address-2.result c.args.own.now) c.address.ensures.value
    ∙ ap (λ (npc : ℕ). placed (word_address c.args.origin c.args.at) npc c.args.own.now)
    (c.address-2.ensures.value ∙ moved_address c.args.origin (c.args.at - 1) c.args.displacement c.distance.result c.distance.ensures)
