use Rattle.std.proofs.Common.{ℕ, ap, refl, ◌∙◌}
use Rattle.std.proofs.lemmas.Bool.{OnTrue_at, OnTrue_from}
use Rattle.guest_bus.specs.Access.{after_store}
use Rattle.sparc_step.specs.Registers.{Registers, register_at}
use Rattle.fast_loop.specs.lemmas.Effects.{store_by_size}
use Rattle.fast_loop.specs.lemmas.PlacedLemmas.{register_at-placed}
use Rattle.fast_loop.proofs.TransferLemmas.{store-IsTransferred, store_row}
use Rattle.fast_loop.proofs.moving.store_word.Goals as goal

pub returns-clause-done : goal.returns-clause-done
returns-clause-done g c = OnTrue_from c.store.result _ (λ yes.
    store-IsTransferred (store_by_size c.args.size) c.args.size (λ (core : Registers). register_at core c.args.rd) c.args.rd c.args.address c.from-value.result (g.B.Bus.areas c.args.bus.now) c.args.own.now c.args.own.now (g.B.Bus.memory c.args.bus.now) (g.B.Bus.memory c.store.new.bus)
    (λ core. store_row c.args.size c.args.rd c.args.address (g.B.Bus.areas c.args.bus.now) core (g.B.Bus.memory c.args.bus.now) c.requires.size) (λ pc npc. register_at-placed c.args.own.now pc npc c.args.rd) (c.from-value.ensures ∙ c.get.ensures.value) (OnTrue_at yes c.store.ensures.free) c.store.ensures.memory refl)

pub returns-clause-stored : goal.returns-clause-stored
returns-clause-stored g c =
    c.store.ensures.memory ∙ ap (λ (v : ℕ). after_store (g.B.Bus.areas c.args.bus.now) (g.B.Bus.memory c.args.bus.now) c.args.address c.args.size v) (c.from-value.ensures ∙ c.get.ensures.value)
