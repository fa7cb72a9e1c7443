use Rattle.std.proofs.Common.{ℕ, ap, refl, ◌∙◌}
use Rattle.std.proofs.lemmas.Bool.{OnTrue_at, OnTrue_from}
use Rattle.guest_bus.specs.Access.{after_store}
use Rattle.guest_bus.specs.declared.bus.Size.TheVariants.{Eight}
use Rattle.sparc_code.specs.declared.instruction.MemOp.TheVariants.{StD}
use Rattle.sparc_step.specs.Registers.{Registers}
use Rattle.sparc_step.specs.Transfers.{pair_at}
use Rattle.fast_loop.proofs.TransferLemmas.{pair_at-placed, store-IsTransferred}
use Rattle.fast_loop.proofs.moving.store_pair.Goals as goal

pub returns-clause-done : goal.returns-clause-done
returns-clause-done g c = OnTrue_from c.store.result _ (λ yes.
    store-IsTransferred StD Eight (λ (core : Registers). pair_at core c.args.rd) c.args.rd c.args.address c.pair-value.result (g.B.Bus.areas c.args.bus.now) c.args.own.now c.args.own.now (g.B.Bus.memory c.args.bus.now) (g.B.Bus.memory c.store.new.bus)
    (λ core. refl) (λ pc npc. pair_at-placed c.args.own.now pc npc c.args.rd) c.pair-value.ensures (OnTrue_at yes c.store.ensures.free) c.store.ensures.memory refl)

pub returns-clause-stored : goal.returns-clause-stored
returns-clause-stored g c =
    c.store.ensures.memory ∙ ap (λ (v : ℕ). after_store (g.B.Bus.areas c.args.bus.now) (g.B.Bus.memory c.args.bus.now) c.args.address Eight v) c.pair-value.ensures
