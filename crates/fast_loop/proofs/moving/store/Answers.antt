use Rattle.std.specs.Int.{to_be_bytes}
use Rattle.guest_bus.specs.Access.{after_store, store_fault, width_of}
use Rattle.guest_bus.specs.Memory.{with_bytes}
use Rattle.fast_loop.proofs.TransferLemmas.{untouched}
use Rattle.fast_loop.proofs.moving.store.Goals as goal

pub returns-in-Err-clause-untouched : goal.returns-in-Err-clause-untouched
unfolding after_store
returns-in-Err-clause-untouched g c = λ no.
    untouched (store_fault (g.B.Bus.areas c.args.bus.now) c.args.address c.args.size) c.in-Err.field-0 (g.B.Bus.memory c.args.bus.now) (with_bytes (g.B.Bus.memory c.args.bus.now) c.args.address (to_be_bytes (width_of c.args.size) c.args.value)) (g.B.Bus.memory c.store.new.self) c.in-Err.ensures.fault c.in-Err.ensures.memory
