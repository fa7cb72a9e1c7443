use Rattle.std.proofs.Common.{arith}
use Rattle.guest_memory.specs.Memories.{map_at}
use Rattle.saved_machines.proofs.RestorableLemmas.{answer_restorable}
use Rattle.saved_machines.proofs.machine.read_machine.Goals as goal

pub returns-clause-restorable : goal.returns-clause-restorable
returns-clause-restorable c =
    answer_restorable c.args.conf.now (λ p. map_at p c.args.loaded.now) c.args.container c.args.bytes.now c.in_ok-before.before.now c.raw-raw.ensures.fits (λ i. omega (arith, c.type_inv.bytes i))
    c.in_ok-before.ensures c.whole_machine.result c.whole_machine.ensures.value
