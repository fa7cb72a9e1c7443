use Rattle.std.proofs.Common.{arith}
use Rattle.xm_container.proofs.UnpackLemmas.{found_spelled, only_spelled}
use Rattle.xm_container.proofs.reading.unpack.Goals as goal

pub returns-clause-found : goal.returns-clause-found
returns-clause-found c = found_spelled c.unpacked_is_packed.ensures.law c.args.bytes.now c.whole.result (λ i. omega (arith, c.type_inv.bytes i)) c.whole.ensures.exact

pub returns-clause-only : goal.returns-clause-only
returns-clause-only c = λ v system spelled. only_spelled c.packed_is_unpacked.ensures.law v c.args.bytes.now system c.whole.result spelled c.whole.ensures.exact
