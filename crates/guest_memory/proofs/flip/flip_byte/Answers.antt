use Rattle.std.proofs.Common.{arith}
use Rattle.guest_memory.proofs.FlipLemmas.{byte_put}
use Rattle.guest_memory.proofs.flip.flip_byte.Goals as goal

pub returns-clause-value : goal.returns-clause-value
returns-clause-value c =
    byte_put c.args.bytes.now c.put_value.new.bytes c.args.at c.byte_at.result c.args.bit c.flipped-flipped.result c.from.result c.byte_at.ensures c.flipped-flipped.ensures c.from.ensures (omega (arith, c.type_inv)) c.put_value.ensures.value
