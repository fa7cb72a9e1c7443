use Rattle.std.proofs.Common.{codes, decimal}
use Rattle.fault_messages.proofs.PieceLemmas.{four_pieces}
use Rattle.fault_messages.proofs.fault.PackFaultDisplay.fmt.Goals as goal

pub returns-in-Outside-clause-writes : goal.returns-in-Outside-clause-writes
returns-in-Outside-clause-writes g c = λ plain ok.
    rw (
      c.in-Outside.is,
      ← c.address_digits-digits.ensures.value,
      ← c.text-address.ensures,
      four_pieces (codes "outside id=") (decimal c.in-Outside.id) (codes " address=") c.text-address.result.now,
    ) (c.write-in-Outside.ensures.writes plain ok)
