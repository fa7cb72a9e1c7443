use Rattle.virt_clocks.proofs.FlipLemmas.{stays_below}
use Rattle.virt_clocks.proofs.flip.flipped_deadline.Goals as goal

pub returns-clause-below : goal.returns-clause-below
returns-clause-below c = rw c.flipped.ensures (stays_below c.args.deadline c.args.bit c.requires.deadline c.requires.bit)
