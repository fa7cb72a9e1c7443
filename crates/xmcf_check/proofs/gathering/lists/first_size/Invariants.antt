use Rattle.std.proofs.Common.{◌≡◌, drop}
use Rattle.xmcf_check.specs.Described.{first_among}
use Rattle.xmcf_check.specs.Elements.{element_size}
use Rattle.xmcf_check.proofs.gathering.lists.first_size.Given as goal

abbrev pub invariant-loop-entry : goal.invariant-loop-entry
invariant-loop-entry l = first_among element_size (drop l.entry-index l.entries) ≡ first_among element_size l.entries
