use Rattle.std.proofs.Common.{◌≡◌, drop}
use Rattle.xmcf_check.specs.Described.{first_among}
use Rattle.xmcf_check.specs.Elements.{processor_of}
use Rattle.xmcf_check.proofs.gathering.lists.first_processor.Given as goal

abbrev pub invariant-loop-entry : goal.invariant-loop-entry
invariant-loop-entry l = first_among processor_of (drop l.entry-index l.entries) ≡ first_among processor_of l.entries
