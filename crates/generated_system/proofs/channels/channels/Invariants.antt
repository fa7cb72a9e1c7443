use Rattle.std.proofs.Common.{◌≡◌}
use Rattle.generated_system.specs.Generated.{chan_of, numbered}
use Rattle.generated_system.proofs.channels.channels.Given as goal

abbrev pub invariant-loop-number : goal.invariant-loop-number
invariant-loop-number l = l.chans.items ≡ numbered chan_of l.number
