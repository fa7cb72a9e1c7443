use Rattle.std.proofs.Common.{◌≡◌, drop}
use Rattle.saved_machines.specs.SavedFields.{are_channel_ends}
use Rattle.saved_machines.proofs.store.are_channel_ends.Given as goal

abbrev pub invariant-loop-port : goal.invariant-loop-port
invariant-loop-port l = are_channel_ends l.conf l.p l.port (drop l.port l.made) ≡ are_channel_ends l.conf l.p 0 l.made
