use Rattle.std.proofs.Common.{◌≡◌, ◌<◌, ◌^◌, drop}
use Rattle.xmcf_reader.specs.Values.{spelled}
use Rattle.xmcf_reader.proofs.values.spelled.Given as goal

abbrev pub invariant-loop-byte : goal.invariant-loop-byte
invariant-loop-byte l = (spelled l.base l.n (drop l.byte-index l.bytes) ≡ spelled l.base 0 l.bytes) × (l.n < 16 ^ l.byte-index)
