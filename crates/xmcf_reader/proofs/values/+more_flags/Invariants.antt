use Rattle.std.proofs.Common.{length}
use Rattle.xmcf_reader.proofs.values.«+more_flags».Given as goal

abbrev pub decreases-more_flags : goal.decreases-more_flags
decreases-more_flags l = length l.text.now
