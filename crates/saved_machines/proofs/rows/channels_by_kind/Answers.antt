-- The rows compute.
use Rattle.std.proofs.Common.{refl}
use Rattle.codecs.specs.Codec.{items_read}
use Rattle.saved_machines.proofs.rows.channels_by_kind.Goals as goal

pub returns : goal.returns
unfolding items_read
returns c = record {
  rows = record {
    empty = refl;
    sample = refl;
    queue = refl;
    full = refl;
    none = refl;
    long = refl;
    kind = refl;
  };
}
