-- The rows compute.
use Rattle.std.proofs.Common.{refl}
use Rattle.codecs.proofs.rows.fields_at_edges.Goals as goal

pub returns : goal.returns
returns c = record {
  rows = record {
    one = refl;
    two = refl;
    four = refl;
    eight = refl;
    last = refl;
    beyond = refl;
    read = refl;
    few = refl;
    allowed = refl;
    refused = refl;
    bytes = refl;
    too_few = refl;
    text = refl;
    other = refl;
    none = refl;
  };
}
