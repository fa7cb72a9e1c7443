-- The rows compute.
use Rattle.std.proofs.Common.{refl}
use Rattle.codecs.proofs.rows.heads_of_files.Goals as goal

pub returns : goal.returns
returns c = record {
  rows = record {
    head = refl;
    end = refl;
    version = refl;
    read = refl;
    name = refl;
    later = refl;
    more = refl;
    less = refl;
    stated = refl;
    judged = refl;
  };
}
