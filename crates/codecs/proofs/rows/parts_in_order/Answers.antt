-- The rows compute.
use Rattle.std.proofs.Common.{refl}
use Rattle.codecs.specs.Codec.{each_read, items_read}
use Rattle.codecs.proofs.rows.parts_in_order.Goals as goal

pub returns : goal.returns
unfolding each_read items_read
returns c = record {
  rows = record {
    order = refl;
    both = refl;
    second = refl;
    depends = refl;
    plus = refl;
    some = refl;
    sum = refl;
    flag = refl;
    no_flag = refl;
    list = refl;
    listed = refl;
    there = refl;
    absent = refl;
    stands = refl;
    numbered = refl;
    key = refl;
    floor = refl;
    ends = refl;
    most = refl;
    missing = refl;
    own = refl;
    as_many = refl;
  };
}
