-- The rows compute.
use Rattle.std.proofs.Common.{refl}
use Rattle.codecs.specs.Codec.{items_read}
use Rattle.guest_memory.specs.Loading.{memory_areas}
use Rattle.machine_model.specs.View.{part_of}
use Rattle.saved_machines.proofs.PageLemmas.{as_loaded}
use Rattle.saved_machines.proofs.rows.pages_that_differ.Goals as goal

pub returns : goal.returns
unfolding items_read memory_areas part_of
returns c = record {
  rows = record {
    spelled = λ loaded. refl;
    last = λ loaded. refl;
    outside = λ loaded. refl;
    within = λ loaded. refl;
    falls = λ loaded. refl;
    below = λ loaded. refl;
    none = λ loaded. refl;
    areas = λ loaded. refl;
    same = λ loaded address. as_loaded loaded address;
  };
}
