use Rattle.std.proofs.Common.{◌≡◌, drop}
use Rattle.std.specs.Prelude.{slice_get}
use Rattle.xm_conf.specs.Along.{added_by_each, each_from}
use Rattle.xmcf_check.specs.Places.{number_of_sort}
use Rattle.xmcf_check.proofs.places.number_nth.Given as goal

abbrev pub invariant-loop-number : goal.invariant-loop-number
invariant-loop-number l = slice_get (each_from (number_of_sort l.sort) l.number (drop l.number l.entries)) l.left ≡ slice_get (added_by_each (number_of_sort l.sort) l.entries) l.n
