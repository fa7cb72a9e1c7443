-- What holds of a machine at all times holds of it with the input words that are left as those that its partitions were given.
use Rattle.std.proofs.Common.{◌≡◌, ℕ, zero, suc, Bool, List, [], ◌∷◌, map, Some, sym, ap, subst}
use Rattle.std.specs.Prelude.{slice_get, slice_index_or}
use Rattle.std.proofs.lemmas.Option.{same_Some}
use Rattle.machine_model.specs.Facts.{AreEnds, AreFacts, HasFacts}
use Rattle.machine_model.specs.Machine.{Machine}
use Rattle.machine_model.specs.Partition.{PartitionState}
use Rattle.machine_model.specs.View.{PartitionView, view_of}
use Rattle.continuation_laws.specs.Given.{with_left, words_left}
use Rattle.continuation_laws.specs.Kept.{LeftKeepFacts}
use Rattle.continuation_laws.proofs.MachineLemmas.{view_same}
use Rattle.continuation_laws.proofs.ViewCallLemmas.{given_view}

-- the words that are left of a partition
left_at : (xs : List PartitionState) (p : ℕ) (ps : PartitionState) → slice_get xs p ≡ Some ps → slice_index_or (map (λ part. part.inputs) xs) p [] ≡ ps.inputs
left_at [] p ps there = absurd cc
left_at (x ∷ xs) zero ps there = ap (λ (part : PartitionState). part.inputs) (same_Some x ps there)
left_at (x ∷ xs) (suc p) ps there = left_at xs p ps there

-- the facts of a partition that has these words as those it was given
ends_same : (words : List ℕ) (view : PartitionView) (made : List Bool) → AreEnds view made → AreEnds (given_view words view) made
ends_same words view made ends r is = record { port = (ends r is).port; channel = (ends r is).channel }

facts_given : (words : List ℕ) (view : PartitionView) (ticks : ℕ) (halts : Bool) (ps : PartitionState) → words ≡ ps.inputs → AreFacts view ticks halts ps → AreFacts (given_view words view) ticks halts ps
facts_given words view ticks halts ps same facts = record {
  traces = facts.traces;
  health = facts.health;
  execution = facts.execution;
  loads = facts.loads;
  inputs = record { used = []; is = sym same };
  made = ends_same words view ps.made facts.made;
}

facts_left : (g : Machine) → HasFacts g → HasFacts (with_left g)
facts_left g facts p ps there =
    subst (λ (view : PartitionView). AreFacts view g.ticks g.halted ps) (sym (view_same (words_left g) g p))
    (facts_given (slice_index_or (words_left g) p []) (view_of g.system p) g.ticks g.halted ps (left_at g.parts p ps there) (facts p ps there))

pub left_keep_facts : LeftKeepFacts
left_keep_facts g = record {
  facts = facts_left g;
  complete = λ is. record { parts = is.parts; channels = is.channels };
  timed = λ is. is;
  clocked = λ is. record { in_frame = is.in_frame; asked = is.asked };
  shapes = λ has. record { counted = has.counted; suited = has.suited };
}
