-- What holds of every machine at all times holds of one that can be restored, and what is saved of a machine is that machine.
use Rattle.std.proofs.Common.{◌≡◌, ℕ, zero, suc, ◌+◌, ◌<◌, ◌≤◌, ⊎_elim, Bool, true, false, List, [], ◌∷◌, length, map, Option, None, Some, refl, sym, ap, ◌∙◌, subst, arith}
use Rattle.std.specs.Prelude.{◌&&◌, ◌||◌, not, is_some, nat_lt, if◌then◌else◌, slice_get, slice_index_or, IfSome, IsSome}
use Rattle.std.proofs.lemmas.Bool.{cases_lt, false≢true}
use Rattle.std.proofs.lemmas.Bool.Decides.{nat_tests}
use Rattle.std.proofs.lemmas.List.{length-map}
use Rattle.std.proofs.lemmas.Option.{same_Some}
use Rattle.codecs.specs.lemmas.ReadLemmas.{both}
use Rattle.continuation_laws.specs.Given.{with_left}
use Rattle.guest_bus.specs.Memory.{Memory}
use Rattle.guest_memory.specs.Loading.{memory_areas}
use Rattle.machine_model.specs.Facts.{AreFacts, HasFacts, HasShapes, IsChannelEnd, IsClocked, IsComplete, IsTimed}
use Rattle.machine_model.specs.Lists.{each, is_number, table}
use Rattle.machine_model.specs.Machine.{Machine}
use Rattle.machine_model.specs.Partition.{PartitionState, areas_of, loaded_memory}
use Rattle.machine_model.specs.View.{PartitionView, System, name_from, name_of, part_of, port_channel, view_of, with_its_name, with_name}
use Rattle.machine_model.specs.lemmas.EndLemmas.{found_from}
use Rattle.machine_model.specs.lemmas.ListLemmas.{get_each, table_at}
use Rattle.machine_model.specs.lemmas.NameLemmas.{same_number}
use Rattle.saved_machines.specs.Laws.{RestorableMachinesKeepFacts, RestoresWhatWasSaved}
use Rattle.saved_machines.specs.Restorable.{HasAllFacts, IsRestorable, IsRestorablePart}
use Rattle.saved_machines.specs.Savable.{IsSavable}
use Rattle.saved_machines.specs.Saved.{SavedMachine, SavedPartition}
use Rattle.saved_machines.specs.SavedFields.{are_channel_ends, is_channel_end}
use Rattle.saved_machines.specs.Saving.{loaded_of, machine_saved, restored_part, saved_inputs, saved_of, saved_part}
use Rattle.saved_machines.proofs.RestoreLemmas.{pages_restore}
use Rattle.xm_base.specs.Options.{on}
use Rattle.xm_conf.specs.Configuration.{Chan, Conf}
use Rattle.xm_conf.specs.View.{channel_of, has_end}
use Rattle.xm_ports.specs.Channels.{Content, Shape, Suits, shape_of, shapes_of}
use Rattle.xm_ports.specs.Ports.{is_made}

-- a channel of a port that is there has a name
name_there : (conf : Conf) (p c r count start : ℕ) → channel_of conf p r ≡ Some c → start ≤ r → r < start + count → is_some (name_from conf p c count start) ≡ true
name_there conf p c r zero start found from below = absurd (omega (arith, from, below))
name_there conf p c r (suc count) start found from below =
    at (is_number (channel_of conf p start) c) refl (λ after. name_there conf p c r count (suc start) found after (omega (arith, below)))
  where
    at : (b : Bool) → is_number (channel_of conf p start) c ≡ b → (suc start ≤ r → is_some (name_from conf p c count (suc start)) ≡ true) → is_some (if b then Some start else name_from conf p c count (suc start)) ≡ true
    at true is later = refl
    at false is later =
        ⊎_elim (λ before. later (omega (arith, before)))
        (λ over.
        let here : start ≡ r = omega (arith, from, over) in
        absurd (false≢true (sym is ∙ ap (λ k. is_number (channel_of conf p k) c) here ∙ ap (λ o. is_number o c) found ∙ same_number c)))
        (cases_lt start r)

-- a channel that is found is there
chan_there : (conf : Conf) (p r c : ℕ) → channel_of conf p r ≡ Some c → is_some (slice_get conf.chans c) ≡ true
unfolding channel_of
chan_there conf p r c found =
    let at = found_from (has_end p r) 0 conf.chans c found in
    let place : c ≡ at.place = omega (arith, at.at) in
    ap (λ k. is_some (slice_get conf.chans k)) place ∙ ap is_some at.there

-- a port that is an end of a channel, as its partition sees it
both_there : (chan : Option Chan) (name : Option ℕ) → is_some chan ≡ true → is_some name ≡ true → IsSome (with_name chan name)
both_there None name some other = absurd (false≢true some)
both_there (Some chan) None some other = absurd (false≢true other)
both_there (Some chan) (Some q) some other = refl

channel_there : (conf : Conf) (p r : ℕ) (o : Option ℕ) → channel_of conf p r ≡ o → r < length (part_of conf p).ports → is_some o ≡ true → IsSome (with_its_name conf p o)
unfolding name_of
channel_there conf p r None found below some = absurd (false≢true some)
channel_there conf p r (Some c) found below some =
    both_there (slice_get conf.chans c) (name_of conf p c) (chan_there conf p r c found)
    (name_there conf p c r (length (part_of conf p).ports) 0 found (omega arith) (omega (arith, below)))

port_there : {X : Type 0} (xs : List X) (r : ℕ) → r < length xs → IsSome (slice_get xs r)
port_there [] r below = absurd (omega (arith, below))
port_there (x ∷ xs) zero below = refl
port_there (x ∷ xs) (suc r) below = port_there xs r (omega (arith, below))

end_there : (system : System) (p r : ℕ) → is_channel_end system.conf p r ≡ true → IsChannelEnd (view_of system p) r
unfolding view_of port_channel
end_there system p r is =
    let ports = (part_of system.conf p).ports in
    let two = both (nat_lt r (length ports)) (is_some (channel_of system.conf p r)) is in
    let below : r < length ports = grind (arith, nat_tests, two.0) in
    record {
      port = port_there ports r below;
      channel = subst IsSome (sym (table_at (port_channel system.conf p) (length ports) r below)) (channel_there system.conf p r (channel_of system.conf p r) refl below two.1);
    }

ends_are : (conf : Conf) (p start : ℕ) (made : List Bool) → are_channel_ends conf p start made ≡ true → (r : ℕ) → is_made r made ≡ true → is_channel_end conf p (start + r) ≡ true
ends_are conf p start [] all r is = absurd (false≢true is)
ends_are conf p start (one ∷ later) all zero is =
    ap (is_channel_end conf p) (omega arith) ∙ first one is (both (not one || is_channel_end conf p start) (are_channel_ends conf p (suc start) later) all).0
  where
    first : (b : Bool) → b ≡ true → (not b || is_channel_end conf p start) ≡ true → is_channel_end conf p start ≡ true
    first true set said = said
    first false set said = absurd (false≢true set)
ends_are conf p start (one ∷ later) all (suc r) is =
    ap (is_channel_end conf p) (omega arith) ∙ ends_are conf p (suc start) later (both (not one || is_channel_end conf p start) (are_channel_ends conf p (suc start) later) all).1 r is

-- the input words of a partition
words_at : (parts : List SavedPartition) (p : ℕ) (part : SavedPartition) → slice_get parts p ≡ Some part → slice_index_or (map (λ one. one.store.inputs) parts) p [] ≡ part.store.inputs
words_at [] p part there = absurd cc
words_at (one ∷ parts) zero part there = ap (λ (o : SavedPartition). o.store.inputs) (same_Some one part there)
words_at (one ∷ parts) (suc p) part there = words_at parts p part there

-- a partition
part_facts : (system : System) (saved : SavedMachine) (p : ℕ) (part : SavedPartition) → slice_get saved.parts p ≡ Some part → IsRestorablePart system.conf saved.head p part
    → AreFacts (view_of (record system { inputs = saved_inputs saved }) p) saved.head.ticks saved.head.halted (restored_part (view_of system p) part)
unfolding restored_part view_of
part_facts system saved p part there is = record {
  traces = is.trace_count;
  health = is.health_count;
  execution = is.execution;
  loads = is.loads;
  inputs = record { used = []; is = sym (words_at saved.parts p part there) };
  made = λ r made. end_there (record system { inputs = saved_inputs saved }) p r (ap (is_channel_end system.conf p) (omega arith) ∙ ends_are system.conf p 0 part.store.made is.made r made);
}

all_facts : (system : System) (saved : SavedMachine) → IsRestorable system.conf saved → HasFacts (machine_saved system saved)
unfolding machine_saved
all_facts system saved is p ps there =
    by (slice_get saved.parts p) refl (is.parts p) (sym (get_each (λ k. restored_part (view_of system k)) saved.parts p) ∙ there)
  where
    by : (found : Option SavedPartition) → slice_get saved.parts p ≡ found → IfSome found (IsRestorablePart system.conf saved.head p) → on (λ part. restored_part (view_of system p) part) found ≡ Some ps
        → AreFacts (view_of (record system { inputs = saved_inputs saved }) p) saved.head.ticks saved.head.halted ps
    by None found good said = absurd cc
    by (Some part) found good said =
        subst (AreFacts (view_of (record system { inputs = saved_inputs saved }) p) saved.head.ticks saved.head.halted) (same_Some (restored_part (view_of system p) part) ps said) (part_facts system saved p part found good)

-- the channels
shape_there : (chans : List Chan) (c : ℕ) (chan : Chan) → slice_get chans c ≡ Some chan → slice_get (map shape_of chans) c ≡ Some (shape_of chan)
shape_there [] c chan there = absurd cc
shape_there (one ∷ chans) zero chan there = ap (λ o. Some (shape_of o)) (same_Some one chan there)
shape_there (one ∷ chans) (suc c) chan there = shape_there chans c chan there

all_shapes : (system : System) (saved : SavedMachine) → IsRestorable system.conf saved → HasShapes (machine_saved system saved)
unfolding machine_saved shapes_of
all_shapes system saved is = record {
  counted = is.channels ∙ length-map system.conf.chans shape_of;
  suited = λ c chan content one other.
      let shape = subst (λ (o : Option Shape). IfSome o (λ shape. IfSome (slice_get saved.channels c) (Suits shape))) (shape_there system.conf.chans c chan one) (is.contents c) in
      subst (λ (o : Option Content). IfSome o (Suits (shape_of chan))) other shape;
}

-- the partitions
length-each : {X Y : Type 0} (f : ℕ → X → Y) (xs : List X) → length (each f xs) ≡ length xs
length-each f [] = refl
length-each f (x ∷ xs) = ap suc (length-each (λ k. f (suc k)) xs)

pub restorable_facts : RestorableMachinesKeepFacts
unfolding machine_saved shapes_of
restorable_facts system saved meets is = record {
  facts = all_facts system saved is;
  timed = is.time;
  clocked = record { in_frame = is.frame; asked = is.asked };
  complete = record { parts = length-each (λ p. restored_part (view_of system p)) saved.parts ∙ is.counted; channels = is.channels ∙ length-map system.conf.chans shape_of };
  shapes = all_shapes system saved is;
}

-- what is saved of each element gives the element again
each_back : {X Y : Type 0} (f : ℕ → Y → X) (h : ℕ → X → Y) (xs : List X) → ((k : ℕ) (x : X) → slice_get xs k ≡ Some x → f k (h k x) ≡ x) → each f (each h xs) ≡ xs
each_back f h [] same = refl
each_back f h (x ∷ xs) same =
    ap (λ one. one ∷ each (λ k. f (suc k)) (each (λ k. h (suc k)) xs)) (same 0 x refl)
    ∙ ap (λ rest. x ∷ rest) (each_back (λ k. f (suc k)) (λ k. h (suc k)) xs (λ k one there. same (suc k) one there))

words_back : (view : ℕ → PartitionView) (parts : List PartitionState) → map (λ part. part.store.inputs) (each (λ p. saved_part (view p)) parts) ≡ map (λ ps. ps.inputs) parts
unfolding saved_part
words_back view [] = refl
words_back view (ps ∷ parts) = ap (λ rest. ps.inputs ∷ rest) (words_back (λ k. view (suc k)) parts)

module _ (container : List ℕ) (g : Machine) (is : IsSavable container g) (words : List (List ℕ)) where
  part_back : (p : ℕ) (ps : PartitionState) → slice_get g.parts p ≡ Some ps → restored_part (view_of (record g.system { inputs = words }) p) (saved_part (view_of g.system p) ps) ≡ ps
  unfolding restored_part saved_part loaded_memory areas_of view_of
  part_back p ps there =
      let has = is.stored.memories p ps there in
      ap (λ (memory : Memory). record ps { memory = memory })
      (pages_restore (memory_areas (part_of g.system.conf p)) (loaded_of g.system p) ps.memory (is.conf.placed p) has.loaded has.now)

  machine_back : machine_saved (record g.system { inputs = words }) (saved_of container g) ≡ with_left g
  unfolding machine_saved saved_of
  machine_back =
      let parts = each (λ p. restored_part (view_of (record g.system { inputs = words }) p)) (each (λ p. saved_part (view_of g.system p)) g.parts) in
      ap (λ (left : List (List ℕ)). record g { system = record g.system { inputs = left }; parts = parts }) (words_back (view_of g.system) g.parts)
      ∙ ap (λ (all : List PartitionState). record g { system = record g.system { inputs = map (λ ps. ps.inputs) g.parts }; parts = all })
      (each_back (λ p. restored_part (view_of (record g.system { inputs = words }) p)) (λ p. saved_part (view_of g.system p)) g.parts part_back)

pub restores : RestoresWhatWasSaved
restores container system g conf images is =
    ap (λ (s : System). machine_saved s (saved_of container g)) same ∙ machine_back container g is system.inputs
  where
    same : system ≡ record g.system { inputs = system.inputs }
    same = ap (λ (c : Conf). record system { conf = c }) conf ∙ ap (λ images. record system { conf = g.system.conf; images = images }) images
