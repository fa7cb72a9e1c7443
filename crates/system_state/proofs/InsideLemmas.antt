-- A system as it is kept, and as it is seen.
use Rattle.std.proofs.Common.{◌≡◌, ℕ, ◌<◌, Bool, true, false, List, [], length, map, set, get_or, nat_lt, refl, sym, ap, subst, ◌∙◌, arith}
use Rattle.std.proofs.lemmas.Bool.Decides.{nat_tests}
use Rattle.std.proofs.lemmas.Option.{get_or_from_slice_get}
use Rattle.std.proofs.lemmas.List.{get_or-map, get_or_default, length-map, length-set, set-get_or}
use Rattle.std.specs.Bool.{OnTrue}
use Rattle.std.specs.FinMap.{empty}
use Rattle.std.specs.List.{list_any}
use Rattle.std.specs.Prelude.{IfOk, OnOk, Result, Ok, Err, Option, Some, slice_get}
use Rattle.guest_bus.specs.Memory.{Area, Memory, with_bytes}
use Rattle.guest_memory.specs.Loading.{memory_areas, areas_with_image}
use Rattle.guest_memory.specs.Memories.{Memories, areas_at, map_at, with_map, with_selected}
use Rattle.machine_model.specs.Caller.{with_written}
use Rattle.machine_model.specs.LocalTick.{with_interrupts}
use Rattle.machine_model.specs.Partition.{PartitionState}
use Rattle.machine_model.specs.Partition as model
use Rattle.machine_model.specs.View.{no_image, no_part, part_of, view_of}
use Rattle.xef_images.specs.Image.{Image}
use Rattle.xm_ports.specs.Ports.{with_port}
use Rattle.system_state.specs.State.{AreFrom, IsFrom, IsKeptSo, NoneDue, NoneTimed, OwnState, SysState, any_timed, areas_in, is_timed, kept_so, memory_of, part_at, with_machine, with_memory, with_own, with_part, input_words_of}
use Rattle.system_state.specs.lemmas.StateTerms.{booted_own}
use Rattle.system_state.specs.lemmas.TurningTerms.{HasMet}
use Rattle.system_state.specs.declared.sys.Sys.TheInside.{Inside}
use Rattle.system_state.proofs.PartsLemmas as parts

-- a system as it is seen, with these states and memories of its partitions
abbrev pub seen_with : Inside → List OwnState → Memories → SysState
seen_with a owns ram = kept_so a.system a.inputs owns ram a.channels a.plan_clock a.time a.ticks a.resets a.halted

-- a system as it is seen
abbrev pub seen : Inside → SysState
seen a = seen_with a a.parts.items a.ram

-- what is kept of it
abbrev pub IsKept : Inside → Type 0
IsKept a = IsKeptSo a.system a.inputs a.parts.items a.ram a.untimed a.least a.lent

-- a memory for each partition
pub is_held : (a : Inside) → IsKept a → length a.ram.maps ≡ length a.parts.items
is_held a kept = kept.held ∙ sym kept.counted

-- input words for each
pub is_given : (a : Inside) → IsKept a → length a.inputs ≡ length a.parts.items
is_given a kept = kept.given ∙ sym kept.counted

-- as many are seen as are kept
pub is_seen : (a : Inside) → IsKept a → length (seen a).machine.parts ≡ length a.parts.items
is_seen a kept = parts.memories-length a.parts.items a.ram.maps a.inputs (is_held a kept) (is_given a kept)

-- as many as the configuration has
pub is_counted : (a : Inside) (sys : SysState) → IsKept a → seen a ≡ sys → length sys.machine.parts ≡ length sys.machine.system.conf.parts
is_counted a sys kept is = ap (λ (s : SysState). length s.machine.parts) (sym is) ∙ is_seen a kept ∙ kept.counted ∙ ap (λ (s : SysState). length s.machine.system.conf.parts) is

-- a partition that is seen is kept
pub is_kept : (a : Inside) (sys : SysState) (p : ℕ) → IsKept a → seen a ≡ sys → p < length sys.machine.parts → p < length a.parts.items
is_kept a sys p kept is below = omega (arith, below, ap (λ (s : SysState). length s.machine.parts) is, is_seen a kept)

-- each has input words
pub is_in_inputs : (a : Inside) (sys : SysState) (p : ℕ) → IsKept a → seen a ≡ sys → p < length sys.machine.parts → p < length a.inputs
is_in_inputs a sys p kept is below = omega (arith, is_kept a sys p kept is below, is_given a kept)

-- and has areas
pub is_in_memories : (a : Inside) (sys : SysState) (p : ℕ) → IsKept a → seen a ≡ sys → p < length sys.machine.parts → p < length a.ram.areas
is_in_memories a sys p kept is below =
    omega (arith, is_kept a sys p kept is below, kept.counted, ap length kept.areas, length-map a.system.conf.parts memory_areas)

-- its state
pub is_part : (a : Inside) (sys : SysState) (p : ℕ) (own : OwnState) → IsKept a → seen a ≡ sys → p < length sys.machine.parts → own ≡ get_or a.parts.items p own
    → part_at p sys.machine ≡ with_memory own (map_at p a.ram) (get_or a.inputs p [])
is_part a sys p own kept is below here =
    ap (λ (s : SysState). part_at p s.machine) (sym is)
    ∙ parts.memories-there a.parts.items a.ram.maps a.inputs p own _ (is_held a kept) (is_given a kept) (is_kept a sys p kept is below)
    ∙ ap (λ (o : OwnState). with_memory o (map_at p a.ram) (get_or a.inputs p [])) (sym here)

-- its memory
pub is_memory : (a : Inside) (sys : SysState) (p : ℕ) (own : OwnState) → IsKept a → seen a ≡ sys → p < length sys.machine.parts → own ≡ get_or a.parts.items p own → memory_of p sys.machine ≡ map_at p a.ram
is_memory a sys p own kept is below here = ap (λ (ps : PartitionState). ps.memory) (is_part a sys p own kept is below here)

-- its input words
pub is_words : (a : Inside) (sys : SysState) (p : ℕ) → seen a ≡ sys → input_words_of p sys.machine ≡ get_or a.inputs p []
is_words a sys p is = ap (λ (s : SysState). input_words_of p s.machine) (sym is)

-- its state, with its memory and its input words as they are seen
pub is_lent_value : (a : Inside) (sys : SysState) (p : ℕ) (own : OwnState) → IsKept a → seen a ≡ sys → p < length sys.machine.parts → own ≡ get_or a.parts.items p own
    → part_at p sys.machine ≡ with_memory own (memory_of p sys.machine) (input_words_of p sys.machine)
is_lent_value a sys p own kept is below here =
    is_part a sys p own kept is below here
    ∙ ap (λ (m : Memory). with_memory own m (get_or a.inputs p [])) (sym (is_memory a sys p own kept is below here))
    ∙ ap (λ (w : List ℕ). with_memory own (memory_of p sys.machine) w) (sym (is_words a sys p is))

-- the areas of its memory
pub is_areas : (a : Inside) (sys : SysState) (p : ℕ) → IsKept a → seen a ≡ sys → p < length sys.machine.parts → areas_at p a.ram ≡ areas_in p sys.machine
unfolding part_of
is_areas a sys p kept is below =
    ap (λ (areas : List (List Area)). get_or areas p []) kept.areas
    ∙ get_or-map memory_areas a.system.conf.parts p no_part [] (omega (arith, is_kept a sys p kept is below, kept.counted))
    ∙ ap (λ (s : SysState). areas_in p s.machine) is

-- what is known of a partition whose state is borrowed
pub record IsAt (a : Inside) (sys : SysState) (p : ℕ) (own : OwnState) : Type 0 where
  pub part : part_at p sys.machine ≡ with_memory own (map_at p a.ram) (get_or a.inputs p [])
  pub areas : areas_at p a.ram ≡ areas_in p sys.machine

pub is_at : (a : Inside) (sys : SysState) (p : ℕ) (own : OwnState) → IsKept a → seen a ≡ sys → p < length sys.machine.parts → own ≡ get_or a.parts.items p own → IsAt a sys p own
is_at a sys p own kept is below here = record { part = is_part a sys p own kept is below here; areas = is_areas a sys p kept is below }

-- the memories
pub is_maps : (a : Inside) (sys : SysState) → IsKept a → seen a ≡ sys → a.ram.maps ≡ map (λ part. part.memory) sys.machine.parts
is_maps a sys kept is =
    parts.memories-seen a.parts.items a.ram.maps a.inputs (is_held a kept) (is_given a kept)
    ∙ ap (λ (s : SysState). map (λ (part : PartitionState). part.memory) s.machine.parts) is

-- with another state of one partition, whose memory stays
pub is_changed : (a : Inside) (sys : SysState) (p : ℕ) (new : OwnState) → seen a ≡ sys
    → seen_with a (set a.parts.items p new) a.ram ≡ with_machine (with_part p (with_memory new (map_at p a.ram) (get_or a.inputs p [])) sys.machine) sys
is_changed a sys p new is =
    ap (λ (states : List PartitionState). with_machine (record (seen a).machine { parts = states }) (seen a)) (parts.memories-set_own a.parts.items a.ram.maps a.inputs p new)
    ∙ ap (λ (s : SysState). with_machine (with_part p (with_memory new (map_at p a.ram) (get_or a.inputs p [])) s.machine) s) is

-- as the borrow of its state has it
pub is_lent : (a : Inside) (sys : SysState) (p : ℕ) (own new : OwnState) → IsKept a → seen a ≡ sys → p < length sys.machine.parts → own ≡ get_or a.parts.items p own
    → seen_with a (set a.parts.items p new) a.ram ≡ with_machine (with_own p new sys.machine) sys
is_lent a sys p own new kept is below here =
    is_changed a sys p new is
    ∙ ap (λ (m : Memory). with_machine (with_part p (with_memory new m (get_or a.inputs p [])) sys.machine) sys) (sym (is_memory a sys p own kept is below here))
    ∙ ap (λ (w : List ℕ). with_machine (with_part p (with_memory new (memory_of p sys.machine) w) sys.machine) sys) (sym (is_words a sys p is))

-- with another state and another memory of one partition, which is selected
pub is_stepped : (a : Inside) (sys : SysState) (p : ℕ) (new : OwnState) (memory : Memory) (ram : Memories) → seen a ≡ sys → ram ≡ with_selected p (with_map p memory a.ram)
    → seen_with a (set a.parts.items p new) ram ≡ with_machine (with_part p (with_memory new memory (get_or a.inputs p [])) sys.machine) sys
is_stepped a sys p new memory ram is ram_is =
    ap (λ (m : Memories). seen_with a (set a.parts.items p new) m) ram_is
    ∙ ap (λ (states : List PartitionState). with_machine (record (seen a).machine { parts = states }) (seen a)) (parts.memories-set a.parts.items a.ram.maps a.inputs p new memory)
    ∙ ap (λ (s : SysState). with_machine (with_part p (with_memory new memory (get_or a.inputs p [])) s.machine) s) is

-- with another memory of one partition, whose state stays
pub is_written : (a : Inside) (sys : SysState) (p : ℕ) (own : OwnState) (memory : Memory) (ram : Memories) → seen a ≡ sys → own ≡ get_or a.parts.items p own → ram ≡ with_map p memory a.ram
    → seen_with a a.parts.items ram ≡ with_machine (with_part p (with_memory own memory (get_or a.inputs p [])) sys.machine) sys
is_written a sys p own memory ram is here ram_is =
    ap (λ (m : Memories). seen_with a a.parts.items m) ram_is
    ∙ ap (λ (states : List PartitionState). with_machine (record (seen a).machine { parts = states }) (seen a)) (parts.memories-set_map a.parts.items a.ram.maps a.inputs p own memory)
    ∙ ap (λ (o : OwnState). with_machine (with_part p (with_memory o memory (get_or a.inputs p [])) (seen a).machine) (seen a)) (sym here)
    ∙ ap (λ (s : SysState). with_machine (with_part p (with_memory own memory (get_or a.inputs p [])) s.machine) s) is

-- as the state of that partition has it
pub is_rewritten : (a : Inside) (sys : SysState) (p : ℕ) (memory : Memory) (ram : Memories) → IsKept a → seen a ≡ sys → p < length sys.machine.parts → ram ≡ with_map p memory a.ram
    → seen_with a a.parts.items ram ≡ with_machine (with_part p (record (part_at p sys.machine) { memory = memory }) sys.machine) sys
is_rewritten a sys p memory ram kept is below ram_is =
    let own = get_or a.parts.items p (booted_own 0) in
    let here : own ≡ get_or a.parts.items p own = get_or_default a.parts.items p (booted_own 0) own (is_kept a sys p kept is below) in
    is_written a sys p own memory ram is here ram_is
    ∙ ap (λ (ps : PartitionState). with_machine (with_part p (record ps { memory = memory }) sys.machine) sys) (sym (is_part a sys p own kept is below here))

-- what follows where there is a value
pub on_ok : {T E : Type 0} (r : Result T E) (P Q : Type 0) → (P → Q) → OnOk r P → OnOk r Q
on_ok (Ok x) P Q follows holds = follows holds
on_ok (Err e) P Q follows holds = tt

-- with another state and another memory of one partition, which is selected, as that partition is seen then
pub is_become : (a : Inside) (sys : SysState) (p : ℕ) (new : OwnState) (memory : Memory) (ram : Memories) (ps : PartitionState) → seen a ≡ sys → ram ≡ with_selected p (with_map p memory a.ram)
    → with_memory new memory (get_or a.inputs p []) ≡ ps → seen_with a (set a.parts.items p new) ram ≡ with_machine (with_part p ps sys.machine) sys
is_become a sys p new memory ram ps is ram_is ps_is =
    is_stepped a sys p new memory ram is ram_is
    ∙ ap (λ (x : PartitionState). with_machine (with_part p x sys.machine) sys) ps_is

-- memories with the bytes that they have
pub map_same : (p : ℕ) (m : Memories) → with_map p (map_at p m) m ≡ m
map_same p m = ap (λ (maps : List Memory). record { areas = m.areas; maps = maps; selected = m.selected }) (set-get_or m.maps p empty)

-- with another state of one partition, which is selected, and whose memory stays
pub is_returned : (a : Inside) (sys : SysState) (p : ℕ) (new : OwnState) (ram : Memories) (ps : PartitionState) → seen a ≡ sys → ram ≡ with_selected p a.ram
    → with_memory new (map_at p a.ram) (get_or a.inputs p []) ≡ ps → seen_with a (set a.parts.items p new) ram ≡ with_machine (with_part p ps sys.machine) sys
is_returned a sys p new ram ps is ram_is ps_is =
    is_become a sys p new (map_at p a.ram) ram ps is (ram_is ∙ ap (λ (m : Memories). with_selected p m) (sym (map_same p a.ram))) ps_is

-- the memory of a partition that is there
pub is_its_memory : (a : Inside) (sys : SysState) (p : ℕ) → IsKept a → seen a ≡ sys → p < length sys.machine.parts → memory_of p sys.machine ≡ map_at p a.ram
is_its_memory a sys p kept is below =
    let own = get_or a.parts.items p (booted_own 0) in
    is_memory a sys p own kept is below (get_or_default a.parts.items p (booted_own 0) own (is_kept a sys p kept is below))

-- with bytes written to the memory of one partition
pub is_copied : (a : Inside) (sys : SysState) (p address : ℕ) (bytes : List ℕ) (ram : Memories) → IsKept a → seen a ≡ sys → p < length sys.machine.parts → ram ≡ with_map p (with_bytes (map_at p a.ram) address bytes) a.ram
    → seen_with a a.parts.items ram ≡ with_machine (with_part p (with_written address bytes (part_at p sys.machine)) sys.machine) sys
unfolding with_written
is_copied a sys p address bytes ram kept is below ram_is =
    is_rewritten a sys p (with_bytes (map_at p a.ram) address bytes) ram kept is below ram_is
    ∙ ap (λ (m : Memory). with_machine (with_part p (record (part_at p sys.machine) { memory = with_bytes m address bytes }) sys.machine) sys) (sym (is_its_memory a sys p kept is below))

-- an image as it is loaded again
loads : (a : Inside) (sys : SysState) (p : ℕ) (image : Image) → IsKept a → seen a ≡ sys → p < length sys.machine.parts → slice_get a.system.images p ≡ Some image
    → areas_with_image (areas_at p a.ram) image ≡ model.loaded_memory (view_of sys.machine.system p)
unfolding model.loaded_memory model.areas_of view_of
loads a sys p image kept is below there =
    ap (λ (areas : List Area). areas_with_image areas image) (is_areas a sys p kept is below)
    ∙ ap (λ (i : Image). areas_with_image (areas_in p sys.machine) i) (sym (get_or_from_slice_get a.system.images p image no_image there))
    ∙ ap (λ (s : SysState). areas_with_image (areas_in p sys.machine) (get_or s.machine.system.images p no_image)) is

-- with the image of one partition loaded
pub is_reloaded : (a : Inside) (sys : SysState) (p : ℕ) (image : Image) (ram : Memories) → IsKept a → seen a ≡ sys → p < length sys.machine.parts → slice_get a.system.images p ≡ Some image → ram ≡ with_map p (areas_with_image (areas_at p a.ram) image) a.ram
    → seen_with a a.parts.items ram ≡ with_machine (with_part p (record (part_at p sys.machine) { memory = model.loaded_memory (view_of sys.machine.system p) }) sys.machine) sys
is_reloaded a sys p image ram kept is below there ram_is =
    is_rewritten a sys p (areas_with_image (areas_at p a.ram) image) ram kept is below ram_is
    ∙ ap (λ (m : Memory). with_machine (with_part p (record (part_at p sys.machine) { memory = m }) sys.machine) sys) (loads a sys p image kept is below there)

-- a partition is one of the configuration
pub is_in_conf : (a : Inside) (sys : SysState) (p : ℕ) → IsKept a → seen a ≡ sys → p < length sys.machine.parts → p < length a.system.conf.parts
is_in_conf a sys p kept is below = omega (arith, is_kept a sys p kept is below, kept.counted)

-- a partition with one more made port
pub made_set : (own : OwnState) (ports : List Bool) (memory : Memory) (words : List ℕ) (port : ℕ) (ps : PartitionState) → ps ≡ with_memory own memory words → ports ≡ with_port port own.ports
    → with_memory (record own { ports = ports }) memory words ≡ record ps { made = with_port port ps.made }
made_set own ports memory words port ps is ports_is =
    ap (λ (made : List Bool). with_memory (record own { ports = made }) memory words) ports_is
    ∙ ap (λ (x : PartitionState). record x { made = with_port port x.made }) (sym is)

-- what follows where there is a value
pub if_ok : {T E : Type 0} (r : Result T E) (P Q : T → Type 0) → ((x : T) → P x → Q x) → IfOk r P → IfOk r Q
if_ok (Ok x) P Q follows holds = follows x holds
if_ok (Err e) P Q follows holds = tt

-- whether a timer is armed is seen
pub is_timed_seen : (a : Inside) (sys : SysState) → IsKept a → seen a ≡ sys → list_any (λ own. is_timed own.clocks) a.parts.items ≡ any_timed sys.machine.parts
is_timed_seen a sys kept is =
    parts.memories-timed a.parts.items a.ram.maps a.inputs (is_held a kept) (is_given a kept) ∙ ap (λ (s : SysState). any_timed s.machine.parts) is

-- what follows where a test holds
on_true : (b : Bool) (P Q : Type 0) → (P → Q) → OnTrue b P → OnTrue b Q
on_true true P Q follows holds = follows holds
on_true false P Q follows holds = tt

-- where it is said that no timer is armed, none is seen to be
pub is_known : (a : Inside) (sys : SysState) → IsKept a → seen a ≡ sys → OnTrue a.untimed (any_timed sys.machine.parts ≡ false)
is_known a sys kept is = on_true a.untimed (NoneTimed a.parts.items) (any_timed sys.machine.parts ≡ false) (λ none. sym (is_timed_seen a sys kept is) ∙ none) kept.unarmed

-- where none is due before a time, none is seen to be due earlier
pub none_due_seen : (a : Inside) (sys : SysState) (but : Option ℕ) (least time : ℕ) → seen a ≡ sys → AreFrom but least a.parts.items → OnTrue (nat_lt time least) (NoneDue but time sys.machine.parts)
none_due_seen a sys but least time is all = at (nat_lt time least) refl
  where
    at : (b : Bool) → nat_lt time least ≡ b → OnTrue b (NoneDue but time sys.machine.parts)
    at true before =
        subst (λ (s : SysState). NoneDue but time s.machine.parts) is
        (parts.from-seen but least time a.parts.items a.ram.maps a.inputs (grind (arith, nat_tests, before)) all)
    at false after = tt

-- what is kept stays so with the state of one partition changed in any way, where that partition's timer does not count
pub lent_kept : (a : Inside) (p least : ℕ) (new : OwnState) → IsKept a → (AreFrom a.lent a.least a.parts.items → AreFrom (Some p) least a.parts.items)
    → IsKeptSo a.system a.inputs (set a.parts.items p new) a.ram false least (Some p)
lent_kept a p least new kept stays = record {
  counted = length-set a.parts.items p new ∙ kept.counted;
  given = kept.given;
  areas = kept.areas;
  held = kept.held;
  unarmed = tt;
  due = parts.from-lent least a.parts.items p new (stays kept.due);
}

-- what is kept stays so with another time and another partition whose timer does not count
pub least_kept : (a : Inside) (but : Option ℕ) (least : ℕ) → IsKept a → AreFrom but least a.parts.items → IsKeptSo a.system a.inputs a.parts.items a.ram a.untimed least but
least_kept a but least kept all = record {
  counted = kept.counted;
  given = kept.given;
  areas = kept.areas;
  held = kept.held;
  unarmed = kept.unarmed;
  due = all;
}

-- what is kept stays so with another state of one partition, by which no timer is armed, and with other memories of the same areas
pub stays_kept : (a : Inside) (p : ℕ) (own new : OwnState) (ram : Memories) → IsKept a → own ≡ get_or a.parts.items p own → (is_timed own.clocks ≡ false → is_timed new.clocks ≡ false)
    → (IsFrom a.least own.clocks.hardware_timer → IsFrom a.least new.clocks.hardware_timer) → ram.areas ≡ a.ram.areas → length ram.maps ≡ length a.ram.maps → IsKeptSo a.system a.inputs (set a.parts.items p new) ram a.untimed a.least a.lent
stays_kept a p own new ram kept here keeps stays areas maps = record {
  counted = length-set a.parts.items p new ∙ kept.counted;
  given = kept.given;
  areas = areas ∙ kept.areas;
  held = maps ∙ kept.held;
  unarmed = on_true a.untimed (NoneTimed a.parts.items) (NoneTimed (set a.parts.items p new)) (parts.none-set a.parts.items p own new here keeps) kept.unarmed;
  due = parts.from-set a.lent a.least a.parts.items p own new here stays kept.due;
}

-- and with another memory of that partition
pub stays_kept_with : (a : Inside) (p : ℕ) (own new : OwnState) (memory : Memory) (ram : Memories) → IsKept a → own ≡ get_or a.parts.items p own → (is_timed own.clocks ≡ false → is_timed new.clocks ≡ false)
    → (IsFrom a.least own.clocks.hardware_timer → IsFrom a.least new.clocks.hardware_timer) → ram ≡ with_selected p (with_map p memory a.ram) → IsKeptSo a.system a.inputs (set a.parts.items p new) ram a.untimed a.least a.lent
stays_kept_with a p own new memory ram kept here keeps stays is =
    stays_kept a p own new ram kept here keeps stays (ap (λ (m : Memories). m.areas) is) (ap (λ (m : Memories). length m.maps) is ∙ length-set a.ram.maps p memory)

-- with a state of one partition that is changed so, whose memory stays
pub is_turned : (a : Inside) (sys : SysState) (p : ℕ) (f : PartitionState → PartitionState) (own new : OwnState) → IsKept a → seen a ≡ sys → p < length sys.machine.parts → own ≡ get_or a.parts.items p own
    → with_memory new (map_at p a.ram) (get_or a.inputs p []) ≡ f (with_memory own (map_at p a.ram) (get_or a.inputs p []))
    → seen_with a (set a.parts.items p new) a.ram ≡ with_machine (with_part p (f (part_at p sys.machine)) sys.machine) sys
is_turned a sys p f own new kept is below here turned =
    is_changed a sys p new is
    ∙ ap (λ (ps : PartitionState). with_machine (with_part p ps sys.machine) sys) (turned ∙ ap f (sym (is_part a sys p own kept is below here)))

-- with one whose interrupts have come
pub is_met : (a : Inside) (sys : SysState) (p : ℕ) (first : Bool) (own new : OwnState) → IsKept a → seen a ≡ sys → p < length sys.machine.parts → own ≡ get_or a.parts.items p own → HasMet a.time first own new
    → seen_with a (set a.parts.items p new) a.ram ≡ with_machine (with_part p (with_interrupts sys.machine.time first (part_at p sys.machine)) sys.machine) sys
is_met a sys p first own new kept is below here met =
    is_turned a sys p (with_interrupts a.time first) own new kept is below here (met (map_at p a.ram) (get_or a.inputs p []))
    ∙ ap (λ (s : SysState). with_machine (with_part p (with_interrupts s.machine.time first (part_at p sys.machine)) sys.machine) sys) is
