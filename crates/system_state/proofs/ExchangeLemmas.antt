-- Messages between the channels and a partition's memory: a system as it is kept, and as it is seen.
use Rattle.std.proofs.Common.{◌≡◌, ℕ, ◌<◌, true, List, [], length, Option, None, Some, Bool, Result, Err, sym, ap, ◌∙◌, subst}
use Rattle.std.proofs.lemmas.List.{length-set}
use Rattle.std.specs.Prelude.{IsSomeAnd, Ok, option_map, unwrap_or}
use Rattle.guest_bus.specs.Memory.{Area, Memory, all_from, bytes_at, is_writable, with_bytes}
use Rattle.guest_memory.specs.Memories.{Memories, answer_by, areas_at, first_refused, map_at, with_map}
use Rattle.guest_memory.specs.declared.outside.Outside.{Outside}
use Rattle.guest_memory.specs.lemmas.RefusedLemmas.{none_refused}
use Rattle.machine_model.specs.Caller.{with_written}
use Rattle.xm_ports.specs.Channels.{ChannelTable, FitsChannel, HeldSample, put, with_content}
use Rattle.system_state.specs.State.{IsKeptSo, SysState, areas_in, kept_so, memory_of, part_at, sample_bytes, table_in, with_machine, with_part, with_table}
use Rattle.system_state.specs.declared.sys.Sys.TheInside.{Inside}
use Rattle.system_state.proofs.InsideLemmas.{IsKept, is_areas, is_copied, is_its_memory, seen, seen_with}

-- a system as it is seen, with these channels
abbrev pub seen_holding : Inside → ChannelTable → SysState
seen_holding a table = kept_so a.system a.inputs a.parts.items a.ram table a.plan_clock a.time a.ticks a.resets a.halted

-- a message that fits is one in the memory that is kept
pub fits_kept : (a : Inside) (sys : SysState) (p chan address size : ℕ) → IsKept a → seen a ≡ sys → p < length sys.machine.parts
    → FitsChannel (bytes_at (memory_of p sys.machine) address size) chan (table_in sys) → FitsChannel (bytes_at (map_at p a.ram) address size) chan a.channels
fits_kept a sys p chan address size kept is below fits =
    subst (λ (s : SysState). FitsChannel (bytes_at (map_at p a.ram) address size) chan (table_in s)) (sym is)
    (subst (λ (m : Memory). FitsChannel (bytes_at m address size) chan (table_in sys)) (is_its_memory a sys p kept is below) fits)

-- with a message of a partition's memory in a channel, put at a time of the system
pub is_put : (a : Inside) (sys : SysState) (p chan address size : ℕ) (time : SysState → ℕ) (after : ChannelTable) → IsKept a → seen a ≡ sys → p < length sys.machine.parts
    → after ≡ with_content (put (time (seen a)) (bytes_at (map_at p a.ram) address size)) chan a.channels
    → seen_holding a after ≡ with_table (with_content (put (time sys) (bytes_at (memory_of p sys.machine) address size)) chan (table_in sys)) sys
is_put a sys p chan address size time after kept is below after_is =
    ap (λ (t : ChannelTable). seen_holding a t) after_is
    ∙ ap (λ (m : Memory). seen_holding a (with_content (put (time (seen a)) (bytes_at m address size)) chan a.channels)) (sym (is_its_memory a sys p kept is below))
    ∙ ap (λ (s : SysState). with_table (with_content (put (time s) (bytes_at (memory_of p sys.machine) address size)) chan (table_in s)) s) is

-- what is known of a value that is there is known of one that stands for it
pub if_shown : {X Y : Type 0} (f : X → Y) (o : Option X) (shown : Option Y) (P : Y → Type 0) → option_map f o ≡ shown → IsSomeAnd shown P → IsSomeAnd o (λ x. P (f x))
if_shown {X} {Y} f None shown P is holds = absurd (subst (λ (o : Option Y). IsSomeAnd o P) (sym is) holds)
if_shown {X} {Y} f (Some x) shown P is holds = subst (λ (o : Option Y). IsSomeAnd o P) (sym is) holds

-- and the other way round, of its bytes
pub if_held : {X : Type 0} (f : X → List ℕ) (o : Option X) (shown : Option (List ℕ)) (P : List ℕ → Type 0) → option_map f o ≡ shown → IsSomeAnd o (λ x. P (f x)) → P (unwrap_or shown [])
if_held f None shown P is holds = absurd holds
if_held f (Some x) shown P is holds = subst (λ (o : Option (List ℕ)). P (unwrap_or o [])) is holds

pub if_sample : (o shown : Option HeldSample) (P : List ℕ → Type 0) → o ≡ shown → IsSomeAnd o (λ held. P held.bytes) → P (sample_bytes shown)
if_sample None shown P is holds = absurd holds
if_sample (Some held) shown P is holds = subst (λ (o : Option HeldSample). P (sample_bytes o)) is holds

-- there is room in the memory that is kept for what a channel holds
pub room_kept : {X : Type 0} (a : Inside) (sys : SysState) (p address : ℕ) (bytes : X → List ℕ) (held : SysState → Option X) → IsKept a → seen a ≡ sys → p < length sys.machine.parts
    → IsSomeAnd (held sys) (λ x. all_from (is_writable (areas_in p sys.machine)) address (length (bytes x)) ≡ true)
    → IsSomeAnd (held (seen a)) (λ x. all_from (is_writable (areas_at p a.ram)) address (length (bytes x)) ≡ true)
room_kept a sys p address bytes held kept is below room =
    subst (λ (s : SysState). IsSomeAnd (held s) (λ x. all_from (is_writable (areas_at p a.ram)) address (length (bytes x)) ≡ true)) (sym is)
    (subst (λ (areas : List Area). IsSomeAnd (held sys) (λ x. all_from (is_writable areas) address (length (bytes x)) ≡ true)) (sym (is_areas a sys p kept is below)) room)

-- with what a channel holds written to the memory of one partition
pub is_written_there : (a : Inside) (sys : SysState) (p address : ℕ) (bytes : SysState → List ℕ) (ram : Memories) → IsKept a → seen a ≡ sys → p < length sys.machine.parts
    → ram ≡ with_map p (with_bytes (map_at p a.ram) address (bytes (seen a))) a.ram
    → seen_with a a.parts.items ram ≡ with_machine (with_part p (with_written address (bytes sys) (part_at p sys.machine)) sys.machine) sys
is_written_there a sys p address bytes ram kept is below written =
    is_copied a sys p address (bytes (seen a)) ram kept is below written
    ∙ ap (λ (s : SysState). with_machine (with_part p (with_written address (bytes s) (part_at p sys.machine)) sys.machine) sys) is

-- what is kept stays so with another memory of one partition
pub kept_with : (a : Inside) (p : ℕ) (memory : Memory) (ram : Memories) → IsKept a → ram ≡ with_map p memory a.ram → IsKeptSo a.system a.inputs a.parts.items ram a.untimed a.least a.lent
kept_with a p memory ram kept is = record {
  counted = kept.counted;
  given = kept.given;
  areas = ap (λ (m : Memories). m.areas) is ∙ kept.areas;
  held = ap (λ (m : Memories). length m.maps) is ∙ length-set a.ram.maps p memory ∙ kept.held;
  unarmed = kept.unarmed;
  due = kept.due;
}

-- a range all of which is allowed is not refused
pub never_refused : (allowed : ℕ → Bool) (address count : ℕ) (result : Result (Unit {0}) Outside) (fault : Outside) → all_from allowed address count ≡ true → result ≡ answer_by (first_refused allowed address count) → result ≡ Err fault → ⊥
never_refused allowed address count result fault all answer refused =
    let fine : answer_by (first_refused allowed address count) ≡ Ok tt = ap answer_by (none_refused allowed address count all) in
    let wrong : Ok tt ≡ Err fault = sym fine ∙ sym answer ∙ refused in
    absurd cc
