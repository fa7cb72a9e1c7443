-- What a partition that calls sees of the configuration.
use Rattle.std.proofs.Common.{◌≡◌, ◌≢◌, ℕ, zero, suc, ◌<◌, true, false, List, [], ◌∷◌, length, map, get_or, refl, sym, ap, ◌∙◌, arith}
use Rattle.std.proofs.lemmas.Bool.Decides.{nat_tests}
use Rattle.std.proofs.lemmas.List.{get_or-map}
use Rattle.std.specs.Prelude.{◌==◌, Bool, Ok, nat_le, nat_lt, not, slice_get}
use Rattle.guest_memory.specs.Loading.{memory_areas}
use Rattle.system_state.specs.lemmas.ServedLemmas.{areas_seen}
use Rattle.guest_bus.specs.Memory.{Area, all_from, is_readable, is_writable}
use Rattle.guest_memory.specs.Memories.{Memories, answer_by, areas_at, first_refused}
use Rattle.guest_memory.specs.lemmas.RefusedLemmas.{none_refused}
use Rattle.machine_model.specs.Caller.{Caller, invalid_parameter, is_room, refused_if, room, target, text}
use Rattle.machine_model.specs.View.{no_part, part_of, view_of}
use Rattle.xm_conf.specs.Configuration.{Part}
use Rattle.xm_conf.specs.View.{counts_seen, is_system, sees}
use Rattle.system_state.specs.Serving.{MayRead, caller_of}
use Rattle.system_state.specs.State.{SysState, areas_in}
use Rattle.system_state.specs.declared.call_site.CallSite.{CallSite}

-- the flag of a partition, read either way
flag_read : (parts : List Part) (p : ℕ) → p < length parts → is_system (slice_get parts p) ≡ (get_or parts p no_part).system
flag_read [] p below = absurd (omega (arith, below))
flag_read (part ∷ parts) zero below = refl
flag_read (part ∷ parts) (suc p) below = flag_read parts p (omega (arith, below))

-- a system partition sees how many partitions there are
pub sees_parts : (site : CallSite) (sys : SysState) → site.part < length sys.machine.system.conf.parts → (caller_of site sys).view.part.system ≡ true
    → (caller_of site sys).view.sees.parts ≡ length sys.machine.system.conf.parts
unfolding caller_of view_of part_of sees
sees_parts site sys below system =
    let conf = sys.machine.system.conf in
    ap (λ flag. (counts_seen (length conf.parts) (length conf.plans) flag).parts) (flag_read conf.parts site.part below ∙ system)

-- a range that it may write, as its test has it
pub room_seen : (site : CallSite) (sys : SysState) (address size : ℕ) (writable : Bool) → writable ≡ all_from (is_writable (areas_in site.part sys.machine)) address size
    → refused_if (not writable) invalid_parameter ≡ room (caller_of site sys) address size
room_seen site sys address size writable is =
    ap (λ (b : Bool). refused_if (not b) invalid_parameter) (is ∙ ap (λ (areas : List Area). all_from (is_writable areas) address size) (sym (areas_seen site sys)))

-- one that it may read
pub text_seen : (site : CallSite) (sys : SysState) (address size : ℕ) (readable : Bool) → readable ≡ all_from (is_readable (areas_in site.part sys.machine)) address size
    → refused_if (not readable) invalid_parameter ≡ text (caller_of site sys) address size
text_seen site sys address size readable is =
    ap (λ (b : Bool). refused_if (not b) invalid_parameter) (is ∙ ap (λ (areas : List Area). all_from (is_readable areas) address size) (sym (areas_seen site sys)))

-- where it may write, a copy is not refused
pub room_answers : (site : CallSite) (sys : SysState) (address size : ℕ) → is_room (caller_of site sys) address size ≡ true → answer_by (first_refused (is_writable (areas_in site.part sys.machine)) address size) ≡ Ok tt
room_answers site sys address size is =
    ap answer_by (none_refused (is_writable (areas_in site.part sys.machine)) address size (ap (λ (areas : List Area). all_from (is_writable areas) address size) (sym (areas_seen site sys)) ∙ is))

-- nor where it may read
pub text_answers : (site : CallSite) (sys : SysState) (address size : ℕ) → MayRead (caller_of site sys) address size → answer_by (first_refused (is_readable (areas_in site.part sys.machine)) address size) ≡ Ok tt
text_answers site sys address size is =
    ap answer_by (none_refused (is_readable (areas_in site.part sys.machine)) address size (ap (λ (areas : List Area). all_from (is_readable areas) address size) (sym (areas_seen site sys)) ∙ is))

-- the test of one that is named by a system partition, and is not the caller
target_other : (caller : Caller) (id count : ℕ) → id ≢ caller.view.id → caller.view.part.system ≡ true → count ≡ caller.view.sees.parts → refused_if (nat_le count id) invalid_parameter ≡ target caller id
target_other caller id count differs system counted =
    let test : (id == caller.view.id) ≡ false = grind (arith, nat_tests) in
    let past : nat_le count id ≡ not (nat_lt id caller.view.sees.parts) = grind (arith, nat_tests) in
    rw (test, system) (ap (λ (b : Bool). refused_if b invalid_parameter) past)

-- the caller's number
id_seen : (site : CallSite) (sys : SysState) → (caller_of site sys).view.id ≡ site.part
unfolding caller_of view_of
id_seen site sys = refl

-- that test, as the caller is seen
pub target_seen : (site : CallSite) (sys : SysState) (id count : ℕ) → site.part < length sys.machine.system.conf.parts → id ≢ site.part → (caller_of site sys).view.part.system ≡ true → count ≡ length sys.machine.system.conf.parts
    → refused_if (nat_le count id) invalid_parameter ≡ target (caller_of site sys) id
target_seen site sys id count below differs system counted = target_other (caller_of site sys) id count (λ same. differs (same ∙ id_seen site sys)) system (counted ∙ sym (sees_parts site sys below system))

-- the areas of a partition among all memories
pub areas_kept : (sys : SysState) (memories : Memories) (p : ℕ) → memories.areas ≡ map memory_areas sys.machine.system.conf.parts → p < length sys.machine.system.conf.parts → areas_at p memories ≡ areas_in p sys.machine
unfolding part_of
areas_kept sys memories p is below =
    ap (λ (areas : List (List Area)). get_or areas p []) is
    ∙ get_or-map memory_areas sys.machine.system.conf.parts p no_part [] below
