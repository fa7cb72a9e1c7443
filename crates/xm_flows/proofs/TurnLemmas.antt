-- Whose slot a tick is in, for a set of partitions: two systems with the same slots of members have the same turns of members.
use Rattle.std.proofs.Common.{◌≡◌, ℕ, suc, ◌<◌, ◌≤◌, ◌+◌, Bool, true, false, cond, List, [], ◌∷◌, length, Option, None, Some, refl, sym, ap, ◌∙◌, arith, subst}
use Rattle.std.specs.Prelude.{slice_get, slice_index_or, ◌==◌, ◌-◌, ◌&&◌, if◌then◌else◌, nat_le, nat_lt}
use Rattle.std.proofs.lemmas.Bool.Decides.{nat_tests}
use Rattle.std.proofs.lemmas.Option.{slice_get_past}
use Rattle.cyclic_plans.specs.PlanClock.{here, moment, slot_at}
use Rattle.cyclic_plans.specs.lemmas.PlanLemmas.{plan_fits}
use Rattle.cyclic_plans.specs.Slots.{covers, here_in, slot_from, slots_in, slots_of}
use Rattle.xm_base.specs.Options.{on}
use Rattle.xm_conf.specs.Configuration.{Conf, Plan}
use Rattle.xm_conf.specs.Description.{described}
use Rattle.xm_conf.specs.Fits.{Fits, InTurn}
use Rattle.xm_conf.specs.declared.plan.Slot.{Slot}
use Rattle.machine_model.specs.Machine.{Machine, SlotTurn, turn_here, turn_of}
use Rattle.xm_flows.specs.Alike.{own_slots}
use Rattle.xm_flows.specs.Groups.{Members}

-- a turn, where it is a member's
abbrev pub member_turn : Members → Option SlotTurn → Option SlotTurn
member_turn members None = None
member_turn members (Some turn) = if members turn.part then Some turn else None

-- the turn of a slot that was found
abbrev found_turn : ℕ → Option (ℕ × Slot) → Option SlotTurn
found_turn now o = turn_here (on (here_in now) o)

in_turn_tail : (slot : Slot) (slots : List Slot) → InTurn (slot ∷ slots) → InTurn slots
in_turn_tail slot slots turns n d below =
    let next : suc n + 1 ≡ suc (n + 1) = omega arith in
    subst (λ (k : ℕ). (slice_index_or slots n d).start + (slice_index_or slots n d).duration ≤ (slice_index_or (slot ∷ slots) k d).start) next
    (turns (suc n) d (omega (arith, below)))

in_turn_next : (slot next : Slot) (slots : List Slot) → InTurn (slot ∷ next ∷ slots) → slot.start + slot.duration ≤ next.start
in_turn_next slot next slots turns = turns 0 slot (omega arith)

-- a slot that starts later does not cover the moment
not_yet : (now : ℕ) (slot : Slot) → now < slot.start → covers now slot ≡ false
not_yet now slot later = let fails : nat_le slot.start now ≡ false = grind (arith, nat_tests) in ap (λ b. b && nat_lt now (slot.start + slot.duration)) fails

-- after a slot that has not ended no other covers the moment
none_after : (members : Members) (now : ℕ) (slot : Slot) (slots : List Slot) → InTurn (slot ∷ slots) → now < slot.start + slot.duration → (k : ℕ) → slot_from now k (own_slots members slots) ≡ None
none_after members now slot [] turns before k = refl
none_after members now slot (next ∷ slots) turns before k =
    let after : slot.start + slot.duration ≤ next.start = in_turn_next slot next slots turns in
    let later : now < next.start = omega (arith, before, after) in
    by (members next.part) (not_yet now next later) (none_after members now next slots (in_turn_tail slot (next ∷ slots) turns) (omega (arith, later)))
  where
    by : (b : Bool) → covers now next ≡ false → ((i : ℕ) → slot_from now i (own_slots members slots) ≡ None)
        → slot_from now k (cond b (next ∷ own_slots members slots) (own_slots members slots)) ≡ None
    by true fails further = ap (λ c. if c then Some (k, next) else slot_from now (k + 1) (own_slots members slots)) fails ∙ further (k + 1)
    by false fails further = further k

-- a slot that covers the moment has not ended
not_over : (now : ℕ) (slot : Slot) → covers now slot ≡ true → now < slot.start + slot.duration
not_over now slot is = grind (arith, nat_tests)

-- the slot of a member that covers the moment is the one of the members' slots that does
found_own : (members : Members) (now : ℕ) (slots : List Slot) → InTurn slots → (k i : ℕ) → member_turn members (found_turn now (slot_from now k slots)) ≡ found_turn now (slot_from now i (own_slots members slots))
found_own members now [] turns k i = refl
found_own members now (slot ∷ slots) turns k i = by (covers now slot) (members slot.part) refl refl (found_own members now slots (in_turn_tail slot slots turns))
  where
    by : (c b : Bool) → covers now slot ≡ c → members slot.part ≡ b
        → ((k' i' : ℕ) → member_turn members (found_turn now (slot_from now k' slots)) ≡ found_turn now (slot_from now i' (own_slots members slots)))
        → member_turn members (found_turn now (if c then Some (k, slot) else slot_from now (k + 1) slots)) ≡ found_turn now (slot_from now i (cond b (slot ∷ own_slots members slots) (own_slots members slots)))
    by true true is its further =
        ap (λ t. if t then Some (record { part = slot.part; first = slot.start == now }) else None) its
        ∙ sym (ap (λ t. found_turn now (if t then Some (i, slot) else slot_from now (i + 1) (own_slots members slots))) is)
    by true false is its further =
        ap (λ t. if t then Some (record { part = slot.part; first = slot.start == now }) else None) its
        ∙ sym (ap (found_turn now) (none_after members now slot slots turns (not_over now slot is) i))
    by false true is its further =
        further (k + 1) (i + 1)
        ∙ sym (ap (λ t. found_turn now (if t then Some (i, slot) else slot_from now (i + 1) (own_slots members slots))) is)
    by false false is its further = further (k + 1) i

-- the slots of each plan of a configuration that meets the rules come one after the other
slots_in_turn : (conf : Conf) (n : ℕ) → Fits (described conf) → InTurn (slots_of conf n)
unfolding slots_of
slots_in_turn conf n fits = by (nat_lt n (length conf.plans)) refl
  where
    nothing : (o : Option Plan) → o ≡ None → InTurn (slots_in o)
    nothing None none k d below = absurd (omega (arith, below))
    nothing (Some plan) none k d below = absurd cc

    by : (b : Bool) → nat_lt n (length conf.plans) ≡ b → InTurn (slots_in (slice_get conf.plans n))
    by true below = (plan_fits conf n fits (grind (arith, nat_tests))).in_turn
    by false past = nothing (slice_get conf.plans n) (slice_get_past conf.plans n (grind (arith, nat_tests)))

-- the turns of members are those of the members' slots
own_turn : (members : Members) (g : Machine) → Fits (described g.system.conf)
    → member_turn members (turn_of g) ≡ found_turn (moment g.clock g.time) (slot_from (moment g.clock g.time) 0 (own_slots members (slots_of g.system.conf g.clock.plan)))
unfolding here slot_at turn_of
own_turn members g fits = found_own members (moment g.clock g.time) (slots_of g.system.conf g.clock.plan) (slots_in_turn g.system.conf g.clock.plan fits) 0 0

pub same_turn : (members : Members) (g h : Machine) → Fits (described g.system.conf) → Fits (described h.system.conf)
    → ((plan : ℕ) → own_slots members (slots_of g.system.conf plan) ≡ own_slots members (slots_of h.system.conf plan))
    → g.time ≡ h.time → g.clock.plan ≡ h.clock.plan → g.clock.frame_start ≡ h.clock.frame_start → member_turn members (turn_of g) ≡ member_turn members (turn_of h)
same_turn members g h fits fits_too slots time plan frame_start =
    own_turn members g fits
    ∙ ap (λ now. found_turn now (slot_from now 0 (own_slots members (slots_of g.system.conf g.clock.plan)))) (ap (λ t. t - g.clock.frame_start) time ∙ ap (λ s. h.time - s) frame_start)
    ∙ ap (λ n. found_turn (moment h.clock h.time) (slot_from (moment h.clock h.time) 0 (own_slots members (slots_of g.system.conf n)))) plan
    ∙ ap (λ own. found_turn (moment h.clock h.time) (slot_from (moment h.clock h.time) 0 own)) (slots h.clock.plan)
    ∙ sym (own_turn members h fits_too)
