-- In each window of a requirement that is met, the partition has its duration.
use Rattle.std.proofs.Common.{◌≡◌, ℕ, zero, suc, ◌<◌, ◌≤◌, ◌+◌, ◌*◌, ◌/◌, ◌%◌, Bool, true, false, List, [], ◌∷◌, Some, refl, sym, ap, ◌∙◌, arith, subst, add-mul, mul-le-mul_right, mul_assoc, mul_comm}
use Rattle.std.specs.Prelude.{◌==◌, ◌&&◌, ◌||◌, if◌then◌else◌, slice_get, slice_index_or}
use Rattle.std.proofs.lemmas.Bool.Decides.{nat_tests}
use Rattle.std.proofs.lemmas.Nat.{div-add-mod', mod-mul-add, mod_below, mul-add-lt}
use Rattle.cyclic_plans.specs.Slots.{covers, frame_in, frame_of, here_in, slot_from, slots_in, slots_of}
use Rattle.cyclic_plans.specs.lemmas.PlanLemmas.{plan_fits}
use Rattle.plan_maker.specs.Served.{gives, runs_in, ticks_where, time_in}
use Rattle.xm_base.specs.Options.{on}
use Rattle.xm_conf.specs.Configuration.{Conf, Plan}
use Rattle.xm_conf.specs.Fits.{InTurn}
use Rattle.xm_conf.specs.declared.plan.Slot.{Slot}
use Rattle.machine_model.specs.Machine.{Machine, is_turn_of, run, turn_here}
use Rattle.machine_laws.specs.Planned.{GoesAsPlanned, IsCalmTick, planned_turn}
use Rattle.machine_laws.specs.Served.{BeginsFrame, ServesNeeds, is_own_tick, own_ticks}

-- slots that come one after the other
in_turn_tail : (slot : Slot) (slots : List Slot) → InTurn (slot ∷ slots) → InTurn slots
in_turn_tail slot slots turns n d below =
    let next : suc n + 1 ≡ suc (n + 1) = omega arith in
    subst (λ (k : ℕ). (slice_index_or slots n d).start + (slice_index_or slots n d).duration ≤ (slice_index_or (slot ∷ slots) k d).start) next
    (turns (suc n) d (omega (arith, below)))

in_turn_next : (slot next : Slot) (slots : List Slot) → InTurn (slot ∷ next ∷ slots) → slot.start + slot.duration ≤ next.start
in_turn_next slot next slots turns = turns 0 slot (omega arith)

-- after a slot that has not ended no other gives the moment to a partition
not_yet : (p at : ℕ) (slot : Slot) → at < slot.start → gives p at slot ≡ false
not_yet p at slot later = grind (arith, nat_tests)

none_after : (p at : ℕ) (slot : Slot) (slots : List Slot) → InTurn (slot ∷ slots) → at < slot.start + slot.duration → runs_in p slots at ≡ false
none_after p at slot [] turns before = refl
none_after p at slot (next ∷ slots) turns before =
    let after : slot.start + slot.duration ≤ next.start = in_turn_next slot next slots turns in
    let later : at < next.start = omega (arith, before, after) in
    ap (λ b. b || runs_in p slots at) (not_yet p at next later) ∙ none_after p at next slots (in_turn_tail slot (next ∷ slots) turns) (omega (arith, later))

not_over : (at : ℕ) (slot : Slot) → covers at slot ≡ true → at < slot.start + slot.duration
not_over at slot is = grind (arith, nat_tests)

-- a moment is in a partition's slot exactly where a slot gives it to the partition
gives_where : (p at : ℕ) (slot : Slot) (b c : Bool) → (slot.part == p) ≡ b → covers at slot ≡ c → gives p at slot ≡ (b && c)
gives_where p at slot b c its covered = ap (λ x. x && covers at slot) its ∙ ap (λ x. b && x) covered

or_false : (b : Bool) → (b || false) ≡ b
or_false true = refl
or_false false = refl

and_true : (b : Bool) → (b && true) ≡ b
and_true true = refl
and_true false = refl

and_false : (b : Bool) → (b && false) ≡ false
and_false true = refl
and_false false = refl

turn_runs : (p at n : ℕ) (slots : List Slot) → InTurn slots → is_turn_of (turn_here (on (here_in at) (slot_from at n slots))) p ≡ runs_in p slots at
turn_runs p at n [] turns = refl
turn_runs p at n (slot ∷ slots) turns = by (covers at slot) refl (turn_runs p at (n + 1) slots (in_turn_tail slot slots turns))
  where
    by : (c : Bool) → covers at slot ≡ c → is_turn_of (turn_here (on (here_in at) (slot_from at (n + 1) slots))) p ≡ runs_in p slots at
        → is_turn_of (turn_here (on (here_in at) (if c then Some (n, slot) else slot_from at (n + 1) slots))) p ≡ (gives p at slot || runs_in p slots at)
    by true covered rest =
        sym (ap (λ b. b || runs_in p slots at) (gives_where p at slot (slot.part == p) true refl covered ∙ and_true (slot.part == p))
        ∙ ap (λ b. (slot.part == p) || b) (none_after p at slot slots turns (not_over at slot covered)) ∙ or_false (slot.part == p))
    by false covered rest =
        rest ∙ sym (ap (λ b. b || runs_in p slots at) (gives_where p at slot (slot.part == p) false refl covered ∙ and_false (slot.part == p)))

-- as many ticks pass one test as another one that agrees with it at other places
shifted : (f g : ℕ → Bool) (a b count : ℕ) → ((j : ℕ) → j < count → f (a + j) ≡ g (b + j)) → ticks_where f a count ≡ ticks_where g b count
shifted f g a b zero same = refl
shifted f g a b (suc count) same =
    ap (λ n. n + (if f (a + count) then 1 else 0)) (shifted f g a b count (λ j below. same j (omega (arith, below))))
    ∙ ap (λ c. ticks_where g b count + (if c then 1 else 0)) (same count (omega arith))

-- a place of a window, in a frame of whole windows
in_frame_is : (window period windows j : ℕ) → 0 < windows → j < period → (window * period + j) % (windows * period) ≡ window % windows * period + j
in_frame_is window period windows j some below =
    let split : window / windows * windows + window % windows ≡ window = div-add-mod' window windows in
    let whole : window * period ≡ window / windows * (windows * period) + window % windows * period =
    ap (λ n. n * period) (sym split) ∙ add-mul (window / windows * windows) (window % windows) period
    ∙ ap (λ n. n + window % windows * period) (mul_assoc (window / windows) windows period) in
    let sum : window * period + j ≡ window / windows * (windows * period) + (window % windows * period + j) = omega (arith, whole) in
    ap (λ n. n % (windows * period)) sum ∙ mod-mul-add (window / windows) (windows * period) (window % windows * period + j) (inside_frame (window % windows) period windows j (mod_below window windows some) below)
  where
    inside_frame : (r m n i : ℕ) → r < n → i < m → r * m + i < n * m
    inside_frame r m n i first second = let e : r * m + i < m * n = mul-add-lt r m i n first second in omega (arith, e, mul_comm m n)

-- where a frame is whole windows it has at least one
has_windows : (period windows frame : ℕ) → windows * period ≡ frame → 0 < frame → 0 < windows
has_windows period zero frame whole some = omega (arith, whole, some)
has_windows period (suc windows) frame whole some = omega arith

-- a window of the frame ends in it
window_ends : (place period windows : ℕ) → place < windows → (place + 1) * period ≤ windows * period
window_ends place period windows below = mul-le-mul_right period (let e : place + 1 ≤ windows = omega (arith, below) in e)

-- the turn of a tick, by the plan that runs
its_slots : (conf : Conf) (n : ℕ) (plan : Plan) → slice_get conf.plans n ≡ Some plan → slots_of conf n ≡ plan.slots
unfolding slots_of
its_slots conf n plan there = ap slots_in there

its_frame : (conf : Conf) (n : ℕ) (plan : Plan) → slice_get conf.plans n ≡ Some plan → frame_of conf n ≡ plan.frame
unfolding frame_of
its_frame conf n plan there = ap frame_in there

turn_is : (conf : Conf) (n p at : ℕ) (plan : Plan) → slice_get conf.plans n ≡ Some plan → InTurn plan.slots → is_turn_of (planned_turn conf n at) p ≡ runs_in p plan.slots at
unfolding planned_turn
turn_is conf n p at plan there turns =
    ap (λ slots. is_turn_of (turn_here (on (here_in at) (slot_from at 0 slots))) p) (its_slots conf n plan there) ∙ turn_runs p at 0 plan.slots turns

-- a tick of a run from the begin of a frame on is in the partition's slots where the plan has it there
own_tick : GoesAsPlanned → (g : Machine) (p tick : ℕ) (plan : Plan) → BeginsFrame g plan → InTurn plan.slots → ((j : ℕ) → j < tick → IsCalmTick (run g j))
    → is_own_tick g p tick ≡ runs_in p plan.slots (tick % plan.frame)
own_tick goes g p tick plan begins turns calm =
    let planned = goes g tick begins.goes_on begins.in_frame begins.unasked calm in
    ap (λ o. is_turn_of o p) (planned.turn ∙ ap (λ n. planned_turn g.system.conf g.clock.plan ((n + tick) % frame_of g.system.conf g.clock.plan)) begins.first
    ∙ ap (λ n. planned_turn g.system.conf g.clock.plan (n % frame_of g.system.conf g.clock.plan)) (zero_first tick)
    ∙ ap (λ n. planned_turn g.system.conf g.clock.plan (tick % n)) (its_frame g.system.conf g.clock.plan plan begins.there))
    ∙ turn_is g.system.conf g.clock.plan p (tick % plan.frame) plan begins.there turns
  where
    zero_first : (n : ℕ) → 0 + n ≡ n
    zero_first n = omega arith

-- what the rules say of the plan
record IsSound (plan : Plan) : Type 0 where
  turns : InTurn plan.slots
  some : 0 < plan.frame

is_sound : (g : Machine) (plan : Plan) → BeginsFrame g plan → IsSound plan
is_sound g plan begins =
    let fits = plan_fits g.system.conf g.clock.plan begins.fits begins.in_frame.plan in
    record {
      turns = subst InTurn (its_slots g.system.conf g.clock.plan plan begins.there) fits.in_turn;
      some = subst (λ n. 0 < n) (its_frame g.system.conf g.clock.plan plan begins.there) fits.frame;
    }

-- in a window its ticks are those of a window of the frame
window_is : GoesAsPlanned → (g : Machine) (p : ℕ) (plan : Plan) (period window windows : ℕ) → BeginsFrame g plan → IsSound plan → windows * period ≡ plan.frame → 0 < windows
    → ((j : ℕ) → j + 1 < (window + 1) * period → IsCalmTick (run g j)) → own_ticks g p (window * period) period ≡ time_in p plan.slots (window % windows * period) period
unfolding time_in
window_is goes g p plan period window windows begins sound whole some calm =
    shifted (is_own_tick g p) (runs_in p plan.slots) (window * period) (window % windows * period) period each
  where
    early : (i j : ℕ) → j < period → i < window * period + j → i + 1 < (window + 1) * period
    early i j below before = omega (arith, add-mul window 1 period, before, below)

    each : (j : ℕ) → j < period → is_own_tick g p (window * period + j) ≡ runs_in p plan.slots (window % windows * period + j)
    each j below =
        own_tick goes g p (window * period + j) plan begins sound.turns (λ i before. calm i (early i j below before))
        ∙ ap (runs_in p plan.slots) (ap (λ n. (window * period + j) % n) (sym whole) ∙ in_frame_is window period windows j some below)

pub serves_needs : GoesAsPlanned → ServesNeeds
serves_needs goes g p plan need window begins met calm =
    subst (λ n. need.duration ≤ n) (sym (window_is goes g p plan need.period window (plan.frame / need.period) begins sound whole windows calm)) enough
  where
    sound : IsSound plan
    sound = is_sound g plan begins

    split : plan.frame / need.period * need.period + plan.frame % need.period ≡ plan.frame
    split = div-add-mod' plan.frame need.period

    whole : plan.frame / need.period * need.period ≡ plan.frame
    whole = omega (arith, split, met.whole)

    windows : 0 < plan.frame / need.period
    windows = has_windows need.period (plan.frame / need.period) plan.frame whole sound.some

    place : window % (plan.frame / need.period) < plan.frame / need.period
    place = mod_below window (plan.frame / need.period) windows

    ends : (window % (plan.frame / need.period) + 1) * need.period ≤ plan.frame
    ends = let e = window_ends (window % (plan.frame / need.period)) need.period (plan.frame / need.period) place in omega (arith, e, whole)

    enough : need.duration ≤ time_in p plan.slots (window % (plan.frame / need.period) * need.period) need.period
    enough = met.each (window % (plan.frame / need.period)) ends
