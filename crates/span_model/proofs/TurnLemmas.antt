-- Whose slot a tick is in, and that a slot which has begun does not begin again.
use Rattle.std.proofs.Common.{◌≡◌, ℕ, suc, ◌+◌, ◌-◌, ◌<◌, ◌≤◌, Bool, true, false, cond, List, [], ◌∷◌, Option, None, Some, refl, sym, ap, arith}
use Rattle.std.specs.Prelude.{◌==◌, if◌then◌else◌}
use Rattle.std.proofs.lemmas.Bool.Decides.{nat_tests}
use Rattle.std.proofs.lemmas.Option.{same_Some}
use Rattle.cyclic_plans.specs.PlanClock.{CyclicClock, ended, ends_frame, frame_from, here, moment, next_plan, slot_at}
use Rattle.cyclic_plans.specs.Slots.{covers, frame_of, here_in, slot_from, slots_of}
use Rattle.xm_base.specs.Options.{on}
use Rattle.xm_conf.specs.Configuration.{Conf}
use Rattle.xm_conf.specs.declared.plan.Slot.{Slot}
use Rattle.machine_model.specs.Machine.{Machine, SlotTurn, turn_here, turn_of}

-- the clock goes on with its frame, unless this is the last tick of the frame
pub clock_stays : (conf : Conf) (clock : CyclicClock) (time : ℕ) → clock.frame_start ≤ time → time + 1 < clock.frame_start + frame_of conf clock.plan → ended conf clock time ≡ clock
unfolding ended
clock_stays conf clock time begun within = ap (λ b. if b then frame_from (next_plan clock) (time + 1) else clock) (goes_on (ends_frame conf clock time) refl)
  where
    goes_on : (b : Bool) → ends_frame conf clock time ≡ b → b ≡ false
    goes_on b is = grind (arith, nat_tests)

-- a slot that runs has begun
begun_slot : (now number : ℕ) (slots : List Slot) (found : ℕ × Slot) → slot_from now number slots ≡ Some found → found.1.start ≤ now
begun_slot now number [] found is = absurd cc
begun_slot now number (slot ∷ rest) found is = at (covers now slot) refl is (begun_slot now (number + 1) rest found)
  where
    at : (b : Bool) → covers now slot ≡ b → cond b (Some (number, slot)) (slot_from now (number + 1) rest) ≡ Some found
        → (slot_from now (number + 1) rest ≡ Some found → found.1.start ≤ now) → found.1.start ≤ now
    at true runs same later =
        let begun : slot.start ≤ now = grind (arith, nat_tests) in
        let its : (number, slot) ≡ found = same_Some (number, slot) found same in
        rw (sym its) begun
    at false ends same later = later same

-- the turn of a slot
abbrev pub turn_by : ℕ → Option (ℕ × Slot) → Option SlotTurn
turn_by now found = turn_here (on (here_in now) found)

-- a turn is that of the slot that runs
pub turn_is : (g : Machine) (found : Option (ℕ × Slot)) → slot_at g.system.conf g.clock g.time ≡ found → turn_of g ≡ turn_by (moment g.clock g.time) found
unfolding turn_of here
turn_is g found is = ap (turn_by (moment g.clock g.time)) is

-- a slot has begun
pub begun_at : (conf : Conf) (clock : CyclicClock) (time : ℕ) (found : ℕ × Slot) → slot_at conf clock time ≡ Some found → found.1.start ≤ moment clock time
unfolding slot_at
begun_at conf clock time found is = begun_slot (moment clock time) 0 (slots_of conf clock.plan) found is

-- a slot that has begun does not begin later
pub begins_not : (start frame now k : ℕ) → start ≤ now - frame → frame ≤ now → (start == now + suc k - frame) ≡ false
begins_not start frame now k begun within = at (start == now + suc k - frame) refl
  where
    at : (b : Bool) → (start == now + suc k - frame) ≡ b → b ≡ false
    at b is = grind (arith, nat_tests)

-- the partition of a turn
abbrev pub part_in : Option SlotTurn → ℕ
part_in None = 0
part_in (Some turn) = turn.part
