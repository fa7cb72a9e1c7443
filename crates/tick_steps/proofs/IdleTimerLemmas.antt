-- A partition whose hardware timer is not armed rests as it is.
use Rattle.std.proofs.Common.{◌≡◌, ℕ, zero, suc, arith, length, Bool, true, false, ◌||◌, List, [], ◌∷◌, refl, sym, ap, ◌∙◌, if◌then◌else◌}
use Rattle.std.specs.Prelude.{Option, None, Some, is_some, slice_get}
use Rattle.virt_clocks.specs.Clocks.{is_due, looked_at}
use Rattle.virt_clocks.specs.declared.timer.Timer.{Timer}
use Rattle.system_state.specs.State.{NoneDue, SysState, any_timed, is_timed, with_machine}
use Rattle.tick_steps.specs.lemmas.PartLemmas.{part_put_back}
use Rattle.machine_model.specs.Lists.{each, is_number}
use Rattle.machine_model.specs.Partition.{PartitionState, hardware_looked_at, hardware_timer, is_halted, raised_if, rested}
use Rattle.span_model.specs.Passes.{part_at, rest_but, with_part}

-- a timer that is not there
is_absent : (timer : Option Timer) → is_some timer ≡ false → timer ≡ None
is_absent None absent = refl
is_absent (Some timer) absent = cc

-- neither of two tests holds
or_false_left : (a b : Bool) → (a || b) ≡ false → a ≡ false
or_false_left true b none = none
or_false_left false b none = refl

or_false_right : (a b : Bool) → (a || b) ≡ false → b ≡ false
or_false_right true b none = cc
or_false_right false b none = none

-- a look at no timer
look_at_none : (time : ℕ) (ps : PartitionState) → ps.clocks.hardware_timer ≡ None → hardware_looked_at time ps ≡ ps
unfolding hardware_looked_at looked_at
look_at_none time ps none =
    ap (λ (timer : Option Timer). record ps { traps = raised_if (is_due time timer) hardware_timer ps.traps; clocks = record ps.clocks { hardware_timer = looked_at time timer } }) none
    ∙ ap (λ (timer : Option Timer). record ps { clocks = record ps.clocks { hardware_timer = timer } }) (sym none)

-- the rest of a partition without one
rested_unarmed : (time : ℕ) (ps : PartitionState) → ps.clocks.hardware_timer ≡ None → rested time ps ≡ ps
unfolding rested
rested_unarmed time ps none = ap (λ (looked : PartitionState). if is_halted ps.state then ps else looked) (look_at_none time ps none) ∙ at (is_halted ps.state)
  where
    at : (halted : Bool) → (if halted then ps else ps) ≡ ps
    at true = refl
    at false = refl

-- and of it among all
pub rests_unarmed : (p time : ℕ) (sys : SysState) → (part_at p sys.machine).clocks.hardware_timer ≡ None → sys ≡ with_machine (with_part p (rested time (part_at p sys.machine)) sys.machine) sys
rests_unarmed p time sys none =
    sym (part_put_back p sys)
    ∙ ap (λ (ps : PartitionState). with_machine (with_part p ps sys.machine) sys) (sym (rested_unarmed time (part_at p sys.machine) none))

-- one of a pass
rested_in : (working : Option ℕ) (q time : ℕ) (ps : PartitionState) → is_timed ps.clocks ≡ false → (if is_number working q then ps else rested time ps) ≡ ps
rested_in working q time ps unarmed = at (is_number working q)
  where
    at : (other : Bool) → (if other then ps else rested time ps) ≡ ps
    at true = refl
    at false = rested_unarmed time ps (is_absent ps.clocks.hardware_timer unarmed)

-- a pass over partitions without one
each_unarmed : (f : ℕ → PartitionState → PartitionState) (parts : List PartitionState) → ((q : ℕ) (ps : PartitionState) → is_timed ps.clocks ≡ false → f q ps ≡ ps) → any_timed parts ≡ false
    → each f parts ≡ parts
each_unarmed f [] same none = refl
each_unarmed f (ps ∷ parts) same none =
    ap (λ (first : PartitionState). first ∷ each (λ k. f (suc k)) parts) (same 0 ps (or_false_left (is_timed ps.clocks) (any_timed parts) none))
    ∙ ap (λ (others : List PartitionState). ps ∷ others) (each_unarmed (λ k. f (suc k)) parts (λ q. same (suc q)) (or_false_right (is_timed ps.clocks) (any_timed parts) none))

-- the rest of all where none has one
pub all_unarmed : (working : Option ℕ) (time : ℕ) (sys : SysState) → any_timed sys.machine.parts ≡ false → sys ≡ with_machine (rest_but working time sys.machine) sys
all_unarmed working time sys none =
    ap (λ (parts : List PartitionState). with_machine (record sys.machine { parts = parts }) sys)
    (sym (each_unarmed (λ q ps. if is_number working q then ps else rested time ps) sys.machine.parts (λ q ps. rested_in working q time ps) none))

-- a timer that is not due stays as it is
stays_undue : (time : ℕ) (timer : Option Timer) → is_due time timer ≡ false → looked_at time timer ≡ timer
unfolding looked_at
stays_undue time None undue = refl
stays_undue time (Some timer) undue = rw undue refl

-- so does a partition whose timer is looked at then
look_at_undue : (time : ℕ) (ps : PartitionState) → is_due time ps.clocks.hardware_timer ≡ false → hardware_looked_at time ps ≡ ps
unfolding hardware_looked_at
look_at_undue time ps undue =
    ap (λ (due : Bool). record ps { traps = raised_if due hardware_timer ps.traps; clocks = record ps.clocks { hardware_timer = looked_at time ps.clocks.hardware_timer } }) undue
    ∙ ap (λ (timer : Option Timer). record ps { clocks = record ps.clocks { hardware_timer = timer } }) (stays_undue time ps.clocks.hardware_timer undue)

-- and one that rests
rested_undue : (time : ℕ) (ps : PartitionState) → is_due time ps.clocks.hardware_timer ≡ false → rested time ps ≡ ps
unfolding rested
rested_undue time ps undue = ap (λ (looked : PartitionState). if is_halted ps.state then ps else looked) (look_at_undue time ps undue) ∙ at (is_halted ps.state)
  where
    at : (halted : Bool) → (if halted then ps else ps) ≡ ps
    at true = refl
    at false = refl

-- one of a pass
undue_in : (working : Option ℕ) (q time : ℕ) (ps : PartitionState) → (is_number working q ≡ false → is_due time ps.clocks.hardware_timer ≡ false) → (if is_number working q then ps else rested time ps) ≡ ps
undue_in working q time ps undue = at (is_number working q) refl
  where
    at : (b : Bool) → is_number working q ≡ b → (if b then ps else rested time ps) ≡ ps
    at true is = refl
    at false other = rested_undue time ps (undue other)

-- a pass that leaves each partition as it is
each_same : (f : ℕ → PartitionState → PartitionState) (parts : List PartitionState) → ((q : ℕ) (ps : PartitionState) → slice_get parts q ≡ Some ps → f q ps ≡ ps) → each f parts ≡ parts
each_same f [] same = refl
each_same f (ps ∷ parts) same =
    ap (λ (first : PartitionState). first ∷ each (λ k. f (suc k)) parts) (same zero ps refl)
    ∙ ap (λ (others : List PartitionState). ps ∷ others) (each_same (λ k. f (suc k)) parts (λ q. same (suc q)))

-- the rest of all where no timer is due but that of the one that works
pub all_undue : (working : Option ℕ) (time : ℕ) (sys : SysState) → NoneDue working time sys.machine.parts → sys ≡ with_machine (rest_but working time sys.machine) sys
all_undue working time sys none =
    ap (λ (parts : List PartitionState). with_machine (record sys.machine { parts = parts }) sys)
    (sym (each_same (λ q ps. if is_number working q then ps else rested time ps) sys.machine.parts (λ q ps is. undue_in working q time ps (none q ps is))))

-- the rest of all where there is no other
each_alone : (time : ℕ) (parts : List PartitionState) → length parts ≡ 1 → each (λ q ps. if is_number (Some 0) q then ps else rested time ps) parts ≡ parts
each_alone time [] one = absurd (omega (arith, one))
each_alone time (ps ∷ []) one = refl
each_alone time (ps ∷ (other ∷ others)) one = absurd (omega (arith, one))

pub rests_alone : (working : Option ℕ) (time : ℕ) (sys : SysState) → length sys.machine.parts ≡ 1 → working ≡ Some 0 → sys ≡ with_machine (rest_but working time sys.machine) sys
rests_alone working time sys one is =
    ap (λ (parts : List PartitionState). with_machine (record sys.machine { parts = parts }) sys) (sym (each_alone time sys.machine.parts one))
    ∙ ap (λ (w : Option ℕ). with_machine (rest_but w time sys.machine) sys) (sym is)
