-- How many lines a tick of the whole machine prints, at most.
use Rattle.std.proofs.Common.{◌≡◌, ℕ, zero, suc, ◌≤◌, ◌+◌, ◌*◌, Bool, true, false, List, [], ◌∷◌, ◌++◌, length, map, Option, None, Some, refl, ap, ◌∙◌, arith, subst}
use Rattle.std.specs.Prelude.{slice_get, ◌==◌, if◌then◌else◌}
use Rattle.std.proofs.Math.Nat.{suc-mul}
use Rattle.std.proofs.lemmas.Bool.Decides.{nat_tests}
use Rattle.std.proofs.lemmas.List.{length-append}
use Rattle.xm_base.specs.declared.partition.Order.{Order}
use Rattle.machine_model.specs.Facts.{KeepsNumbers}
use Rattle.machine_laws.specs.Few.{PrintsFew, RunsPrintFew}
use Rattle.machine_model.specs.Lines.{lines, lines_of, lines_unless, local_lines, order_lines, plan_lines, step_lines}
use Rattle.machine_model.specs.Lists.{all_of}
use Rattle.machine_model.specs.Machine.{Happened, Machine, SlotTurn, copies, happened, happened_by, local, local_in, local_of, next_clock, obeyed_emissions, order_for, order_upon, sight_of_state, step, taken_by, tick_of, turn_of, worked_in}
use Rattle.machine_model.specs.Partition.{PartitionState, takes_turns}
use Rattle.machine_model.specs.Emission.{AllHalted, AllReset, Directed, NoEvent, WholeEvent, line_of, reach_of}
use Rattle.machine_model.specs.View.{view_of}
use Rattle.machine_model.specs.Whole.{event_lines, whole_lines}
use Rattle.machine_laws.proofs.FewLemmas.{as_many, ordered_few, emits_few}

-- what each element of a list adds: one at most, or nothing but for one element
each_one : {X Y : Type 0} (f : ℕ → X → List Y) (xs : List X) → ((p : ℕ) (x : X) → length (f p x) ≤ 1) → length (all_of f xs) ≤ length xs
each_one f [] few = omega arith
each_one f (x ∷ xs) few =
    let e = length-append (f 0 x) (all_of (λ k. f (suc k)) xs) in let a = few 0 x in let b = each_one (λ k. f (suc k)) xs (λ k y. few (suc k) y) in omega (arith, e, a, b)

all_empty : {X Y : Type 0} (f : ℕ → X → List Y) (xs : List X) → ((p : ℕ) (x : X) → f p x ≡ []) → all_of f xs ≡ []
all_empty f [] none = refl
all_empty f (x ∷ xs) none = ap (λ l. l ++ all_of (λ k. f (suc k)) xs) (none 0 x) ∙ all_empty (λ k. f (suc k)) xs (λ k y. none (suc k) y)

no_zero : (k : ℕ) → (0 == suc k) ≡ false
no_zero k = grind (arith, nat_tests)

both_later : (id k : ℕ) → (id == k) ≡ false → (suc id == suc k) ≡ false
both_later id k other = grind (arith, nat_tests)

no_first : (id : ℕ) → (suc id == 0) ≡ false
no_first id = grind (arith, nat_tests)

one_of : {X Y : Type 0} (f : ℕ → X → List Y) (xs : List X) (id : ℕ) → ((p : ℕ) (x : X) → length (f p x) ≤ 1) → ((p : ℕ) (x : X) → (id == p) ≡ false → f p x ≡ []) → length (all_of f xs) ≤ 1
one_of f [] id few none = omega arith
one_of f (x ∷ xs) zero few none =
    let e = length-append (f 0 x) (all_of (λ k. f (suc k)) xs) in let a = few 0 x in
    let b = ap length (all_empty (λ k. f (suc k)) xs (λ k y. none (suc k) y (no_zero k))) in omega (arith, e, a, b)
one_of f (x ∷ xs) (suc id) few none =
    let e = length-append (f 0 x) (all_of (λ k. f (suc k)) xs) in let a = ap length (none 0 x (no_first id)) in
    let b = one_of (λ k. f (suc k)) xs id (λ k y. few (suc k) y) (λ k y other. none (suc k) y (both_later id k other)) in omega (arith, e, a, b)

-- the lines of an order
told_few : (o : Option Order) (ps : PartitionState) → length (obeyed_emissions o ps) ≤ 1
told_few None ps = omega arith
told_few (Some an_order) ps = (ordered_few an_order ps).lines

order_one : (g : Machine) (h : Happened) (p : ℕ) (ps : PartitionState) → length (order_lines g h p ps) ≤ 1
unfolding order_lines
order_one g h p ps =
    let e = as_many g.ticks p (obeyed_emissions (order_upon h.act p) (worked_in (tick_of h p) ps)) in let f = told_few (order_upon h.act p) (worked_in (tick_of h p) ps) in omega (arith, e, f)

order_none : (g : Machine) (h : Happened) (p : ℕ) (ps : PartitionState) → order_upon h.act p ≡ None → order_lines g h p ps ≡ []
unfolding order_lines
order_none g h p ps none = ap (λ o. map (line_of g.ticks p) (obeyed_emissions o (worked_in (tick_of h p) ps))) none

orders_few : (g : Machine) (h : Happened) (o : Option Directed) → (reach_of h.act).directed ≡ o → length (all_of (order_lines g h) g.parts) ≤ 1
orders_few g h None is = let e = ap length (all_empty (order_lines g h) g.parts (λ p ps. order_none g h p ps (ap (λ d. order_for d p) is))) in omega (arith, e)
orders_few g h (Some directed) is =
    one_of (order_lines g h) g.parts directed.id (order_one g h)
    (λ p ps other. order_none g h p ps (ap (λ d. order_for d p) is ∙ ap (λ b. if b then Some directed.order else None) other))

-- the lines of an event, and of a plan
event_one : (n : ℕ) (event : WholeEvent) (p : ℕ) → length (event_lines n event p) ≤ 1
event_one n NoEvent p = omega arith
event_one n (AllReset mode) p = omega arith
event_one n AllHalted p = omega arith

whole_one : (n : ℕ) (event : WholeEvent) → length (whole_lines n event) ≤ 1
whole_one n NoEvent = omega arith
whole_one n (AllReset mode) = omega arith
whole_one n AllHalted = omega arith

plan_one : (n old new : ℕ) → length (plan_lines n old new) ≤ 1
plan_one n old new = grind (arith)

-- the local tick's
local_of_few : (g : Machine) (p : ℕ) (first : Bool) (ps : PartitionState) → length (local_of g p first ps).lines ≤ 3
unfolding local_of
local_of_few g p first ps = (emits_few (view_of g.system p) ps (copies g p) g.ticks g.time first (sight_of_state g p first ps)).lines

taken_few : (g : Machine) (p : ℕ) (first : Bool) (o : Option PartitionState) → length (local_lines (taken_by g p first o)) ≤ 3
taken_few g p first None = omega arith
taken_few g p first (Some ps) = by (takes_turns ps.state)
  where
    by : (b : Bool) → length (local_lines (if b then Some (local_of g p first ps) else None)) ≤ 3
    by true = local_of_few g p first ps
    by false = omega arith

local_few : (g : Machine) (o : Option SlotTurn) → length (local_lines (local_in g o)) ≤ 3
local_few g None = omega arith
local_few g (Some turn) = taken_few g turn.part turn.first (slice_get g.parts turn.part)

happened_few : (g : Machine) → length (local_lines (happened g).local) ≤ 3
unfolding happened happened_by local
happened_few g = local_few g (turn_of g)

-- five lists, one after the other
five : {X : Type 0} (a b c d e : List X) (n : ℕ) → length a ≤ 3 → length b ≤ 1 → length c ≤ 1 → length d ≤ n → length e ≤ 1 → length (a ++ b ++ c ++ d ++ e) ≤ n + 6
five a b c d e n first second third fourth fifth =
    let one = length-append a b in let two = length-append (a ++ b) c in let three = length-append (a ++ b ++ c) d in let four = length-append (a ++ b ++ c ++ d) e in
    omega (arith, one, two, three, four, first, second, third, fourth, fifth)

lines_few : (g : Machine) (h : Happened) → length (local_lines h.local) ≤ 3 → length (lines_of g h) ≤ length g.parts + 6
unfolding lines_of
lines_few g h local_is =
    five (local_lines h.local) (all_of (order_lines g h) g.parts) (whole_lines g.ticks h.event) (all_of (λ p ps. event_lines g.ticks h.event p) g.parts)
    (plan_lines g.ticks g.clock.plan (next_clock g h).plan) (length g.parts)
    local_is (orders_few g h (reach_of h.act).directed refl) (whole_one g.ticks h.event)
    (each_one (λ p ps. event_lines g.ticks h.event p) g.parts (λ p ps. event_one g.ticks h.event p)) (plan_one g.ticks g.clock.plan (next_clock g h).plan)

pub prints_few : PrintsFew
unfolding step_lines
prints_few g = by g.halted
  where
    by : (b : Bool) → length (lines_unless b g) ≤ length g.parts + 6
    by true = omega arith
    by false = lines_few g (happened g) (happened_few g)

-- this many ticks
scaled : (count n a b : ℕ) → (a ≤ n) → (b ≤ count * n) → a + b ≤ suc count * n
scaled count n a b first second = let e = suc-mul count n in omega (arith, e, first, second)

pub runs_print_few : KeepsNumbers → RunsPrintFew
runs_print_few numbers g zero = omega arith
runs_print_few numbers g (suc count) =
    let e = length-append (step_lines g) (lines (step g) count) in
    let rest = subst (λ n. length (lines (step g) count) ≤ count * (n + 6)) (numbers g).parts (runs_print_few numbers (step g) count) in
    let all = scaled count (length g.parts + 6) (length (step_lines g)) (length (lines (step g) count)) (prints_few g) rest in
    omega (arith, e, all)
