-- The lines of a tick are determined by those of each partition, of the hypervisor and of a new plan.
use Rattle.std.proofs.Common.{◌≡◌, ℕ, zero, suc, Bool, true, false, List, [], ◌∷◌, ◌++◌, length, map, Option, None, Some, refl, sym, ap, ◌∙◌, arith, subst}
use Rattle.std.specs.Prelude.{◌==◌, if◌then◌else◌, slice_get}
use Rattle.std.proofs.lemmas.Bool.{eqb-true}
use Rattle.std.proofs.lemmas.Bool.Decides.{nat_tests}
use Rattle.std.proofs.lemmas.List.{append_cancel_right, append-nil}
use Rattle.std.proofs.lemmas.Option.{same_Some}
use Rattle.xm_base.specs.declared.partition.Mode.TheVariants.{Cold, Warm}
use Rattle.xm_base.specs.declared.partition.Order.{Order}
use Rattle.xm_base.specs.Options.{on}
use Rattle.xm_report.specs.Report.{ReportLine, MovedLine, WholeLine}
use Rattle.xm_report.specs.declared.line.Move.TheVariants as move
use Rattle.machine_model.specs.Alone.{alone_lines_of, alone_local, alone_step_lines}
use Rattle.machine_model.specs.Cue.{cue, cue_in}
use Rattle.machine_model.specs.Emission as emission
use Rattle.machine_model.specs.Emission.{Act, AllHalted, AllReset, NoEvent, WholeEvent, line_of}
use Rattle.machine_model.specs.Laws.{NeverUponItself, OneTick, part}
use Rattle.machine_model.specs.Lines.{lines, lines_of, lines_unless, local_lines, order_lines, own, step_lines}
use Rattle.machine_model.specs.Lists.{all_of}
use Rattle.machine_model.specs.LocalTick.{LocalTick}
use Rattle.machine_model.specs.Machine.{Machine, SlotTurn, act_of, copies, happened, happened_by, if_its_turn, is_turn_of, local, local_in, local_of, obeyed_emissions, order_upon, sight_of_state, step, taken_by, tick_of, turn_of, worked_in}
use Rattle.machine_model.specs.Partition.{PartitionState, takes_turns}
use Rattle.machine_model.specs.View.{view_of}
use Rattle.machine_model.specs.Whole.{event_lines, whole_lines}
use Rattle.machine_model.specs.lemmas.AloneLemmas.{alone_local_is}
use Rattle.work_laws.proofs.ChangeRunLemmas.{no_pair}
use Rattle.work_laws.specs.Order.{OrderShowsNothing, PrintTheSame, ReportShowsNothing, hypervisor_lines, slot_owner}

-- the lines of an event, by those of the hypervisor
moved_lines : List ReportLine → ℕ → List ReportLine
moved_lines [] p = []
moved_lines (WholeLine n move.Halt ∷ rest) p = []
moved_lines (WholeLine n move.Cold ∷ rest) p = MovedLine n p move.Cold ∷ []
moved_lines (WholeLine n move.Warm ∷ rest) p = MovedLine n p move.Warm ∷ []
moved_lines (other ∷ rest) p = []

event_moved : (n : ℕ) (e : WholeEvent) (p : ℕ) → event_lines n e p ≡ moved_lines (whole_lines n e) p
unfolding moved_lines
event_moved n NoEvent p = refl
event_moved n (AllReset Cold) p = refl
event_moved n (AllReset Warm) p = refl
event_moved n AllHalted p = refl

event_same : (one other : Machine) (p : ℕ) → hypervisor_lines one ≡ hypervisor_lines other → event_lines one.ticks (happened one).event p ≡ event_lines other.ticks (happened other).event p
event_same one other p same =
    event_moved one.ticks (happened one).event p ∙ ap (λ all. moved_lines all p) same ∙ sym (event_moved other.ticks (happened other).event p)

-- what each element adds, where elements of the same numbers add the same
all_same : {X Y : Type 0} (f g : ℕ → X → List Y) (xs ys : List X) → length xs ≡ length ys
    → ((k : ℕ) (x y : X) → slice_get xs k ≡ Some x → slice_get ys k ≡ Some y → f k x ≡ g k y) → all_of f xs ≡ all_of g ys
all_same f g [] [] counted same = refl
all_same f g [] (y ∷ ys) counted same = absurd (omega (arith, counted))
all_same f g (x ∷ xs) [] counted same = absurd (omega (arith, counted))
all_same f g (x ∷ xs) (y ∷ ys) counted same =
    ap (λ front. front ++ all_of (λ k. f (suc k)) xs) (same 0 x y refl refl)
    ∙ ap (λ rest. g 0 y ++ rest) (all_same (λ k. f (suc k)) (λ k. g (suc k)) xs ys (omega (arith, counted)) (λ k. same (suc k)))

-- a partition's own lines of a tick: those of its work, of an order that it obeyed, and of an event
step_lines_are : (g : Machine) (p : ℕ) (ps : PartitionState)
    → alone_step_lines (view_of g.system p) (part g p ps) (cue g p) ≡ alone_lines_of (view_of g.system p) (part g p ps) (cue g p) (alone_local (view_of g.system p) (part g p ps) (cue g p))
unfolding alone_step_lines
step_lines_are g p ps = refl

tick_lines_are : (g : Machine) (p : ℕ) (ps : PartitionState) (t : Option LocalTick)
    → alone_lines_of (view_of g.system p) (part g p ps) (cue g p) t
    ≡ local_lines t ++ map (line_of g.ticks p) (obeyed_emissions (order_upon (happened g).act p) (worked_in t ps)) ++ event_lines g.ticks (happened g).event p
unfolding alone_lines_of view_of part cue cue_in
tick_lines_are g p ps t = refl

order_lines_are : (g : Machine) (p : ℕ) (ps : PartitionState)
    → map (line_of g.ticks p) (obeyed_emissions (order_upon (happened g).act p) (worked_in (tick_of (happened g) p) ps)) ≡ order_lines g (happened g) p ps
unfolding order_lines
order_lines_are g p ps = refl

own_lines : OneTick → (g : Machine) (p : ℕ) (ps : PartitionState) → g.halted ≡ false → slice_get g.parts p ≡ Some ps
    → own p (step_lines g) ≡ local_lines (tick_of (happened g) p) ++ order_lines g (happened g) p ps ++ event_lines g.ticks (happened g).event p
own_lines tick g p ps runs there =
    (tick g p ps runs there).lines ∙ step_lines_are g p ps
    ∙ ap (alone_lines_of (view_of g.system p) (part g p ps) (cue g p)) (alone_local_is g p ps there) ∙ tick_lines_are g p ps (tick_of (happened g) p)
    ∙ ap (λ orders. local_lines (tick_of (happened g) p) ++ orders ++ event_lines g.ticks (happened g).event p) (order_lines_are g p ps)

-- a partition whose slot it is gets no order
act_gives : (act : Act) (p : ℕ) → ((order : Order) → act ≡ emission.Upon p order → ⊥) → order_upon act p ≡ None
act_gives emission.Nothing p never = refl
act_gives (emission.Trades traffic) p never = refl
act_gives (emission.Upon id order) p never = by (id == p) refl
  where
    by : (b : Bool) → (id == p) ≡ b → (if b then Some order else None) ≡ None
    by true its = absurd (never order (ap (λ (n : ℕ). emission.Upon n order) (eqb-true id p its)))
    by false other = refl
act_gives (emission.Plans change) p never = refl
act_gives (emission.UponAll event) p never = refl

taken_gives : NeverUponItself → (g : Machine) (p : ℕ) (first : Bool) (o : Option PartitionState) → order_upon (act_of (taken_by g p first o)) p ≡ None
unfolding local_of view_of
taken_gives never g p first None = refl
taken_gives never g p first (Some ps) = by (takes_turns ps.state)
  where
    by : (b : Bool) → order_upon (act_of (if b then Some (local_of g p first ps) else None)) p ≡ None
    by true = act_gives (local_of g p first ps).act p (λ order is. never (view_of g.system p) ps (copies g p) g.ticks g.time first (sight_of_state g p first ps) order is)
    by false = refl

turn_gives : NeverUponItself → (g : Machine) (p : ℕ) (o : Option SlotTurn) → is_turn_of o p ≡ true → order_upon (act_of (local_in g o)) p ≡ None
turn_gives never g p None is = absurd cc
turn_gives never g p (Some turn) is =
    subst (λ (q : ℕ). order_upon (act_of (taken_by g turn.part turn.first (slice_get g.parts turn.part))) q ≡ None) (eqb-true turn.part p is)
    (taken_gives never g turn.part turn.first (slice_get g.parts turn.part))

gives_none : NeverUponItself → (g : Machine) (p : ℕ) (ps : PartitionState) → is_turn_of (turn_of g) p ≡ true → order_lines g (happened g) p ps ≡ []
unfolding order_lines happened happened_by local
gives_none never g p ps is =
    ap (λ (o : Option Order). map (line_of g.ticks p) (obeyed_emissions o (worked_in (tick_of (happened g) p) ps))) (turn_gives never g p (turn_of g) is)

-- the own lines of the partition whose slot it is, and of another one
own_in_slot : OneTick → NeverUponItself → (g : Machine) (p : ℕ) (ps : PartitionState) → g.halted ≡ false → slice_get g.parts p ≡ Some ps → is_turn_of (turn_of g) p ≡ true
    → own p (step_lines g) ≡ local_lines (happened g).local ++ event_lines g.ticks (happened g).event p
unfolding tick_of happened happened_by
own_in_slot tick never g p ps runs there is =
    own_lines tick g p ps runs there
    ∙ ap (λ b. local_lines (if_its_turn b (happened g).local) ++ order_lines g (happened g) p ps ++ event_lines g.ticks (happened g).event p) is
    ∙ ap (λ orders. local_lines (happened g).local ++ orders ++ event_lines g.ticks (happened g).event p) (gives_none never g p ps is)
    ∙ ap (λ front. front ++ event_lines g.ticks (happened g).event p) (append-nil (local_lines (happened g).local))

own_elsewhere : OneTick → (g : Machine) (p : ℕ) (ps : PartitionState) → g.halted ≡ false → slice_get g.parts p ≡ Some ps → is_turn_of (turn_of g) p ≡ false
    → own p (step_lines g) ≡ order_lines g (happened g) p ps ++ event_lines g.ticks (happened g).event p
unfolding tick_of happened happened_by
own_elsewhere tick g p ps runs there is =
    own_lines tick g p ps runs there
    ∙ ap (λ b. local_lines (if_its_turn b (happened g).local) ++ order_lines g (happened g) p ps ++ event_lines g.ticks (happened g).event p) is

-- whose slot it is
owned : Option ℕ → ℕ → Bool
owned None p = false
owned (Some q) p = q == p

turn_owned : (o : Option SlotTurn) (p : ℕ) → is_turn_of o p ≡ owned (on (λ turn. turn.part) o) p
unfolding owned
turn_owned None p = refl
turn_owned (Some turn) p = refl

turn_same : (one other : Machine) (p : ℕ) → slot_owner one ≡ slot_owner other → is_turn_of (turn_of one) p ≡ is_turn_of (turn_of other) p
turn_same one other p same = turn_owned (turn_of one) p ∙ ap (λ o. owned o p) same ∙ sym (turn_owned (turn_of other) p)

-- lines of orders
orders_same : OneTick → NeverUponItself → (one other : Machine) (p : ℕ) (x y : PartitionState) → one.halted ≡ false → PrintTheSame one other → slice_get one.parts p ≡ Some x → slice_get other.parts p ≡ Some y
    → order_lines one (happened one) p x ≡ order_lines other (happened other) p y
orders_same tick never one other p x y runs alike there also = by (is_turn_of (turn_of one) p) refl
  where
    by : (b : Bool) → is_turn_of (turn_of one) p ≡ b → order_lines one (happened one) p x ≡ order_lines other (happened other) p y
    by true is = gives_none never one p x is ∙ sym (gives_none never other p y (sym (turn_same one other p alike.slot) ∙ is))
    by false is =
        append_cancel_right _ _ (event_lines one.ticks (happened one).event p)
        (sym (own_elsewhere tick one p x runs there is) ∙ alike.each p
        ∙ own_elsewhere tick other p y (sym alike.halted ∙ runs) also (sym (turn_same one other p alike.slot) ∙ is)
        ∙ ap (λ back. order_lines other (happened other) p y ++ back) (sym (event_same one other p alike.hypervisor)))

-- lines of work
work_none : (g : Machine) (o : Option SlotTurn) → on (λ turn. turn.part) o ≡ None → local_in g o ≡ None
work_none g None is = refl
work_none g (Some turn) is = absurd cc

work_gone : (g : Machine) (o : Option SlotTurn) (p : ℕ) → on (λ turn. turn.part) o ≡ Some p → slice_get g.parts p ≡ None → local_in g o ≡ None
work_gone g None p is gone = absurd cc
work_gone g (Some turn) p is gone =
    ap (taken_by g turn.part turn.first) (subst (λ (q : ℕ). slice_get g.parts q ≡ None) (sym (same_Some turn.part p is)) gone)

has_turn : (o : Option SlotTurn) (p : ℕ) → on (λ turn. turn.part) o ≡ Some p → is_turn_of o p ≡ true
has_turn None p is = absurd cc
has_turn (Some turn) p is = let same : turn.part ≡ p = same_Some turn.part p is in same_is turn.part p same
  where
    same_is : (a b : ℕ) → a ≡ b → (a == b) ≡ true
    same_is a b same = grind (arith, nat_tests)

work_same : OneTick → NeverUponItself → (one other : Machine) → one.halted ≡ false → PrintTheSame one other → local_lines (happened one).local ≡ local_lines (happened other).local
unfolding happened happened_by local
work_same tick never one other runs alike = by (slot_owner one) refl
  where
    at : (p : ℕ) → slot_owner one ≡ Some p → (x y : Option PartitionState) → slice_get one.parts p ≡ x → slice_get other.parts p ≡ y → local_lines (local one) ≡ local_lines (local other)
    at p is None None gone none =
        ap local_lines (work_gone one (turn_of one) p is gone ∙ sym (work_gone other (turn_of other) p (sym alike.slot ∙ is) none))
    at p is None (Some y) gone there = absurd (no_pair other.parts one.parts p y (sym alike.parts) there gone)
    at p is (Some x) None there gone = absurd (no_pair one.parts other.parts p x alike.parts there gone)
    at p is (Some x) (Some y) there also =
        append_cancel_right _ _ (event_lines one.ticks (happened one).event p)
        (sym (own_in_slot tick never one p x runs there (has_turn (turn_of one) p is)) ∙ alike.each p
        ∙ own_in_slot tick never other p y (sym alike.halted ∙ runs) also (has_turn (turn_of other) p (sym alike.slot ∙ is))
        ∙ ap (λ back. local_lines (happened other).local ++ back) (sym (event_same one other p alike.hypervisor)))

    by : (o : Option ℕ) → slot_owner one ≡ o → local_lines (local one) ≡ local_lines (local other)
    by None is = ap local_lines (work_none one (turn_of one) is ∙ sym (work_none other (turn_of other) (sym alike.slot ∙ is)))
    by (Some p) is = at p is (slice_get one.parts p) (slice_get other.parts p) refl refl

-- all lines
five : (a b c d e f g h i j : List ReportLine) → a ≡ f → b ≡ g → c ≡ h → d ≡ i → e ≡ j → a ++ b ++ c ++ d ++ e ≡ f ++ g ++ h ++ i ++ j
five a b c d e f g h i j first second third fourth fifth =
    ap (λ x. x ++ b ++ c ++ d ++ e) first ∙ ap (λ x. f ++ x ++ c ++ d ++ e) second ∙ ap (λ x. f ++ g ++ x ++ d ++ e) third
    ∙ ap (λ x. f ++ g ++ h ++ x ++ e) fourth ∙ ap (λ x. f ++ g ++ h ++ i ++ x) fifth

all_lines : OneTick → NeverUponItself → (one other : Machine) → one.halted ≡ false → PrintTheSame one other → lines_of one (happened one) ≡ lines_of other (happened other)
unfolding lines_of
all_lines tick never one other runs alike =
    five _ _ _ _ _ _ _ _ _ _ (work_same tick never one other runs alike)
    (all_same (order_lines one (happened one)) (order_lines other (happened other)) one.parts other.parts alike.parts
    (λ p x y there also. orders_same tick never one other p x y runs alike there also))
    alike.hypervisor
    (all_same (λ p ps. event_lines one.ticks (happened one).event p) (λ p ps. event_lines other.ticks (happened other).event p) one.parts other.parts alike.parts
    (λ p x y there also. event_same one other p alike.hypervisor))
    alike.plan

pub order_shows_nothing : OneTick → NeverUponItself → OrderShowsNothing
unfolding step_lines
order_shows_nothing tick never one other alike = by one.halted refl
  where
    by : (b : Bool) → one.halted ≡ b → lines_unless one.halted one ≡ lines_unless other.halted other
    by true is = ap (λ h. lines_unless h one) is ∙ sym (ap (λ h. lines_unless h other) (sym alike.halted ∙ is))
    by false is =
        ap (λ h. lines_unless h one) is ∙ all_lines tick never one other is alike ∙ sym (ap (λ h. lines_unless h other) (sym alike.halted ∙ is))

pub report_shows_nothing : OrderShowsNothing → ReportShowsNothing
report_shows_nothing law one other zero same = refl
report_shows_nothing law one other (suc count) same =
    ap (λ front. front ++ lines (step one) count) (law one other (same 0 (omega arith)))
    ∙ ap (λ rest. step_lines other ++ rest) (report_shows_nothing law (step one) (step other) count (λ k below. same (suc k) (omega (arith, below))))
