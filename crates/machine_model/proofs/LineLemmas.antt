-- The lines and the console bytes of one tick, for one partition.
use Rattle.std.proofs.Common.{◌≡◌, ℕ, zero, suc, Bool, true, false, List, [], ◌∷◌, ◌++◌, map, Option, None, Some, refl, sym, ap, ◌∙◌, arith}
use Rattle.std.specs.Prelude.{slice_get, ◌==◌, ◌≢◌, if◌then◌else◌}
use Rattle.std.specs.List.{filter}
use Rattle.std.proofs.lemmas.List.{append-nil}
use Rattle.std.proofs.lemmas.Option.{same_Some}
use Rattle.std.proofs.lemmas.Bool.Decides.{nat_tests}
use Rattle.xm_report.specs.Report.{PlanLine, ReportLine}
use Rattle.machine_model.specs.Alone.{alone_lines_of, alone_step_lines, alone_step_said}
use Rattle.machine_model.specs.Cue.{cue, cue_in}
use Rattle.machine_model.specs.Laws.{part}
use Rattle.machine_model.specs.Lines.{lines_of, lines_unless, local_lines, local_said, order_lines, own, plan_lines, said_unless, step_lines, step_said, tag_of}
use Rattle.machine_model.specs.Lists.{all_of, is_number}
use Rattle.machine_model.specs.LocalTick.{LocalTick, local_tick, worked}
use Rattle.machine_model.specs.Machine.{Happened, Machine, SlotTurn, copies, happened, happened_by, if_its_turn, is_turn_of, local, local_in, local_of, next_clock, obeyed_emissions, order_upon, sight_of_state, taken_by, tick_of, turn_of, worked_in}
use Rattle.machine_model.specs.Partition.{PartitionState, takes_turns}
use Rattle.machine_model.specs.Emission as emission
use Rattle.machine_model.specs.Emission.{Emission, line_of}
use Rattle.machine_model.specs.View.{view_of}
use Rattle.machine_model.specs.Whole.{AllHalted, AllReset, NoEvent, WholeEvent, event_lines, whole_lines}
use Rattle.machine_model.specs.lemmas.ListLemmas.{filter_append}
use Rattle.machine_model.specs.lemmas.AloneLemmas.{alone_local_is}

-- a line of what a partition emitted has its tag
pub line_tag : (n p : ℕ) (t : Emission) → tag_of (line_of n p t) ≡ Some p
line_tag n p (emission.Console bytes) = refl
line_tag n p (emission.Health event word action) = refl
line_tag n p (emission.Trace bits load) = refl
line_tag n p (emission.Moved to) = refl

-- the lines of one partition that has the tag, or has not
own_all : (p n q : ℕ) (ts : List Emission) → (q == p) ≡ true → own p (map (line_of n q) ts) ≡ map (line_of n q) ts
unfolding own
own_all p n q [] its = refl
own_all p n q (t ∷ ts) its = rw (line_tag n q t, its) (ap (λ rest. line_of n q t ∷ rest) (own_all p n q ts its))

own_none : (p n q : ℕ) (ts : List Emission) → (q == p) ≡ false → own p (map (line_of n q) ts) ≡ []
unfolding own
own_none p n q [] its = refl
own_none p n q (t ∷ ts) its = rw (line_tag n q t, its) (own_none p n q ts its)

pub own_append : (p : ℕ) (xs ys : List ReportLine) → own p (xs ++ ys) ≡ own p xs ++ own p ys
unfolding own
own_append p xs ys = filter_append (λ line. is_number (tag_of line) p) xs ys

-- no lines
pub own_nil : (p : ℕ) → own p [] ≡ []
unfolding own
own_nil p = refl

-- the lines of the other partitions are left out
none_of : (p : ℕ) (f : ℕ → PartitionState → List ReportLine) (xs : List PartitionState) → ((k : ℕ) (ps : PartitionState) → own p (f k ps) ≡ []) → own p (all_of f xs) ≡ []
none_of p f [] others = own_nil p
none_of p f (x ∷ xs) others =
    own_append p (f 0 x) (all_of (λ k. f (suc k)) xs)
    ∙ ap (λ front. front ++ own p (all_of (λ k. f (suc k)) xs)) (others 0 x)
    ∙ none_of p (λ k. f (suc k)) xs (λ k. others (suc k))

-- of the lines of all partitions, one by one, those of one are left
pub own_at : (p q : ℕ) (f : ℕ → PartitionState → List ReportLine) (xs : List PartitionState) (ps : PartitionState) → slice_get xs q ≡ Some ps
    → own p (f q ps) ≡ f q ps → ((k : ℕ) (other : PartitionState) → k ≢ q → own p (f k other) ≡ []) → own p (all_of f xs) ≡ f q ps
own_at p q f [] ps there its others = absurd cc
own_at p zero f (x ∷ xs) ps there its others =
    let same : x ≡ ps = same_Some x ps there in
    own_append p (f 0 x) (all_of (λ k. f (suc k)) xs)
    ∙ ap (λ back. own p (f 0 x) ++ back) (none_of p (λ k. f (suc k)) xs (λ k other. others (suc k) other (λ e. absurd (omega (arith, e)))))
    ∙ append-nil (own p (f 0 x)) ∙ ap (λ s. own p (f 0 s)) same ∙ its
own_at p (suc q) f (x ∷ xs) ps there its others =
    own_append p (f 0 x) (all_of (λ k. f (suc k)) xs)
    ∙ ap (λ front. front ++ own p (all_of (λ k. f (suc k)) xs)) (others 0 x (λ e. absurd (omega (arith, e))))
    ∙ own_at p q (λ k. f (suc k)) xs ps there its (λ k other not_q. others (suc k) other (λ e. not_q (omega (arith, e))))

-- equality of numbers as a test
pub eqb_of : (a b : ℕ) → a ≡ b → (a == b) ≡ true
eqb_of a b e = rw e (grind (arith))

pub eqb_not : (a b : ℕ) → a ≢ b → (a == b) ≡ false
eqb_not a b ne = grind (arith, nat_tests)

-- the lines of the order that a partition obeyed
orders_own : (g : Machine) (h : Happened) (p : ℕ) (ps : PartitionState) → slice_get g.parts p ≡ Some ps → own p (all_of (order_lines g h) g.parts) ≡ order_lines g h p ps
unfolding order_lines
orders_own g h p ps there =
    own_at p p (order_lines g h) g.parts ps there
    (own_all p g.ticks p (obeyed_emissions (order_upon h.act p) (worked_in (tick_of h p) ps)) (eqb_of p p refl))
    (λ k other not_p. own_none p g.ticks k (obeyed_emissions (order_upon h.act k) (worked_in (tick_of h k) other)) (eqb_not k p not_p))

-- the lines of a hypervisor event
event_its : (p n : ℕ) (event : WholeEvent) → own p (event_lines n event p) ≡ event_lines n event p
event_its p n NoEvent = own_nil p
event_its p n (AllReset mode) = own_all p n p (emission.Moved _ ∷ []) (eqb_of p p refl)
event_its p n AllHalted = own_nil p

event_others : (p n k : ℕ) (event : WholeEvent) → k ≢ p → own p (event_lines n event k) ≡ []
event_others p n k NoEvent not_p = own_nil p
event_others p n k (AllReset mode) not_p = own_none p n k (emission.Moved _ ∷ []) (eqb_not k p not_p)
event_others p n k AllHalted not_p = own_nil p

events_own : (g : Machine) (event : WholeEvent) (p : ℕ) (ps : PartitionState) → slice_get g.parts p ≡ Some ps
    → own p (all_of (λ k other. event_lines g.ticks event k) g.parts) ≡ event_lines g.ticks event p
events_own g event p ps there =
    own_at p p (λ k other. event_lines g.ticks event k) g.parts ps there (event_its p g.ticks event) (λ k other not_p. event_others p g.ticks k event not_p)

-- the hypervisor's line and the plan's have no partition's tag
whole_own : (p n : ℕ) (event : WholeEvent) → own p (whole_lines n event) ≡ []
unfolding own
whole_own p n NoEvent = refl
whole_own p n (AllReset mode) = refl
whole_own p n AllHalted = refl

plan_own : (p n old new : ℕ) → own p (plan_lines n old new) ≡ []
unfolding own
plan_own p n old new = at (old == new)
  where
    at : (b : Bool) → filter (λ line. is_number (tag_of line) p) (if b then [] else PlanLine n new ∷ []) ≡ []
    at true = refl
    at false = refl

-- the lines of the local tick are those of the partition that had it
taken_lines : (g : Machine) (q : ℕ) (first : Bool) (o : Option PartitionState) (l : Option LocalTick) → taken_by g q first o ≡ l → (ts : List Emission) × (local_lines l ≡ map (line_of g.ticks q) ts)
unfolding local_of local_tick view_of
taken_lines g q first None l is = ([], ap local_lines (sym is))
taken_lines g q first (Some ps) l is = at (takes_turns ps.state) is
  where
    at : (b : Bool) → (if b then Some (local_of g q first ps) else None) ≡ l → (ts : List Emission) × (local_lines l ≡ map (line_of g.ticks q) ts)
    at true is = ((worked (view_of g.system q) (copies g q) g.time first (sight_of_state g q first ps) ps).emitted, ap local_lines (sym is))
    at false is = ([], ap local_lines (sym is))

local_own_in : (g : Machine) (p : ℕ) (o : Option SlotTurn) → own p (local_lines (local_in g o)) ≡ local_lines (if_its_turn (is_turn_of o p) (local_in g o))
local_own_in g p None = own_nil p
local_own_in g p (Some turn) =
    let emitted_lines = taken_lines g turn.part turn.first (slice_get g.parts turn.part) (taken_by g turn.part turn.first (slice_get g.parts turn.part)) refl in
    at (turn.part == p) refl emitted_lines.0 emitted_lines.1
  where
    at : (b : Bool) → (turn.part == p) ≡ b → (ts : List Emission) → local_lines (taken_by g turn.part turn.first (slice_get g.parts turn.part)) ≡ map (line_of g.ticks turn.part) ts
        → own p (local_lines (taken_by g turn.part turn.first (slice_get g.parts turn.part))) ≡ local_lines (if_its_turn b (taken_by g turn.part turn.first (slice_get g.parts turn.part)))
    at true its ts is = ap (own p) is ∙ own_all p g.ticks turn.part ts its ∙ sym is
    at false its ts is = ap (own p) is ∙ own_none p g.ticks turn.part ts its

local_own : (g : Machine) (p : ℕ) → own p (local_lines (happened g).local) ≡ local_lines (tick_of (happened g) p)
unfolding happened happened_by local tick_of
local_own g p = local_own_in g p (turn_of g)

-- five lists of lines
own_five : (p : ℕ) (a b c d e : List ReportLine) → own p (a ++ b ++ c ++ d ++ e) ≡ own p a ++ own p b ++ own p c ++ own p d ++ own p e
own_five p a b c d e =
    own_append p (a ++ b ++ c ++ d) e
    ∙ ap (λ l. l ++ own p e) (own_append p (a ++ b ++ c) d
    ∙ ap (λ l. l ++ own p d) (own_append p (a ++ b) c ∙ ap (λ l. l ++ own p c) (own_append p a b)))

-- five lists of which two are empty
three_left : (a b d : List ReportLine) (c e : List ReportLine) → c ≡ [] → e ≡ [] → a ++ b ++ c ++ d ++ e ≡ a ++ b ++ d
three_left a b d c e no_c no_e =
    ap (λ l. a ++ b ++ c ++ d ++ l) no_e ∙ append-nil (a ++ b ++ c ++ d) ∙ ap (λ l. a ++ b ++ l ++ d) no_c ∙ ap (λ l. l ++ d) (append-nil (a ++ b))

-- five equal lists
same_five : (a b c d e a' b' c' d' e' : List ReportLine) → a ≡ a' → b ≡ b' → c ≡ c' → d ≡ d' → e ≡ e' → a ++ b ++ c ++ d ++ e ≡ a' ++ b' ++ c' ++ d' ++ e'
same_five a b c d e a' b' c' d' e' same_a same_b same_c same_d same_e = rw (same_a, same_b, same_c, same_d, same_e) refl

-- the lines of a tick, for one partition
lines_same : (g : Machine) (p : ℕ) (ps : PartitionState) → slice_get g.parts p ≡ Some ps
    → own p (lines_of g (happened g)) ≡ alone_lines_of (view_of g.system p) (part g p ps) (cue g p) (tick_of (happened g) p)
unfolding lines_of alone_lines_of part cue cue_in order_lines view_of
lines_same g p ps there =
    own_five p (local_lines (happened g).local) (all_of (order_lines g (happened g)) g.parts) (whole_lines g.ticks (happened g).event)
    (all_of (λ k other. event_lines g.ticks (happened g).event k) g.parts) (plan_lines g.ticks g.clock.plan (next_clock g (happened g)).plan)
    ∙ same_five _ _ _ _ _ (local_lines (tick_of (happened g) p)) (order_lines g (happened g) p ps) [] (event_lines g.ticks (happened g).event p) []
    (local_own g p) (orders_own g (happened g) p ps there) (whole_own p g.ticks (happened g).event) (events_own g (happened g).event p ps there) (plan_own p g.ticks g.clock.plan (next_clock g (happened g)).plan)
    ∙ three_left (local_lines (tick_of (happened g) p)) (order_lines g (happened g) p ps) (event_lines g.ticks (happened g).event p) [] [] refl refl

pub tick_lines : (g : Machine) (p : ℕ) (ps : PartitionState) → g.halted ≡ false → slice_get g.parts p ≡ Some ps
    → own p (step_lines g) ≡ alone_step_lines (view_of g.system p) (part g p ps) (cue g p)
unfolding step_lines alone_step_lines
tick_lines g p ps runs there =
    ap (λ b. own p (lines_unless b g)) runs ∙ lines_same g p ps there
    ∙ ap (λ tick. alone_lines_of (view_of g.system p) (part g p ps) (cue g p) tick) (sym (alone_local_is g p ps there))

pub tick_said : (g : Machine) (p : ℕ) (ps : PartitionState) → g.halted ≡ false → slice_get g.parts p ≡ Some ps
    → step_said g p ≡ alone_step_said (view_of g.system p) (part g p ps) (cue g p)
unfolding step_said alone_step_said
tick_said g p ps runs there = ap (λ b. said_unless b g p) runs ∙ ap local_said (sym (alone_local_is g p ps there))
