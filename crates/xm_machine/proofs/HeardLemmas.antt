-- What lines of ticks have of console bytes is what UARTs get of these ticks; and what a board has got after them.
use Rattle.std.proofs.Common.{◌≡◌, ◌≢◌, ⊎_elim, ℕ, zero, suc, ◌+◌, ◌-◌, ◌<◌, ◌≤◌, Bool, false, true, List, [], ◌∷◌, ◌++◌, length, map, Option, None, Some, refl, sym, ap, ◌∙◌, subst, arith}
use Rattle.std.specs.Prelude.{All, IfSome, ◌==◌, if◌then◌else◌, slice_get, slice_index_or}
use Rattle.std.specs.List.{flat_map}
use Rattle.std.proofs.lemmas.Bool.{cases_lt, eq-eqb}
use Rattle.std.proofs.lemmas.Bool.Decides.{nat_tests}
use Rattle.std.proofs.lemmas.Grind.{flat_map-append}
use Rattle.std.proofs.lemmas.List.{append-nil}
use Rattle.std.proofs.lemmas.Option.{same_Some}
use Rattle.uart_board.specs.Heard.{IsHeard, IsHeardAt, said_to}
use Rattle.uart_board.specs.lemmas.HeardLemmas.{heard_nothing, heard_then}
use Rattle.uart_board.specs.Views.{BoardView, mark_at, view_at}
use Rattle.xm_base.specs.declared.partition.Order.{Order}
use Rattle.xm_base.specs.declared.partition.Order.TheVariants as order
use Rattle.xm_conf.specs.Configuration.{Conf, Part}
use Rattle.xm_conf.specs.Description.{described}
use Rattle.xm_conf.specs.Fits.{Fits}
use Rattle.xm_report.specs.Report.{ConsoleLine, EndPart, EndWhole, HealthLine, MovedLine, PlanLine, ReportLine, StruckLine, SystemLine, TraceLine, WholeLine}
use Rattle.system_state.specs.State.{SysState}
use Rattle.replay_model.specs.Passes.{part_in}
use Rattle.machine_model.specs.lemmas.TickLemmas.{step_halted}
use Rattle.machine_model.specs.Alone.{Alone, alone_lines_of, alone_local, alone_local_in, alone_step_lines, alone_step_said}
use Rattle.machine_model.specs.Cue.{Away, Cue, Mine, CueSlot}
use Rattle.machine_model.specs.Facts.{RunsKeepNumbers}
use Rattle.machine_model.specs.Laws.{part}
use Rattle.machine_model.specs.Lines.{console, has_console, lines, lines_of, lines_unless, local_lines, local_said, order_lines, plan_lines, said_unless, step_console, step_lines, step_said}
use Rattle.machine_model.specs.Lists.{all_of, is_number}
use Rattle.machine_model.specs.LocalTick.{LocalTick, local_tick, said_in, worked}
use Rattle.machine_model.specs.Machine.{Happened, Machine, SlotTurn, copies, happened, happened_by, if_its_turn, is_turn_of, local, local_in, local_of, next_clock, obeyed_emissions, order_upon, run, sight_of_state, step, taken_by, tick_of, turn_of, worked_in}
use Rattle.machine_model.specs.Partition.{PartitionState, applies, order_emissions, ordered_emissions, takes_turns}
use Rattle.machine_model.specs.Emission as emission
use Rattle.machine_model.specs.Emission.{Emission, line_of}
use Rattle.machine_model.specs.View.{System, part_of, view_of}
use Rattle.machine_model.specs.Whole.{AllHalted, AllReset, NoEvent, WholeEvent, event_lines, whole_lines}
use Rattle.span_model.specs.Passes.{part_at}
use Rattle.span_model.specs.lemmas.RunLemmas.{console_add, run_add}
use Rattle.xm_machine.proofs.GoingLemmas.{lines_halted, state_on}
use Rattle.tick_steps.specs.lemmas.KeptLemmas.{ticks_exact}
use Rattle.tick_steps.specs.TickLines.{IsOtherLine}
use Rattle.xm_machine.specs.AloneStep.{said_alone}
use Rattle.xm_machine.specs.Heard.{IsRunHeard}
use Rattle.xm_machine.specs.lemmas.HeardTerms.{console_to, line_to, lines_to}
use Rattle.span_engine.specs.Spans.{IsSpanDone}
use Rattle.tick_steps.specs.Span.{console_lines}
use Rattle.tick_steps.specs.declared.span.Span.{Span}

-- nothing, whatever is asked
if_none : (b : Bool) (bytes : List ℕ) → bytes ≡ [] → (if b then bytes else []) ≡ []
if_none true bytes none = none
if_none false bytes none = refl

-- what a line of a partition's tale says, where the UART is its console, and where it is not
line_its : (g : Machine) (uart n p : ℕ) (t : Emission) → has_console g uart p ≡ true → line_to g uart (line_of n p t) ≡ said_in t
line_its g uart n p (emission.Console bytes) its = ap (λ (b : Bool). if b then bytes else []) its
line_its g uart n p (emission.Health event word action) its = refl
line_its g uart n p (emission.Trace bits load) its = refl
line_its g uart n p (emission.Moved to) its = refl

line_not : (g : Machine) (uart n p : ℕ) (t : Emission) → has_console g uart p ≡ false → line_to g uart (line_of n p t) ≡ []
line_not g uart n p (emission.Console bytes) not_its = ap (λ (b : Bool). if b then bytes else []) not_its
line_not g uart n p (emission.Health event word action) not_its = refl
line_not g uart n p (emission.Trace bits load) not_its = refl
line_not g uart n p (emission.Moved to) not_its = refl

-- so do its lines
tale_its : (g : Machine) (uart n p : ℕ) (ts : List Emission) → has_console g uart p ≡ true → flat_map (line_to g uart) (map (line_of n p) ts) ≡ flat_map said_in ts
tale_its g uart n p [] its = refl
tale_its g uart n p (t ∷ ts) its =
    ap (λ (first : List ℕ). first ++ flat_map (line_to g uart) (map (line_of n p) ts)) (line_its g uart n p t its)
    ∙ ap (λ (rest : List ℕ). said_in t ++ rest) (tale_its g uart n p ts its)

tale_not : (g : Machine) (uart n p : ℕ) (ts : List Emission) → has_console g uart p ≡ false → flat_map (line_to g uart) (map (line_of n p) ts) ≡ []
tale_not g uart n p [] not_its = refl
tale_not g uart n p (t ∷ ts) not_its =
    ap (λ (first : List ℕ). first ++ flat_map (line_to g uart) (map (line_of n p) ts)) (line_not g uart n p t not_its) ∙ tale_not g uart n p ts not_its

tale_to : (g : Machine) (uart n p : ℕ) (ts : List Emission) → flat_map (line_to g uart) (map (line_of n p) ts) ≡ (if has_console g uart p then flat_map said_in ts else [])
tale_to g uart n p ts = at (has_console g uart p) refl
  where
    at : (b : Bool) → has_console g uart p ≡ b → flat_map (line_to g uart) (map (line_of n p) ts) ≡ (if b then flat_map said_in ts else [])
    at true its = tale_its g uart n p ts its
    at false not_its = tale_not g uart n p ts not_its

-- nothing is said where each element says nothing
none_of : {X Y : Type 0} (f : ℕ → X → List Y) (xs : List X) → ((k : ℕ) (x : X) → f k x ≡ []) → all_of f xs ≡ []
none_of f [] none = refl
none_of f (x ∷ xs) none = rw (none 0 x, none_of (λ k. f (suc k)) xs (λ k y. none (suc k) y)) refl

-- or by one alone
one_of : {X Y : Type 0} (f : ℕ → X → List Y) (xs : List X) (q : ℕ) (x : X) → slice_get xs q ≡ Some x → ((k : ℕ) (y : X) → k ≢ q → f k y ≡ []) → all_of f xs ≡ f q x
one_of f [] q x there others = absurd cc
one_of f (y ∷ xs) zero x there others =
    let same : y ≡ x = same_Some y x there in
    ap (λ rest. f 0 y ++ rest) (none_of (λ k. f (suc k)) xs (λ k z. others (suc k) z (λ e. absurd (omega (arith, e)))))
    ∙ append-nil (f 0 y) ∙ ap (λ z. f 0 z) same
one_of f (y ∷ xs) (suc q) x there others =
    ap (λ first. first ++ all_of (λ k. f (suc k)) xs) (others 0 y (λ e. absurd (omega (arith, e))))
    ∙ one_of (λ k. f (suc k)) xs q x there (λ k z not_q. others (suc k) z (λ e. not_q (omega (arith, e))))

-- lines of all elements that say nothing
none_said : {X : Type 0} (f : ReportLine → List ℕ) (h : ℕ → X → List ReportLine) (xs : List X) → ((k : ℕ) (x : X) → flat_map f (h k x) ≡ []) → flat_map f (all_of h xs) ≡ []
none_said f h [] none = refl
none_said f h (x ∷ xs) none =
    flat_map-append f (h 0 x) (all_of (λ k. h (suc k)) xs)
    ∙ ap (λ (first : List ℕ). first ++ flat_map f (all_of (λ k. h (suc k)) xs)) (none 0 x)
    ∙ none_said f (λ k. h (suc k)) xs (λ k y. none (suc k) y)

-- lines that say nothing, after others
pub silent_after : (f : ReportLine → List ℕ) (a b : List ReportLine) → flat_map f b ≡ [] → flat_map f (a ++ b) ≡ flat_map f a
silent_after f a b none = flat_map-append f a b ∙ ap (λ (rest : List ℕ). flat_map f a ++ rest) none ∙ append-nil (flat_map f a)

-- an order emits no console bytes
order_silent : (an_order : Order) → flat_map said_in (order_emissions an_order) ≡ []
order_silent order.Halt = refl
order_silent order.Suspend = refl
order_silent order.Resume = refl
order_silent order.Shutdown = refl
order_silent (order.Reset mode status) = refl

pub obeyed_silent : (o : Option Order) (ps : PartitionState) → flat_map said_in (obeyed_emissions o ps) ≡ []
unfolding ordered_emissions
obeyed_silent None ps = refl
obeyed_silent (Some an_order) ps = at (applies an_order ps.state)
  where
    at : (b : Bool) → flat_map said_in (if b then order_emissions an_order else []) ≡ []
    at true = order_silent an_order
    at false = refl

orders_silent : (g : Machine) (h : Happened) (uart p : ℕ) (ps : PartitionState) → flat_map (line_to g uart) (order_lines g h p ps) ≡ []
unfolding order_lines
orders_silent g h uart p ps =
    tale_to g uart g.ticks p (obeyed_emissions (order_upon h.act p) (worked_in (tick_of h p) ps))
    ∙ if_none (has_console g uart p) (flat_map said_in (obeyed_emissions (order_upon h.act p) (worked_in (tick_of h p) ps))) (obeyed_silent (order_upon h.act p) (worked_in (tick_of h p) ps))

-- nor do the lines of the hypervisor and of plans
whole_silent : (g : Machine) (uart n : ℕ) (event : WholeEvent) → flat_map (line_to g uart) (whole_lines n event) ≡ []
whole_silent g uart n NoEvent = refl
whole_silent g uart n (AllReset mode) = refl
whole_silent g uart n AllHalted = refl

event_silent : (g : Machine) (uart n p : ℕ) (event : WholeEvent) → flat_map (line_to g uart) (event_lines n event p) ≡ []
event_silent g uart n p NoEvent = refl
event_silent g uart n p (AllReset mode) = refl
event_silent g uart n p AllHalted = refl

plan_silent : (g : Machine) (uart n old new : ℕ) → flat_map (line_to g uart) (plan_lines n old new) ≡ []
plan_silent g uart n old new = at (old == new)
  where
    at : (b : Bool) → flat_map (line_to g uart) (if b then [] else PlanLine n new ∷ []) ≡ []
    at true = refl
    at false = refl

-- a local tick of partition q: its lines are those of a tale, and its console bytes are what that says
pub record HasTale (g : Machine) (q : ℕ) (l : Option LocalTick) : Type 0 where
  pub tale : List Emission
  pub its_lines : local_lines l ≡ map (line_of g.ticks q) tale
  pub its_bytes : local_said l ≡ flat_map said_in tale

taken_tale : (g : Machine) (q : ℕ) (first : Bool) (ps : PartitionState) → HasTale g q (taken_by g q first (Some ps))
unfolding local_of local_tick view_of
taken_tale g q first ps = at (takes_turns ps.state)
  where
    at : (b : Bool) → HasTale g q (if b then Some (local_of g q first ps) else None)
    at true = record { tale = (worked (view_of g.system q) (copies g q) g.time first (sight_of_state g q first ps) ps).emitted; its_lines = refl; its_bytes = refl }
    at false = record { tale = []; its_lines = refl; its_bytes = refl }

-- what each UART gets of the local tick of a turn
abbrev turn_to : Machine → ℕ → Option SlotTurn → ℕ → PartitionState → List ℕ
turn_to g uart turn p ps = if has_console g uart p then local_said (if_its_turn (is_turn_of turn p) (local_in g turn)) else []

abbrev tick_to : Machine → ℕ → ℕ → Option LocalTick → ℕ → PartitionState → List ℕ
tick_to g uart q l p ps = if has_console g uart p then local_said (if_its_turn (q == p) l) else []

-- no tick has no bytes
nothing_said : (b : Bool) → local_said (if_its_turn b None) ≡ []
nothing_said true = refl
nothing_said false = refl

not_its : (g : Machine) (uart q p : ℕ) (l : Option LocalTick) (ps : PartitionState) → p ≢ q → tick_to g uart q l p ps ≡ []
not_its g uart q p l ps differ =
    let other : (q == p) ≡ false = grind (arith, nat_tests) in
    if_none (has_console g uart p) (local_said (if_its_turn (q == p) l)) (ap (λ (b : Bool). local_said (if_its_turn b l)) other)

its_tick : (g : Machine) (uart q : ℕ) (l : Option LocalTick) (ps : PartitionState) → HasTale g q l → tick_to g uart q l q ps ≡ flat_map (line_to g uart) (local_lines l)
its_tick g uart q l ps tale =
    ap (λ (b : Bool). if has_console g uart q then local_said (if_its_turn b l) else []) (eq-eqb q q refl)
    ∙ ap (λ (bytes : List ℕ). if has_console g uart q then bytes else []) tale.its_bytes
    ∙ sym (tale_to g uart g.ticks q tale.tale)
    ∙ ap (flat_map (line_to g uart)) (sym tale.its_lines)

turns_to : (g : Machine) (uart : ℕ) (turn : Option SlotTurn) → all_of (turn_to g uart turn) g.parts ≡ flat_map (line_to g uart) (local_lines (local_in g turn))
turns_to g uart None = none_of (turn_to g uart None) g.parts (λ p ps. if_none (has_console g uart p) [] refl)
turns_to g uart (Some turn) = at (slice_get g.parts turn.part) refl
  where
    at : (o : Option PartitionState) → slice_get g.parts turn.part ≡ o
        → all_of (tick_to g uart turn.part (taken_by g turn.part turn.first o)) g.parts ≡ flat_map (line_to g uart) (local_lines (taken_by g turn.part turn.first o))
    at None e = none_of (tick_to g uart turn.part None) g.parts (λ p ps. if_none (has_console g uart p) (local_said (if_its_turn (turn.part == p) None)) (nothing_said (turn.part == p)))
    at (Some ps) e =
        one_of (tick_to g uart turn.part (taken_by g turn.part turn.first (Some ps))) g.parts turn.part ps e (λ p other differ. not_its g uart turn.part p (taken_by g turn.part turn.first (Some ps)) other differ)
        ∙ its_tick g uart turn.part (taken_by g turn.part turn.first (Some ps)) ps (taken_tale g turn.part turn.first ps)

-- the console bytes of a tick that is done
said_runs : (g : Machine) (p : ℕ) → g.halted ≡ false → step_said g p ≡ local_said (if_its_turn (is_turn_of (turn_of g) p) (local_in g (turn_of g)))
unfolding step_said tick_of happened happened_by local
said_runs g p runs = ap (λ (b : Bool). said_unless b g p) runs

-- passes over a list that are alike
same_of : {X Y : Type 0} (f h : ℕ → X → List Y) (xs : List X) → ((k : ℕ) (x : X) → f k x ≡ h k x) → all_of f xs ≡ all_of h xs
same_of f h [] same = refl
same_of f h (x ∷ xs) same = rw (same 0 x, same_of (λ k. f (suc k)) (λ k. h (suc k)) xs (λ k y. same (suc k) y)) refl

console_runs : (g : Machine) (uart : ℕ) → g.halted ≡ false → step_console g uart ≡ flat_map (line_to g uart) (local_lines (local_in g (turn_of g)))
unfolding step_console
console_runs g uart runs =
    same_of (λ p ps. if has_console g uart p then step_said g p else []) (turn_to g uart (turn_of g)) g.parts (λ p ps. ap (λ (bytes : List ℕ). if has_console g uart p then bytes else []) (said_runs g p runs))
    ∙ turns_to g uart (turn_of g)

lines_runs : (g : Machine) (uart : ℕ) → g.halted ≡ false → flat_map (line_to g uart) (step_lines g) ≡ flat_map (line_to g uart) (local_lines (local_in g (turn_of g)))
unfolding step_lines lines_of happened happened_by local
lines_runs g uart runs =
    let f = line_to g uart in
    let h = happened g in
    let a = local_lines (local_in g (turn_of g)) in
    let b = all_of (order_lines g h) g.parts in
    let c = whole_lines g.ticks h.event in
    let d = all_of (λ p ps. event_lines g.ticks h.event p) g.parts in
    let e = plan_lines g.ticks g.clock.plan (next_clock g h).plan in
    ap (λ (x : Bool). flat_map f (lines_unless x g)) runs
    ∙ silent_after f (a ++ b ++ c ++ d) e (plan_silent g uart g.ticks g.clock.plan (next_clock g h).plan)
    ∙ silent_after f (a ++ b ++ c) d (none_said f (λ p ps. event_lines g.ticks h.event p) g.parts (λ p ps. event_silent g uart g.ticks p h.event))
    ∙ silent_after f (a ++ b) c (whole_silent g uart g.ticks h.event)
    ∙ silent_after f a b (none_said f (order_lines g h) g.parts (λ p ps. orders_silent g h uart p ps))

-- a machine that has halted says nothing
pub console_halted : (g : Machine) (uart : ℕ) → g.halted ≡ true → step_console g uart ≡ []
unfolding step_console step_said
console_halted g uart halts =
    none_of (λ p ps. if has_console g uart p then step_said g p else []) g.parts
    (λ p ps. if_none (has_console g uart p) (step_said g p) (ap (λ (b : Bool). said_unless b g p) halts))

halted_silent : (g : Machine) (uart : ℕ) → g.halted ≡ true → flat_map (line_to g uart) (step_lines g) ≡ []
unfolding step_lines
halted_silent g uart halts = ap (λ (b : Bool). flat_map (line_to g uart) (lines_unless b g)) halts

-- what a UART gets of a tick is what the tick's lines have
step_heard : (g : Machine) (uart : ℕ) → step_console g uart ≡ flat_map (line_to g uart) (step_lines g)
step_heard g uart = at g.halted refl
  where
    at : (b : Bool) → g.halted ≡ b → step_console g uart ≡ flat_map (line_to g uart) (step_lines g)
    at true halts = console_halted g uart halts ∙ sym (halted_silent g uart halts)
    at false runs = console_runs g uart runs ∙ sym (lines_runs g uart runs)

-- which UART a line is for depends on what runs alone
line_same : (g m : Machine) (uart : ℕ) (line : ReportLine) → m.system ≡ g.system → line_to m uart line ≡ line_to g uart line
line_same g m uart (SystemLine parts plans ticks) same = refl
line_same g m uart (ConsoleLine n p bytes) same = ap (λ (system : System). if is_number (part_of system.conf p).console uart then bytes else []) same
line_same g m uart (HealthLine n p event word action) same = refl
line_same g m uart (TraceLine n p bits load) same = refl
line_same g m uart (MovedLine n p to) same = refl
line_same g m uart (StruckLine n p place bit) same = refl
line_same g m uart (WholeLine n to) same = refl
line_same g m uart (PlanLine n plan) same = refl
line_same g m uart (EndPart p state resets exec pc) same = refl
line_same g m uart (EndWhole halted plan clock ticks) same = refl

lines_same : (g m : Machine) (emitted_lines : List ReportLine) (uart : ℕ) → m.system ≡ g.system → lines_to m emitted_lines uart ≡ lines_to g emitted_lines uart
lines_same g m [] uart same = refl
lines_same g m (line ∷ rest) uart same =
    ap (λ (first : List ℕ). first ++ lines_to m rest uart) (line_same g m uart line same)
    ∙ ap (λ (more : List ℕ). line_to g uart line ++ more) (lines_same g m rest uart same)

-- so it is of a run
pub run_heard : RunsKeepNumbers → (count : ℕ) (g : Machine) (uart : ℕ) → console g count uart ≡ lines_to g (lines g count) uart
run_heard keeps zero g uart = refl
run_heard keeps (suc count) g uart =
    let same : (step g).system ≡ g.system = (keeps g 1).system in
    ap (λ (first : List ℕ). first ++ console (step g) count uart) (step_heard g uart)
    ∙ ap (λ (rest : List ℕ). flat_map (line_to g uart) (step_lines g) ++ rest) (run_heard keeps count (step g) uart ∙ lines_same g (step g) (lines (step g) count) uart same)
    ∙ sym (flat_map-append (line_to g uart) (step_lines g) (lines (step g) count))

-- runs that lead to one state have the same console bytes
console_stays : RunsKeepNumbers → (g : Machine) (uart : ℕ) → (count : ℕ) → g.halted ≡ true → console g count uart ≡ []
console_stays keeps g uart count halts = run_heard keeps count g uart ∙ ap (λ (l : List ReportLine). lines_to g l uart) (lines_halted count g halts)

console_on : RunsKeepNumbers → (g : Machine) (j more uart : ℕ) → run g j ≡ run g (j + more) → console g j uart ≡ console g (j + more) uart
console_on keeps g j more uart same = at (run g j).halted refl
  where
    later : run g j ≡ run (run g j) more
    later = same ∙ run_add g j more

    at : (b : Bool) → (run g j).halted ≡ b → console g j uart ≡ console g (j + more) uart
    at true halts =
        sym (append-nil (console g j uart)) ∙ ap (λ (rest : List ℕ). console g j uart ++ rest) (sym (console_stays keeps (run g j) uart more halts)) ∙ sym (console_add g j more uart)
    at false runs =
        let none : more ≡ 0 = omega (arith, ticks_exact more (run g j) (sym (ap (λ (m : Machine). m.halted) later) ∙ runs), ap (λ (m : Machine). m.ticks) later) in
        let stays : j ≡ j + more = omega (arith, none) in
        ap (λ (n : ℕ). console g n uart) stays

console_same : RunsKeepNumbers → (g : Machine) (j k uart : ℕ) → run g j ≡ run g k → console g j uart ≡ console g k uart
console_same keeps g j k uart same = ⊎_elim less more (cases_lt j k)
  where
    less : j < k → console g j uart ≡ console g k uart
    less below =
        let rest : j + (k - j) ≡ k = omega (arith, below) in
        console_on keeps g j (k - j) uart (same ∙ ap (run g) (sym rest)) ∙ ap (λ (n : ℕ). console g n uart) rest

    more : k ≤ j → console g j uart ≡ console g k uart
    more from =
        let rest : k + (j - k) ≡ j = omega (arith, from) in
        sym (console_on keeps g k (j - k) uart (sym same ∙ ap (run g) (sym rest)) ∙ ap (λ (n : ℕ). console g n uart) rest)

-- a board to which the same was said
pub heard_as : (said other : ℕ → List ℕ) (before after : BoardView) → ((uart : ℕ) → said uart ≡ other uart) → IsHeard said before after → IsHeard other before after
heard_as said other before after same heard place =
    subst (λ (bytes : List ℕ). IsHeardAt bytes (view_at place before) (mark_at place before.marks) (view_at place after) (mark_at place after.marks)) (same place) (heard place)

-- this many ticks lead to a state, and their console bytes were said
pub ran_heard : RunsKeepNumbers → (g new : Machine) (count : ℕ) (before after : BoardView) → new ≡ run g count → IsHeard (console g count) before after → IsRunHeard g new before after
ran_heard keeps g new count before after is heard ticks leads =
    heard_as (console g count) (console g ticks) before after (λ uart. console_same keeps g count ticks uart (sym is ∙ leads)) heard

-- no tick was done
pub none_heard : RunsKeepNumbers → (g : Machine) (board : BoardView) → IsRunHeard g g board board
none_heard keeps g board = ran_heard keeps g g 0 board board refl (heard_nothing board)

-- more ticks were done
pub heard_on : RunsKeepNumbers → (g mid new : Machine) (done more : ℕ) (before between after : BoardView) → mid ≡ run g done → new ≡ run mid more
    → IsRunHeard g mid before between → IsRunHeard mid new between after → IsRunHeard g new before after
heard_on keeps g mid new done more before between after is from first second =
    ran_heard keeps g new (done + more) before after (state_on g mid new done more is from)
    (heard_as (λ uart. console g done uart ++ console mid more uart) (console g (done + more)) before after
    (λ uart. ap (λ (m : Machine). console g done uart ++ console m more uart) is ∙ sym (console_add g done more uart))
    (heard_then (console g done) (console mid more) before between after (first done is) (second more from)))

-- one tick
pub tick_heard : (old new : Machine) (done : ℕ) (before after : BoardView) → 0 < done → done ≤ 1 → new ≡ run old done → IsRunHeard old new before after → IsHeard (console old 1) before after
tick_heard old new done before after some within is heard =
    let one : done ≡ 1 = omega (arith, some, within) in
    heard 1 (is ∙ ap (run old) one)

pub halted_heard : RunsKeepNumbers → (g : Machine) (board : BoardView) → g.halted ≡ true → IsHeard (console g 1) board board
halted_heard keeps g board halts = none_heard keeps g board 1 (sym (step_halted g halts))

-- the lines of ticks of a span were said
pub span_heard : RunsKeepNumbers → (span : Span) (most : ℕ) (old new : SysState) (others : List ReportLine) (before after : BoardView) → IsSpanDone span most old new others
    → IsHeard (lines_to new.machine (console_lines span old.machine new.machine ++ others)) before after → IsRunHeard old.machine new.machine before after
span_heard keeps span most old new others before after done heard =
    let is : new.machine ≡ run old.machine span.ticks = ap (λ (s : SysState). s.machine) done.state in
    let same : new.machine.system ≡ old.machine.system = ap (λ (m : Machine). m.system) is ∙ (keeps old.machine span.ticks).system in
    ran_heard keeps old.machine new.machine span.ticks before after is
    (heard_as (lines_to new.machine (console_lines span old.machine new.machine ++ others)) (console old.machine span.ticks) before after
    (λ uart. ap (λ (l : List ReportLine). lines_to new.machine l uart) (sym done.lines) ∙ lines_same old.machine new.machine (lines old.machine span.ticks) uart same ∙ sym (run_heard keeps span.ticks old.machine uart))
    heard)

-- a line of console bytes was said
pub line_heard : (g : Machine) (n p : ℕ) (bytes : List ℕ) (before after : BoardView) → IsHeard (console_to g p bytes) before after → IsHeard (lines_to g (line_of n p (emission.Console bytes) ∷ [])) before after
line_heard g n p bytes before after heard =
    heard_as (console_to g p bytes) (lines_to g (line_of n p (emission.Console bytes) ∷ [])) before after (λ uart. sym (append-nil (console_to g p bytes uart))) heard

-- lines that have no console bytes
others_silent : (g : Machine) (others : List ReportLine) (uart : ℕ) → All IsOtherLine others → lines_to g others uart ≡ []
others_silent g [] uart all = refl
others_silent g (line ∷ rest) uart all =
    ap (λ (first : List ℕ). first ++ lines_to g rest uart) (other_silent line (all 0 line (omega arith))) ∙ others_silent g rest uart (λ k d below. all (suc k) d (omega (arith, below)))
  where
    other_silent : (l : ReportLine) → IsOtherLine l → line_to g uart l ≡ []
    other_silent (SystemLine parts plans ticks) is = refl
    other_silent (ConsoleLine n p bytes) is = absurd is
    other_silent (HealthLine n p event word action) is = refl
    other_silent (TraceLine n p bits load) is = refl
    other_silent (MovedLine n p to) is = refl
    other_silent (StruckLine n p place bit) is = refl
    other_silent (WholeLine n to) is = refl
    other_silent (PlanLine n plan) is = refl
    other_silent (EndPart p state resets exec pc) is = refl
    other_silent (EndWhole halted plan clock ticks) is = refl

-- they come after one that was said
pub others_heard : (g : Machine) (first others : List ReportLine) (before after : BoardView) → All IsOtherLine others → IsHeard (lines_to g first) before after → IsHeard (lines_to g (first ++ others)) before after
others_heard g first others before after all heard =
    heard_as (lines_to g first) (lines_to g (first ++ others)) before after (λ uart. sym (silent_after (line_to g uart) first others (others_silent g others uart all))) heard

-- what was said to the place of a partition's console
pub console_heard : (g : Machine) (p place : ℕ) (bytes : List ℕ) (before after : BoardView) → (part_of g.system.conf p).console ≡ Some place → IsHeard (said_to place bytes) before after → IsHeard (console_to g p bytes) before after
console_heard g p place bytes before after is heard = heard_as (said_to place bytes) (console_to g p bytes) before after same heard
  where
    turned : (uart : ℕ) (b : Bool) → (uart == place) ≡ b → (place == uart) ≡ b
    turned uart true e = grind (arith, nat_tests)
    turned uart false e = grind (arith, nat_tests)

    same : (uart : ℕ) → said_to place bytes uart ≡ console_to g p bytes uart
    same uart =
        ap (λ (b : Bool). if b then bytes else []) (sym (turned uart (uart == place) refl))
        ∙ ap (λ (o : Option ℕ). if is_number o uart then bytes else []) (sym is)

-- a partition without a console is not heard
pub unheard : (g : Machine) (p : ℕ) (bytes : List ℕ) (board : BoardView) → (part_of g.system.conf p).console ≡ None → IsHeard (console_to g p bytes) board board
unheard g p bytes board none =
    heard_as (λ uart. []) (console_to g p bytes) board board (λ uart. ap (λ (o : Option ℕ). if is_number o uart then bytes else []) (sym none)) (heard_nothing board)

-- a console is one of eight UARTs
pub console_below : (conf : Conf) (p : ℕ) (part : Part) → Fits (described conf) → p < length conf.parts → part ≡ slice_index_or conf.parts p part → IfSome part.console (λ place. place < 8)
unfolding described
console_below conf p part fits below is =
    at part.console (subst (λ (one : Part). IfSome one.console (λ uart. uart < length conf.uarts)) (sym is) (fits.consoles p part below))
  where
    few : length conf.uarts ≤ 8
    few = fits.counts.uarts

    at : (o : Option ℕ) → IfSome o (λ uart. uart < length conf.uarts) → IfSome o (λ place. place < 8)
    at None within = within
    at (Some place) within = omega (arith, within, few)

-- the same of a tick of one partition in isolation
pub alone_tale : (g : Machine) (p : ℕ) (cue : Cue) → HasTale g p (alone_local (view_of g.system p) (part_in g p) cue)
unfolding alone_local local_tick part view_of
alone_tale g p cue = by cue.mine
  where
    by : (mine : CueSlot) → HasTale g p (alone_local_in mine (view_of g.system p) (part_in g p) cue.seen)
    by Away = record { tale = []; its_lines = refl; its_bytes = refl }
    by (Mine first) = at (takes_turns (part_at p g).state)
      where
        at : (b : Bool) → HasTale g p (if b then Some (local_tick (view_of g.system p) (part_at p g) (copies g p) g.ticks g.time first cue.seen) else None)
        at true = record { tale = (worked (view_of g.system p) (copies g p) g.time first cue.seen (part_at p g)).emitted; its_lines = refl; its_bytes = refl }
        at false = record { tale = []; its_lines = refl; its_bytes = refl }

lines_alone : (m g : Machine) (uart p : ℕ) (cue : Cue)
    → flat_map (line_to m uart) (alone_step_lines (view_of g.system p) (part_in g p) cue) ≡ (if has_console m uart p then alone_step_said (view_of g.system p) (part_in g p) cue else [])
unfolding alone_step_lines alone_lines_of alone_step_said part view_of
lines_alone m g uart p cue =
    let view = view_of g.system p in
    let a : Alone = part_in g p in
    let its = alone_tale g p cue in
    let l : Option LocalTick = alone_local view a cue in
    silent_after (line_to m uart) (local_lines l ++ map (line_of a.ticks view.id) (obeyed_emissions cue.order (worked_in l a.state))) (event_lines a.ticks cue.whole view.id)
    (event_silent m uart a.ticks view.id cue.whole)
    ∙ silent_after (line_to m uart) (local_lines l) (map (line_of a.ticks view.id) (obeyed_emissions cue.order (worked_in l a.state)))
    (tale_to m uart a.ticks view.id (obeyed_emissions cue.order (worked_in l a.state))
    ∙ if_none (has_console m uart view.id) (flat_map said_in (obeyed_emissions cue.order (worked_in l a.state))) (obeyed_silent cue.order (worked_in l a.state)))
    ∙ ap (flat_map (line_to m uart)) its.its_lines
    ∙ tale_to m uart g.ticks p its.tale
    ∙ ap (λ (bytes : List ℕ). if has_console m uart p then bytes else []) (sym its.its_bytes)

pub alone_heard : (old new : Machine) (p : ℕ) (cue : Cue) (lines : List ReportLine) (before after : BoardView) → new.system ≡ old.system
    → alone_step_lines (view_of old.system p) (part_in old p) cue ≡ lines → IsHeard (lines_to new lines) before after → IsHeard (said_alone old p cue) before after
alone_heard old new p cue lines before after same are heard place =
    subst (λ (bytes : List ℕ). IsHeardAt bytes (view_at place before) (mark_at place before.marks) (view_at place after) (mark_at place after.marks))
    (ap (flat_map (line_to new place)) (sym are)
    ∙ lines_alone new old place p cue
    ∙ ap (λ (s : System). if has_console (record old { system = s }) place p then alone_step_said (view_of old.system p) (part_in old p) cue else []) same)
    (heard place)
