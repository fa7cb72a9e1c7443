-- The lines of the end of a tick.
use Rattle.std.proofs.Common.{◌≡◌, ℕ, zero, suc, ◌+◌, ◌-◌, ◌<◌, Bool, true, false, if◌then◌else◌, List, [], ◌∷◌, ◌++◌, length, map, Option, None, Some, refl, sym, ap, ◌∙◌, arith}
use Rattle.std.proofs.lemmas.Bool.{eq-eqb}
use Rattle.std.proofs.lemmas.Bool.Decides.{nat_tests}
use Rattle.std.proofs.lemmas.List.{append-nil, append_assoc}
use Rattle.std.specs.Prelude.{◌==◌}
use Rattle.system_state.specs.State.{SysState}
use Rattle.cyclic_plans.specs.PlanClock.{CyclicClock, ended, ends_frame, entered_plan, frame_from, in_maintenance, next_plan, other_plan, started}
use Rattle.xm_base.specs.declared.partition.Mode.{Mode}
use Rattle.xm_base.specs.declared.partition.Order.{Order}
use Rattle.xm_conf.specs.Configuration.{Conf}
use Rattle.xm_report.specs.Report.{PlanLine, ReportLine, WholeLine}
use Rattle.xm_report.specs.declared.line.Move.TheVariants as move
use Rattle.machine_model.specs.Lines.{plan_lines}
use Rattle.machine_model.specs.Lists.{all_of}
use Rattle.machine_model.specs.Machine.{Machine}
use Rattle.machine_model.specs.Partition.{PartitionState, ordered_emissions, reset_move}
use Rattle.machine_model.specs.Emission.{AllHalted, AllReset, Maintenance, Nothing, Plans, Upon, UponAll, line_of}
use Rattle.machine_model.specs.Whole.{event_lines}
use Rattle.span_model.specs.Passes.{part_at}
use Rattle.span_model.specs.Spans.{plan_line}
use Rattle.tick_steps.specs.Work.{IsPartDone}
use Rattle.tick_steps.specs.lemmas.WorkTerms.{added_below, ending_lines, reset_lines}
use Rattle.tick_steps.specs.lemmas.ListLemmas.{none_emitted}

-- the line of a plan that starts after tick n, where one does
abbrev pub plan_emitted : ℕ → Option ℕ → List ReportLine
plan_emitted n None = []
plan_emitted n (Some plan) = PlanLine n plan ∷ []

-- a plan that is another one has a line
other_lines : (n old new : ℕ) → plan_lines n old new ≡ plan_emitted n (other_plan old new)
other_lines n old new = at (old == new) refl (new == old) refl
  where
    at : (one : Bool) → (old == new) ≡ one → (two : Bool) → (new == old) ≡ two → (if one then [] else PlanLine n new ∷ []) ≡ plan_emitted n (if two then None else Some new)
    at true same true again = refl
    at false other false again = refl
    at true same false again = absurd (grind (arith, nat_tests))
    at false other true again = absurd (grind (arith, nat_tests))

-- a plan that stays has none
same_lines : (n plan : ℕ) → plan_lines n plan plan ≡ []
same_lines n plan = ap (λ (b : Bool). if b then [] else PlanLine n plan ∷ []) (eq-eqb plan plan refl)

-- the plan that the clock enters is the one that has a line
entered_lines : (conf : Conf) (clock : CyclicClock) (now n : ℕ) → plan_lines n clock.plan (ended conf clock now).plan ≡ plan_emitted n (entered_plan conf clock now)
unfolding ended entered_plan
entered_lines conf clock now n = at (ends_frame conf clock now)
  where
    at : (b : Bool) → plan_lines n clock.plan (if b then frame_from (next_plan clock) (now + 1) else clock).plan ≡ plan_emitted n (if b then other_plan clock.plan (next_plan clock) else None)
    at true = other_lines n clock.plan (next_plan clock)
    at false = same_lines n clock.plan

-- the line after this many ticks of one frame
pub span_line : (g : Machine) (ticks : ℕ) (plan : Option ℕ) → 0 < ticks → plan ≡ entered_plan g.system.conf g.clock (g.time + ticks - 1)
    → plan_line (ticks - 1) g ≡ plan_emitted (g.ticks + ticks - 1) plan
span_line g ticks plan some is =
    let n : g.ticks + (ticks - 1) ≡ g.ticks + ticks - 1 = omega (arith, some) in
    let now : g.time + (ticks - 1) ≡ g.time + ticks - 1 = omega (arith, some) in
    ap (λ (k : ℕ). plan_lines k g.clock.plan (ended g.system.conf g.clock (g.time + (ticks - 1))).plan) n
    ∙ ap (λ (k : ℕ). plan_lines (g.ticks + ticks - 1) g.clock.plan (ended g.system.conf g.clock k).plan) now
    ∙ entered_lines g.system.conf g.clock (g.time + ticks - 1) (g.ticks + ticks - 1)
    ∙ ap (plan_emitted (g.ticks + ticks - 1)) (sym is)

-- the lines of a tick that does not reach beyond its partition
plain_ending : (g : Machine) → ending_lines Nothing g ≡ plan_lines g.ticks g.clock.plan (ended g.system.conf g.clock g.time).plan
plain_ending g = ap (λ (none : List ReportLine). none ++ plan_lines g.ticks g.clock.plan (ended g.system.conf g.clock g.time).plan) (none_emitted g.parts)

-- those of one that is a span
pub span_ending : (g : Machine) → ending_lines Nothing g ≡ plan_line 0 g
span_ending g =
    plain_ending g
    ∙ ap (λ (n : ℕ). plan_lines n g.clock.plan (ended g.system.conf g.clock g.time).plan) (let n : g.ticks ≡ g.ticks + 0 = omega arith in n)
    ∙ ap (λ (now : ℕ). plan_lines (g.ticks + 0) g.clock.plan (ended g.system.conf g.clock now).plan) (let now : g.time ≡ g.time + 0 = omega arith in now)

-- those of one with an order on another partition
order_ending : (g : Machine) (id : ℕ) (order : Order)
    → ending_lines (Upon id order) g ≡ map (line_of g.ticks id) (ordered_emissions order (part_at id g)) ++ plan_lines g.ticks g.clock.plan (ended g.system.conf g.clock g.time).plan
order_ending g id order =
    let emitted : List ReportLine = map (line_of g.ticks id) (ordered_emissions order (part_at id g)) in
    let plan : List ReportLine = plan_lines g.ticks g.clock.plan (ended g.system.conf g.clock g.time).plan in
    ap (λ (none : List ReportLine). emitted ++ [] ++ none ++ plan) (none_emitted g.parts)
    ∙ ap (λ (lines : List ReportLine). lines ++ plan) (append-nil (emitted ++ []) ∙ append-nil emitted)

-- those of one after which the maintenance plan starts
pub maintenance_ending : (g : Machine) → ending_lines (Plans Maintenance) g ≡ plan_lines g.ticks g.clock.plan (in_maintenance g.time).plan
maintenance_ending g = ap (λ (none : List ReportLine). none ++ plan_lines g.ticks g.clock.plan (in_maintenance g.time).plan) (none_emitted g.parts)

-- those of one in which the hypervisor halts
pub halt_ending : (g : Machine) → ending_lines (UponAll AllHalted) g ≡ WholeLine g.ticks move.Halt ∷ []
halt_ending g =
    ap (λ (none : List ReportLine). WholeLine g.ticks move.Halt ∷ (none ++ plan_lines g.ticks g.clock.plan g.clock.plan)) (none_emitted g.parts)
    ∙ ap (λ (none : List ReportLine). WholeLine g.ticks move.Halt ∷ none) (same_lines g.ticks g.clock.plan)

-- what numbers add, the first one apart
added_first : {Y : Type 0} (f : ℕ → List Y) (n : ℕ) → f 0 ++ added_below (λ k. f (suc k)) n ≡ added_below f (suc n)
added_first f zero = append-nil (f 0)
added_first {Y} f (suc n) =
    sym (append_assoc (f 0) (added_below (λ k. f (suc k)) n) (f (suc n))) ∙ ap (λ (lines : List Y). lines ++ f (suc n)) (added_first f n)

-- what elements add is what their numbers add
added_all : {X Y : Type 0} (f : ℕ → List Y) (xs : List X) → all_of (λ k x. f k) xs ≡ added_below f (length xs)
added_all f [] = refl
added_all {X} {Y} f (x ∷ xs) =
    ap (λ (lines : List Y). f 0 ++ lines) (added_all (λ k. f (suc k)) xs) ∙ added_first f (length xs)

-- the lines of a tick in which all are reset
reset_ending : (g : Machine) (mode : Mode) → ending_lines (UponAll (AllReset mode)) g ≡ reset_lines g.ticks (length g.parts) mode ++ plan_lines g.ticks g.clock.plan started.plan
reset_ending g mode =
    ap (λ (lines : List ReportLine). WholeLine g.ticks (reset_move mode) ∷ (lines ++ plan_lines g.ticks g.clock.plan started.plan))
    (added_all (λ p. event_lines g.ticks (AllReset mode) p) g.parts)

-- those lines, added to what was emitted before
pub reset_emitted : (g : Machine) (mode : Mode) (had got : List ReportLine)
    → got ≡ had ++ reset_lines g.ticks (length g.parts) mode ++ plan_lines g.ticks g.clock.plan started.plan → got ≡ had ++ ending_lines (UponAll (AllReset mode)) g
reset_emitted g mode had got emitted =
    emitted
    ∙ append_assoc had (reset_lines g.ticks (length g.parts) mode) (plan_lines g.ticks g.clock.plan started.plan)
    ∙ ap (λ (lines : List ReportLine). had ++ lines) (sym (reset_ending g mode))

-- the lines of a tick whose order was obeyed before its plain end
pub order_then : (id : ℕ) (order : Order) (after : PartitionState) (old mid : SysState) (had between got : List ReportLine)
    → IsPartDone id after (ordered_emissions order (part_at id old.machine)) old mid had between → got ≡ between ++ ending_lines Nothing mid.machine
    → got ≡ had ++ ending_lines (Upon id order) old.machine
order_then id order after old mid had between got obeyed ending =
    let emitted : List ReportLine = map (line_of old.machine.ticks id) (ordered_emissions order (part_at id old.machine)) in
    ending
    ∙ ap (λ (lines : List ReportLine). between ++ lines) (plain_ending mid.machine)
    ∙ ap (λ (s : SysState). between ++ plan_lines s.machine.ticks s.machine.clock.plan (ended s.machine.system.conf s.machine.clock s.machine.time).plan) obeyed.state
    ∙ ap (λ (lines : List ReportLine). lines ++ plan_lines old.machine.ticks old.machine.clock.plan (ended old.machine.system.conf old.machine.clock old.machine.time).plan) obeyed.lines
    ∙ append_assoc had emitted (plan_lines old.machine.ticks old.machine.clock.plan (ended old.machine.system.conf old.machine.clock old.machine.time).plan)
    ∙ ap (λ (lines : List ReportLine). had ++ lines) (sym (order_ending old.machine id order))
