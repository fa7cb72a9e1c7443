-- The whole work of a partition in a tick.
use Rattle.std.proofs.Common.{◌≡◌, ◌≢◌, ℕ, ◌+◌, ◌<◌, true, false, List, [], ◌++◌, length, map, refl, sym, ap, ◌∙◌, subst, arith}
use Rattle.std.proofs.lemmas.Bool.Decides.{nat_tests}
use Rattle.std.specs.Prelude.{◌==◌, Result, Ok, Err}
use Rattle.health_monitor.specs.declared.effects.Whole.{Whole}
use Rattle.health_monitor.specs.declared.effects.Whole.TheVariants as whole
use Rattle.system_state.specs.Serving.{without_traffic}
use Rattle.system_state.specs.State.{SysState, with_machine}
use Rattle.system_state.specs.declared.served.Note.TheVariants as note
use Rattle.tick_steps.specs.lemmas.PartLemmas.{part_put_back}
use Rattle.machine_model.specs.Health.{Worked, by_interrupt, done_to_all, interrupt_delivered, quiet, self_ordered, undelivered}
use Rattle.machine_model.specs.LocalTick.{by_act}
use Rattle.machine_model.specs.Machine.{Machine}
use Rattle.machine_model.specs.Partition.{PartitionState, areas_of, ordered, ordered_emissions}
use Rattle.machine_model.specs.Emission as emission
use Rattle.machine_model.specs.Emission.{Act, OwnStill, OwnTraffic, line_of}
use Rattle.machine_model.specs.Traffic.{Still, Traffic, traffic_as, traffic_of}
use Rattle.machine_model.specs.View.{PartitionView, System, view_of}
use Rattle.span_model.specs.Passes.{part_at, traded, traffic_in, with_part}
use Rattle.virt_traps.specs.Delivery.{Delivered, delivered}
use Rattle.virt_traps.specs.declared.windows.StackFault.{StackFault}
use Rattle.xm_base.specs.declared.partition.Order.{Order}
use Rattle.xm_report.specs.Report.{ReportLine}
use Rattle.tick_steps.specs.Work.{IsPartDone, ReachIsUponOne, IsTickWorked, act_beyond}
use Rattle.tick_steps.specs.declared.beyond.Beyond.{Beyond}
use Rattle.tick_steps.specs.declared.beyond.Beyond.TheVariants as beyond
use Rattle.tick_steps.specs.lemmas.HealthLemmas.{is_work, silent}
use Rattle.tick_steps.specs.lemmas.WorkLemmas.{done_then, put_there}

-- what reaches beyond a partition is no traffic, so it has none that could be left out
pub record HasNoTraffic (act : Act) : Type 0 where
  pub still : traffic_of act ≡ OwnStill
  pub same : without_traffic act ≡ act

pub reach_untraded : (reach : Beyond) → HasNoTraffic (act_beyond reach)
reach_untraded beyond.Nothing = record { still = refl; same = refl }
reach_untraded (beyond.Order id order) = record { still = refl; same = refl }
reach_untraded (beyond.Plan plan) = record { still = refl; same = refl }
reach_untraded (beyond.Whole whole.Nothing) = record { still = refl; same = refl }
reach_untraded (beyond.Whole (whole.Reset mode)) = record { still = refl; same = refl }
reach_untraded (beyond.Whole whole.Halt) = record { still = refl; same = refl }
reach_untraded (beyond.Whole whole.Maintenance) = record { still = refl; same = refl }

-- an act that reaches so has no traffic in the system
pub no_traffic : (p : ℕ) (work : Worked) (reach : Beyond) (old : SysState) → work.act ≡ act_beyond reach → traffic_in old.machine p work.act ≡ Still
no_traffic p work reach old is = ap (λ (traffic : OwnTraffic). traffic_as old.machine.system.conf p traffic) (ap traffic_of is ∙ (reach_untraded reach).still)

-- an order is on a partition that there was
pub one_before : (reach : Beyond) (g h : Machine) → length g.parts ≡ length h.parts → ReachIsUponOne reach g → ReachIsUponOne reach h
one_before beyond.Nothing g h same one = one
one_before (beyond.Order id order) g h same one = subst (λ (count : ℕ). id < count) same one
one_before (beyond.Plan plan) g h same one = one
one_before (beyond.Whole event) g h same one = one

-- work that is done, with no traffic and no bytes for the console
pub worked_done : (p : ℕ) (work : Worked) (reach : Beyond) (old new : SysState) (had got : List ReportLine) → had ≡ []
    → IsPartDone p work.after work.emitted old new had got → work.act ≡ act_beyond reach → ReachIsUponOne reach old.machine → IsTickWorked p work note.Nothing reach old new got
worked_done p work reach old new had got empty done act_is one = record {
  state = done.state ∙ ap (λ (t : Traffic). with_machine (traded t (with_part p work.after old.machine)) old) (sym (no_traffic p work reach old act_is));
  lines = sym (done.lines ∙ ap (λ (lines : List ReportLine). lines ++ map (line_of old.machine.ticks p) work.emitted) empty);
  act = ap without_traffic act_is ∙ (reach_untraded reach).same;
  readable = tt;
  one = one;
}

-- work that is done once the partition has changed
pub worked_after : (f : PartitionView → ℕ → PartitionState → Worked) (p : ℕ) (ps : PartitionState) (reach : Beyond) (old mid new : SysState) (had got : List ReportLine) → p < length old.machine.parts → had ≡ []
    → mid ≡ with_machine (with_part p ps old.machine) old
    → IsPartDone p (f (view_of mid.machine.system p) mid.machine.time (part_at p mid.machine)).after (f (view_of mid.machine.system p) mid.machine.time (part_at p mid.machine)).emitted mid new had got
    → (f (view_of mid.machine.system p) mid.machine.time (part_at p mid.machine)).act ≡ act_beyond reach
    → ReachIsUponOne reach old.machine
    → IsTickWorked p (f (view_of old.machine.system p) old.machine.time ps) note.Nothing reach old new got
worked_after f p ps reach old mid new had got below empty mid_is done act_is one =
    let work = f (view_of old.machine.system p) old.machine.time ps in
    let same : f (view_of mid.machine.system p) mid.machine.time (part_at p mid.machine) ≡ work =
    ap (λ (x : PartitionState). f (view_of mid.machine.system p) mid.machine.time x) (put_there p ps old.machine mid old below mid_is)
    ∙ ap (λ (s : SysState). f (view_of s.machine.system p) s.machine.time ps) mid_is in
    worked_done p work reach old new had got empty
    (done_then (λ view time x. (f view time x).after) (λ view time x. (f view time x).emitted) p ps [] old mid new had had got below (silent p ps old mid had mid_is) done)
    (ap (λ (w : Worked). w.act) (sym same) ∙ act_is) one

-- a delivery reaches no further than its partition
by_interrupt_act : (answer : Result (Unit {0}) StackFault) (view : PartitionView) (time n : ℕ) (d : Delivered) (ps : PartitionState) → (by_interrupt answer view time n d ps).act ≡ emission.Nothing
unfolding undelivered
by_interrupt_act (Ok made) view time n d ps = refl
by_interrupt_act (Err fault) view time n d ps = refl

pub interrupt_act : (view : PartitionView) (time n : ℕ) (ps : PartitionState) → (interrupt_delivered view time n ps).act ≡ emission.Nothing
unfolding interrupt_delivered
interrupt_act view time n ps =
    let d = delivered (areas_of view) ps.traps ps.core ps.memory (0xE0 + n) in
    by_interrupt_act d.answer view time n d ps

-- nothing is done
pub stays : (p : ℕ) (old : SysState) (had : List ReportLine) → IsPartDone p (part_at p old.machine) [] old old had had
stays p old had = silent p (part_at p old.machine) old old had (sym (part_put_back p old))

-- an order on the partition itself, and one on another
own_order : (system : System) (p id : ℕ) (order : Order) (ps : PartitionState) → id ≡ p → by_act (emission.Upon id order) (view_of system p) ps ≡ self_ordered (view_of system p) order ps
unfolding view_of
own_order system p id order ps is =
    let test : (id == p) ≡ true = grind (arith, nat_tests) in
    rw (test) refl

other_order : (system : System) (p id : ℕ) (order : Order) (ps : PartitionState) → id ≢ p → by_act (emission.Upon id order) (view_of system p) ps ≡ record (quiet ps) { act = emission.Upon id order }
unfolding view_of
other_order system p id order ps differs =
    let test : (id == p) ≡ false = grind (arith, nat_tests) in
    rw (test) refl

-- an order on the partition itself is obeyed
pub own_obeyed : (p id : ℕ) (order : Order) (old new : SysState) (had got : List ReportLine) → id ≡ p
    → IsPartDone p (ordered (view_of old.machine.system p) order (part_at p old.machine)) (ordered_emissions order (part_at p old.machine)) old new had got
    → IsPartDone p (by_act (emission.Upon id order) (view_of old.machine.system p) (part_at p old.machine)).after (by_act (emission.Upon id order) (view_of old.machine.system p) (part_at p old.machine)).emitted old new had got
unfolding self_ordered
own_obeyed p id order old new had got is done = is_work p _ _ old new had got (own_order old.machine.system p id order (part_at p old.machine) is) done

-- and reaches no further
pub own_reach : (system : System) (p id : ℕ) (order : Order) (ps : PartitionState) → id ≡ p → (by_act (emission.Upon id order) (view_of system p) ps).act ≡ emission.Nothing
unfolding self_ordered
own_reach system p id order ps is = ap (λ (w : Worked). w.act) (own_order system p id order ps is)

-- an order on another partition is left to the whole
pub other_left : (p id : ℕ) (order : Order) (old : SysState) (had : List ReportLine) → id ≢ p
    → IsPartDone p (by_act (emission.Upon id order) (view_of old.machine.system p) (part_at p old.machine)).after (by_act (emission.Upon id order) (view_of old.machine.system p) (part_at p old.machine)).emitted old old had had
other_left p id order old had differs = is_work p _ _ old old had had (other_order old.machine.system p id order (part_at p old.machine) differs) (stays p old had)

pub other_reach : (system : System) (p id : ℕ) (order : Order) (ps : PartitionState) → id ≢ p → (by_act (emission.Upon id order) (view_of system p) ps).act ≡ emission.Upon id order
other_reach system p id order ps differs = ap (λ (w : Worked). w.act) (other_order system p id order ps differs)

-- an event of the whole system leaves the partition as it is
pub whole_acts : (event : Whole) (view : PartitionView) (ps : PartitionState) → by_act (done_to_all event) view ps ≡ record (quiet ps) { act = done_to_all event }
whole_acts whole.Nothing view ps = refl
whole_acts (whole.Reset mode) view ps = refl
whole_acts whole.Halt view ps = refl
whole_acts whole.Maintenance view ps = refl

-- and it is left to the whole
pub whole_left : (p : ℕ) (event : Whole) (old : SysState) (had : List ReportLine)
    → IsPartDone p (by_act (done_to_all event) (view_of old.machine.system p) (part_at p old.machine)).after (by_act (done_to_all event) (view_of old.machine.system p) (part_at p old.machine)).emitted old old had had
whole_left p event old had = is_work p _ _ old old had had (whole_acts event (view_of old.machine.system p) (part_at p old.machine)) (stays p old had)

pub whole_reach : (event : Whole) (view : PartitionView) (ps : PartitionState) → (by_act (done_to_all event) view ps).act ≡ done_to_all event
whole_reach event view ps = ap (λ (w : Worked). w.act) (whole_acts event view ps)
