-- Health events of a partition and the delivery of its traps, as they are done one step after the other.
use Rattle.std.proofs.Common.{◌≡◌, ℕ, ◌+◌, ◌<◌, List, [], ◌∷◌, length, sym, ap, subst}
use Rattle.std.proofs.lemmas.List.{append-nil}
use Rattle.std.specs.Prelude.{Option, Result, Ok, Err}
use Rattle.health_monitor.specs.Monitor.{action_in, effect_of, is_logged}
use Rattle.health_monitor.specs.declared.effects.Effect.{Effect}
use Rattle.system_state.specs.State.{SysState, areas_in, with_machine}
use Rattle.system_state.specs.Stepping.{delivered_to}
use Rattle.machine_model.specs.Health.{Worked, answered_by, after_delivery, by_delivery, by_interrupt, done_to_all, done_to_itself, entered, entered_if, entered_emissions, event_handled, interrupt_delivered, is_passed_over, passed_over_if, trap_delivered, undelivered}
use Rattle.machine_model.specs.Machine.{Machine}
use Rattle.machine_model.specs.Partition.{PartitionState, areas_of, ordered, ordered_emissions}
use Rattle.machine_model.specs.Emission.{Health}
use Rattle.machine_model.specs.View.{PartitionView, view_of}
use Rattle.span_model.specs.Passes.{part_at, with_part}
use Rattle.virt_traps.specs.Virtual.{interrupt_cleared}
use Rattle.virt_traps.specs.declared.windows.StackFault.{StackFault}
use Rattle.xm_base.specs.declared.partition.Order.TheVariants as order
use Rattle.xm_conf.specs.declared.health.Action.TheVariants as action
use Rattle.xm_conf.specs.declared.health.Event.{Event}
use Rattle.xm_conf.specs.declared.health.Event.TheVariants as event
use Rattle.xm_report.specs.Report.{ReportLine}
use Rattle.tick_steps.specs.Work.{IsPartDone}
use Rattle.tick_steps.specs.lemmas.WorkLemmas.{done_then, state_then}

-- a work that is what is done of it
pub is_work : (p : ℕ) (w v : Worked) (old new : SysState) (had got : List ReportLine) → w ≡ v → IsPartDone p v.after v.emitted old new had got → IsPartDone p w.after w.emitted old new had got
is_work p w v old new had got is done = subst (λ (x : Worked). IsPartDone p x.after x.emitted old new had got) (sym is) done

-- a part of the work that reports nothing
pub silent : (p : ℕ) (ps : PartitionState) (old new : SysState) (had : List ReportLine) → new ≡ with_machine (with_part p ps old.machine) old → IsPartDone p ps [] old new had had
silent p ps old new had is = record { state = is; lines = sym (append-nil had) }

-- the delivery of a trap, by its answer
trap_is : (g : Machine) (p time type : ℕ) (ps : PartitionState) (answer : Result (Unit {0}) StackFault) → answer ≡ (delivered_to type (areas_in p g) ps).answer
    → trap_delivered (view_of g.system p) time type ps ≡ by_delivery answer (view_of g.system p) time (delivered_to type (areas_in p g) ps) ps
unfolding trap_delivered areas_of view_of
trap_is g p time type ps answer is =
    ap (λ (a : Result (Unit {0}) StackFault). by_delivery a (view_of g.system p) time (delivered_to type (areas_in p g) ps) ps) (sym is)

-- the delivery of an interrupt, by its answer
interrupt_is : (g : Machine) (p time n : ℕ) (ps : PartitionState) (answer : Result (Unit {0}) StackFault) → answer ≡ (delivered_to (0xE0 + n) (areas_in p g) ps).answer
    → interrupt_delivered (view_of g.system p) time n ps ≡ by_interrupt answer (view_of g.system p) time n (delivered_to (0xE0 + n) (areas_in p g) ps) ps
unfolding interrupt_delivered areas_of view_of
interrupt_is g p time n ps answer is =
    ap (λ (a : Result (Unit {0}) StackFault). by_interrupt a (view_of g.system p) time n (delivered_to (0xE0 + n) (areas_in p g) ps) ps) (sym is)

-- a trap that was delivered
pub trap_made : (p type : ℕ) (made : Unit {0}) (old new : SysState) (had : List ReportLine)
    → Ok made ≡ (delivered_to type (areas_in p old.machine) (part_at p old.machine)).answer
    → new ≡ with_machine (with_part p (after_delivery (delivered_to type (areas_in p old.machine) (part_at p old.machine)) (part_at p old.machine)) old.machine) old
    → IsPartDone p (trap_delivered (view_of old.machine.system p) old.machine.time type (part_at p old.machine)).after (trap_delivered (view_of old.machine.system p) old.machine.time type (part_at p old.machine)).emitted old new had had
trap_made p type made old new had answered is =
    is_work p _ _ old new had had (trap_is old.machine p old.machine.time type (part_at p old.machine) (Ok made) answered) (silent p _ old new had is)

-- an interrupt that was delivered, and is no longer pending
pub interrupt_made : (p n : ℕ) (made : Unit {0}) (old mid new : SysState) (had : List ReportLine) → p < length old.machine.parts
    → Ok made ≡ (delivered_to (0xE0 + n) (areas_in p old.machine) (part_at p old.machine)).answer
    → mid ≡ with_machine (with_part p (after_delivery (delivered_to (0xE0 + n) (areas_in p old.machine) (part_at p old.machine)) (part_at p old.machine)) old.machine) old
    → new ≡ with_machine (with_part p (record (part_at p mid.machine) { traps = interrupt_cleared n (part_at p mid.machine).traps }) mid.machine) mid
    → IsPartDone p (interrupt_delivered (view_of old.machine.system p) old.machine.time n (part_at p old.machine)).after (interrupt_delivered (view_of old.machine.system p) old.machine.time n (part_at p old.machine)).emitted old new had had
interrupt_made p n made old mid new had below answered mid_is new_is =
    is_work p _ _ old new had had (interrupt_is old.machine p old.machine.time n (part_at p old.machine) (Ok made) answered)
    (silent p _ old new had (state_then (λ view time ps. record ps { traps = interrupt_cleared n ps.traps }) p _ old mid new below mid_is new_is))

-- a partition that gave up, from a system that the refused delivery left as it was
given_up : (p : ℕ) (old mid new : SysState) (had got : List ReportLine) → mid ≡ old
    → IsPartDone p (undelivered (view_of mid.machine.system p) mid.machine.time (part_at p mid.machine)).after (undelivered (view_of mid.machine.system p) mid.machine.time (part_at p mid.machine)).emitted mid new had got
    → IsPartDone p (undelivered (view_of old.machine.system p) old.machine.time (part_at p old.machine)).after (undelivered (view_of old.machine.system p) old.machine.time (part_at p old.machine)).emitted old new had got
given_up p old mid new had got is done =
    subst (λ (s : SysState). IsPartDone p (undelivered (view_of s.machine.system p) s.machine.time (part_at p s.machine)).after (undelivered (view_of s.machine.system p) s.machine.time (part_at p s.machine)).emitted s new had got) is done

-- a trap that could not be delivered
pub trap_refused : (p type : ℕ) (fault : StackFault) (old mid new : SysState) (had got : List ReportLine)
    → Err fault ≡ (delivered_to type (areas_in p old.machine) (part_at p old.machine)).answer → mid ≡ old
    → IsPartDone p (undelivered (view_of mid.machine.system p) mid.machine.time (part_at p mid.machine)).after (undelivered (view_of mid.machine.system p) mid.machine.time (part_at p mid.machine)).emitted mid new had got
    → IsPartDone p (trap_delivered (view_of old.machine.system p) old.machine.time type (part_at p old.machine)).after (trap_delivered (view_of old.machine.system p) old.machine.time type (part_at p old.machine)).emitted old new had got
trap_refused p type fault old mid new had got answered is done =
    is_work p _ _ old new had got (trap_is old.machine p old.machine.time type (part_at p old.machine) (Err fault) answered) (given_up p old mid new had got is done)

-- an interrupt that could not be delivered
pub interrupt_refused : (p n : ℕ) (fault : StackFault) (old mid new : SysState) (had got : List ReportLine)
    → Err fault ≡ (delivered_to (0xE0 + n) (areas_in p old.machine) (part_at p old.machine)).answer → mid ≡ old
    → IsPartDone p (undelivered (view_of mid.machine.system p) mid.machine.time (part_at p mid.machine)).after (undelivered (view_of mid.machine.system p) mid.machine.time (part_at p mid.machine)).emitted mid new had got
    → IsPartDone p (interrupt_delivered (view_of old.machine.system p) old.machine.time n (part_at p old.machine)).after (interrupt_delivered (view_of old.machine.system p) old.machine.time n (part_at p old.machine)).emitted old new had got
interrupt_refused p n fault old mid new had got answered is done =
    is_work p _ _ old new had got (interrupt_is old.machine p old.machine.time n (part_at p old.machine) (Err fault) answered) (given_up p old mid new had got is done)

-- a partition that gives up: the event is entered, and it halts
pub gives_up : (p pc : ℕ) (old mid new : SysState) (had between got : List ReportLine) → p < length old.machine.parts → pc ≡ (part_at p old.machine).core.pc
    → IsPartDone p (entered old.machine.time event.MemProtection pc action.Halt (part_at p old.machine)) (Health event.MemProtection pc action.Halt ∷ []) old mid had between
    → IsPartDone p (ordered (view_of mid.machine.system p) order.Halt (part_at p mid.machine)) (ordered_emissions order.Halt (part_at p mid.machine)) mid new between got
    → IsPartDone p (undelivered (view_of old.machine.system p) old.machine.time (part_at p old.machine)).after (undelivered (view_of old.machine.system p) old.machine.time (part_at p old.machine)).emitted old new had got
unfolding undelivered entered ordered_emissions
gives_up p pc old mid new had between got below pc_is one two =
    let ps = part_at p old.machine in
    let entered_one = subst (λ (word : ℕ). IsPartDone p (entered old.machine.time event.MemProtection word action.Halt ps) (Health event.MemProtection word action.Halt ∷ []) old mid had between) pc_is one in
    done_then (λ view time x. ordered view order.Halt x) (λ view time x. ordered_emissions order.Halt x) p
    (entered old.machine.time event.MemProtection ps.core.pc action.Halt ps) (Health event.MemProtection ps.core.pc action.Halt ∷ [])
    old mid new had between got below entered_one two

-- an event that is entered, passed over and answered
pub handled : (p : ℕ) (an_event : Event) (word : ℕ) (type : Option ℕ) (effect : Effect) (old one two new : SysState) (had between got : List ReportLine) → p < length old.machine.parts
    → effect ≡ effect_of (action_in (view_of old.machine.system p).part.hm an_event) (part_at p old.machine).traps.enabled
    → IsPartDone p (entered_if (is_logged (view_of old.machine.system p).part.hm an_event) old.machine.time an_event word effect.action (part_at p old.machine))
    (entered_emissions (is_logged (view_of old.machine.system p).part.hm an_event) an_event word effect.action) old one had between
    → two ≡ with_machine (with_part p (passed_over_if (is_passed_over an_event effect) (part_at p one.machine)) one.machine) one
    → IsPartDone p (done_to_itself (view_of two.machine.system p) two.machine.time type effect.own (part_at p two.machine)).after
    (done_to_itself (view_of two.machine.system p) two.machine.time type effect.own (part_at p two.machine)).emitted two new between got
    → IsPartDone p (event_handled (view_of old.machine.system p) old.machine.time an_event word type (part_at p old.machine)).after
    (event_handled (view_of old.machine.system p) old.machine.time an_event word type (part_at p old.machine)).emitted old new had got
unfolding event_handled answered_by
handled p an_event word type effect old one two new had between got below effect_is entering passing answering =
    let view = view_of old.machine.system p in
    let ps = part_at p old.machine in
    let logged = is_logged view.part.hm an_event in
    let logged_state = entered_if logged old.machine.time an_event word effect.action ps in
    let passed = passed_over_if (is_passed_over an_event effect) logged_state in
    let both : IsPartDone p passed (entered_emissions logged an_event word effect.action) old two had between = record {
      state = state_then (λ v t x. passed_over_if (is_passed_over an_event effect) x) p logged_state old one two below entering.state passing;
      lines = entering.lines;
    } in
    is_work p _ _ old new had got (ap (λ (e : Effect). answered_by view old.machine.time an_event word type e ps) (sym effect_is))
    (done_then (λ v t x. (done_to_itself v t type effect.own x).after) (λ v t x. (done_to_itself v t type effect.own x).emitted) p passed
    (entered_emissions logged an_event word effect.action) old two new had between got below both answering)

-- what it does to the whole system
pub handled_act : (view : PartitionView) (time : ℕ) (an_event : Event) (word : ℕ) (type : Option ℕ) (ps : PartitionState) (effect : Effect)
    → effect ≡ effect_of (action_in view.part.hm an_event) ps.traps.enabled → (event_handled view time an_event word type ps).act ≡ done_to_all effect.whole
unfolding event_handled answered_by
handled_act view time an_event word type ps effect is = ap (λ (e : Effect). done_to_all e.whole) (sym is)
