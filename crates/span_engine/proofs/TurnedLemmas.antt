-- The ticks of a slot that end with an instruction that trapped or called, or with an interrupt.
use Rattle.std.proofs.Common.{◌≡◌, ℕ, ◌+◌, ◌<◌, ◌≤◌, Bool, true, List, ◌++◌, length, Some, sym, ap, subst, ◌∙◌, arith}
use Rattle.std.proofs.lemmas.List.{get_or-set_same}
use Rattle.std.specs.Prelude.{◌%◌, ◌^◌}
use Rattle.system_state.specs.Serving.{caller_at, sight_by, traffic_by}
use Rattle.system_state.specs.State.{SysState, with_machine}
use Rattle.system_state.specs.declared.served.Note.{Note}
use Rattle.system_state.specs.declared.served.Note.TheVariants as note
use Rattle.health_monitor.specs.Monitor.{event_of_type}
use Rattle.sparc_step.specs.declared.outcome.Turn.TheVariants.{Trap, Call}
use Rattle.virt_traps.specs.Settled.{settled}
use Rattle.virt_traps.specs.Virtual.{due}
use Rattle.xm_report.specs.Report.{ReportLine}
use Rattle.machine_model.specs.Facts.{RunsKeepNumbers}
use Rattle.machine_model.specs.Health.{Worked, event_handled, interrupt_delivered}
use Rattle.machine_model.specs.Laws.{ActsWithinBounds}
use Rattle.machine_model.specs.LocalTick.{called, clocked, delivered_or_executed, turned_state}
use Rattle.machine_model.specs.Machine.{Machine, booted_part, copies, run, sight}
use Rattle.machine_model.specs.Partition.{PartitionState, areas_of}
use Rattle.machine_model.specs.Emission.{Act}
use Rattle.machine_model.specs.Traffic.{traffic_as}
use Rattle.machine_model.specs.View.{System, view_of}
use Rattle.span_model.specs.Calm.{GoneCalm}
use Rattle.span_model.specs.Meeting.{first_after, gone_on}
use Rattle.span_model.specs.NextLaws.{IsNextTick, MetTick, next_work}
use Rattle.span_model.specs.PassLaws.{OthersRest, PassedNext, TickInPasses}
use Rattle.span_model.specs.Passes.{part_at, traffic_in, with_part}
use Rattle.span_model.specs.SpanLaws.{its_areas, met}
use Rattle.span_model.specs.Undisturbed.{UndisturbedNext, gone_parts, next_instruction}
use Rattle.tick_steps.specs.lemmas.SpanTerms.{AreDoneFrom, HasTurned, HasMetInterrupts, machine_underway}
use Rattle.tick_steps.specs.Work.{IsNotedBy, IsTickWorked, EmitsAlone, act_beyond}
use Rattle.tick_steps.specs.lemmas.WorkTerms.{ended_by, ending_lines}
use Rattle.tick_steps.specs.declared.beyond.Beyond.{Beyond}
use Rattle.tick_steps.specs.declared.beyond.Beyond.TheVariants as beyond
use Rattle.tick_steps.specs.declared.span.Span.{Span}
use Rattle.span_engine.proofs.DoneLemmas.{met_done, next_done}
use Rattle.tick_steps.specs.lemmas.InstructionLemmas.{call_sight, call_work, handled_still, trap_sight, trap_work, worked_on}
use Rattle.span_engine.proofs.KeepingLemmas.{IsNoted}
use Rattle.tick_steps.specs.lemmas.ReachLemmas.{interrupt_act}
use Rattle.tick_steps.specs.lemmas.SightLemmas.{delivered_unseen}
use Rattle.tick_steps.specs.lemmas.SlotLemmas.{at_next, its_before}
use Rattle.span_engine.proofs.SpanLemmas.{quiet_span, turned_after}

-- the partition before its instruction, and after it
abbrev gone_to : ℕ → Machine → ℕ → Bool → PartitionState → PartitionState
gone_to went g p first ps = gone_on went (its_areas g p) (met g first ps)

abbrev turned_to : System → ℕ → PartitionState → PartitionState
turned_to system p s = turned_state (settled (areas_of (view_of system p)) s.core s.memory) s

-- ticks of which the last was that of an instruction that trapped
pub trap_done : OthersRest → GoneCalm → UndisturbedNext → PassedNext → ActsWithinBounds → RunsKeepNumbers
    → (g : Machine) (p : ℕ) (first : Bool) (ps : PartitionState) (went most pc type : ℕ) (reach : Beyond) (old mid after new : SysState) (got all : List ReportLine) (span : Span)
    → HasTurned (Trap type) g p first ps went most pc old → mid ≡ with_machine (machine_underway p went old.machine) old
    → IsTickWorked p (event_handled (view_of mid.machine.system p) mid.machine.time (event_of_type type) pc (Some type) (clocked (part_at p mid.machine))) note.Nothing reach mid after got
    → new ≡ with_machine (ended_by (act_beyond reach) p after.machine) after → all ≡ got ++ ending_lines (act_beyond reach) after.machine → length all ≤ 40
    → span ≡ quiet_span (went + 1) p true reach → AreDoneFrom span most g old new all
trap_done others calms nexts passes bounds keeps g p first ps went most pc type reach old mid after new got all span has mid_is worked ended emitted_lines few span_is =
    let s : PartitionState = gone_to went g p first ps in
    let same : (run g went).system ≡ g.system = (keeps g went).system in
    let below : p < length (run g went).parts = omega (arith, (keeps g went).parts, has.there) in
    let its_mid : mid ≡ with_machine (with_part p (turned_to g.system p s) (run g went)) old =
    turned_after others nexts g p first ps (turned_to g.system p s) went old mid has.is has.gone has.state mid_is in
    let came : (settled (areas_of (view_of (run g went).system p)) s.core s.memory).turn ≡ Trap type =
    subst (λ (x : System). (settled (areas_of (view_of x p)) s.core s.memory).turn ≡ Trap type) (sym same) has.came in
    let work = trap_work (run g went) p type pc s (turned_to g.system p s) old mid below its_mid came (ap (λ (x : System). turned_to x p s) (sym same)) has.at in
    let next : IsNextTick g went (gone_parts went g p first ps) p (first_after went first) (next_instruction (run g went) p s) = nexts g p first ps went has.is has.gone in
    let noted : IsNoted (run g went) p (next_instruction (run g went) p s) note.Nothing = record {
      traffic = ap (λ (w : Worked). traffic_in (run g went) p w.act) (sym work)
          ∙ ap (traffic_as (run g went).system.conf p) (handled_still (view_of mid.machine.system p) mid.machine.time (event_of_type type) pc (Some type) (clocked (part_at p mid.machine)));
      seen = trap_sight (run g went) p type (first_after went first) (its_before went ps s) s (at_next g p first ps went (next_instruction (run g went) p s) has.is next) came;
    } in
    subst (λ (x : Span). AreDoneFrom x most g old new all) (sym span_is)
    (next_done keeps bounds calms nexts passes g p first ps went most note.Nothing reach old after new got all has.is has.gone has.there has.fewer noted
    (worked_on p (turned_to g.system p s) _ (next_instruction (run g went) p s) note.Nothing reach (run g went) old mid after got its_mid
    work worked)
    tt ended emitted_lines few)

-- ticks of which the last was that of an instruction that called
pub call_done : OthersRest → GoneCalm → UndisturbedNext → PassedNext → ActsWithinBounds → RunsKeepNumbers
    → (g : Machine) (p : ℕ) (first : Bool) (ps : PartitionState) (went most pc : ℕ) (a_note : Note) (reach : Beyond) (old mid after new : SysState) (got all : List ReportLine)
    → HasTurned Call g p first ps went most pc old → mid ≡ with_machine (machine_underway p went old.machine) old
    → IsTickWorked p (called (caller_at p pc (part_at p mid.machine).core.pc mid)) a_note reach mid after got → EmitsAlone a_note reach
    → IsNotedBy p (caller_at p pc (part_at p mid.machine).core.pc mid).sight (called (caller_at p pc (part_at p mid.machine).core.pc mid)) a_note mid
    → new ≡ with_machine (ended_by (act_beyond reach) p after.machine) after → all ≡ got ++ ending_lines (act_beyond reach) after.machine → length all ≤ 40
    → AreDoneFrom (record { ticks = went + 1; part = p; worked = true; note = a_note; reach = reach }) most g old new all
call_done others calms nexts passes bounds keeps g p first ps went most pc a_note reach old mid after new got all has mid_is worked alone by_note ended emitted_lines few =
    let s : PartitionState = gone_to went g p first ps in
    let same : (run g went).system ≡ g.system = (keeps g went).system in
    let below : p < length (run g went).parts = omega (arith, (keeps g went).parts, has.there) in
    let its_mid : mid ≡ with_machine (with_part p (turned_to g.system p s) (run g went)) old =
    turned_after others nexts g p first ps (turned_to g.system p s) went old mid has.is has.gone has.state mid_is in
    let came : (settled (areas_of (view_of (run g went).system p)) s.core s.memory).turn ≡ Call =
    subst (λ (x : System). (settled (areas_of (view_of x p)) s.core s.memory).turn ≡ Call) (sym same) has.came in
    let next : IsNextTick g went (gone_parts went g p first ps) p (first_after went first) (next_instruction (run g went) p s) = nexts g p first ps went has.is has.gone in
    let at = at_next g p first ps went (next_instruction (run g went) p s) has.is next in
    let turned_is = ap (λ (x : System). turned_to x p s) (sym same) in
    let work = call_work (run g went) p pc (first_after went first) (its_before went ps s) s (turned_to g.system p s) old mid below its_mid at came turned_is has.at in
    let noted : IsNoted (run g went) p (next_instruction (run g went) p s) a_note = record {
      traffic = subst (λ (w : Worked). traffic_in (run g went) p w.act ≡ traffic_by p a_note w.after.memory) work
          (sym (ap (λ (x : SysState). traffic_in x.machine p (called (caller_at p pc (part_at p mid.machine).core.pc mid)).act) its_mid) ∙ by_note.traffic);
      seen = call_sight (run g went) p pc (part_at p mid.machine).core.pc (first_after went first) (its_before went ps s) s (turned_to g.system p s) old mid below its_mid at came turned_is
          ∙ by_note.seen ∙ ap (λ (w : Worked). sight_by a_note w.after.memory) work;
    } in
    next_done keeps bounds calms nexts passes g p first ps went most a_note reach old after new got all has.is has.gone has.there has.fewer noted
    (worked_on p (turned_to g.system p s) _ (next_instruction (run g went) p s) a_note reach (run g went) old mid after got its_mid
    work worked)
    alone ended emitted_lines few

-- a tick in which an interrupt is delivered
pub deliver_done : MetTick → TickInPasses → ActsWithinBounds → RunsKeepNumbers
    → (g : Machine) (p : ℕ) (first : Bool) (ps : PartitionState) (most n : ℕ) (old after new : SysState) (got all : List ReportLine) (span : Span)
    → HasMetInterrupts g p first ps most old → 0 < most → (part_at p old.machine).traps.enabled ≡ true → due (part_at p old.machine).traps ≡ Some n
    → IsTickWorked p (interrupt_delivered (view_of old.machine.system p) old.machine.time n (clocked (part_at p old.machine))) note.Nothing beyond.Nothing old after got
    → new ≡ with_machine (ended_by (act_beyond beyond.Nothing) p after.machine) after → all ≡ got ++ ending_lines (act_beyond beyond.Nothing) after.machine → length all ≤ 40
    → span ≡ quiet_span 1 p true beyond.Nothing → AreDoneFrom span most g old new all
deliver_done meets passes bounds keeps g p first ps most n old after new got all span is some enabled waits worked ended emitted_lines few span_is =
    let part : part_at p old.machine ≡ met g first ps = ap (λ (x : SysState). part_at p x.machine) is.met ∙ get_or-set_same g.parts p (met g first ps) (booted_part g.system p) is.there in
    let on : (met g first ps).traps.enabled ≡ true = sym (ap (λ (x : PartitionState). x.traps.enabled) part) ∙ enabled in
    let first_due : due (met g first ps).traps ≡ Some n = sym (ap (λ (x : PartitionState). due x.traps) part) ∙ waits in
    let work : interrupt_delivered (view_of old.machine.system p) old.machine.time n (clocked (part_at p old.machine)) ≡ next_work g p (met g first ps) =
    ap (λ (x : SysState). interrupt_delivered (view_of x.machine.system p) x.machine.time n (clocked (part_at p old.machine))) is.met
    ∙ ap (λ (x : PartitionState). interrupt_delivered (view_of g.system p) g.time n (clocked x)) part
    ∙ sym (ap (λ (b : Bool). delivered_or_executed (Some n) b (view_of g.system p) (copies g p) g.time (sight g p) (met g first ps)) on)
    ∙ sym (ap (λ o. delivered_or_executed o (met g first ps).traps.enabled (view_of g.system p) (copies g p) g.time (sight g p) (met g first ps)) first_due) in
    let noted : IsNoted g p (next_work g p (met g first ps)) note.Nothing = record {
      traffic = ap (λ (w : Worked). traffic_in g p w.act) (sym work)
          ∙ ap (λ (act : Act). traffic_in g p act) (interrupt_act (view_of old.machine.system p) old.machine.time n (clocked (part_at p old.machine)));
      seen = delivered_unseen g p first ps n is.goes.slot.turn is.goes.slot.there first_due on;
    } in
    subst (λ (x : Span). AreDoneFrom x most g old new all) (sym span_is)
    (met_done keeps bounds meets passes g p first ps most note.Nothing beyond.Nothing old after new got all is.running is.goes is.there some noted
    (worked_on p (met g first ps) _ (next_work g p (met g first ps)) note.Nothing beyond.Nothing g old old after got is.met work worked)
    tt ended emitted_lines few)

-- where the partition goes on stays
pub next_stays : (p : ℕ) (old mid : SysState) → part_at p mid.machine ≡ part_at p old.machine
    → (part_at p old.machine).core.npc ≡ ((part_at p old.machine).core.pc + 4) % 2 ^ 32 → (part_at p mid.machine).core.npc ≡ ((part_at p mid.machine).core.pc + 4) % 2 ^ 32
next_stays p old mid same next = subst (λ (x : PartitionState). x.core.npc ≡ (x.core.pc + 4) % 2 ^ 32) (sym same) next
