-- The end of a tick of one partition in isolation in which it received nothing but that a slot of its own runs.
use Rattle.std.proofs.Common.{◌≡◌, ℕ, ◌+◌, ◌<◌, ◌≤◌, Bool, false, true, List, ◌++◌, length, Option, None, Some, refl, sym, ap, ◌∙◌, subst, arith}
use Rattle.std.specs.Prelude.{◌%◌, ◌^◌, if◌then◌else◌, IfSome}
use Rattle.std.proofs.lemmas.List.{length-set}
use Rattle.health_monitor.specs.Monitor.{event_of_type}
use Rattle.sparc_step.specs.declared.outcome.Turn.{Turn}
use Rattle.sparc_step.specs.declared.outcome.Turn.TheVariants.{Call, Trap}
use Rattle.virt_traps.specs.Settled.{GoesOn}
use Rattle.xm_report.specs.Report.{ReportLine}
use Rattle.xm_conf.specs.Configuration.{Conf}
use Rattle.cue_scripts.specs.Entries.{bare_cue}
use Rattle.cue_scripts.specs.Script.{IsCue}
use Rattle.machine_model.specs.Facts.{KeepsFactsAlone}
use Rattle.machine_model.specs.Health.{Worked, event_handled}
use Rattle.machine_model.specs.Laws.{ActsWithinBounds}
use Rattle.machine_model.specs.LocalTick.{by_turn, called, clocked}
use Rattle.machine_model.specs.Machine.{Machine, copies}
use Rattle.machine_model.specs.Observed.{Observation, if_call, observed_by}
use Rattle.machine_model.specs.Partition.{PartitionState, takes_turns}
use Rattle.machine_model.specs.Emission.{NoEvent, Unseen, WholeEvent}
use Rattle.machine_model.specs.View.{view_of}
use Rattle.machine_model.specs.Whole.{event_lines, event_of}
use Rattle.span_model.specs.Passes.{part_at, traded, traffic_in, with_part}
use Rattle.system_state.specs.Serving.{caller_at}
use Rattle.system_state.specs.State.{SysState, areas_in, memory_of, with_machine}
use Rattle.system_state.specs.lemmas.StateLemmas.{part_set}
use Rattle.system_state.specs.declared.served.Note.{Note}
use Rattle.replay_model.specs.Kept.{PassesKeep}
use Rattle.replay_model.specs.Laws.{WorkingTicks}
use Rattle.replay_model.specs.Passes.{event_met, tick_past}
use Rattle.replay_model.specs.Taking.{is_same_event}
use Rattle.replay_model.specs.TakingLaws.{TakesWorking}
use Rattle.tick_steps.specs.lemmas.SpanTerms.{CanTake}
use Rattle.tick_steps.specs.Work.{act_beyond}
use Rattle.replay_tick.specs.lemmas.LoneSpanTerms.{CanEnd, HasTurnedAlone, HasWorked}
use Rattle.replay_tick.specs.lemmas.LoneWorkTerms.{IsLoneDone, IsLoneTickEnded, IsLoneWork}
use Rattle.replay_tick.specs.LoneWork.{most_lines}
use Rattle.replay_tick.specs.declared.work.LoneWork.{LoneWork}
use Rattle.tick_steps.specs.lemmas.GoesOnLemmas.{call_goes_on}
use Rattle.replay_tick.proofs.LoneTurnLemmas.{IsTurn, can_take, frame_traded, not_seen, turn_machine, turn_noted, turn_system, undone_machine, undone_system}
use Rattle.replay_tick.proofs.LoneWorkLemmas.{call_as, lone_as, observed_as, trap_as, turned_work, uncounted_takes}
use Rattle.replay_tick.proofs.PutLemmas.{IsTraded, is_traded}
use Rattle.replay_tick.proofs.StillLemmas.{ready_call, ready_work}

-- it is a turn of the partition
is_turn : (p : ℕ) (work : Option LoneWork) (before now : SysState) (got : List ReportLine) → HasWorked p work before now got → IsTurn p false (bare_cue true) before
unfolding bare_cue
is_turn p work before now got is = record {
  machine = is.machine;
  below = is.partition;
  running = is.running;
  more = is.more;
  own = refl;
  alone = (refl, refl);
  turns = is.turns;
}

-- work that was done
pub work_ended : WorkingTicks → TakesWorking → PassesKeep → ActsWithinBounds → KeepsFactsAlone → (p : ℕ) (work : LoneWork) (event : WholeEvent) (before mid new : SysState) (had got : List ReportLine) (emitted : Option Note) (same : Bool)
    → HasWorked p (Some work) before mid had → event ≡ event_of (act_beyond work.reach) → new ≡ with_machine (tick_past event (event_met p event mid.machine)) mid
    → got ≡ had ++ event_lines mid.machine.ticks event p → same ≡ is_same_event event NoEvent → emitted ≡ (if same then Some work.note else None) → length got ≤ most_lines → IsLoneTickEnded emitted p (bare_cue true) before new got
unfolding bare_cue
work_ended ticks takes keeps bounds facts p work event before mid new had got emitted same is event_is new_is got_is same_is note_is few =
    let turn : IsTurn p false (bare_cue true) before = is_turn p (Some work) before mid had is in
    record {
      tick = turn_noted ticks takes keeps bounds facts p false (bare_cue true) work event before mid new had got turn is.work.0 is.work.1 event_is new_is got_is emitted same same_is note_is few;
      machine = turn_machine ticks takes keeps bounds facts p false (bare_cue true) work event before mid new had got turn is.work.0 is.work.1 event_is new_is got_is;
      system = turn_system ticks takes keeps bounds facts p false (bare_cue true) work event before mid new had got turn is.work.0 is.work.1 event_is new_is got_is;
    }

-- work that was not
pub work_missed : TakesWorking → ActsWithinBounds → (p : ℕ) (before now : SysState) (got more : List ReportLine) → HasWorked p None before now got → IsLoneTickEnded None p (bare_cue true) before now more
unfolding bare_cue
work_missed takes bounds p before now got more is = record {
  tick = not_seen takes bounds p false (bare_cue true) before (is_turn p None before now got is) is.work.0;
  machine = undone_machine p before now is.machine is.partition is.work.1;
  system = undone_system p before now is.work.1;
}

-- the work of an instruction with this turn
pub turn_worked : (p : ℕ) (turn : Turn) (pc : ℕ) (work : Option LoneWork) (asked : Option Observation) (w : Worked) (before now new : SysState) (got : List ReportLine) → HasTurnedAlone p turn pc before now
    → asked ≡ if_call turn (view_of before.machine.system p) (part_at p now.machine).core
    → w ≡ by_turn turn (view_of before.machine.system p) (copies before.machine p) before.machine.time Unseen (part_at p before.machine) (part_at p now.machine)
    → IsLoneWork work p asked Unseen w now new got → HasWorked p work before new got
turn_worked p turn pc work asked w before now new got is asked_is w_is given = record {
  machine = is.machine;
  partition = is.partition;
  running = is.running;
  more = is.more;
  turns = ap takes_turns is.ready;
  work = lone_as p work _ _ Unseen _ _ before new got
      (sym (ready_call (view_of before.machine.system p) before.machine.time (part_at p before.machine) is.met is.ready is.undelivered))
      (sym (ready_work (view_of before.machine.system p) (copies before.machine p) before.machine.time (part_at p before.machine) is.met is.ready is.undelivered))
      (turned_work p turn work asked Unseen w before now new got is.partition is.came is.state asked_is w_is given);
}

pub trap_worked : (p type pc : ℕ) (work : Option LoneWork) (before now new : SysState) (got : List ReportLine) → HasTurnedAlone p (Trap type) pc before now
    → IsLoneWork work p None Unseen (event_handled (view_of now.machine.system p) now.machine.time (event_of_type type) pc (Some type) (clocked (part_at p now.machine))) now new got
    → HasWorked p work before new got
trap_worked p type pc work before now new got is given =
    turn_worked p (Trap type) pc work None _ before now new got is refl (trap_as p type pc _ Unseen before now is.state is.at) given

pub call_worked : (p pc npc : ℕ) (work : Option LoneWork) (before now new : SysState) (got : List ReportLine) → HasTurnedAlone p Call pc before now → npc ≡ (part_at p before.machine).core.npc
    → IsLoneWork work p (observed_by (view_of now.machine.system p) (part_at p now.machine).core) Unseen (called (record (caller_at p pc npc now) { sight = Unseen })) now new got
    → HasWorked p work before new got
call_worked p pc npc work before now new got is npc_is given =
    turn_worked p Call pc work _ _ before now new got is (observed_as p _ before now is.state) (call_as p pc npc _ Unseen before now is.state is.at npc_is) given

-- what the tick needs
pub turned_takes : (p : ℕ) (turn : Turn) (pc : ℕ) (before now : SysState) → HasTurnedAlone p turn pc before now → CanTake p 1 now
turned_takes p turn pc before now is =
    uncounted_takes p _ before now (can_take p before is.machine is.partition is.running is.more) is.state (record { traces = refl; health = refl; execution = refl; inputs = refl; made = refl; awake = refl })

-- after an instruction that called the program goes on
pub call_next : (p pc : ℕ) (before now : SysState) → HasTurnedAlone p Call pc before now → GoesOn (part_at p before.machine).core (part_at p now.machine).core
call_next p pc before now is =
    subst (λ (x : PartitionState). GoesOn (part_at p before.machine).core x.core) (sym (part_set before now p _ is.partition is.state))
    (call_goes_on (areas_in p before.machine) (part_at p before.machine).core (memory_of p before.machine) (sym is.came))

-- and so it can be served
pub call_serves : (p pc : ℕ) (before now : SysState) → HasTurnedAlone p Call pc before now → (part_at p now.machine).core.npc ≡ ((part_at p now.machine).core.pc + 4) % 2 ^ 32
call_serves p pc before now is =
    let goes : GoesOn (part_at p before.machine).core (part_at p now.machine).core = call_next p pc before now is in
    goes.1 ∙ ap (λ n. (n + 4) % 2 ^ 32) (sym goes.0)

-- the end of a tick whose work was done
pub work_can_end : (p : ℕ) (w : Worked) (work : LoneWork) (old mid : SysState) (got : List ReportLine) → CanTake p 1 old → IsLoneDone p w work old mid got → CanEnd p mid got
work_can_end p w work old mid got can done =
    let h : Machine = traded (traffic_in old.machine p w.act) (with_part p w.after old.machine) in
    let keeps : IsTraded (with_part p w.after old.machine) h = is_traded (traffic_in old.machine p w.act) (with_part p w.after old.machine) in
    let time : h.time ≡ old.machine.time = keeps.time in
    let ticks : h.ticks ≡ old.machine.ticks = keeps.ticks in
    subst (λ (s : SysState). CanEnd p s got) (sym done.state) (record {
      partition = subst (λ (n : ℕ). p < n) (sym (keeps.parts ∙ length-set old.machine.parts p w.after)) can.partition;
      time = omega (arith, time, can.timed, can.few);
      ticks = omega (arith, ticks, can.few);
      frame = frame_traded (with_part p w.after old.machine) h keeps can.frame;
      room = omega (arith, done.few);
    })

pub can_end_if : (p : ℕ) (work : Option LoneWork) (asked : Option Observation) (w : Worked) (old mid : SysState) (got : List ReportLine) → CanTake p 1 old → IsLoneWork work p asked Unseen w old mid got
    → IfSome work (λ done. CanEnd p mid got)
can_end_if p (Some work) asked w old mid got can is = work_can_end p w work old mid got can is.1
can_end_if p None asked w old mid got can is = tt

-- a cue with nothing but that a slot of the partition's own runs is one that it may get
pub plain_cue : (conf : Conf) (p : ℕ) → IsCue conf p (bare_cue true)
unfolding bare_cue
plain_cue conf p = record { traffic = tt; order = tt; alone = (refl, refl); seen = tt }
