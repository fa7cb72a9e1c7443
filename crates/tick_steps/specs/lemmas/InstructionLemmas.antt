-- An instruction that trapped or called: its work, as the system after it has it.
use Rattle.std.proofs.Common.{◌≡◌, ℕ, ◌<◌, Bool, List, ◌++◌, length, map, Option, Some, refl, sym, ap, subst, ◌∙◌}
use Rattle.std.proofs.lemmas.List.{get_or-set_same, length-set, set-set}
use Rattle.health_monitor.specs.Monitor.{action_in, effect_of, event_of_type}
use Rattle.health_monitor.specs.declared.effects.Whole.{Whole}
use Rattle.health_monitor.specs.declared.effects.Whole.TheVariants as whole
use Rattle.system_state.specs.Serving.{CanBeEmitted, caller_at}
use Rattle.system_state.specs.State.{SysState, areas_in, part_at, with_machine}
use Rattle.system_state.specs.declared.served.Note.{Note}
use Rattle.sparc_step.specs.declared.outcome.Turn.{Turn}
use Rattle.sparc_step.specs.declared.outcome.Turn.TheVariants.{Trap, Call}
use Rattle.virt_traps.specs.Settled.{settled}
use Rattle.xm_conf.specs.declared.health.Event.{Event}
use Rattle.xm_report.specs.Report.{ReportLine}
use Rattle.machine_model.specs.Caller.{Caller}
use Rattle.machine_model.specs.Health.{Worked, answered_by, done_to_all, event_handled}
use Rattle.machine_model.specs.LocalTick.{by_turn, called, clocked, executed_in_tick, turned_state}
use Rattle.machine_model.specs.Machine.{Machine, booted_part, copies, sight, sight_for}
use Rattle.machine_model.specs.Observed.{observed_by}
use Rattle.machine_model.specs.Partition.{PartitionState, areas_of}
use Rattle.machine_model.specs.Emission.{OwnStill, Sight, Unseen, line_of}
use Rattle.machine_model.specs.Traffic.{traffic_of}
use Rattle.machine_model.specs.View.{PartitionView, view_of}
use Rattle.span_model.specs.Passes.{traded, traffic_in, with_part}
use Rattle.span_model.specs.Undisturbed.{next_instruction}
use Rattle.tick_steps.specs.lemmas.GoesOnLemmas.{call_goes_on}
use Rattle.tick_steps.specs.Work.{ReachIsUponOne, IsTickWorked, console_emissions}
use Rattle.tick_steps.specs.declared.beyond.Beyond.{Beyond}
use Rattle.tick_steps.specs.lemmas.SightLemmas.{sight_is, trap_unseen}
use Rattle.tick_steps.specs.lemmas.SlotLemmas.{StandsInSlot}
use Rattle.tick_steps.specs.lemmas.ReachLemmas.{one_before}

-- the work of an instruction that trapped
pub trap_work : (m : Machine) (p type pc : ℕ) (s new : PartitionState) (old mid : SysState) → p < length m.parts → mid ≡ with_machine (with_part p new m) old
    → (settled (areas_of (view_of m.system p)) s.core s.memory).turn ≡ Trap type → new ≡ turned_state (settled (areas_of (view_of m.system p)) s.core s.memory) s → pc ≡ s.core.pc
    → event_handled (view_of mid.machine.system p) mid.machine.time (event_of_type type) pc (Some type) (clocked (part_at p mid.machine)) ≡ next_instruction m p s
unfolding executed_in_tick
trap_work m p type pc s new old mid below is traps new_is pc_is =
    ap (λ (x : SysState). event_handled (view_of x.machine.system p) x.machine.time (event_of_type type) pc (Some type) (clocked (part_at p x.machine))) is
    ∙ ap (λ (x : PartitionState). event_handled (view_of m.system p) m.time (event_of_type type) pc (Some type) (clocked x)) (get_or-set_same m.parts p new (booted_part m.system p) below ∙ new_is)
    ∙ ap (λ (at : ℕ). event_handled (view_of m.system p) m.time (event_of_type type) at (Some type) (clocked (turned_state (settled (areas_of (view_of m.system p)) s.core s.memory) s))) pc_is
    ∙ sym (ap (λ (t : Turn). by_turn t (view_of m.system p) (copies m p) m.time (sight m p) s (turned_state (settled (areas_of (view_of m.system p)) s.core s.memory) s)) traps)

-- partition p of a machine as it calls
abbrev calls_so : Machine → ℕ → PartitionState → Sight → ℕ → ℕ → Caller
calls_so m p state seen pc npc = record { view = view_of m.system p; state = state; contents = copies m p; time = m.time; sight = seen; pc = pc; npc = npc }

-- the caller after the instruction
caller_is : (m : Machine) (p pc npc : ℕ) (new : PartitionState) (old : SysState) → p < length m.parts
    → caller_at p pc npc (with_machine (with_part p new m) old)
    ≡ calls_so m p new (sight_for (with_part p new m) (view_of m.system p) (observed_by (view_of m.system p) new.core)) pc npc
unfolding caller_at copies
caller_is m p pc npc new old below =
    ap (λ (x : PartitionState). calls_so m p x (sight_for (with_part p new m) (view_of m.system p) (observed_by (view_of m.system p) x.core)) pc npc)
    (get_or-set_same m.parts p new (booted_part m.system p) below)

-- what it is shown is what it was shown when the tick began
sight_so : (m : Machine) (p : ℕ) (first : Bool) (ps s new : PartitionState) → StandsInSlot m p first ps s
    → (settled (areas_of (view_of m.system p)) s.core s.memory).turn ≡ Call → new ≡ turned_state (settled (areas_of (view_of m.system p)) s.core s.memory) s
    → sight m p ≡ sight_for (with_part p new m) (view_of m.system p) (observed_by (view_of m.system p) new.core)
sight_so m p first ps s new at calls new_is =
    sight_is m p first ps new s.core s.memory at.turn at.there at.wakes at.undelivered (ap (λ (x : PartitionState). x.core) at.met) (ap (λ (x : PartitionState). x.memory) at.met) calls
    ∙ ap (λ (x : PartitionState). sight_for (with_part p new m) (view_of m.system p) (observed_by (view_of m.system p) x.core)) (sym new_is)

pub call_sight : (m : Machine) (p pc npc : ℕ) (first : Bool) (ps s new : PartitionState) (old mid : SysState) → p < length m.parts → mid ≡ with_machine (with_part p new m) old
    → StandsInSlot m p first ps s → (settled (areas_of (view_of m.system p)) s.core s.memory).turn ≡ Call
    → new ≡ turned_state (settled (areas_of (view_of m.system p)) s.core s.memory) s → sight m p ≡ (caller_at p pc npc mid).sight
call_sight m p pc npc first ps s new old mid below is at calls new_is =
    sight_so m p first ps s new at calls new_is
    ∙ sym (ap (λ (x : SysState). (caller_at p pc npc x).sight) is ∙ ap (λ (c : Caller). c.sight) (caller_is m p pc npc new old below))

-- what a trap is shown, and its traffic: none
pub trap_sight : (m : Machine) (p type : ℕ) (first : Bool) (ps s : PartitionState) → StandsInSlot m p first ps s → (settled (areas_of (view_of m.system p)) s.core s.memory).turn ≡ Trap type
    → sight m p ≡ Unseen
trap_sight m p type first ps s at traps =
    trap_unseen m p first ps s.core s.memory type at.turn at.there (ap (λ (x : PartitionState). x.core) at.met) (ap (λ (x : PartitionState). x.memory) at.met) traps

still_whole : (event : Whole) → traffic_of (done_to_all event) ≡ OwnStill
still_whole whole.Nothing = refl
still_whole (whole.Reset mode) = refl
still_whole whole.Halt = refl
still_whole whole.Maintenance = refl

pub handled_still : (view : PartitionView) (time : ℕ) (event : Event) (word : ℕ) (type : Option ℕ) (ps : PartitionState) → traffic_of (event_handled view time event word type ps).act ≡ OwnStill
unfolding event_handled answered_by
handled_still view time event word type ps = still_whole (effect_of (action_in view.part.hm event) ps.traps.enabled).whole

-- the work of an instruction that called
pub call_work : (m : Machine) (p pc : ℕ) (first : Bool) (ps s new : PartitionState) (old mid : SysState) → p < length m.parts → mid ≡ with_machine (with_part p new m) old → StandsInSlot m p first ps s
    → (settled (areas_of (view_of m.system p)) s.core s.memory).turn ≡ Call → new ≡ turned_state (settled (areas_of (view_of m.system p)) s.core s.memory) s → pc ≡ s.core.pc
    → called (caller_at p pc (part_at p mid.machine).core.pc mid) ≡ next_instruction m p s
unfolding executed_in_tick
call_work m p pc first ps s new old mid below is at calls new_is pc_is =
    ap (λ (x : SysState). called (caller_at p pc (part_at p x.machine).core.pc x)) is
    ∙ ap called (caller_is m p pc (part_at p (with_part p new m)).core.pc new old below)
    ∙ ap (λ (seen : Sight). called (calls_so m p new seen pc (part_at p (with_part p new m)).core.pc)) (sym (sight_so m p first ps s new at calls new_is))
    ∙ ap (λ (npc : ℕ). called (calls_so m p new (sight m p) pc npc)) goes
    ∙ ap (λ (a : ℕ). called (calls_so m p new (sight m p) a s.core.npc)) pc_is
    ∙ ap (λ (x : PartitionState). called (calls_so m p x (sight m p) s.core.pc s.core.npc)) new_is
    ∙ sym (ap (λ (t : Turn). by_turn t (view_of m.system p) (copies m p) m.time (sight m p) s (turned_state (settled (areas_of (view_of m.system p)) s.core s.memory) s)) calls)
  where
    goes : (part_at p (with_part p new m)).core.pc ≡ s.core.npc
    goes =
        ap (λ (x : PartitionState). x.core.pc) (get_or-set_same m.parts p new (booted_part m.system p) below ∙ new_is)
        ∙ (call_goes_on (areas_of (view_of m.system p)) s.core s.memory calls).0

-- work on a system in which the partition's own state was changed before is work on the system as it was
pub worked_on : (p : ℕ) (new : PartitionState) (work same : Worked) (a_note : Note) (reach : Beyond) (m : Machine) (old mid after : SysState) (got : List ReportLine)
    → mid ≡ with_machine (with_part p new m) old → work ≡ same → IsTickWorked p work a_note reach mid after got → IsTickWorked p same a_note reach (with_machine m old) after got
worked_on p new work same a_note reach m old mid after got is work_is worked =
    subst (λ (w : Worked). IsTickWorked p w a_note reach (with_machine m old) after got) work_is (record {
      state = worked.state
          ∙ ap (λ (x : SysState). with_machine (traded (traffic_in x.machine p work.act) (with_part p work.after x.machine)) x) is
          ∙ ap (λ (parts : List PartitionState). with_machine (traded (traffic_in m p work.act) (record m { parts = parts })) old) (set-set m.parts p new work.after);
      lines = subst (λ (x : SysState). map (line_of x.machine.ticks p) work.emitted ≡ map (line_of x.machine.ticks p) (console_emissions a_note work.after.memory) ++ got) is worked.lines;
      act = worked.act;
      readable = subst (λ (x : SysState). CanBeEmitted a_note (areas_in p x.machine)) is worked.readable;
      one = one_before reach (with_part p new m) m (length-set m.parts p new) (subst (λ (x : SysState). ReachIsUponOne reach x.machine) is worked.one);
    })
