-- A call that is served: what it is shown, its outcome, and a change of its caller before it.
use Rattle.std.proofs.Common.{◌≡◌, ℕ, ◌<◌, List, [], length, refl, sym, ap, ◌∙◌, subst}
use Rattle.std.proofs.lemmas.List.{length-set, set-set}
use Rattle.guest_bus.specs.Memory.{Memory}
use Rattle.machine_model.specs.Caller.{Served, with_answer}
use Rattle.machine_model.specs.Partition as model
use Rattle.machine_model.specs.Partition.{PartitionState}
use Rattle.machine_model.specs.Emission.{OwnStill, OwnTraffic, Sight, Unseen}
use Rattle.machine_model.specs.Traffic.{Still, traffic_as}
use Rattle.machine_model.specs.View.{PartitionView, view_of}
use Rattle.sparc_step.specs.Registers.{Registers}
use Rattle.span_model.specs.Passes.{part_at, traded, with_part}
use Rattle.system_state.specs.lemmas.StateLemmas.{part_set}
use Rattle.system_state.specs.Serving.{AreAsked, IsCaller, IsEntered, IsServed, IsUponOne, caller_of, own_traffic, sight_by, emissions_by, traffic_by}
use Rattle.system_state.specs.State.{SysState, areas_in, with_machine}
use Rattle.system_state.specs.declared.call_site.CallSite.{CallSite}
use Rattle.system_state.specs.declared.served.Act.{Act}
use Rattle.system_state.specs.declared.served.Act.TheVariants as act
use Rattle.system_state.specs.declared.served.Note.{Note}
use Rattle.system_state.specs.declared.served.Note.TheVariants as note
use Rattle.xm_traces.specs.Ring.{Kept}
use Rattle.xm_traces.specs.declared.entry.TraceEntry.{TraceEntry}
use Rattle.system_state.specs.declared.served.Served as code

-- a call that is shown this has the outcome that is stated
pub served_as : {p : ℕ} {sight shown : Sight} {s stated : Served} {answer : code.Served} {old new : SysState} → sight ≡ shown → stated ≡ s → IsServed p shown s answer old new
    → IsServed p sight stated answer old new
served_as sees is served = rw (sees, is) served

-- an order on a partition that there is in a system with as many
upon_before : (act : Act) (old mid : SysState) → length mid.machine.parts ≡ length old.machine.parts → IsUponOne act mid → IsUponOne act old
upon_before act.Nothing old mid same one = tt
upon_before (act.Upon id order) old mid same one = subst (λ (count : ℕ). id < count) same one
upon_before (act.Ask plan) old mid same one = tt
upon_before (act.Whole event) old mid same one = tt
upon_before (act.Event event word) old mid same one = tt

-- a note that reports nothing names no bytes and has no entry
still_asked : (p : ℕ) (a_note : Note) (memory : Memory) (view : PartitionView) (core : Registers)
    → emissions_by a_note memory ≡ [] → traffic_by p a_note memory ≡ Still → sight_by a_note memory ≡ Unseen → AreAsked a_note view core
still_asked p note.Nothing memory view core emitted still unseen = tt
still_asked p (note.Console at size) memory view core emitted still unseen = absurd cc
still_asked p (note.Trace entry) memory view core emitted still unseen = tt
still_asked p (note.Put chan at size) memory view core emitted still unseen = absurd cc
still_asked p (note.Take chan) memory view core emitted still unseen = tt
still_asked p (note.Saw at size) memory view core emitted still unseen = absurd cc
still_asked p note.NotKept memory view core emitted still unseen = tt
still_asked p (note.Signal number) memory view core emitted still unseen = tt

still_entered : (a_note : Note) (memory : Memory) (before after : Kept TraceEntry) → emissions_by a_note memory ≡ [] → IsEntered a_note before after
still_entered note.Nothing memory before after emitted = tt
still_entered (note.Console at size) memory before after emitted = tt
still_entered (note.Trace entry) memory before after emitted = absurd cc
still_entered (note.Put chan at size) memory before after emitted = tt
still_entered (note.Take chan) memory before after emitted = tt
still_entered (note.Saw at size) memory before after emitted = tt
still_entered note.NotKept memory before after emitted = tt
still_entered (note.Signal number) memory before after emitted = tt

-- a call that reports nothing, served after a change of its caller alone, is served as a whole
served_after : (p : ℕ) (s : Served) (answer : code.Served) (old mid new : SysState) (ps : PartitionState) → s.emitted ≡ [] → own_traffic s.upshot ≡ OwnStill
    → mid ≡ with_machine (with_part p ps old.machine) old → IsServed p Unseen s answer mid new → IsServed p Unseen s answer old new
served_after p s answer old mid new ps quiet still changed served =
    subst (λ (m : SysState). IsServed p Unseen s answer m new → IsServed p Unseen s answer old new) (sym changed)
    (λ later. record {
      state = later.state ∙ ap (λ (parts : List PartitionState). with_machine (traded (traffic_by p answer.note s.after.memory) (record old.machine { parts = parts })) old) (set-set old.machine.parts p ps s.after);
      emitted = later.emitted;
      upshot = later.upshot;
      traffic = later.traffic;
      seen = later.seen;
      readable = later.readable;
      one = upon_before answer.act old (with_machine (with_part p ps old.machine) old) (length-set old.machine.parts p ps) later.one;
      asked = still_asked p answer.note s.after.memory (view_of old.machine.system p) (part_at p old.machine).core (sym later.emitted ∙ quiet)
          (sym later.traffic ∙ ap (λ (own : OwnTraffic). traffic_as old.machine.system.conf p own) still) (sym later.seen);
      entered = still_entered answer.note s.after.memory (part_at p old.machine).traces s.after.traces (sym later.emitted ∙ quiet);
      event = later.event;
    }) served

-- the caller's state after that change
changed_state : (site : CallSite) (old mid : SysState) (ps : PartitionState) → IsCaller site old → mid ≡ with_machine (with_part site.part ps old.machine) old → (caller_of site mid).state ≡ ps
unfolding caller_of
changed_state site old mid ps caller changed = part_set old mid site.part ps caller changed

-- the outcome of such a call, as a function of the state that it finds
pub served_changed : (site : CallSite) (old mid new : SysState) (ps : PartitionState) (answer : code.Served) (f : PartitionState → Served) → (f ps).emitted ≡ [] → own_traffic (f ps).upshot ≡ OwnStill → IsCaller site old
    → mid ≡ with_machine (with_part site.part ps old.machine) old → IsServed site.part Unseen (f (caller_of site mid).state) answer mid new → IsServed site.part Unseen (f ps) answer old new
served_changed site old mid new ps answer f quiet still caller changed served =
    served_after site.part (f ps) answer old mid new ps quiet still changed
    (subst (λ (state : PartitionState). IsServed site.part Unseen (f state) answer mid new) (changed_state site old mid ps caller changed) served)

-- the areas of its memory
pub areas_seen : (site : CallSite) (sys : SysState) → model.areas_of (caller_of site sys).view ≡ areas_in site.part sys.machine
unfolding caller_of view_of model.areas_of
areas_seen site sys = refl

-- a partition's state that is set, and then answered
pub answered_set : (sys mid new : SysState) (p value : ℕ) (ps : PartitionState) → p < length sys.machine.parts → mid ≡ with_machine (with_part p ps sys.machine) sys
    → new ≡ with_machine (with_part p (with_answer value (part_at p mid.machine)) mid.machine) mid → new ≡ with_machine (with_part p (with_answer value ps) sys.machine) sys
answered_set sys mid new p value ps below mid_is new_is =
    new_is
    ∙ ap (λ (x : PartitionState). with_machine (with_part p (with_answer value x) mid.machine) mid) (part_set sys mid p ps below mid_is)
    ∙ ap (λ (s : SysState). with_machine (with_part p (with_answer value ps) s.machine) s) mid_is
    ∙ ap (λ (parts : List PartitionState). with_machine (record sys.machine { parts = parts }) sys) (set-set sys.machine.parts p ps (with_answer value ps))
