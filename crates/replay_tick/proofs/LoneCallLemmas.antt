-- A hypercall of one partition in isolation.
use Rattle.std.proofs.Common.{◌≡◌, ◌⊎◌, inl, inr, ℕ, ◌+◌, ◌<◌, ◌≤◌, true, false, List, [], ◌++◌, length, map, Option, None, Some, refl, sym, ap, subst, ◌∙◌, arith}
use Rattle.std.specs.Prelude.{◌^◌}
use Rattle.std.proofs.lemmas.Option.{same_Some}
use Rattle.system_state.specs.Serving.{caller_at, caller_of}
use Rattle.system_state.specs.State.{SysState, with_machine}
use Rattle.system_state.specs.lemmas.StateLemmas.{part_set}
use Rattle.system_state.specs.declared.call_site.CallSite.{CallSite}
use Rattle.system_state.specs.declared.served.Note.TheVariants as note
use Rattle.machine_model.specs.Caller.{Acts, Caller, Served, Upshot, with_answer, with_written}
use Rattle.machine_model.specs.Health.{Worked}
use Rattle.machine_model.specs.Hypercalls.{served}
use Rattle.machine_model.specs.Laws.{ObservesAsTested}
use Rattle.machine_model.specs.LocalTick.{by_upshot, called, clocked}
use Rattle.machine_model.specs.Machine.{copies}
use Rattle.machine_model.specs.Observed.{Observation, observed_by}
use Rattle.machine_model.specs.Partition.{PartitionState}
use Rattle.machine_model.specs.Emission as emission
use Rattle.machine_model.specs.Emission.{NoEvent, NotKept, OwnStill, OwnTraffic, Sight, Emission, Unseen, Words, line_of}
use Rattle.machine_model.specs.Traffic.{traffic_as, traffic_of}
use Rattle.machine_model.specs.View.{PartitionView, view_of}
use Rattle.machine_model.specs.Whole.{event_of}
use Rattle.span_model.specs.Passes.{part_at, traded, with_part}
use Rattle.replay_model.specs.Taking.{asks_entry, takes_sight}
use Rattle.tick_steps.specs.lemmas.SpanTerms.{CanTake}
use Rattle.replay_tick.specs.lemmas.LoneWorkTerms.{IsLoneDone, IsLoneWork, IsWorkUndone, asked_of, shown_state, shows_this}
use Rattle.tick_steps.specs.declared.beyond.Beyond.TheVariants as beyond
use Rattle.replay_tick.specs.declared.call.Asked.{Asked}
use Rattle.replay_tick.proofs.LoneWorkLemmas.{undone_same}
use Rattle.replay_tick.proofs.ObservingLemmas.{IsMild, served_observed, shown_after}
use Rattle.replay_tick.proofs.PutLemmas.{put_then}

-- the caller at a site is the one at its program counters
pub site_calls : (site : CallSite) (seen : Sight) (sys : SysState) → site.npc ≡ (part_at site.part sys.machine).core.pc
    → called (record (caller_of site sys) { sight = seen })
    ≡ called (record (caller_at site.part site.pc (part_at site.part sys.machine).core.pc sys) { sight = seen })
unfolding caller_of caller_at
site_calls site seen sys is =
    ap (λ (k : ℕ). called (record { view = view_of sys.machine.system site.part; state = part_at site.part sys.machine; contents = copies sys.machine site.part; time = sys.machine.time; sight = seen; pc = site.pc; npc = k })) is

-- what it asks for
pub site_asks : (site : CallSite) (sys : SysState) → asked_of (observed_by (caller_of site sys).view (caller_of site sys).state.core)
    ≡ asked_of (observed_by (view_of sys.machine.system site.part) (part_at site.part sys.machine).core)
unfolding caller_of
site_asks site sys = refl

pub asks_nothing : (o : Option Observation) → asked_of o ≡ None → o ≡ None
asks_nothing None is = refl
asks_nothing (Some call) is = absurd cc

-- what follows an observing call
record IsSilent (u : Upshot) (view : PartitionView) (time : ℕ) (ps : PartitionState) : Type 0 where
  after : (by_upshot u view time ps).after ≡ ps
  emitted : (by_upshot u view time ps).emitted ≡ []
  traffic : traffic_of (by_upshot u view time ps).act ≡ OwnStill
  event : event_of (by_upshot u view time ps).act ≡ NoEvent

silent_follows : (u : Upshot) (view : PartitionView) (time : ℕ) (ps : PartitionState)
    → (u ≡ Acts emission.Nothing) ⊎ ((plan : ℕ) × (u ≡ Acts (emission.Plans (emission.Asked plan)))) → IsSilent u view time ps
silent_follows u view time ps (inl is) = subst (λ (x : Upshot). IsSilent x view time ps) (sym is) (record { after = refl; emitted = refl; traffic = refl; event = refl })
silent_follows u view time ps (inr (plan, is)) = subst (λ (x : Upshot). IsSilent x view time ps) (sym is) (record { after = refl; emitted = refl; traffic = refl; event = refl })

-- an observing call was done
observed_done : (p : ℕ) (caller : Caller) (x : PartitionState) (old new : SysState) → IsMild (served caller) → (served caller).after ≡ x
    → new ≡ with_machine (with_part p (clocked x) old.machine) old → IsLoneDone p (called caller) (record { note = note.Nothing; reach = beyond.Nothing }) old new []
unfolding called
observed_done p caller x old new mild after_is new_is =
    let s : Served = served caller in
    let f = silent_follows s.upshot caller.view caller.time (clocked s.after) mild.upshot in
    let w : Worked = record (by_upshot s.upshot caller.view caller.time (clocked s.after)) { emitted = s.emitted ++ (by_upshot s.upshot caller.view caller.time (clocked s.after)).emitted } in
    let none : w.emitted ≡ [] =
    ap (λ (tale : List Emission). tale ++ (by_upshot s.upshot caller.view caller.time (clocked s.after)).emitted) mild.silent ∙ f.emitted in
    record {
      state = new_is
          ∙ ap (λ (y : PartitionState). with_machine (with_part p (clocked y) old.machine) old) (sym after_is)
          ∙ ap (λ (y : PartitionState). with_machine (with_part p y old.machine) old) (sym f.after)
          ∙ sym (ap (λ (own : OwnTraffic). with_machine (traded (traffic_as old.machine.system.conf p own) (with_part p w.after old.machine)) old) f.traffic);
      lines = ap (map (line_of old.machine.ticks p)) none;
      event = f.event;
      readable = tt;
      alone = tt;
      few = omega arith;
    }

-- what a call may be shown
sight_shown : (view : PartitionView) (caller : Caller) (call : Observation) (asked : Asked) (seen : Sight) → caller.view ≡ view → asked_of (Some call) ≡ Some asked
    → shows_this caller asked seen ≡ takes_sight view (Some call) seen
sight_shown view caller call asked seen sees is = subst (λ (x : Asked). shows_this caller x seen ≡ takes_sight view (Some call) seen) (same_Some _ asked is) (plain seen)
  where
    plain : (s : Sight) → shows_this caller (record { address = call.address; size = call.size; entry = asks_entry call.question }) s ≡ takes_sight view (Some call) s
    plain Unseen = ap (λ (v : PartitionView). takes_sight v (Some call) Unseen) sees
    plain NotKept = refl
    plain (Words bytes) = ap (λ (v : PartitionView). takes_sight v (Some call) (Words bytes)) sees

-- the view of a caller at a site, and its state
site_view : (site : CallSite) (sys : SysState) → (caller_of site sys).view ≡ view_of sys.machine.system site.part
unfolding caller_of
site_view site sys = refl

site_observes : (site : CallSite) (sys : SysState) → observed_by (caller_of site sys).view (caller_of site sys).state.core
    ≡ observed_by (view_of sys.machine.system site.part) (part_at site.part sys.machine).core
unfolding caller_of
site_observes site sys = refl

-- an observing call that may be shown this
pub shows_done : ObservesAsTested → (site : CallSite) (asked : Asked) (seen : Sight) (old mid new : SysState) → site.part < length old.machine.parts
    → asked_of (observed_by (view_of old.machine.system site.part) (part_at site.part old.machine).core) ≡ Some asked → shows_this (caller_of site old) asked seen ≡ true
    → mid ≡ with_machine (with_part site.part (shown_state asked seen (caller_of site old).state) old.machine) old
    → new ≡ with_machine (with_part site.part (clocked (part_at site.part mid.machine)) mid.machine) mid
    → IsLoneWork (Some (record { note = note.Nothing; reach = beyond.Nothing })) site.part (observed_by (view_of old.machine.system site.part) (part_at site.part old.machine).core) seen
    (called (record (caller_of site old) { sight = seen })) old new []
shows_done law site asked seen old mid new below asks shows mid_is new_is = at (observed_by (view_of old.machine.system site.part) (part_at site.part old.machine).core) refl asks
  where
    at : (o : Option Observation) → observed_by (view_of old.machine.system site.part) (part_at site.part old.machine).core ≡ o → asked_of o ≡ Some asked
        → IsLoneWork (Some (record { note = note.Nothing; reach = beyond.Nothing })) site.part o seen (called (record (caller_of site old) { sight = seen })) old new []
    at None none is = absurd cc
    at (Some call) some is =
        let observes = site_observes site old ∙ some in (
          sym (sight_shown (view_of old.machine.system site.part) (caller_of site old) call asked seen (site_view site old) is) ∙ shows,
          observed_done site.part (record (caller_of site old) { sight = seen }) _ old new (served_observed (record (caller_of site old) { sight = seen }) call observes).mild
              (shown_after law (caller_of site old) call asked seen observes is shows)
              (put_then clocked site.part _ old mid new below mid_is new_is),
        )

-- one that may not
pub shows_not : (site : CallSite) (asked : Asked) (seen : Sight) (old : SysState)
    → asked_of (observed_by (view_of old.machine.system site.part) (part_at site.part old.machine).core) ≡ Some asked → shows_this (caller_of site old) asked seen ≡ false
    → (takes_sight (view_of old.machine.system site.part) (observed_by (view_of old.machine.system site.part) (part_at site.part old.machine).core) seen ≡ false) × IsWorkUndone site.part old old
shows_not site asked seen old asks shows = at (observed_by (view_of old.machine.system site.part) (part_at site.part old.machine).core) asks
  where
    at : (o : Option Observation) → asked_of o ≡ Some asked → (takes_sight (view_of old.machine.system site.part) o seen ≡ false) × IsWorkUndone site.part old old
    at None is = absurd cc
    at (Some call) is =
        (sym (sight_shown (view_of old.machine.system site.part) (caller_of site old) call asked seen (site_view site old) is) ∙ shows, undone_same site.part old old refl)

-- what a call is shown leaves its partition's clocks
shown_clock : (asked : Asked) (seen : Sight) (ps : PartitionState) → (shown_state asked seen ps).clocks.execution ≡ ps.clocks.execution
unfolding with_answer with_written
shown_clock asked Unseen ps = refl
shown_clock asked NotKept ps = refl
shown_clock asked (Words bytes) ps = refl

pub shown_few : (site : CallSite) (asked : Asked) (seen : Sight) (old mid : SysState) → CanTake site.part 1 old
    → mid ≡ with_machine (with_part site.part (shown_state asked seen (caller_of site old).state) old.machine) old → (part_at site.part mid.machine).clocks.execution < 2 ^ 63
unfolding caller_of
shown_few site asked seen old mid can is =
    let same : (part_at site.part mid.machine).clocks.execution ≡ (part_at site.part old.machine).clocks.execution =
    ap (λ (x : PartitionState). x.clocks.execution) (part_set old mid site.part _ can.partition is) ∙ shown_clock asked seen (part_at site.part old.machine) in
    let execution : (part_at site.part old.machine).clocks.execution ≤ old.machine.ticks = can.execution in
    let few : old.machine.ticks + 1 ≤ 4000000000 = can.few in
    omega (arith, same, execution, few)
