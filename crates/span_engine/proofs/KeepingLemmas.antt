-- What is to be kept of a tick, by what happened in it.
use Rattle.std.proofs.Common.{◌≡◌, ℕ, Bool, true, Option, None, Some, refl, sym, ap, ◌∙◌}
use Rattle.std.specs.Prelude.{is_some}
use Rattle.guest_bus.specs.Memory.{Memory}
use Rattle.xm_conf.specs.Configuration.{Conf}
use Rattle.machine_model.specs.Health.{Worked}
use Rattle.machine_model.specs.LocalTick.{bounded}
use Rattle.machine_model.specs.Machine as machine
use Rattle.machine_model.specs.Machine.{Machine, SlotTurn, happened, happened_by, local, run, sight, system_traffic, turn_of}
use Rattle.machine_model.specs.Emission as emission
use Rattle.machine_model.specs.Emission.{Act, Directed, Sight, Unseen, WholeEvent, reach_of}
use Rattle.machine_model.specs.Traffic.{Still, Traffic, traffic_of}
use Rattle.machine_model.specs.View.{view_of}
use Rattle.machine_model.specs.Whole.{event_of}
use Rattle.span_model.specs.Calm.{IsCalm, turn_after}
use Rattle.span_model.specs.NextLaws.{IsTickOf}
use Rattle.span_model.specs.Passes.{traffic_in}
use Rattle.system_state.specs.State.{memory_of}
use Rattle.system_state.specs.Serving.{sight_by, traffic_by, without_traffic}
use Rattle.system_state.specs.declared.served.Note.{Note}
use Rattle.system_state.specs.declared.served.Note.TheVariants as note
use Rattle.tick_steps.specs.Kept.{IsBareTick, KeptTick, kept_by, kept_from, kept_in, kept_tick, shown_to}
use Rattle.tick_steps.specs.Work.{act_beyond}
use Rattle.tick_steps.specs.declared.beyond.Beyond.{Beyond}
use Rattle.tick_steps.specs.declared.beyond.Beyond.TheVariants as beyond

kept_as : (m : Machine) (turn : Option SlotTurn) (worked : Bool) (act : Act) (traffic : Traffic) (seen : Sight) → turn_of m ≡ turn → is_some (local m) ≡ worked
    → machine.act_of (local m) ≡ act → system_traffic m.system.conf turn (traffic_of act) ≡ traffic → shown_to m turn ≡ seen → kept_tick m ≡ kept_from turn worked act traffic seen
unfolding kept_tick kept_in happened happened_by
kept_as m turn worked act traffic seen its_turn works acts trades shows =
    ap (λ (t : Option SlotTurn). kept_from t (is_some (local m)) (machine.act_of (local m)) (system_traffic m.system.conf t (traffic_of (machine.act_of (local m)))) (shown_to m t)) its_turn
    ∙ ap (λ (w : Bool). kept_from turn w (machine.act_of (local m)) (system_traffic m.system.conf turn (traffic_of (machine.act_of (local m)))) (shown_to m turn)) works
    ∙ ap (λ (a : Act). kept_from turn worked a (system_traffic m.system.conf turn (traffic_of a)) (shown_to m turn)) acts
    ∙ ap (λ (t : Traffic). kept_from turn worked act t (shown_to m turn)) trades
    ∙ ap (λ (s : Sight). kept_from turn worked act traffic s) shows

-- no traffic is none in the system
still_for : (conf : Conf) (turn : Option SlotTurn) → system_traffic conf turn emission.OwnStill ≡ Still
still_for conf None = refl
still_for conf (Some turn) = refl

-- a tick that reaches nobody, and in which nobody is shown anything
pub calm_kept : (g : Machine) (done : ℕ) (works : Bool) (memory : Memory) → IsCalm g done works
    → kept_tick (run g done) ≡ kept_by (turn_after done (turn_of g)) works note.Nothing beyond.Nothing memory
calm_kept g done works memory calm =
    kept_as (run g done) (turn_after done (turn_of g)) works emission.Nothing Still Unseen calm.turn calm.worked calm.act
    (still_for (run g done).system.conf (turn_after done (turn_of g))) (shows (turn_after done (turn_of g)))
  where
    shows : (t : Option SlotTurn) → shown_to (run g done) t ≡ Unseen
    shows None = refl
    shows (Some t) = calm.unseen t.part

-- in such a tick partitions receive nothing but whose slot it is
pub calm_bare : (g : Machine) (done : ℕ) (works : Bool) → IsCalm g done works → IsBareTick (run g done)
calm_bare g done works calm = record {
  works = works;
  kept = calm_kept g done works (memory_of 0 g) calm ∙ ap (λ (turn : Option SlotTurn). kept_from turn works emission.Nothing Still Unseen) (sym calm.turn);
}

-- the traffic of the work of a partition, and what it was shown, are what its note records
pub record IsNoted (m : Machine) (p : ℕ) (work : Worked) (a_note : Note) : Type 0 where
  pub traffic : traffic_in m p work.act ≡ traffic_by p a_note work.after.memory
  pub seen : sight m p ≡ sight_by a_note work.after.memory

-- the order and the event of an act, but for its traffic
pub same_order : (act : Act) → (reach_of act).directed ≡ (reach_of (without_traffic act)).directed
same_order emission.Nothing = refl
same_order (emission.Trades traffic) = refl
same_order (emission.Upon id order) = refl
same_order (emission.Plans change) = refl
same_order (emission.UponAll event) = refl

same_event : (act : Act) → event_of act ≡ event_of (without_traffic act)
same_event emission.Nothing = refl
same_event (emission.Trades traffic) = refl
same_event (emission.Upon id order) = refl
same_event (emission.Plans change) = refl
same_event (emission.UponAll event) = refl

-- a tick in which the partition of the slot did this work
pub worked_kept : (m : Machine) (p : ℕ) (first : Bool) (work : Worked) (a_note : Note) (reach : Beyond) → IsTickOf m p first work
    → bounded (view_of m.system p) work.act ≡ work.act → without_traffic work.act ≡ act_beyond reach → IsNoted m p work a_note
    → kept_tick m ≡ kept_by (Some (record { part = p; first = first })) true a_note reach work.after.memory
worked_kept m p first work a_note reach tick bounds acts noted =
    kept_as m turn true work.act (traffic_by p a_note work.after.memory) (sight_by a_note work.after.memory) tick.turn (ap is_some tick.local)
    (ap machine.act_of tick.local ∙ bounds) noted.traffic noted.seen
    ∙ ap (λ (o : Option Directed). with_both o (event_of work.act)) (same_order work.act ∙ ap (λ (a : Act). (reach_of a).directed) acts)
    ∙ ap (λ (e : WholeEvent). with_both (reach_of (act_beyond reach)).directed e) (same_event work.act ∙ ap event_of acts)
  where
    turn : Option SlotTurn
    turn = Some (record { part = p; first = first })

    with_both : Option Directed → WholeEvent → KeptTick
    with_both o e = record { turn = turn; worked = true; traffic = traffic_by p a_note work.after.memory; order = o; event = e; seen = sight_by a_note work.after.memory }
