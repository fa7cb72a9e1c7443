-- What is kept of a tick gives each partition its cue.
use Rattle.std.proofs.Common.{◌≡◌, ℕ, Bool, true, false, Option, None, Some, refl, sym, ap, ◌∙◌}
use Rattle.std.specs.Prelude.{◌==◌, ◌&&◌, if◌then◌else◌, is_some, slice_get}
use Rattle.std.proofs.lemmas.Bool.{eqb-true}
use Rattle.xm_conf.specs.Configuration.{Conf}
use Rattle.machine_model.specs.Cue.{cue, cue_in, slot_of, unless_own}
use Rattle.machine_model.specs.LocalTick.{LocalTick}
use Rattle.machine_model.specs.Machine.{Happened, Machine, SlotTurn, happened, happened_by, if_its_turn, is_turn_of, order_upon, sight, sight_in, sight_of_state, tick_of, turn_of}
use Rattle.machine_model.specs.Partition.{PartitionState}
use Rattle.machine_model.specs.Emission.{Sight, Unseen}
use Rattle.machine_model.specs.Traffic.{heard_as}
use Rattle.tick_steps.specs.Kept.{kept_cue, kept_in, kept_tick, shown_to}

-- whether the tick of a partition is there
is_its_tick : (b : Bool) (tick : Option LocalTick) → (b && is_some tick) ≡ is_some (if_its_turn b tick)
is_its_tick true tick = refl
is_its_tick false tick = refl

works : (h : Happened) (p : ℕ) → (is_turn_of h.turn p && is_some h.local) ≡ is_some (tick_of h p)
unfolding tick_of
works h p = is_its_tick (is_turn_of h.turn p) h.local

-- a partition whose slot it is not is shown nothing
unseen_in : (g : Machine) (p : ℕ) (turn : SlotTurn) (ps : Option PartitionState) → (turn.part == p) ≡ false → Unseen ≡ sight_in g p (Some turn) ps
unseen_in g p turn None other = refl
unseen_in g p turn (Some ps) other = sym (ap (λ b. if b then sight_of_state g p turn.first ps else Unseen) other)

-- what a partition is shown
seen_as : (g : Machine) (p : ℕ) (turn : Option SlotTurn) → turn_of g ≡ turn → (if is_turn_of turn p then shown_to g turn else Unseen) ≡ sight g p
unfolding sight
seen_as g p None is = sym (ap (λ (t : Option SlotTurn). sight_in g p t (slice_get g.parts p)) is)
seen_as g p (Some turn) is = at (turn.part == p) refl
  where
    at : (b : Bool) → (turn.part == p) ≡ b → (if b then shown_to g (Some turn) else Unseen) ≡ sight g p
    at true its = ap (sight g) (eqb-true turn.part p its)
    at false other =
        unseen_in g p turn (slice_get g.parts p) other
        ∙ sym (ap (λ (t : Option SlotTurn). sight_in g p t (slice_get g.parts p)) is)

-- a cue of what happened
cue_as : (conf : Conf) (h : Happened) (p : ℕ) (seen shown : Sight) → (if is_turn_of h.turn p then seen else Unseen) ≡ shown
    → kept_cue conf (kept_in h seen) p
    ≡ record { mine = slot_of h.turn p; traffic = unless_own (is_some (tick_of h p)) (heard_as conf p h.traffic); order = order_upon h.act p; whole = h.event; seen = shown }
unfolding kept_cue kept_in
cue_as conf h p seen shown is = rw (works h p, is) refl

-- whose slot it was
turn_is : (g : Machine) → turn_of g ≡ (happened g).turn
unfolding happened happened_by
turn_is g = refl

pub kept_cues : (g : Machine) (p : ℕ) → kept_cue g.system.conf (kept_tick g) p ≡ cue g p
unfolding kept_tick cue cue_in
kept_cues g p = cue_as g.system.conf (happened g) p (shown_to g (turn_of g)) (sight g p) (ap (λ (t : Option SlotTurn). if is_turn_of t p then shown_to g (turn_of g) else Unseen) (sym (turn_is g)) ∙ seen_as g p (turn_of g) refl)
