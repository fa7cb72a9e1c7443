-- What a partition does alone under its cue is its part of the machine's tick.
use Rattle.std.proofs.Common.{◌≡◌, ℕ, Bool, true, false, Option, None, Some, refl, ap, ◌∙◌}
use Rattle.std.specs.Prelude.{slice_get, ◌==◌, if◌then◌else◌}
use Rattle.std.proofs.lemmas.Bool.{eqb-true}
use Rattle.std.proofs.lemmas.Option.{same_Some}
use Rattle.machine_model.specs.Alone.{alone_local, alone_local_in}
use Rattle.machine_model.specs.Cue.{Away, Mine, cue, cue_in, slot_of}
use Rattle.machine_model.specs.Laws.{part}
use Rattle.machine_model.specs.LocalTick.{local_tick}
use Rattle.machine_model.specs.Machine.{Machine, SlotTurn, copies, happened, happened_by, if_its_turn, is_turn_of, local, local_in, local_of, sight, sight_in, sight_of_state, taken_by, tick_of, turn_of}
use Rattle.machine_model.specs.Partition.{PartitionState, takes_turns}
use Rattle.machine_model.specs.Emission.{Sight}
use Rattle.machine_model.specs.View.{view_of}

-- what partition p is shown in its slot
shown_is : (g : Machine) (p : ℕ) (ps : PartitionState) (turn : SlotTurn) (o : Option PartitionState) → o ≡ Some ps → (turn.part == p) ≡ true → sight_in g p (Some turn) o ≡ sight_of_state g p turn.first ps
shown_is g p ps turn None there its = absurd cc
shown_is g p ps turn (Some other) there its = rw (its, same_Some other ps there) refl

-- the local tick of partition p in its slot
ticked : (g : Machine) (p q : ℕ) (ps : PartitionState) (first : Bool) (seen : Sight) (o : Option PartitionState) → q ≡ p → o ≡ Some ps → seen ≡ sight_of_state g p first ps
    → (if takes_turns ps.state then Some (local_tick (view_of g.system p) ps (copies g p) g.ticks g.time first seen) else None) ≡ taken_by g q first o
unfolding local_of
ticked g p q ps first seen None same there shown = absurd cc
ticked g p q ps first seen (Some other) same there shown = rw (same, same_Some other ps there, shown) refl

-- what partition p does alone in a slot is its local tick, where it has it
alone_in : (g : Machine) (p : ℕ) (ps : PartitionState) (o : Option SlotTurn) → slice_get g.parts p ≡ Some ps
    → alone_local_in (slot_of o p) (view_of g.system p) (part g p ps) (sight_in g p o (slice_get g.parts p)) ≡ if_its_turn (is_turn_of o p) (local_in g o)
unfolding part
alone_in g p ps None there = refl
alone_in g p ps (Some turn) there = at (turn.part == p) refl
  where
    at : (b : Bool) → (turn.part == p) ≡ b
        → alone_local_in (if b then Mine turn.first else Away) (view_of g.system p) (part g p ps) (sight_in g p (Some turn) (slice_get g.parts p))
        ≡ if_its_turn b (taken_by g turn.part turn.first (slice_get g.parts turn.part))
    at true its =
        let same : turn.part ≡ p = eqb-true turn.part p its in
        ticked g p turn.part ps turn.first (sight_in g p (Some turn) (slice_get g.parts p)) (slice_get g.parts turn.part) same (ap (slice_get g.parts) same ∙ there) (shown_is g p ps turn (slice_get g.parts p) there its)
    at false other = refl

-- what partition p does alone under its cue is its local tick, where it has it
pub alone_local_is : (g : Machine) (p : ℕ) (ps : PartitionState) → slice_get g.parts p ≡ Some ps
    → alone_local (view_of g.system p) (part g p ps) (cue g p) ≡ tick_of (happened g) p
unfolding alone_local cue cue_in tick_of happened happened_by local sight
alone_local_is g p ps there = alone_in g p ps (turn_of g) there
