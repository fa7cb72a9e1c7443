-- All that one partition receives from the others: the policy of information flow.
use Rattle.std.specs.Prelude.{ℕ, zero, suc, ◌==◌, Bool, true, false, if◌then◌else◌, List, [], ◌∷◌, Option, Some, None, is_some}
use Rattle.xm_base.specs.declared.partition.Order.{Order}
use Rattle.machine_model.specs.Machine.{Happened, Machine, SlotTurn, happened, order_upon, sight, step, tick_of}
use Rattle.machine_model.specs.Emission.{OwnStill, OwnTraffic, Sight}
use Rattle.machine_model.specs.Traffic.{heard_as}
use Rattle.machine_model.specs.Whole.{WholeEvent}

-- whether a tick is in a slot of the partition, and then whether the slot begins with it
pub data CueSlot : Type 0 where
  Away : CueSlot
  Mine : (first : Bool) → CueSlot

-- what a partition receives in a tick: whether the slot is its own, what others put into its channels or took from them, or which
-- link signalled it, an order that another gave it, the hypervisor event, and what an observing call of a system partition is shown.
-- There is nothing here of another partition's memory, registers, lines, image or state, nor of the plan
pub record Cue : Type 0 where
  pub mine : CueSlot
  pub traffic : OwnTraffic
  pub order : Option Order
  pub whole : WholeEvent
  pub seen : Sight

abbrev pub slot_of : Option SlotTurn → ℕ → CueSlot
slot_of None p = Away
slot_of (Some turn) p = if turn.part == p then Mine turn.first else Away

-- traffic by others
abbrev pub unless_own : Bool → OwnTraffic → OwnTraffic
unless_own true traffic = OwnStill
unless_own false traffic = traffic

-- what partition p receives in this tick
unfoldable pub cue_in : Machine → Happened → ℕ → Cue
cue_in g h p = record {
  mine = slot_of h.turn p;
  traffic = unless_own (is_some (tick_of h p)) (heard_as g.system.conf p h.traffic);
  order = order_upon h.act p;
  whole = h.event;
  seen = sight g p;
}

unfoldable pub cue : Machine → ℕ → Cue
cue g p = cue_in g (happened g) p

-- what partition p receives in this many ticks; nothing once the hypervisor has halted
abbrev pub script_unless : Bool → Cue → List Cue → List Cue
script_unless true first rest = []
script_unless false first rest = first ∷ rest

abbrev pub script : Machine → ℕ → ℕ → List Cue
script g p zero = []
script g p (suc count) = script_unless g.halted (cue g p) (script (step g) p count)
