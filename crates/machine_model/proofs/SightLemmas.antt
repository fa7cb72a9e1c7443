-- What a partition is shown, to whom it gives orders, and whose tag its lines have.
use Rattle.std.proofs.Common.{◌≡◌, ℕ, Bool, true, false, List, [], ◌∷◌, map, Option, None, Some, refl, ap, arith}
use Rattle.std.specs.Prelude.{slice_get, ◌==◌, if◌then◌else◌, All}
use Rattle.std.proofs.lemmas.List.Elements.{All-cons, All-nil}
use Rattle.sparc_step.specs.Registers.{Registers}
use Rattle.sparc_step.specs.declared.outcome.Turn.{Turn as Outcome}
use Rattle.sparc_step.specs.declared.outcome.Turn.TheVariants.{Went, Trap, Call}
use Rattle.virt_traps.specs.Settled.{settled}
use Rattle.virt_traps.specs.Virtual.{due}
use Rattle.xm_base.specs.declared.partition.Order.{Order}
use Rattle.machine_model.specs.Laws.{HasOwnTag, NeverUponItself, SeesNothing}
use Rattle.machine_model.specs.Lines.{tag_of}
use Rattle.machine_model.specs.LocalTick.{bounded, goes_on, local_tick, with_interrupts, worked}
use Rattle.machine_model.specs.Machine.{Machine, SlotTurn, sight, sight_for, sight_in, sight_of_state, turn_of}
use Rattle.machine_model.specs.Observed.{asked_by, asks, if_call, observed_by, unless_delivered}
use Rattle.machine_model.specs.Partition.{PartitionState, areas_of, takes_turns}
use Rattle.machine_model.specs.Emission as emission
use Rattle.machine_model.specs.Emission.{Act, Emission, Unseen, Upon, line_of}
use Rattle.machine_model.specs.View.{PartitionView, part_of, view_of}
use Rattle.machine_model.proofs.LineLemmas.{line_tag}

-- a partition without the system flag observes nothing
no_observation : (view : PartitionView) (core : Registers) → view.part.system ≡ false → observed_by view core ≡ None
no_observation view core plain = rw plain refl

no_call : (turn : Outcome) (view : PartitionView) (core : Registers) → view.part.system ≡ false → if_call turn view core ≡ None
no_call Went view core plain = refl
no_call (Trap type) view core plain = refl
no_call Call view core plain = no_observation view core plain

not_asked : (view : PartitionView) (ps : PartitionState) → view.part.system ≡ false → asked_by view ps ≡ None
unfolding asked_by
not_asked view ps plain = no_call (settled (areas_of view) ps.core ps.memory).turn view (settled (areas_of view) ps.core ps.memory).core plain

no_delivery : (o : Option ℕ) (enabled : Bool) (view : PartitionView) (ps : PartitionState) → view.part.system ≡ false → unless_delivered o enabled view ps ≡ None
no_delivery None enabled view ps plain = not_asked view ps plain
no_delivery (Some n) true view ps plain = refl
no_delivery (Some n) false view ps plain = not_asked view ps plain

asks_nothing : (view : PartitionView) (ps : PartitionState) (time : ℕ) (first : Bool) → view.part.system ≡ false → asks view ps time first ≡ None
unfolding asks
asks_nothing view ps time first plain = at (goes_on (with_interrupts time first ps).state first (due (with_interrupts time first ps).traps))
  where
    at : (b : Bool) → (if b then unless_delivered (due (with_interrupts time first ps).traps) (with_interrupts time first ps).traps.enabled view (with_interrupts time first ps) else None) ≡ None
    at true = no_delivery (due (with_interrupts time first ps).traps) (with_interrupts time first ps).traps.enabled view (with_interrupts time first ps) plain
    at false = refl

shown_nothing : (g : Machine) (p : ℕ) (first : Bool) (ps : PartitionState) → (view_of g.system p).part.system ≡ false → sight_of_state g p first ps ≡ Unseen
unfolding sight_of_state
shown_nothing g p first ps plain = at (takes_turns ps.state)
  where
    at : (b : Bool) → (if b then sight_for g (view_of g.system p) (asks (view_of g.system p) ps g.time first) else Unseen) ≡ Unseen
    at true = ap (sight_for g (view_of g.system p)) (asks_nothing (view_of g.system p) ps g.time first plain)
    at false = refl

plain_view : (g : Machine) (p : ℕ) → (part_of g.system.conf p).system ≡ false → (view_of g.system p).part.system ≡ false
unfolding view_of
plain_view g p plain = plain

seen_in : (g : Machine) (p : ℕ) (o : Option SlotTurn) (there : Option PartitionState) → (view_of g.system p).part.system ≡ false → sight_in g p o there ≡ Unseen
seen_in g p None there plain = refl
seen_in g p (Some turn) None plain = refl
seen_in g p (Some turn) (Some ps) plain = at (turn.part == p)
  where
    at : (b : Bool) → (if b then sight_of_state g p turn.first ps else Unseen) ≡ Unseen
    at true = shown_nothing g p turn.first ps plain
    at false = refl

pub sees_nothing : SeesNothing
unfolding sight
sees_nothing g p plain = seen_in g p (turn_of g) (slice_get g.parts p) (plain_view g p plain)

-- an act on a channel is no order
if_its_no_order : (b : Bool) (act : Act) (id : ℕ) (order : Order) → ¬ (act ≡ Upon id order) → ¬ ((if b then act else emission.Nothing) ≡ Upon id order)
if_its_no_order true act id order not_upon is = not_upon is
if_its_no_order false act id order not_upon is = absurd cc

never : (view : PartitionView) (act : Act) (order : Order) → ¬ (bounded view act ≡ Upon view.id order)
never view emission.Nothing order is = absurd cc
never view (emission.Trades traffic) order is = if_its_no_order _ (emission.Trades traffic) view.id order (λ e. absurd cc) is
never view (emission.Upon id given) order is = at (id == view.id) refl is
  where
    at : (b : Bool) → (id == view.id) ≡ b → ¬ ((if b then emission.Nothing else Upon id given) ≡ Upon view.id order)
    at true same is = absurd cc
    at false other is = absurd (let e : id ≡ view.id = cc in let t : (id == view.id) ≡ true = rw e (grind (arith)) in cc)
never view (emission.Plans change) order is = absurd cc
never view (emission.UponAll event) order is = absurd cc

pub never_upon_itself : NeverUponItself
unfolding local_tick
never_upon_itself view ps contents n time first seen order is = never view (worked view contents time first seen ps).act order is

all_tagged : (n p : ℕ) (ts : List Emission) → All (λ line. tag_of line ≡ Some p) (map (line_of n p) ts)
all_tagged n p [] = All-nil (λ line. tag_of line ≡ Some p)
all_tagged n p (t ∷ ts) = All-cons (λ line. tag_of line ≡ Some p) (line_of n p t) (map (line_of n p) ts) (line_tag n p t) (all_tagged n p ts)

pub has_own_tag : HasOwnTag
unfolding local_tick
has_own_tag view ps contents n time first seen = all_tagged n view.id (worked view contents time first seen ps).emitted
