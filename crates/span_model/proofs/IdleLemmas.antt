-- Ticks of the slot of an idle partition that nothing wakes.
use Rattle.std.proofs.Common.{◌≡◌, ℕ, zero, suc, ◌+◌, ◌≤◌, false, List, [], map, Option, None, Some, refl, sym, ap, subst, ◌∙◌, arith}
use Rattle.std.specs.Prelude.{slice_get, slice_set}
use Rattle.virt_traps.specs.Virtual.{due}
use Rattle.xm_base.specs.declared.partition.State.TheVariants.{Idle}
use Rattle.xm_ports.specs.Channels.{Content}
use Rattle.machine_model.specs.Health.{quiet}
use Rattle.machine_model.specs.LocalTick.{LocalTick, goes_on, seen_outside, with_interrupts, worked, worked_if}
use Rattle.machine_model.specs.Machine.{Machine, copies, local, sight_of_state, turn_of}
use Rattle.machine_model.specs.Partition.{PartitionState, rested, takes_turns}
use Rattle.machine_model.specs.Emission as emission
use Rattle.machine_model.specs.Emission.{Sight}
use Rattle.machine_model.specs.View.{PartitionView, view_of}
use Rattle.span_model.specs.Meeting.{first_after}
use Rattle.span_model.specs.SpanLaws.{IdleTicks, others_rested}
use Rattle.span_model.specs.Spans.{IsSlotOf, IsSpan, inside}
use Rattle.span_model.proofs.AwakeLemmas.{local_work, same_state, taken_is}
use Rattle.span_model.proofs.DueLemmas.{idles_later, none_due_earlier}
use Rattle.span_model.proofs.InsideLemmas.{turn_inside}
use Rattle.span_model.proofs.PassLemmas.{get_set_map, map_set_twice}
use Rattle.span_model.proofs.RestLemmas.{rested_twice}
use Rattle.span_model.proofs.RestingLemmas.{local_by}
use Rattle.span_model.proofs.SpanLemmas.{IsQuietTick, quiet_span, quiet_work, work_tick}

-- the work of an idle partition that nothing wakes
worked_idle : (view : PartitionView) (contents : List (Option Content)) (time : ℕ) (sight : Sight) (ps s : PartitionState) → with_interrupts time false ps ≡ s
    → s.state ≡ Idle → due s.traps ≡ None → worked view contents time false sight ps ≡ quiet s
unfolding worked
worked_idle view contents time sight ps s is idle none =
    ap (λ (x : PartitionState). worked_if (goes_on x.state false (due x.traps)) view contents time sight x) is
    ∙ ap (λ state. worked_if (goes_on state false (due s.traps)) view contents time sight s) idle
    ∙ ap (λ o. worked_if (goes_on Idle false o) view contents time sight s) none

-- a local tick that reports nothing and leaves this
abbrev idle_tick : PartitionState → LocalTick
idle_tick new = record { after = new; lines = []; said = []; act = emission.Nothing }

-- the local tick of an idle partition that nothing wakes
pub local_idle : (g : Machine) (p : ℕ) (ps s : PartitionState) → turn_of g ≡ Some (record { part = p; first = false }) → slice_get g.parts p ≡ Some ps
    → ps.state ≡ Idle → with_interrupts g.time false ps ≡ s → due s.traps ≡ None → local g ≡ Some (idle_tick s)
local_idle g p ps s turn there idle is none =
    let idle_still : s.state ≡ Idle = ap (λ (x : PartitionState). x.state) (sym is) ∙ same_state g.time false ps ∙ idle in
    local_by g (Some (record { part = p; first = false })) turn
    ∙ taken_is g p false (slice_get g.parts p) ps there (ap takes_turns idle)
    ∙ ap Some (local_work g p false ps
    ∙ ap (seen_outside (view_of g.system p) g.ticks) (worked_idle (view_of g.system p) (copies g p) g.time (sight_of_state g p false ps) ps s is idle_still none))

-- the partition, when this many ticks are done
abbrev pub idle_state : ℕ → Machine → PartitionState → PartitionState
idle_state zero g ps = ps
idle_state (suc k) g ps = with_interrupts (g.time + k) false ps

-- all partitions
abbrev pub idle_parts : ℕ → Machine → ℕ → PartitionState → List PartitionState
idle_parts zero g p ps = g.parts
idle_parts (suc k) g p ps = others_rested k p (idle_state (suc k) g ps) g

-- the machine
abbrev pub idling : ℕ → Machine → ℕ → PartitionState → Machine
idling k g p ps = inside k (idle_parts k g p ps) g

-- it stays idle
pub idle_still : (k : ℕ) (g : Machine) (ps : PartitionState) → ps.state ≡ Idle → (idle_state k g ps).state ≡ Idle
idle_still zero g ps idle = idle
idle_still (suc k) g ps idle = same_state (g.time + k) false ps ∙ idle

-- the partition stands at its place
pub idle_place : (k : ℕ) (g : Machine) (p : ℕ) (ps : PartitionState) → slice_get g.parts p ≡ Some ps → slice_get (idle_parts k g p ps) p ≡ Some (idle_state k g ps)
idle_place zero g p ps there = there
idle_place (suc k) g p ps there = get_set_map (rested (g.time + k)) g.parts p ps (idle_state (suc k) g ps) there

-- it looks at its timers once more
pub idle_looks : (k : ℕ) (g : Machine) (ps : PartitionState) → with_interrupts (g.time + k) false (idle_state k g ps) ≡ idle_state (suc k) g ps
idle_looks zero g ps = refl
idle_looks (suc k) g ps = idles_later (g.time + k) (g.time + suc k) ps (omega arith)

-- all others rest once more
idle_rests : (k : ℕ) (g : Machine) (p : ℕ) (ps new : PartitionState) → slice_set (map (rested (g.time + k)) (idle_parts k g p ps)) p new ≡ others_rested k p new g
idle_rests zero g p ps new = refl
idle_rests (suc k) g p ps new =
    map_set_twice (rested (g.time + k)) (rested (g.time + suc k)) g.parts p (idle_state (suc k) g ps) new
    (λ x. rested_twice (g.time + k) (g.time + suc k) x (omega arith))

-- no later tick is the first of the slot
not_first : (k : ℕ) → first_after k false ≡ false
not_first zero = refl
not_first (suc k) = refl

-- the turn stays the partition's
pub idle_turn : (k last : ℕ) (g : Machine) (p : ℕ) (ps : PartitionState) → IsSpan g last → k ≤ last → IsSlotOf g p false ps
    → turn_of (idling k g p ps) ≡ Some (record { part = p; first = false })
idle_turn k last g p ps span within slot =
    turn_inside g k last p false (idle_parts k g p ps) span within slot.turn ∙ ap (λ first. Some (record { part = p; first = first })) (not_first k)

-- one such tick
pub idles_inside : (k last : ℕ) (g : Machine) (p : ℕ) (ps : PartitionState) → IsSpan g last → k ≤ last → IsSlotOf g p false ps → ps.state ≡ Idle
    → due (with_interrupts (g.time + k) false ps).traps ≡ None → IsQuietTick (idling k g p ps) (idle_parts (suc k) g p ps)
idles_inside k last g p ps span within slot idle none =
    let its_turn = idle_turn k last g p ps span within slot in
    subst (λ (parts : List PartitionState). IsQuietTick (idling k g p ps) parts) (idle_rests k g p ps (idle_state (suc k) g ps))
    (quiet_work (idling k g p ps) (slice_set (map (rested (g.time + k)) (idle_parts k g p ps)) p (idle_state (suc k) g ps))
    (record { part = p; first = false }) (idle_tick (idle_state (suc k) g ps)) refl refl
    (work_tick (idling k g p ps) (record { part = p; first = false }) (idle_tick (idle_state (suc k) g ps)) span.running its_turn
    (local_idle (idling k g p ps) p (idle_state k g ps) (idle_state (suc k) g ps) its_turn (idle_place k g p ps slot.there)
    (idle_still k g ps idle) (idle_looks k g ps) none) refl))

-- the law on the slot of an idle partition that nothing wakes
pub idle_ticks : IdleTicks
idle_ticks g p ps last span slot idle none =
    quiet_span g (λ k. idle_parts k g p ps) last span refl
    (λ k within. idles_inside k last g p ps span within slot idle
    (none_due_earlier (g.time + k) (g.time + last) ps (omega (arith, within)) none))
