-- Instructions of a partition that only go, one a tick.
use Rattle.std.proofs.Common.{◌≡◌, ℕ, suc, ◌+◌, List, [], Option, refl, sym, ap, ◌∙◌, arith}
use Rattle.std.proofs.Math.Nat.{add-zero}
use Rattle.guest_bus.specs.Memory.{Area, Memory}
use Rattle.sparc_step.specs.Execution.{Turned}
use Rattle.sparc_step.specs.Registers.{Registers}
use Rattle.sparc_step.specs.declared.outcome.Turn.{Turn}
use Rattle.sparc_step.specs.declared.outcome.Turn.TheVariants.{Went, Trap, Call}
use Rattle.virt_traps.specs.Settled.{settled}
use Rattle.xm_ports.specs.Channels.{Content}
use Rattle.machine_model.specs.Health.{quiet}
use Rattle.machine_model.specs.LocalTick.{by_turn, clocked, executed_in_tick, turned_state}
use Rattle.machine_model.specs.Partition.{PartitionState, areas_of}
use Rattle.machine_model.specs.Emission.{Sight}
use Rattle.machine_model.specs.View.{PartitionView}
use Rattle.virt_traps.specs.Stepping.{stepped, then_settled}
use Rattle.span_model.specs.lemmas.MeetingTerms.{Executes}
use Rattle.span_model.specs.Meeting.{HasGone, gone_on}

-- where a step more only went, all before it only went
went_before : (t : Turned) (areas : List Area) → (then_settled t.turn areas t).turn ≡ Went → t.turn ≡ Went
went_before t areas went = at t.turn refl went
  where
    at : (turn : Turn) → t.turn ≡ turn → (then_settled turn areas t).turn ≡ Went → t.turn ≡ Went
    at Went is went = is
    at (Trap type) is went = went
    at Call is went = went

-- where one instruction more only went, so did those before it
pub gone_before : (k : ℕ) (view : PartitionView) (ps : PartitionState) → HasGone (suc k) view ps → HasGone k view ps
gone_before k view ps gone = went_before (stepped k (areas_of view) ps.core ps.memory) (areas_of view) gone

-- the step after steps that only went
pub settled_next : (k : ℕ) (areas : List Area) (core : Registers) (memory : Memory) → (stepped k areas core memory).turn ≡ Went
    → settled areas (stepped k areas core memory).core (stepped k areas core memory).memory ≡ stepped (suc k) areas core memory
settled_next k areas core memory went = ap (λ turn. then_settled turn areas (stepped k areas core memory)) (sym went)

-- no instruction yet
pub gone_none : (areas : List Area) (ps : PartitionState) → gone_on 0 areas ps ≡ ps
gone_none areas ps = rw (add-zero ps.clocks.execution) refl

-- an instruction that only goes
executed_went : (view : PartitionView) (contents : List (Option Content)) (time : ℕ) (sight : Sight) (ps : PartitionState) (t : Turned)
    → settled (areas_of view) ps.core ps.memory ≡ t → t.turn ≡ Went → executed_in_tick view contents time sight ps ≡ quiet (clocked (turned_state t ps))
unfolding executed_in_tick
executed_went view contents time sight ps t is went =
    ap (λ (s : Turned). by_turn s.turn view contents time sight ps (turned_state s ps)) is
    ∙ ap (λ turn. by_turn turn view contents time sight ps (turned_state t ps)) went

-- it adds a step and a tick
goes_further : (k : ℕ) (areas : List Area) (ps : PartitionState) → clocked (turned_state (stepped (suc k) areas ps.core ps.memory) (gone_on k areas ps)) ≡ gone_on (suc k) areas ps
unfolding clocked
goes_further k areas ps =
    let same : ps.clocks.execution + k + 1 ≡ ps.clocks.execution + suc k = omega arith in
    rw same refl

-- the instruction after this many that went, where it only goes, too
pub next_goes : (k : ℕ) (view : PartitionView) (ps : PartitionState) → HasGone (suc k) view ps
    → Executes view (gone_on k (areas_of view) ps) (gone_on (suc k) (areas_of view) ps) []
next_goes k view ps gone = λ contents time sight.
    executed_went view contents time sight (gone_on k (areas_of view) ps) (stepped (suc k) (areas_of view) ps.core ps.memory)
    (settled_next k (areas_of view) ps.core ps.memory (gone_before k view ps gone)) gone
    ∙ ap quiet (goes_further k (areas_of view) ps)
