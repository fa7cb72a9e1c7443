-- One partition of a system: put back as it was, and its memory through traffic.
use Rattle.std.proofs.Common.{◌≡◌, ℕ, Bool, true, false, List, Option, None, Some, refl, ap}
use Rattle.std.specs.Prelude.{if◌then◌else◌}
use Rattle.std.proofs.lemmas.List.{set-get_or}
use Rattle.virt_traps.specs.Virtual.{raised}
use Rattle.machine_model.specs.Machine.{Machine, booted_part}
use Rattle.machine_model.specs.Partition.{PartitionState, is_halted, link_signal}
use Rattle.machine_model.specs.Emission.{OwnPuts, OwnSignals, OwnStill, OwnTakes, OwnTraffic}
use Rattle.machine_model.specs.Traffic.{Puts, Signals, Still, Takes, Traffic, after_message, heard_as, heard_from, hearing, interrupted}
use Rattle.machine_model.specs.View.{PartitionView, view_of}
use Rattle.span_model.specs.Passes.{part_at, traded, with_part}
use Rattle.system_state.specs.State.{SysState, memory_of, with_machine}
use Rattle.tick_steps.specs.lemmas.ListLemmas.{each_at}

-- a partition that stays as it is
pub part_put_back : (p : ℕ) (sys : SysState) → with_machine (with_part p (part_at p sys.machine) sys.machine) sys ≡ sys
part_put_back p sys =
    ap (λ (parts : List PartitionState). with_machine (record sys.machine { parts = parts }) sys) (set-get_or sys.machine.parts p (booted_part sys.machine.system p))

-- an interrupt leaves the memory
interrupted_memory : (heard : Option ℕ) (ps : PartitionState) → (interrupted heard ps).memory ≡ ps.memory
interrupted_memory None ps = refl
interrupted_memory (Some n) ps = either (is_halted ps.state)
  where
    either : (b : Bool) → (if b then ps else record ps { traps = raised n ps.traps }).memory ≡ ps.memory
    either true = refl
    either false = refl

-- hearing of a message or of a signal leaves the memory
pub hearing_memory : (view : PartitionView) (own : OwnTraffic) (ps : PartitionState) → (hearing view own ps).memory ≡ ps.memory
unfolding after_message
hearing_memory view OwnStill ps = refl
hearing_memory view (OwnPuts q bytes) ps = interrupted_memory (heard_from q view.part.ports ps.made view.channels) ps
hearing_memory view (OwnTakes q) ps = refl
hearing_memory view (OwnSignals number) ps = interrupted_memory (Some (link_signal number)) ps

-- so does traffic
pub traded_memory : (traffic : Traffic) (p : ℕ) (g : Machine) → memory_of p (traded traffic g) ≡ memory_of p g
traded_memory Still p g = refl
traded_memory (Puts channel bytes) p g =
    each_at (λ (ps : PartitionState). ps.memory) (λ q ps. hearing (view_of g.system q) (heard_as g.system.conf q (Puts channel bytes)) ps) g.parts p (booted_part g.system p)
    (λ ps. hearing_memory (view_of g.system p) (heard_as g.system.conf p (Puts channel bytes)) ps)
traded_memory (Takes channel) p g =
    each_at (λ (ps : PartitionState). ps.memory) (λ q ps. hearing (view_of g.system q) (heard_as g.system.conf q (Takes channel)) ps) g.parts p (booted_part g.system p)
    (λ ps. hearing_memory (view_of g.system p) (heard_as g.system.conf p (Takes channel)) ps)
traded_memory (Signals source number) p g =
    each_at (λ (ps : PartitionState). ps.memory) (λ q ps. hearing (view_of g.system q) (heard_as g.system.conf q (Signals source number)) ps) g.parts p (booted_part g.system p)
    (λ ps. hearing_memory (view_of g.system p) (heard_as g.system.conf p (Signals source number)) ps)
