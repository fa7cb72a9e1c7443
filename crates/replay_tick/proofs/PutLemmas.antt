-- One partition of a system that is changed, and traffic of it.
use Rattle.std.proofs.Common.{◌≡◌, ℕ, ◌<◌, List, length, refl, ap, ◌∙◌}
use Rattle.std.proofs.lemmas.List.{length-set, set-set}
use Rattle.system_state.specs.State.{SysState, with_machine}
use Rattle.system_state.specs.lemmas.StateLemmas.{part_set}
use Rattle.machine_model.specs.lemmas.ListLemmas.{each_counted as each_length}
use Rattle.machine_model.specs.Machine.{Machine}
use Rattle.machine_model.specs.Partition.{PartitionState}
use Rattle.machine_model.specs.Emission.{OwnPuts, OwnSignals, OwnStill, OwnTakes, OwnTraffic}
use Rattle.machine_model.specs.Traffic.{Puts, Signals, Still, Takes, Traffic, heard_as, hearing, puts_at, takes_at}
use Rattle.machine_model.specs.View.{named, view_of}
use Rattle.span_model.specs.Passes.{part_at, traded, with_part}
use Rattle.replay_model.specs.Passes.{traffic_received}

-- one that is changed by what it is changed to
pub put_then : (f : PartitionState → PartitionState) (p : ℕ) (x : PartitionState) (old mid new : SysState) → p < length old.machine.parts
    → mid ≡ with_machine (with_part p x old.machine) old → new ≡ with_machine (with_part p (f (part_at p mid.machine)) mid.machine) mid
    → new ≡ with_machine (with_part p (f x) old.machine) old
put_then f p x old mid new below mid_is new_is =
    new_is
    ∙ ap (λ (y : PartitionState). with_machine (with_part p (f y) mid.machine) mid) (part_set old mid p x below mid_is)
    ∙ ap (λ (s : SysState). with_machine (with_part p (f x) s.machine) s) mid_is
    ∙ ap (λ (parts : List PartitionState). with_machine (record old.machine { parts = parts }) old) (set-set old.machine.parts p x (f x))

-- traffic leaves what runs, the plan and the clocks, and how many partitions there are
pub record IsTraded (old new : Machine) : Type 0 where
  pub system : new.system ≡ old.system
  pub clock : new.clock ≡ old.clock
  pub time : new.time ≡ old.time
  pub ticks : new.ticks ≡ old.ticks
  pub parts : length new.parts ≡ length old.parts

pub is_traded : (traffic : Traffic) (g : Machine) → IsTraded g (traded traffic g)
is_traded Still g = record { system = refl; clock = refl; time = refl; ticks = refl; parts = refl }
is_traded (Puts channel bytes) g = record {
  system = refl;
  clock = refl;
  time = refl;
  ticks = refl;
  parts = each_length (λ q ps. hearing (view_of g.system q) (heard_as g.system.conf q (Puts channel bytes)) ps) g.parts;
}
is_traded (Takes channel) g = record {
  system = refl;
  clock = refl;
  time = refl;
  ticks = refl;
  parts = each_length (λ q ps. hearing (view_of g.system q) (heard_as g.system.conf q (Takes channel)) ps) g.parts;
}
is_traded (Signals source number) g = record {
  system = refl;
  clock = refl;
  time = refl;
  ticks = refl;
  parts = each_length (λ q ps. hearing (view_of g.system q) (heard_as g.system.conf q (Signals source number)) ps) g.parts;
}

-- so does traffic of others that a partition receives
pub is_received : (p : ℕ) (own : OwnTraffic) (g : Machine) → IsTraded g (traffic_received p own g)
is_received p OwnStill g = is_traded Still g
is_received p (OwnPuts q bytes) g = is_traded (puts_at (named g.system.conf p q) bytes) g
is_received p (OwnTakes q) g = is_traded (takes_at (named g.system.conf p q)) g
is_received p (OwnSignals number) g =
    record { system = refl; clock = refl; time = refl; ticks = refl; parts = length-set g.parts p (hearing (view_of g.system p) (OwnSignals number) (part_at p g)) }
