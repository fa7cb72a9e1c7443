-- A saved machine: all that its file has.
use Rattle.std.specs.Prelude.{ℕ, Bool, List, Option}
use Rattle.cyclic_plans.specs.PlanClock.{CyclicClock}
use Rattle.health_monitor.specs.declared.entry.HealthEntry.{HealthEntry}
use Rattle.virt_clocks.specs.declared.timer.Timer.{Timer}
use Rattle.virt_traps.specs.Virtual.{VirtualTraps}
use Rattle.xm_base.specs.declared.partition.State.{State}
use Rattle.xm_ports.specs.Channels.{Content}
use Rattle.xm_traces.specs.Ring.{Kept}
use Rattle.xm_traces.specs.declared.entry.TraceEntry.{TraceEntry}

-- of the whole machine: the digest of its container, the ticks that are done, the hardware clock, how often the hypervisor was reset, whether it
-- has halted, and the plan clock
pub record SavedHead : Type 0 where
  pub container : List ℕ
  pub ticks : ℕ
  pub time : ℕ
  pub resets : ℕ
  pub halted : Bool
  pub clock : CyclicClock

-- how a partition stands: its state, how often it was reset, the status of its last reset, and its execution clock
pub record SavedStanding : Type 0 where
  pub state : State
  pub resets : ℕ
  pub reset_status : ℕ
  pub execution : ℕ

-- the registers of a partition that have no number
pub record SavedProcessor : Type 0 where
  pub pc : ℕ
  pub npc : ℕ
  pub y : ℕ
  pub icc : ℕ
  pub cwp : ℕ
  pub inv : ℕ

-- a page of a partition's memory that differs from what was loaded: its address and its bytes
pub record SavedPage : Type 0 where
  pub address : ℕ
  pub bytes : List ℕ

-- what a partition has stored: which of its ports are made, its numbered registers, its traces and its health log, the input words that are left,
-- and of each of its areas the pages that differ
pub record SavedStore : Type 0 where
  pub made : List Bool
  pub globals : List ℕ
  pub windows : List ℕ
  pub traces : Kept TraceEntry
  pub health : Kept HealthEntry
  pub inputs : List ℕ
  pub pages : List (List SavedPage)

-- of a partition
pub record SavedPartition : Type 0 where
  pub standing : SavedStanding
  pub processor : SavedProcessor
  pub traps : VirtualTraps
  pub hardware_timer : Option Timer
  pub execution_timer : Option Timer
  pub store : SavedStore

-- a machine: of the whole, what each channel holds, and of each partition
pub record SavedMachine : Type 0 where
  pub head : SavedHead
  pub channels : List Content
  pub parts : List SavedPartition
