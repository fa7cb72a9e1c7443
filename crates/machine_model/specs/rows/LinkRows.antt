-- Rows on links: the call that signals over one, and what a signal does.
use Rattle.std.specs.Prelude.{◌≡◌, ℕ, true, false, List, [], ◌∷◌, Some}
use Rattle.guest_bus.specs.Memory.{Memory}
use Rattle.virt_traps.specs.Virtual.{no_traps}
use Rattle.xm_base.specs.declared.partition.State.{State}
use Rattle.xm_base.specs.declared.partition.State.TheVariants.{Ready, Idle, Suspended, Halted}
use Rattle.xm_conf.specs.Configuration.{Conf}
use Rattle.xm_conf.specs.declared.link.Link.{Link}
use Rattle.xm_ports.specs.Ports.{no_ports}
use Rattle.xm_report.specs.Report.{EndPart, EndWhole}
use Rattle.machine_model.specs.rows.CallRows.{Calls, after_answer, caller, other_part}
use Rattle.machine_model.specs.Caller.{Caller}
use Rattle.machine_model.specs.Cue.{cue}
use Rattle.machine_model.specs.Machine.{Machine}
use Rattle.machine_model.specs.Partition.{PartitionState}
use Rattle.machine_model.specs.rows.Rows.{Leaves, Prints, at, calling, small_conf, halves, machine, of_part}
use Rattle.machine_model.specs.rows.ServedRows.{AnswersWith, DoesAct, made_by, minus, view_for, with_call}
use Rattle.machine_model.specs.rows.SlotRows.{suspended_partition, two_parts}
use Rattle.machine_model.specs.Emission.{OwnSignals, OwnStill, OwnTraffic, Trades}
use Rattle.machine_model.specs.Traffic.{Signals, heard_as, hearing, traffic_as}
use Rattle.machine_model.specs.rows.TrapRows.{with_table}
use Rattle.machine_model.specs.View.{PartitionView, view_of}
use Rattle.machine_model.specs.rows.WholeRows.{in_state}

-- a partition from which links 3 and 0 go
abbrev pub view_with_links : PartitionView
view_with_links = record (view_for false) { links = 3 ∷ 0 ∷ [] }

-- it makes a call with these values in its outs
abbrev pub link_call : List ℕ → Memory → Caller
link_call outs memory = made_by view_with_links (with_call outs memory)

-- call 38: over a link that goes from the caller there is a signal, and another number is refused
pub record LinkCallRows : Type 0 where
  pub sent : (memory : Memory) → DoesAct (link_call (38 ∷ 3 ∷ []) memory) (Trades (OwnSignals 3)) × DoesAct (link_call (38 ∷ 0 ∷ []) memory) (Trades (OwnSignals 0))
  pub no_link : (memory : Memory) →
      AnswersWith (link_call (38 ∷ 1 ∷ []) memory) (minus 3)
      × AnswersWith (link_call (38 ∷ 0xffff_ffff ∷ []) memory) (minus 3)
      × AnswersWith (made_by (view_for true) (with_call (38 ∷ 0 ∷ []) memory)) (minus 3)

-- a signal over a link of this number makes these interrupts pending at a partition in this state
abbrev pub Signalled : ℕ → State → ℕ → Memory → Type 0
Signalled number state pending memory =
    hearing (view_for false) (OwnSignals number) (in_state state no_ports memory) ≡ record (in_state state no_ports memory) { traps = record no_traps { pending = pending } }

-- interrupt 8 and those that follow it come with links 0 to 7; a partition that has halted hears of none
pub record SignalRows : Type 0 where
  pub first : (memory : Memory) → Signalled 0 Ready 0x100 memory × Signalled 0 Idle 0x100 memory × Signalled 0 Suspended 0x100 memory
  pub last : (memory : Memory) → Signalled 7 Ready 0x8000 memory
  pub halted : (memory : Memory) → Signalled 0 Halted 0 memory × Signalled 7 Halted 0 memory

-- a link of this number from one partition to another
abbrev pub link_between : ℕ → ℕ → ℕ → Link
link_between number source dest = record { number = number; source = source; dest = dest }

-- two partitions: links 3 and 5 go from the first to the second, and link 0 goes back
abbrev pub linked_conf : Conf
linked_conf = record (small_conf (halves ∷ []) (caller false ∷ other_part ∷ []) []) { links = link_between 3 0 1 ∷ link_between 0 1 0 ∷ link_between 5 0 1 ∷ [] }

-- both, in the second tick of a frame, which is the first one's
abbrev pub over_links : PartitionState → PartitionState → Machine
over_links one other = machine linked_conf (0x40000000 ∷ 0x40000100 ∷ []) 1 (one ∷ other ∷ [])

-- what each has of the links
abbrev pub links_seen : ℕ → List ℕ
links_seen p = (view_of (record { conf = linked_conf; images = []; inputs = [] }) p).links

-- a partition has the numbers of its own links alone; its signal is heard by the partition at the link's end, under the link's number, and by no
-- other one; and a link to the partition itself brings nothing
pub record LinkRows : Type 0 where
  pub own : links_seen 0 ≡ 3 ∷ 5 ∷ [] × links_seen 1 ≡ 0 ∷ []
  pub numbered : traffic_as linked_conf 0 (OwnSignals 5) ≡ Signals 0 5 × traffic_as linked_conf 1 (OwnSignals 0) ≡ Signals 1 0
  pub heard : heard_as linked_conf 1 (Signals 0 5) ≡ OwnSignals 5 × heard_as linked_conf 0 (Signals 0 5) ≡ OwnStill
  pub back : heard_as linked_conf 0 (Signals 1 0) ≡ OwnSignals 0 × heard_as linked_conf 1 (Signals 1 0) ≡ OwnStill
  pub no_link : heard_as linked_conf 0 (Signals 0 0) ≡ OwnStill × heard_as linked_conf 1 (Signals 0 0) ≡ OwnStill
  pub itself : heard_as (record linked_conf { links = link_between 3 0 0 ∷ [] }) 0 (Signals 0 3) ≡ OwnStill

-- the traffic of others that a partition receives in the next tick
pub record ReceivesTraffic (g : Machine) (p : ℕ) (traffic : OwnTraffic) : Type 0 where
  pub received : (cue g p).traffic ≡ traffic

-- a call over link 5 is answered 0; interrupt 13 is pending at the other end, which receives the signal, and the caller is as it was
abbrev pub SignalsOther : Type 0
SignalsOther = (one other : Memory) → Calls (caller false) one
    → Leaves (λ g. g.parts) (over_links (calling 0x40000000 (38 ∷ 5 ∷ []) one) (at 0x40000100 other)) 1
    (after_answer 0 (calling 0x40000000 (38 ∷ 5 ∷ []) one) ∷ record (at 0x40000100 other) { traps = record no_traps { pending = 0x2000 } } ∷ [])
    × ReceivesTraffic (over_links (calling 0x40000000 (38 ∷ 5 ∷ []) one) (at 0x40000100 other)) 1 (OwnSignals 5)
    × ReceivesTraffic (over_links (calling 0x40000000 (38 ∷ 5 ∷ []) one) (at 0x40000100 other)) 0 OwnStill

-- one that has halted receives it and stays as it was
abbrev pub SignalsHalted : Type 0
SignalsHalted = (one other : Memory) → Calls (caller false) one
    → Leaves (λ g. g.parts) (over_links (calling 0x40000000 (38 ∷ 5 ∷ []) one) (record (at 0x40000100 other) { state = Halted })) 1
    (after_answer 0 (calling 0x40000000 (38 ∷ 5 ∷ []) one) ∷ record (at 0x40000100 other) { state = Halted } ∷ [])
    × ReceivesTraffic (over_links (calling 0x40000000 (38 ∷ 5 ∷ []) one) (record (at 0x40000100 other) { state = Halted })) 1 (OwnSignals 5)

-- a number of a link that goes to the caller is refused with -3, and nothing is signalled
abbrev pub SignalsNotBack : Type 0
SignalsNotBack = (one other : Memory) → Calls (caller false) one
    → Leaves (λ g. g.parts) (over_links (calling 0x40000000 (38 ∷ 0 ∷ []) one) (at 0x40000100 other)) 1
    (after_answer (minus 3) (calling 0x40000000 (38 ∷ 0 ∷ []) one) ∷ at 0x40000100 other ∷ [])
    × ReceivesTraffic (over_links (calling 0x40000000 (38 ∷ 0 ∷ []) one) (at 0x40000100 other)) 1 OwnStill

-- a partition that takes traps, with interrupt 8 pending, and masked or not
abbrev pub signalled : ℕ → Memory → PartitionState
signalled mask memory = record (at 0x40000000 memory) { traps = with_table true 0x100 mask }

-- the interrupt of link 0 is delivered as trap e8
abbrev pub SignalIsDelivered : Type 0
SignalIsDelivered = (one other : Memory)
    → Prints (two_parts 1 (signalled 0xffff_feff one) (suspended_partition other)) 1 (EndPart 0 Ready 0 1 0x40001e80 ∷ EndPart 1 Suspended 0 0 0x40000100 ∷ EndWhole false 0 2 2 ∷ [])
    × Leaves (of_part (λ ps. ps.traps) 0) (two_parts 1 (signalled 0xffff_feff one) (suspended_partition other)) 1 (Some (with_table false 0 0xffff_feff))
