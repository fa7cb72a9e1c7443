-- Hypervisor events: what is done to the whole system, as one partition meets it.
use Rattle.std.specs.Prelude.{ℕ, ◌+◌, List, [], ◌∷◌}
use Rattle.xm_ports.specs.Channels.{Content, cleared}
use Rattle.xm_report.specs.Report.{ReportLine, MovedLine, WholeLine}
use Rattle.xm_report.specs.declared.line.Move.TheVariants as move
use Rattle.machine_model.specs.Partition.{PartitionState, reset, reset_move, resets_after}
use Rattle.machine_model.specs.Emission.{Act, reach_of}
pub use Rattle.machine_model.specs.Emission.{AllHalted, AllReset, NoEvent, WholeEvent}
use Rattle.machine_model.specs.View.{PartitionView}

-- the hypervisor event of an act
abbrev pub event_of : Act → WholeEvent
event_of act = (reach_of act).event

-- what a hypervisor event leaves of a partition
abbrev pub after_event : PartitionView → WholeEvent → PartitionState → PartitionState
after_event view NoEvent ps = ps
after_event view (AllReset a_mode) ps = reset view a_mode 0 ps
after_event view AllHalted ps = ps

-- what it leaves of a channel
abbrev pub content_after : WholeEvent → Content → Content
content_after NoEvent content = content
content_after (AllReset a_mode) content = cleared content
content_after AllHalted content = content

-- the line that it gives partition p in tick n
abbrev pub event_lines : ℕ → WholeEvent → ℕ → List ReportLine
event_lines n NoEvent p = []
event_lines n (AllReset a_mode) p = MovedLine n p (reset_move a_mode) ∷ []
event_lines n AllHalted p = []

-- the line that it gives the whole system in tick n
abbrev pub whole_lines : ℕ → WholeEvent → List ReportLine
whole_lines n NoEvent = []
whole_lines n (AllReset a_mode) = WholeLine n (reset_move a_mode) ∷ []
whole_lines n AllHalted = WholeLine n move.Halt ∷ []

-- the ticks done after a tick: the one in which the hypervisor halts is not counted
abbrev pub ticks_after : WholeEvent → ℕ → ℕ
ticks_after NoEvent ticks = ticks + 1
ticks_after (AllReset a_mode) ticks = ticks + 1
ticks_after AllHalted ticks = ticks

-- the hardware clock after a tick: a reset starts it again
abbrev pub time_after : WholeEvent → ℕ → ℕ
time_after NoEvent time = time + 1
time_after (AllReset a_mode) time = 0
time_after AllHalted time = time

-- how often the hypervisor was reset
abbrev pub whole_resets_after : WholeEvent → ℕ → ℕ
whole_resets_after NoEvent resets = resets
whole_resets_after (AllReset a_mode) resets = resets_after a_mode resets
whole_resets_after AllHalted resets = resets
