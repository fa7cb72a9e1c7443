-- The work of one tick, as it is done on the whole system: what it leaves, the lines that it adds, and how it reaches beyond its partition.
use Rattle.std.specs.Prelude.{◌≡◌, ◌⊎◌, ℕ, ◌<◌, List, [], ◌∷◌, ◌++◌, length, map, Option, None, Some}
use Rattle.guest_bus.specs.Memory.{Memory, bytes_at}
use Rattle.xm_report.specs.Report.{ReportLine}
use Rattle.machine_model.specs.Health.{Worked, done_to_all}
use Rattle.machine_model.specs.Machine.{Machine}
use Rattle.machine_model.specs.Partition.{PartitionState}
use Rattle.machine_model.specs.Emission as emission
use Rattle.machine_model.specs.Emission.{Act, Sight, Emission, line_of}
use Rattle.system_state.specs.Serving.{CanBeEmitted, sight_by, traffic_by, without_traffic}
use Rattle.system_state.specs.State.{SysState, areas_in, with_machine}
use Rattle.system_state.specs.declared.served.Note.{Note}
use Rattle.system_state.specs.declared.served.Note.TheVariants as note
use Rattle.span_model.specs.Passes.{traded, traffic_in, with_part}
use Rattle.tick_steps.specs.declared.beyond.Beyond.{Beyond}
use Rattle.tick_steps.specs.declared.beyond.Beyond.TheVariants as beyond

-- the act of a work, but for its traffic
abbrev pub act_beyond : Beyond → Act
act_beyond beyond.Nothing = emission.Nothing
act_beyond (beyond.Order id order) = emission.Upon id order
act_beyond (beyond.Plan plan) = emission.Plans (emission.Asked plan)
act_beyond (beyond.Whole event) = done_to_all event

-- an order is on a partition that there is
abbrev pub ReachIsUponOne : Beyond → Machine → Type 0
ReachIsUponOne beyond.Nothing g = Unit {0}
ReachIsUponOne (beyond.Order id order) g = id < length g.parts
ReachIsUponOne (beyond.Plan plan) g = Unit {0}
ReachIsUponOne (beyond.Whole event) g = Unit {0}

-- what a note reports of the console, over the memory that the tick leaves
abbrev pub console_emissions : Note → Memory → List Emission
console_emissions note.Nothing memory = []
console_emissions (note.Console at size) memory = emission.Console (bytes_at memory at size) ∷ []
console_emissions (note.Trace entry) memory = []
console_emissions (note.Put chan at size) memory = []
console_emissions (note.Take chan) memory = []
console_emissions (note.Saw at size) memory = []
console_emissions note.NotKept memory = []
console_emissions (note.Signal number) memory = []

-- a part of the work of partition p: it leaves this of the partition, and adds the lines of what it emits
pub record IsPartDone (p : ℕ) (after : PartitionState) (tale : List Emission) (old new : SysState) (had got : List ReportLine) : Type 0 where
  pub state : new ≡ with_machine (with_part p after old.machine) old
  pub lines : got ≡ had ++ map (line_of old.machine.ticks p) tale

-- the whole work of partition p: its traffic is done, the note has the bytes of the line for its console, and the rest of its lines stand
pub record IsTickWorked (p : ℕ) (work : Worked) (a_note : Note) (reach : Beyond) (old new : SysState) (got : List ReportLine) : Type 0 where
  pub state : new ≡ with_machine (traded (traffic_in old.machine p work.act) (with_part p work.after old.machine)) old
  pub lines : map (line_of old.machine.ticks p) work.emitted ≡ map (line_of old.machine.ticks p) (console_emissions a_note work.after.memory) ++ got
  pub act : without_traffic work.act ≡ act_beyond reach
  pub readable : CanBeEmitted a_note (areas_in p old.machine)
  pub one : ReachIsUponOne reach old.machine

-- the traffic of a call of partition p, and what it was shown, are what its note records
pub record IsNotedBy (p : ℕ) (shown : Sight) (work : Worked) (a_note : Note) (old : SysState) : Type 0 where
  pub traffic : traffic_in old.machine p work.act ≡ traffic_by p a_note work.after.memory
  pub seen : shown ≡ sight_by a_note work.after.memory

-- the note of a call, and how it reaches beyond its partition: a call that notes nothing and reaches beyond no partition answers no such pair
abbrev pub note_in : Option (Note × Beyond) → Note
note_in None = note.Nothing
note_in (Some emitted) = emitted.0

abbrev pub reach_in : Option (Note × Beyond) → Beyond
reach_in None = beyond.Nothing
reach_in (Some emitted) = emitted.1

-- nothing reaches beyond the partition, or only that a plan is asked for
abbrev pub AsksAtMost : Beyond → Type 0
AsksAtMost reach = (act_beyond reach ≡ emission.Nothing) ⊎ ((plan : ℕ) × (act_beyond reach ≡ emission.Plans (emission.Asked plan)))

-- where bytes for the console or of a message are noted, nothing reaches beyond the partition; where it was shown bytes, it may ask for a plan
abbrev pub EmitsAlone : Note → Beyond → Type 0
EmitsAlone note.Nothing reach = Unit {0}
EmitsAlone (note.Console at size) reach = act_beyond reach ≡ emission.Nothing
EmitsAlone (note.Trace entry) reach = Unit {0}
EmitsAlone (note.Put chan at size) reach = act_beyond reach ≡ emission.Nothing
EmitsAlone (note.Take chan) reach = Unit {0}
EmitsAlone (note.Saw at size) reach = AsksAtMost reach
EmitsAlone note.NotKept reach = Unit {0}
EmitsAlone (note.Signal number) reach = Unit {0}
