-- For proofs: what holds of a partition at all times holds after a flip.
use Rattle.std.specs.Prelude.{ℕ, Bool}
use Rattle.machine_model.specs.Facts.{AreFacts}
use Rattle.machine_model.specs.Partition.{PartitionState}
use Rattle.machine_model.specs.View.{PartitionView}
use Rattle.upset_model.specs.Places.{flip}
use Rattle.xm_report.specs.declared.place.Place.{Place}
use Rattle.xm_report.specs.declared.place.Place.TheVariants.{Conditions, ExecutionDeadline, Global, HardwareDeadline, Mask, MemoryByte, Npc, Pc, Pending, TrapBase, Windowed, YRegister}

pub facts_stay : (view : PartitionView) (ticks : ℕ) (halts : Bool) (place : Place) (bit : ℕ) (ps : PartitionState) → AreFacts view ticks halts ps → AreFacts view ticks halts (flip place bit ps)
facts_stay view ticks halts (Global n) bit ps f = record { traces = f.traces; health = f.health; execution = f.execution; loads = f.loads; inputs = f.inputs; made = f.made }
facts_stay view ticks halts (Windowed n) bit ps f = record { traces = f.traces; health = f.health; execution = f.execution; loads = f.loads; inputs = f.inputs; made = f.made }
facts_stay view ticks halts Pc bit ps f = record { traces = f.traces; health = f.health; execution = f.execution; loads = f.loads; inputs = f.inputs; made = f.made }
facts_stay view ticks halts Npc bit ps f = record { traces = f.traces; health = f.health; execution = f.execution; loads = f.loads; inputs = f.inputs; made = f.made }
facts_stay view ticks halts YRegister bit ps f = record { traces = f.traces; health = f.health; execution = f.execution; loads = f.loads; inputs = f.inputs; made = f.made }
facts_stay view ticks halts Conditions bit ps f = record { traces = f.traces; health = f.health; execution = f.execution; loads = f.loads; inputs = f.inputs; made = f.made }
facts_stay view ticks halts HardwareDeadline bit ps f = record { traces = f.traces; health = f.health; execution = f.execution; loads = f.loads; inputs = f.inputs; made = f.made }
facts_stay view ticks halts ExecutionDeadline bit ps f = record { traces = f.traces; health = f.health; execution = f.execution; loads = f.loads; inputs = f.inputs; made = f.made }
facts_stay view ticks halts TrapBase bit ps f = record { traces = f.traces; health = f.health; execution = f.execution; loads = f.loads; inputs = f.inputs; made = f.made }
facts_stay view ticks halts Mask bit ps f = record { traces = f.traces; health = f.health; execution = f.execution; loads = f.loads; inputs = f.inputs; made = f.made }
facts_stay view ticks halts Pending bit ps f = record { traces = f.traces; health = f.health; execution = f.execution; loads = f.loads; inputs = f.inputs; made = f.made }
facts_stay view ticks halts (MemoryByte address) bit ps f = record { traces = f.traces; health = f.health; execution = f.execution; loads = f.loads; inputs = f.inputs; made = f.made }
