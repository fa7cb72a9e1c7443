-- For proofs and private clauses: the work of one tick, as it is done on the whole system: what it leaves, the lines that it adds, and how it reaches beyond its partition.
use Rattle.std.specs.Prelude.{ℕ, zero, suc, List, [], ◌∷◌, ◌++◌, Some}
use Rattle.xm_base.specs.declared.partition.Mode.{Mode}
use Rattle.xm_report.specs.Report.{ReportLine}
use Rattle.machine_model.specs.Lines.{plan_lines}
use Rattle.machine_model.specs.Lists.{all_of}
use Rattle.machine_model.specs.Machine.{Machine, clock_after}
use Rattle.machine_model.specs.Emission as emission
use Rattle.machine_model.specs.Emission.{Act, Emission, reach_of}
use Rattle.machine_model.specs.Whole.{AllReset, event_lines, event_of, whole_lines}
use Rattle.system_state.specs.declared.served.Note.{Note}
use Rattle.system_state.specs.declared.served.Note.TheVariants as note
use Rattle.span_model.specs.Passes.{evented, obeyed_in, obeyed_lines, rest_but, tick_ended}

-- the end of a tick of partition p: its order, a hypervisor event, the rest of all others, and the clocks
abbrev pub ended_by : Act → ℕ → Machine → Machine
ended_by act p g = tick_ended act (rest_but (Some p) g.time (evented (event_of act) (obeyed_in (reach_of act).directed g)))

-- its lines
abbrev pub ending_lines : Act → Machine → List ReportLine
ending_lines act g =
    obeyed_lines (reach_of act).directed g ++ whole_lines g.ticks (event_of act) ++ all_of (λ q ps. event_lines g.ticks (event_of act) q) g.parts
    ++ plan_lines g.ticks g.clock.plan (clock_after (event_of act) g.system.conf act g.clock g.time).plan

-- what each number below one adds, one after the other
abbrev pub added_below : {Y : Type 0} → (ℕ → List Y) → ℕ → List Y
added_below f zero = []
added_below f (suc n) = added_below f n ++ f n

-- the lines of a reset of all, which are this many, in tick n
abbrev pub reset_lines : ℕ → ℕ → Mode → List ReportLine
reset_lines n count mode = whole_lines n (AllReset mode) ++ added_below (λ p. event_lines n (AllReset mode) p) count

-- what a note reports of traces
abbrev pub trace_emissions : Note → List Emission
trace_emissions note.Nothing = []
trace_emissions (note.Console at size) = []
trace_emissions (note.Trace entry) = emission.Trace entry.bits entry.load ∷ []
trace_emissions (note.Put chan at size) = []
trace_emissions (note.Take chan) = []
trace_emissions (note.Saw at size) = []
trace_emissions note.NotKept = []
trace_emissions (note.Signal number) = []
