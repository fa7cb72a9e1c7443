-- Where a run ends before its ticks are done: before a tick that executes at an address, or after one that changed a byte.
use Rattle.std.specs.Prelude.{◌≡◌, ℕ, zero, suc, ◌-◌, ◌<◌, ◌≤◌, ◌==◌, ◌&&◌, ◌||◌, not, Bool, true, false, List, [], ◌∷◌, ◌++◌, Option, Some, None, unwrap_or}
use Rattle.std.specs.List.{list_any}
use Rattle.guest_bus.specs.Memory.{byte_at}
use Rattle.xm_base.specs.Options.{on}
use Rattle.machine_model.specs.Alone.{Alone, alone_step}
use Rattle.machine_model.specs.Cue.{Cue, cue}
use Rattle.machine_model.specs.Laws.{alone_part_at}
use Rattle.machine_model.specs.Machine.{Machine, step}
use Rattle.machine_model.specs.View.{PartitionView, view_of}
use Rattle.upset_model.specs.Places.{Timetable, upsets_of}
use Rattle.upset_model.specs.Reports.{reported}
use Rattle.upset_model.specs.Upsets.{Schedule, Strike, alone_struck, later, own_strikes, ready, upset_run, upset_script}
use Rattle.continuation_laws.specs.Continued.{from_tick}
use Rattle.run_records.specs.Counts.{is_executed}
use Rattle.run_records.specs.Executed.{executed_in}

-- a stop: a partition's instruction at an address, or a byte of a partition that changes
pub data Stop : Type 0 where
  AtInstruction : (part address : ℕ) → Stop
  AtChange : (part address : ℕ) → Stop

-- whether a partition executes an instruction at an address in a tick that it finds
abbrev pub executes_at : ℕ → PartitionView → Option Alone → Cue → Bool
executes_at address view None cue = false
executes_at address view (Some a) cue = is_executed address (executed_in view (record { found = a; cue = cue }))

-- the byte that a partition has at an address, where there is such a partition
abbrev pub byte_of : ℕ → Option Alone → Option ℕ
byte_of address None = None
byte_of address (Some a) = Some (byte_at a.state.memory address)

-- whether there is another byte after than before
abbrev pub is_another : Option ℕ → Option ℕ → Bool
is_another None after = false
is_another (Some old) None = false
is_another (Some old) (Some new) = not (old == new)

-- whether a run ends before a tick by a stop: the machine is as the tick finds it
abbrev pub ends_before : Machine → Stop → Bool
ends_before g (AtInstruction part address) = executes_at address (view_of g.system part) (alone_part_at g part) (cue g part)
ends_before g (AtChange part address) = false

-- whether a run ends after a tick by a stop: between these machines were the tick and the upsets before it
abbrev pub ends_after : Machine → Machine → Stop → Bool
ends_after before after (AtInstruction part address) = false
ends_after before after (AtChange part address) = is_another (byte_of address (alone_part_at before part)) (byte_of address (alone_part_at after part))

-- the ticks after which a run ends, by whether it ends before its first tick, or after it, and by when those that follow end
abbrev pub ended_by : Bool → Bool → Option ℕ → Option ℕ
ended_by true after rest = Some 0
ended_by false true rest = Some 1
ended_by false false rest = on (λ done. suc done) rest

-- no stop ends a run of a machine that has halted
abbrev pub ended_unless : Bool → Option ℕ → Option ℕ
ended_unless true ends = None
ended_unless false ends = ends

-- the ticks after which one of the stops ends a run of this many ticks, where one does
abbrev pub first_stop : List Stop → Schedule → Machine → ℕ → Option ℕ
first_stop stops s g zero = None
first_stop stops s g (suc count) =
    ended_unless g.halted
    (ended_by (list_any (ends_before (ready (s 0) g)) stops) (list_any (ends_after g (step (ready (s 0) g))) stops) (first_stop stops (later s) (step (ready (s 0) g)) count))

-- the ticks that the run does: all, where no stop ends it
abbrev pub ticks_until : List Stop → Schedule → Machine → ℕ → ℕ
ticks_until stops s g count = unwrap_or (first_stop stops s g count) count

-- whether one of the stops holds before the tick that follows this many ticks
abbrev pub holds_before : List Stop → Schedule → Machine → ℕ → Bool
holds_before stops s g done = not (upset_run s g done).halted && list_any (ends_before (ready (s done) (upset_run s g done))) stops

-- whether one of them holds after this many ticks, by the last of these
abbrev pub holds_after : List Stop → Schedule → Machine → ℕ → Bool
holds_after stops s g zero = false
holds_after stops s g (suc done) =
    not (upset_run s g done).halted && list_any (ends_after (upset_run s g done) (step (ready (s done) (upset_run s g done)))) stops

-- whether a run that has done this many ticks is where one of the stops holds
abbrev pub holds_at : List Stop → Schedule → Machine → ℕ → Bool
holds_at stops s g done = holds_before stops s g done || holds_after stops s g done

-- the first stop: it holds there, and none holds after fewer ticks; where there is none, none holds before any of the ticks or after it
abbrev pub IsFirstStop : List Stop → Schedule → Machine → ℕ → Option ℕ → Type 0
IsFirstStop stops s g count None = (k : ℕ) → k < count → (holds_before stops s g k ≡ false) × (holds_after stops s g (suc k) ≡ false)
IsFirstStop stops s g count (Some done) = (done ≤ count) × (holds_at stops s g done ≡ true) × ((k : ℕ) → k < done → holds_at stops s g k ≡ false)

abbrev pub StopsFirst : Type 0
StopsFirst = (stops : List Stop) (count : ℕ) (s : Schedule) (g : Machine) → IsFirstStop stops s g count (first_stop stops s g count)

-- the ticks of a run that a stop ends are the first ones of the run without it, and so is what it reports
pub record IsPrefix (t : Timetable) (g : Machine) (done count : ℕ) : Type 0 where
  pub within : done ≤ count
  pub state : upset_run (upsets_of t) g count ≡ upset_run (from_tick done (upsets_of t)) (upset_run (upsets_of t) g done) (count - done)
  pub lines : reported t g count ≡ reported t g done ++ reported (from_tick done t) (upset_run (upsets_of t) g done) (count - done)

abbrev pub StopsInPrefix : Type 0
StopsInPrefix = (stops : List Stop) (t : Timetable) (g : Machine) (count : ℕ) → IsPrefix t g (ticks_until stops (upsets_of t) g count) count

-- the stops of one partition alone: before a tick that it finds, and after it
abbrev pub alone_ends_before : PartitionView → Alone → Cue → Stop → Bool
alone_ends_before view a cue (AtInstruction part address) = executes_at address view (Some a) cue
alone_ends_before view a cue (AtChange part address) = false

abbrev pub alone_ends_after : Alone → Alone → Stop → Bool
alone_ends_after before after (AtInstruction part address) = false
alone_ends_after before after (AtChange part address) = is_another (byte_of address (Some before)) (byte_of address (Some after))

-- the cues after which one of the stops ends a replay of the partition with its own upsets, where one does
abbrev pub alone_first_stop : List Stop → PartitionView → (ℕ → List Strike) → Alone → List Cue → Option ℕ
alone_first_stop stops view own a [] = None
alone_first_stop stops view own a (cue ∷ cues) =
    ended_by (list_any (alone_ends_before view (alone_struck (own 0) a) cue) stops) (list_any (alone_ends_after a (alone_step view (alone_struck (own 0) a) cue)) stops)
    (alone_first_stop stops view (later own) (alone_step view (alone_struck (own 0) a) cue) cues)

-- the partition of a stop
abbrev pub part_of_stop : Stop → ℕ
part_of_stop (AtInstruction part address) = part
part_of_stop (AtChange part address) = part

-- all these stops are of one partition
abbrev pub AreStopsOf : ℕ → List Stop → Type 0
AreStopsOf p [] = Unit {0}
AreStopsOf p (stop ∷ stops) = (part_of_stop stop ≡ p) × AreStopsOf p stops

-- a run whose stops are all of one partition ends where that partition alone does, under its script and with its own upsets
abbrev pub StopsAlone : Type 0
StopsAlone = (stops : List Stop) (count : ℕ) (s : Schedule) (g : Machine) (p : ℕ) (a : Alone) → AreStopsOf p stops → alone_part_at g p ≡ Some a
    → first_stop stops s g count ≡ alone_first_stop stops (view_of g.system p) (own_strikes p s) a (upset_script s g p count)
