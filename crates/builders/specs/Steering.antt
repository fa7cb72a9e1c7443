-- What is printed of the partitions of a system description that may steer others, after the groups.
use Rattle.std.specs.Prelude.{◌≡◌, ◌≢◌, ◌↔◌, ℕ, Bool, true, false, if◌then◌else◌, List, [], ◌++◌, codes, decimal, Result, Ok, Some, slice_get}
use Rattle.std.specs.List.{flat_map}
use Rattle.health_monitor.specs.Monitor.{action_in}
use Rattle.xm_conf.specs.Along.{added_by_each}
use Rattle.xm_conf.specs.Configuration.{Conf, Part}
use Rattle.xm_conf.specs.Health.{action_row, event_row, events}
use Rattle.xm_conf.specs.declared.health.Action.{Action}
use Rattle.xm_conf.specs.declared.health.Event.{Event}
use Rattle.xm_conf.specs.declared.part.HmTable.{HmTable}
use Rattle.machine_model.specs.View.{System, view_of}
use Rattle.xm_flows.specs.Rights.{MaySteer, reaches_all}
use Rattle.builders.specs.Grouping.{group_line_in}
use Rattle.builders.specs.Parsing.{conf_of, of_conf}

-- the line of a partition that may steer others as a system partition
unfoldable pub flag_line : ℕ → List ℕ
flag_line p = codes "P" ++ decimal p ++ codes " steers by=system\n"

-- the line of a partition that may steer others by an action that its health table has for an event
unfoldable pub answer_line : ℕ → Event → Action → List ℕ
answer_line p event action =
    codes "P" ++ decimal p ++ codes " steers by=health event=" ++ (event_row event).text ++ codes " action=" ++ (action_row action).text ++ codes "\n"

-- the line of the system flag, where a partition has it
abbrev pub flag_lines : ℕ → Bool → List ℕ
flag_lines p true = flag_line p
flag_lines p false = []

-- the line of the action for an event, where it reaches all partitions
abbrev pub answer_lines : ℕ → Event → Action → List ℕ
answer_lines p event action = if reaches_all action then answer_line p event action else []

-- the lines of a health table for these events: one for each whose action reaches all partitions
abbrev pub table_lines_for : ℕ → HmTable → List Event → List ℕ
table_lines_for p table events = flat_map (λ event. answer_lines p event (action_in table event)) events

-- its lines for all events, in the order of their numbers
abbrev pub table_lines : ℕ → HmTable → List ℕ
table_lines p table = table_lines_for p table events

-- all that a partition may steer others by: its system flag, then its health table
unfoldable pub steering_lines : ℕ → Part → List ℕ
steering_lines p part = flag_lines p part.system ++ table_lines p part.hm

-- the lines of the groups of a configuration, and then those of steering
abbrev pub steering_for : Conf → Result (List ℕ) (List ℕ)
steering_for conf = Ok (added_by_each (group_line_in conf) conf.parts ++ added_by_each steering_lines conf.parts)

-- these lines of a text, or the text of its first fault
unfoldable pub steering_of : List ℕ → Result (List ℕ) (List ℕ)
steering_of text = of_conf steering_for (conf_of text)

-- a partition has a line exactly where it may steer others
abbrev pub ShowsSteerers : Type 0
ShowsSteerers = (system : System) (p : ℕ) (part : Part) → slice_get system.conf.parts p ≡ Some part → (steering_lines p part ≢ []) ↔ MaySteer (view_of system p)
