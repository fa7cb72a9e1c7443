-- The elements with their values, from the attributes that stand in their tags.
use Rattle.std.specs.Prelude.{ℕ, Bool, true, false, if◌then◌else◌, List, [], ◌∷◌, Option, Some, None, is_some}
use Rattle.xm_conf.specs.Name.{name_from_bytes}
use Rattle.xm_conf.specs.Health.{event_named, action_named}
use Rattle.xm_conf.specs.declared.health.Event.{Event}
use Rattle.xm_conf.specs.declared.health.Action.{Action}
use Rattle.xmcf_reader.specs.Words.{is_word}
use Rattle.xmcf_reader.specs.Values.{on_value, number, address, size, time, flags, access, log, kind_named, way_named}
use Rattle.xmcf_reader.specs.declared.word.Word.{Word}
use Rattle.xmcf_reader.specs.declared.word.Word.TheVariants as word
use Rattle.xmcf_reader.specs.declared.draft.Element.{Element}
use Rattle.xmcf_reader.specs.declared.draft.Element.TheVariants as element

-- an attribute that stands in a tag: its name, and the text of its value
pub record Pair : Type 0 where
  pub word : Word
  pub text : List ℕ

-- the text of an attribute, where it stands
abbrev pub attribute_text : Word → List Pair → Option (List ℕ)
attribute_text word [] = None
attribute_text word (pair ∷ pairs) = if is_word pair.word word then Some pair.text else attribute_text word pairs

-- whether an attribute stands
abbrev pub is_given : Word → List Pair → Bool
is_given word pairs = is_some (attribute_text word pairs)

-- the text that there is, or no bytes
abbrev pub or_empty : Option (List ℕ) → List ℕ
or_empty None = []
or_empty (Some text) = text

-- the text of an attribute, or no bytes
unfoldable pub attribute_text_of : Word → List Pair → List ℕ
attribute_text_of word pairs = or_empty (attribute_text word pairs)

-- what a text means, or what no text means
abbrev pub default : {A : Type 0} → A → (List ℕ → Option A) → Option (List ℕ) → Option A
default x meaning None = Some x
default x meaning (Some text) = meaning text

-- the system's element
unfoldable pub system : List Pair → Option Element
system given = on_value (name_from_bytes (attribute_text_of word.Name given)) (λ name. Some (element.System name))

-- a region
unfoldable pub region_element : List Pair → Option Element
region_element given = on_value (address (attribute_text_of word.Start given)) (λ start. on_value (size (attribute_text_of word.Size given)) (λ size. Some (element.Region start size)))

-- the processor
unfoldable pub processor : List Pair → Option Element
processor given = on_value (number (attribute_text_of word.Id given)) (λ id. Some (element.Processor id))

-- a plan
unfoldable pub plan_element : List Pair → Option Element
plan_element given = on_value (number (attribute_text_of word.Id given)) (λ id. on_value (time (attribute_text_of word.MajorFrame given)) (λ frame. Some (element.Plan id frame)))

-- a slot
unfoldable pub slot_element : List Pair → Option Element
slot_element given =
    on_value (number (attribute_text_of word.Id given)) (λ id.
    on_value (time (attribute_text_of word.Start given)) (λ start.
    on_value (time (attribute_text_of word.Duration given)) (λ duration.
    on_value (number (attribute_text_of word.PartitionId given)) (λ part. Some (element.Slot id start duration part)))))

-- a UART
unfoldable pub uart : List Pair → Option Element
uart given = on_value (number (attribute_text_of word.Id given)) (λ id. on_value (name_from_bytes (attribute_text_of word.Name given)) (λ name. Some (element.Uart id name)))

-- the hypervisor's area
unfoldable pub hypervisor_area : List Pair → Option Element
hypervisor_area given = on_value (size (attribute_text_of word.Size given)) (λ size. Some (element.HvArea size))

-- whether a partition is a system partition
unfoldable pub system_given : List Pair → Option Bool
system_given given = default false flags (attribute_text word.Flags given)

-- a partition's console
unfoldable pub console_given : List Pair → Option (Option (List ℕ))
console_given given = default None (λ text. on_value (name_from_bytes text) (λ name. Some (Some name))) (attribute_text word.Console given)

-- a partition
unfoldable pub partition : List Pair → Option Element
partition given =
    on_value (number (attribute_text_of word.Id given)) (λ id.
    on_value (name_from_bytes (attribute_text_of word.Name given)) (λ name.
    on_value (system_given given) (λ system.
    on_value (console_given given) (λ console. Some (element.Partition id name system console)))))

-- whether an area is only read
unfoldable pub is_read_only : List Pair → Option Bool
is_read_only given = default false access (attribute_text word.Flags given)

-- an area
unfoldable pub area_element : List Pair → Option Element
area_element given =
    on_value (address (attribute_text_of word.Start given)) (λ start.
    on_value (size (attribute_text_of word.Size given)) (λ size.
    on_value (is_read_only given) (λ read_only. Some (element.Area start size read_only))))

-- a requirement
unfoldable pub need_element : List Pair → Option Element
need_element given = on_value (time (attribute_text_of word.Duration given)) (λ duration. on_value (time (attribute_text_of word.Period given)) (λ period. Some (element.Need duration period)))

-- whether an event is logged
unfoldable pub logged_given : List Pair → Option Bool
logged_given given = default true log (attribute_text word.Log given)

-- the event that a health event's tag names
unfoldable pub event_given : List Pair → Option Event
event_given given = event_named (attribute_text_of word.Name given)

-- the action that a health event's tag names
unfoldable pub action_given : List Pair → Option Action
action_given given = action_named (attribute_text_of word.Action given)

-- a health event
unfoldable pub event : List Pair → Option Element
event given =
    on_value (event_given given) (λ event.
    on_value (action_given given) (λ action.
    on_value (logged_given given) (λ log. Some (element.Event event action log))))

-- the trace
unfoldable pub trace : List Pair → Option Element
trace given = on_value (address (attribute_text_of word.Bitmask given)) (λ mask. Some (element.Trace mask))

-- a port
unfoldable pub port_element : List Pair → Option Element
port_element given =
    on_value (name_from_bytes (attribute_text_of word.Name given)) (λ name.
    on_value (kind_named (attribute_text_of word.Kind given)) (λ kind.
    on_value (way_named (attribute_text_of word.Direction given)) (λ way. Some (element.Port name kind way))))

-- a sampling channel's refresh period; 0 is forever
unfoldable pub refresh : List Pair → Option ℕ
refresh given = default 0 time (attribute_text word.RefreshPeriod given)

-- a sampling channel
unfoldable pub sampling : List Pair → Option Element
sampling given = on_value (size (attribute_text_of word.MaxMessageLength given)) (λ length. on_value (refresh given) (λ refresh. Some (element.Sampling length refresh)))

-- a queuing channel
unfoldable pub queuing : List Pair → Option Element
queuing given = on_value (size (attribute_text_of word.MaxMessageLength given)) (λ length. on_value (number (attribute_text_of word.MaxNoMessages given)) (λ most. Some (element.Queuing length most)))

-- an end of a channel: a partition's number, and its port's name
abbrev pub end_element : (ℕ → List ℕ → Element) → List Pair → Option Element
end_element end given = on_value (number (attribute_text_of word.PartitionId given)) (λ part. on_value (name_from_bytes (attribute_text_of word.PortName given)) (λ name. Some (end part name)))

-- the source of a channel
unfoldable pub source : List Pair → Option Element
source given = end_element element.Source given

-- a destination of a channel
unfoldable pub destination : List Pair → Option Element
destination given = end_element element.Destination given

-- a link
unfoldable pub ipvi : List Pair → Option Element
ipvi given =
    on_value (number (attribute_text_of word.Id given)) (λ id.
    on_value (number (attribute_text_of word.SourceId given)) (λ source.
    on_value (number (attribute_text_of word.DestinationId given)) (λ dest. Some (element.Ipvi id source dest))))

-- an element that has no values, where there is one of that name
abbrev pub bare_element : Word → Option Element
bare_element word.HwDescription = Some element.Hw
bare_element word.MemoryLayout = Some element.MemoryLayout
bare_element word.ProcessorTable = Some element.ProcessorTable
bare_element word.CyclicPlanTable = Some element.CyclicPlanTable
bare_element word.Devices = Some element.Devices
bare_element word.XmHypervisor = Some element.Hypervisor
bare_element word.PartitionTable = Some element.PartitionTable
bare_element word.PhysicalMemoryAreas = Some element.Areas
bare_element word.HealthMonitor = Some element.HealthMonitor
bare_element word.PortTable = Some element.PortTable
bare_element word.Channels = Some element.Channels
bare_element other = None

-- the element with its values
unfoldable pub built : Word → List Pair → Option Element
built word.SystemDescription given = system given
built word.Region given = region_element given
built word.Processor given = processor given
built word.Plan given = plan_element given
built word.Slot given = slot_element given
built word.Uart given = uart given
built word.PhysicalMemoryArea given = hypervisor_area given
built word.Partition given = partition given
built word.Area given = area_element given
built word.TemporalRequirements given = need_element given
built word.Event given = event given
built word.Trace given = trace given
built word.Port given = port_element given
built word.SamplingChannel given = sampling given
built word.QueuingChannel given = queuing given
built word.Source given = source given
built word.Destination given = destination given
built word.Ipvi given = ipvi given
built other given = bare_element other
