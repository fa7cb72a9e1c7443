-- What a draft describes: a configuration with its ids and its answers to health events.
use Rattle.std.specs.Prelude.{ℕ, ◌==◌, ◌^◌, if◌then◌else◌, Bool, true, false, List, [], ◌∷◌, map, filter, filter_map, flat_map, sum_by, find, length, slice_get, unwrap_or, Option, Some, None}
use Rattle.std.specs.List.{position_from}
use Rattle.std.specs.Str.{bytes_eq}
use Rattle.xm_base.specs.Options.{on}
use Rattle.xm_conf.specs.Along.{head_of, added_by_each}
use Rattle.xm_conf.specs.Configuration.{Plan, Part, Chan, Conf}
use Rattle.xm_conf.specs.Description.{PlanIds, Ids, HealthAnswer, Monitor, Description}
use Rattle.xm_conf.specs.Health.{default_action, event_row, events}
use Rattle.xm_conf.specs.declared.channel.End.{End}
use Rattle.xm_conf.specs.declared.link.Link.{Link}
use Rattle.xm_conf.specs.declared.health.Action.{Action}
use Rattle.xm_conf.specs.declared.health.Event.{Event}
use Rattle.xm_conf.specs.declared.part.HmTable.{HmTable}
use Rattle.xm_conf.specs.declared.port.Port.{Port}
use Rattle.xm_conf.specs.declared.port.Way.{Way}
use Rattle.xm_conf.specs.declared.port.Way.TheVariants as way
use Rattle.xm_conf.specs.declared.raw.Region.{Region}
use Rattle.xmcf_reader.specs.declared.draft.Element.{Element}
use Rattle.xmcf_reader.specs.declared.draft.Element.TheVariants as element
use Rattle.xmcf_reader.specs.declared.draft.Entry.{Entry}
use Rattle.xmcf_reader.specs.Drafts.{after_root}
use Rattle.xmcf_check.specs.Elements.{element_area, carried_of, element_frame, element_answer, link_element, mask_of, element_need, element_own, part_id_of, plan_id_of, element_port, processor_of, region_of, element_size, slot_id_of, element_slot, uart_id_of, uart_of}
use Rattle.xmcf_check.specs.declared.elements.Carried.{Carried}
use Rattle.xmcf_check.specs.declared.elements.Given.{Given}
use Rattle.xmcf_check.specs.declared.elements.Own.{Own}

-- Entries and their parents.

-- what the elements of entries add, in their order
abbrev pub among : {X : Type 0} → (Element → Option X) → List Entry → List X
among pick entries = filter_map (λ entry. pick entry.what) entries

-- what the first element adds that adds something
abbrev pub first_among : {X : Type 0} → (Element → Option X) → List Entry → Option X
first_among pick entries = head_of (among pick entries)

-- the entries whose parent has this number
abbrev pub with_parent : ℕ → List Entry → List Entry
with_parent number entries = filter (λ entry. entry.parent == number) entries

-- whether an entry, where there is one, has a parent of this number
abbrev pub is_child : ℕ → Option Entry → Bool
is_child number None = false
is_child number (Some entry) = entry.parent == number

-- the entries whose parent's parent has this number, in a list of all
abbrev pub with_grandparent : List Entry → ℕ → List Entry → List Entry
with_grandparent all number entries = filter (λ entry. is_child number (slice_get all entry.parent)) entries

-- the children of the entry of a number; the first entry is nobody's child
unfoldable pub children : ℕ → List Entry → List Entry
children number entries = with_parent number (after_root entries)

-- the children of the children of the entry of a number
unfoldable pub grandchildren : ℕ → List Entry → List Entry
grandchildren number entries = with_grandparent entries number (after_root entries)

-- The parts of a configuration that stand alone.

-- the system's name
abbrev pub element_name : Element → List ℕ
element_name (element.System name) = name
element_name _ = []

-- the system's name, which the first entry has
abbrev pub system_name : List Entry → List ℕ
system_name [] = []
system_name (root ∷ entries) = element_name root.what

-- the regions
unfoldable pub regions_of : List Entry → List Region
regions_of entries = among region_of entries

-- the names of the UARTs
unfoldable pub uarts_of : List Entry → List (List ℕ)
uarts_of entries = among uart_of entries

-- the hypervisor's size
unfoldable pub hv_size_of : List Entry → ℕ
hv_size_of entries = unwrap_or (first_among element_size entries) 0

-- Plans.

-- the plan of a frame, where there is one, by its children
abbrev pub plan_of_children : List Entry → Option ℕ → List Plan
plan_of_children slots None = []
plan_of_children slots (Some frame) = record { frame = frame; slots = among element_slot slots } ∷ []

-- the plan that an entry is
unfoldable pub described_plan : List Entry → ℕ → Entry → List Plan
described_plan entries number entry = plan_of_children (children number entries) (element_frame entry.what)

-- the plans
unfoldable pub plans_of : List Entry → List Plan
plans_of entries = added_by_each (described_plan entries) entries

-- the ids of a plan and its slots, where there is one, by its children
abbrev pub plan_ids_with : List Entry → Option ℕ → List PlanIds
plan_ids_with slots None = []
plan_ids_with slots (Some id) = record { plan = id; slots = among slot_id_of slots } ∷ []

-- the ids of the plan that an entry is
unfoldable pub plan_ids_at : List Entry → ℕ → Entry → List PlanIds
plan_ids_at entries number entry = plan_ids_with (children number entries) (plan_id_of entry.what)

-- the ids of the plans
unfoldable pub plans_ids_of : List Entry → List PlanIds
plans_ids_of entries = added_by_each (plan_ids_at entries) entries

-- all ids
unfoldable pub described_ids : List Entry → Ids
described_ids entries = record { processor = unwrap_or (first_among processor_of entries) 0; uarts = among uart_id_of entries; plans = plans_ids_of entries; parts = among part_id_of entries }

-- Health events.

-- whether what is given answers the event
abbrev pub is_to : Event → Given → Bool
is_to event given = (event_row given.event).number == (event_row event).number

-- the first answer to the event
unfoldable pub given_to : List Given → Event → Option Given
given_to given event = find (is_to event) given

-- the action that is given, or the one for an event that is not answered
abbrev pub given_or_default : Event → Option Given → Action
given_or_default event None = default_action event
given_or_default event (Some given) = given.action

-- the action for an event
unfoldable pub given_action_for : List Given → Event → Action
given_action_for given event = given_or_default event (given_to given event)

-- whether an event is logged: unless it is answered otherwise
abbrev pub log_given : Option Given → Bool
log_given None = true
log_given (Some given) = given.log

-- the bit of an event that is logged
unfoldable pub flag_for : List Given → Event → ℕ
flag_for given event = if log_given (given_to given event) then 2 ^ (event_row event).number else 0

-- the bits of the events that are logged
unfoldable pub logged_of : List Given → ℕ
logged_of given = sum_by (flag_for given) events

-- a partition's table of health events
unfoldable pub hm_of : List Given → HmTable
hm_of given = record { actions = map (given_action_for given) events; logged = logged_of given }

-- an answer to a health event
abbrev pub given_answer : Given → HealthAnswer
given_answer given = record { event = given.event; action = given.action }

-- all answers to an event, in the order of the text
unfoldable pub answers_to : List Given → Event → List HealthAnswer
answers_to given event = map given_answer (filter (is_to event) given)

-- all answers, in the order of the events and then of the text
unfoldable pub answers_of : List Given → List HealthAnswer
answers_of given = flat_map (answers_to given) events

-- Partitions.

-- the number of the first that has a name, or, where there is none, how many there are
unfoldable pub number_named : List (List ℕ) → List ℕ → ℕ
number_named names name = unwrap_or (position_from (λ other. bytes_eq other name) 0 names) (length names)

-- the partition that calls itself so, where there is one, by its children and theirs
abbrev pub part_with : List (List ℕ) → List Entry → List Entry → Option Own → List Part
part_with uarts own below None = []
part_with uarts own below (Some called) =
    record { name = called.name; system = called.system; console = on (number_named uarts) called.console; need = first_among element_need own; trace_mask = unwrap_or (first_among mask_of own) 0; hm = hm_of (among element_answer below); areas = among element_area below; ports = among element_port below } ∷ []

-- the partition that an entry is
unfoldable pub described_part : List (List ℕ) → List Entry → ℕ → Entry → List Part
described_part uarts entries number entry = part_with uarts (children number entries) (grandchildren number entries) (element_own entry.what)

-- the partitions, whose consoles have these names
unfoldable pub parts_by : List (List ℕ) → List Entry → List Part
parts_by uarts entries = added_by_each (described_part uarts entries) entries

-- the partitions
unfoldable pub parts_of : List Entry → List Part
parts_of entries = parts_by (uarts_of entries) entries

-- what a partition, where there is one, says of health events, by the children of its children
abbrev pub monitor_with : List Entry → Option ℕ → List Monitor
monitor_with below None = []
monitor_with below (Some id) = record { logged = logged_of (among element_answer below); answers = answers_of (among element_answer below) } ∷ []

-- what the partition that an entry is says of health events
unfoldable pub described_monitor : List Entry → ℕ → Entry → List Monitor
described_monitor entries number entry = monitor_with (grandchildren number entries) (part_id_of entry.what)

-- what the partitions say of health events
unfoldable pub monitors_of : List Entry → List Monitor
monitors_of entries = added_by_each (described_monitor entries) entries

-- Channels.

-- the names of ports
abbrev pub names_of_ports : List Port → List (List ℕ)
names_of_ports ports = map (λ port. port.name) ports

-- the names of the ports of each partition
abbrev pub port_names : List Part → List (List (List ℕ))
port_names parts = map (λ part. names_of_ports part.ports) parts

-- the names of a partition, or none where there is no such partition
abbrev pub names_or_none : Option (List (List ℕ)) → List (List ℕ)
names_or_none None = []
names_or_none (Some names) = names

-- the end that a partition's number and a port's name denote, by the names of all ports
unfoldable pub described_end : List (List (List ℕ)) → ℕ → List ℕ → End
described_end ports part name = record { part = part; port = number_named (names_or_none (slice_get ports part)) name }

-- the end of a channel without a source
unfoldable pub no_end : End
no_end = record { part = 0; port = 0 }

-- the end of a channel that an element names, where it names one of this way: a source or a destination
abbrev pub end_of_way : Way → List (List (List ℕ)) → Element → Option End
end_of_way way.Source ports (element.Source part name) = Some (described_end ports part name)
end_of_way way.Destination ports (element.Destination part name) = Some (described_end ports part name)
end_of_way _ ports _ = None

-- the channel that carries this, where there is one, by its children
abbrev pub chan_with : List (List (List ℕ)) → List Entry → Option Carried → List Chan
chan_with ports ends None = []
chan_with ports ends (Some carried) =
    record { kind = carried.kind; length = carried.size; source = unwrap_or (first_among (end_of_way way.Source ports) ends) no_end; dests = among (end_of_way way.Destination ports) ends } ∷ []

-- the channel that an entry is
unfoldable pub described_chan : List (List (List ℕ)) → List Entry → ℕ → Entry → List Chan
described_chan ports entries number entry = chan_with ports (children number entries) (carried_of entry.what)

-- the channels between ports of these names
unfoldable pub chans_by : List (List (List ℕ)) → List Entry → List Chan
chans_by ports entries = added_by_each (described_chan ports entries) entries

-- the channels
unfoldable pub chans_of : List Entry → List Chan
chans_of entries = chans_by (port_names (parts_of entries)) entries

-- Links.

-- the links
unfoldable pub described_links : List Entry → List Link
described_links entries = among link_element entries

-- The whole.

-- the configuration that a draft describes
unfoldable pub described_conf : List Entry → Conf
described_conf entries = record { name = system_name entries; regions = regions_of entries; hv_size = hv_size_of entries; uarts = uarts_of entries; plans = plans_of entries; parts = parts_of entries; chans = chans_of entries; links = described_links entries }

-- what a draft describes
unfoldable pub description_of : List Entry → Description
description_of entries = record { ids = described_ids entries; monitors = monitors_of entries; conf = described_conf entries }
