-- What each element of a draft adds to a configuration, by its values alone.
use Rattle.std.specs.Prelude.{ℕ, List, Option, None, Some}
use Rattle.xmcf_reader.specs.declared.draft.Element.{Element}
use Rattle.xmcf_reader.specs.declared.draft.Element.TheVariants as element
use Rattle.xm_conf.specs.declared.link.Link.{Link}
use Rattle.xm_conf.specs.declared.part.Area.{Area}
use Rattle.xm_conf.specs.declared.part.Need.{Need}
use Rattle.xm_conf.specs.declared.plan.Slot.{Slot}
use Rattle.xm_conf.specs.declared.port.Port.{Port}
use Rattle.xm_conf.specs.declared.raw.Region.{Region}
use Rattle.xm_conf.specs.declared.channel.ChanKind.TheVariants as kind
use Rattle.xmcf_check.specs.declared.elements.Carried.{Carried}
use Rattle.xmcf_check.specs.declared.elements.Given.{Given}
use Rattle.xmcf_check.specs.declared.elements.Own.{Own}

-- a region
abbrev pub region_of : Element → Option Region
region_of (element.Region start size) = Some record { start = start; size = size }
region_of _ = None

-- the processor's id
abbrev pub processor_of : Element → Option ℕ
processor_of (element.Processor id) = Some id
processor_of _ = None

-- a plan's frame
abbrev pub element_frame : Element → Option ℕ
element_frame (element.Plan id frame) = Some frame
element_frame _ = None

-- a plan's id
abbrev pub plan_id_of : Element → Option ℕ
plan_id_of (element.Plan id frame) = Some id
plan_id_of _ = None

-- a slot
abbrev pub element_slot : Element → Option Slot
element_slot (element.Slot id start duration part) = Some record { start = start; duration = duration; part = part }
element_slot _ = None

-- a slot's id
abbrev pub slot_id_of : Element → Option ℕ
slot_id_of (element.Slot id start duration part) = Some id
slot_id_of _ = None

-- a UART's name
abbrev pub uart_of : Element → Option (List ℕ)
uart_of (element.Uart id name) = Some name
uart_of _ = None

-- a UART's id
abbrev pub uart_id_of : Element → Option ℕ
uart_id_of (element.Uart id name) = Some id
uart_id_of _ = None

-- the size of the hypervisor
abbrev pub element_size : Element → Option ℕ
element_size (element.HvArea size) = Some size
element_size _ = None

-- a partition's id
abbrev pub part_id_of : Element → Option ℕ
part_id_of (element.Partition id name system console) = Some id
part_id_of _ = None

-- what a partition calls itself
abbrev pub element_own : Element → Option Own
element_own (element.Partition id name system console) = Some record { name = name; system = system; console = console }
element_own _ = None

-- an area
abbrev pub element_area : Element → Option Area
element_area (element.Area start size read_only) = Some record { start = start; size = size; read_only = read_only }
element_area _ = None

-- what time is required
abbrev pub element_need : Element → Option Need
element_need (element.Need duration period) = Some record { duration = duration; period = period }
element_need _ = None

-- an answer to a health event
abbrev pub element_answer : Element → Option Given
element_answer (element.Event event action log) = Some record { event = event; action = action; log = log }
element_answer _ = None

-- the mask of a trace
abbrev pub mask_of : Element → Option ℕ
mask_of (element.Trace mask) = Some mask
mask_of _ = None

-- a port
abbrev pub element_port : Element → Option Port
element_port (element.Port name kind way) = Some record { name = name; kind = kind; way = way }
element_port _ = None

-- what a channel carries
abbrev pub carried_of : Element → Option Carried
carried_of (element.Sampling size refresh) = Some record { kind = kind.Sampling refresh; size = size }
carried_of (element.Queuing size most) = Some record { kind = kind.Queuing most; size = size }
carried_of _ = None

-- a link
abbrev pub link_element : Element → Option Link
link_element (element.Ipvi id source dest) = Some record { number = id; source = source; dest = dest }
link_element _ = None
