-- A start tag that lacks no attribute, whose values have their forms, gives its element.
use Rattle.std.proofs.Common.{◌≡◌, ℕ, Bool, true, false, List, Option, Some, None, refl}
use Rattle.std.specs.Prelude.{not, ◌&&◌, nat_lt, is_some}
use Rattle.std.specs.List.{AllByRecursion}
use Rattle.xm_conf.specs.Name.{is_name, name_from_bytes}
use Rattle.xmcf_reader.specs.Draft.{lacks_attribute}
use Rattle.xmcf_reader.specs.Drafts.{word_of}
use Rattle.xmcf_reader.specs.Elements.{Pair, attribute_text, or_empty, attribute_text_of, default, built, system, region_element, processor, plan_element, slot_element, uart, hypervisor_area, partition, system_given, console_given, area_element, is_read_only, need_element, event, event_given, action_given, logged_given, trace, port_element, sampling, refresh, queuing, source, destination, ipvi}
use Rattle.xmcf_reader.specs.Table.{attributes, must, may}
use Rattle.xmcf_reader.specs.Values.{on_value, number, address, size, time, flags, access, log, kind_named, way_named, has_form}
use Rattle.xmcf_reader.specs.Words.{word_number}
use Rattle.xmcf_reader.specs.declared.draft.Element.{Element}
use Rattle.xmcf_reader.specs.declared.table.Attribute.{Attribute}
use Rattle.xmcf_reader.specs.declared.table.Form.{Form}
use Rattle.xmcf_reader.specs.declared.table.Form.TheVariants as form
use Rattle.xmcf_reader.specs.declared.word.Word.{Word}
use Rattle.xmcf_reader.specs.declared.word.Word.TheVariants as word

-- a text that stands has the form
abbrev pub Suits : Form → Option (List ℕ) → Type 0
Suits form None = Unit {0}
Suits form (Some text) = has_form form text ≡ true

-- an attribute stands where it has to, in its form
pub record Fulfils (given : List Pair) (attribute : Attribute) : Type 0 where
  pub suits : Suits attribute.form (attribute_text attribute.word given)
  pub stands : lacks_attribute given attribute ≡ false

-- there is something, of which this holds
abbrev pub Gives : {A : Type 0} → (A → Type 0) → Option A → Type 0
Gives P None = ⊥
Gives P (Some x) = P x

-- the element is there, and is the one of this name
abbrev pub IsOf : Word → Option Element → Type 0
IsOf word what = Gives (λ element. word_of element ≡ word) what

-- what goes on with what there is gives what it gives
on_gives : {A B : Type 0} (P : B → Type 0) (o : Option A) (go : A → Option B) → is_some o ≡ true → ((x : A) → Gives P (go x)) → Gives P (on_value o go)
on_gives P None go e more = cc
on_gives P (Some x) go e more = more x

-- an attribute that has to stand has its form
must_have : (given : List Pair) (word : Word) (form : Form) → Fulfils given (must word form) → has_form form (attribute_text_of word given) ≡ true
unfolding attribute_text_of
must_have given word form fulfils = at (attribute_text word given) fulfils.suits fulfils.stands
  where
    at : (text : Option (List ℕ)) → Suits form text → (true && not (is_some text)) ≡ false → has_form form (or_empty text) ≡ true
    at None suits stands = cc
    at (Some text) suits stands = suits

-- an attribute that may stand means something
may_have : {A : Type 0} (x : A) (meaning : List ℕ → Option A) (text : Option (List ℕ)) (form : Form) → Suits form text → ((text : List ℕ) → has_form form text ≡ true → is_some (meaning text) ≡ true) → is_some (default x meaning text) ≡ true
may_have x meaning None form suits means = refl
may_have x meaning (Some text) form suits means = means text suits

number_given : (given : List Pair) (word : Word) → Fulfils given (must word form.Number) → is_some (number (attribute_text_of word given)) ≡ true
unfolding has_form
number_given given word fulfils = must_have given word form.Number fulfils

address_given : (given : List Pair) (word : Word) → Fulfils given (must word form.Address) → is_some (address (attribute_text_of word given)) ≡ true
unfolding has_form
address_given given word fulfils = must_have given word form.Address fulfils

size_given : (given : List Pair) (word : Word) → Fulfils given (must word form.Size) → is_some (size (attribute_text_of word given)) ≡ true
unfolding has_form
size_given given word fulfils = must_have given word form.Size fulfils

time_given : (given : List Pair) (word : Word) → Fulfils given (must word form.Time) → is_some (time (attribute_text_of word given)) ≡ true
unfolding has_form
time_given given word fulfils = must_have given word form.Time fulfils

name_is : (text : List ℕ) → is_name text ≡ true → is_some (name_from_bytes text) ≡ true
name_is text e = rw e refl

name_given : (given : List Pair) (word : Word) → Fulfils given (must word form.Name) → is_some (name_from_bytes (attribute_text_of word given)) ≡ true
unfolding has_form
name_given given word fulfils = name_is (attribute_text_of word given) (must_have given word form.Name fulfils)

event_is : (given : List Pair) → Fulfils given (must word.Name form.Event) → is_some (event_given given) ≡ true
unfolding has_form event_given
event_is given fulfils = must_have given word.Name form.Event fulfils

action_is : (given : List Pair) → Fulfils given (must word.Action form.Action) → is_some (action_given given) ≡ true
unfolding has_form action_given
action_is given fulfils = must_have given word.Action form.Action fulfils

kind_is : (given : List Pair) → Fulfils given (must word.Kind form.Kind) → is_some (kind_named (attribute_text_of word.Kind given)) ≡ true
unfolding has_form
kind_is given fulfils = must_have given word.Kind form.Kind fulfils

way_is : (given : List Pair) → Fulfils given (must word.Direction form.Way) → is_some (way_named (attribute_text_of word.Direction given)) ≡ true
unfolding has_form
way_is given fulfils = must_have given word.Direction form.Way fulfils

flags_are : (given : List Pair) → Fulfils given (may word.Flags form.Flags) → is_some (system_given given) ≡ true
unfolding has_form system_given
flags_are given fulfils = may_have false flags (attribute_text word.Flags given) form.Flags fulfils.suits (λ text e. e)

access_is : (given : List Pair) → Fulfils given (may word.Flags form.Access) → is_some (is_read_only given) ≡ true
unfolding has_form is_read_only
access_is given fulfils = may_have false access (attribute_text word.Flags given) form.Access fulfils.suits (λ text e. e)

log_is : (given : List Pair) → Fulfils given (may word.Log form.Log) → is_some (logged_given given) ≡ true
unfolding has_form logged_given
log_is given fulfils = may_have true log (attribute_text word.Log given) form.Log fulfils.suits (λ text e. e)

refresh_is : (given : List Pair) → Fulfils given (may word.RefreshPeriod form.Time) → is_some (refresh given) ≡ true
unfolding has_form refresh
refresh_is given fulfils = may_have 0 time (attribute_text word.RefreshPeriod given) form.Time fulfils.suits (λ text e. e)

console_is : (given : List Pair) → Fulfils given (may word.Console form.Name) → is_some (console_given given) ≡ true
unfolding has_form console_given
console_is given fulfils = may_have None (λ text. on_value (name_from_bytes text) (λ name. Some (Some name))) (attribute_text word.Console given) form.Name fulfils.suits (λ text e. rw e refl)

-- the attributes of an element stand where they have to, in their forms
abbrev pub FulfilAll : List Pair → Word → Type 0
FulfilAll given word = AllByRecursion (Fulfils given) (attributes word)

system_built : (given : List Pair) → FulfilAll given word.SystemDescription → IsOf word.SystemDescription (system given)
unfolding system
system_built given all = on_gives _ (name_from_bytes (attribute_text_of word.Name given)) _ (name_given given word.Name all.1.0) (λ name. refl)

region_built : (given : List Pair) → FulfilAll given word.Region → IsOf word.Region (region_element given)
unfolding region_element
region_built given all =
    on_gives _ (address (attribute_text_of word.Start given)) _ (address_given given word.Start all.1.0) (λ start.
    on_gives _ (size (attribute_text_of word.Size given)) _ (size_given given word.Size all.1.1.0) (λ size. refl))

processor_built : (given : List Pair) → FulfilAll given word.Processor → IsOf word.Processor (processor given)
unfolding processor
processor_built given all = on_gives _ (number (attribute_text_of word.Id given)) _ (number_given given word.Id all.0) (λ id. refl)

plan_built : (given : List Pair) → FulfilAll given word.Plan → IsOf word.Plan (plan_element given)
unfolding plan_element
plan_built given all =
    on_gives _ (number (attribute_text_of word.Id given)) _ (number_given given word.Id all.0) (λ id.
    on_gives _ (time (attribute_text_of word.MajorFrame given)) _ (time_given given word.MajorFrame all.1.0) (λ frame. refl))

slot_built : (given : List Pair) → FulfilAll given word.Slot → IsOf word.Slot (slot_element given)
unfolding slot_element
slot_built given all =
    on_gives _ (number (attribute_text_of word.Id given)) _ (number_given given word.Id all.0) (λ id.
    on_gives _ (time (attribute_text_of word.Start given)) _ (time_given given word.Start all.1.0) (λ start.
    on_gives _ (time (attribute_text_of word.Duration given)) _ (time_given given word.Duration all.1.1.0) (λ duration.
    on_gives _ (number (attribute_text_of word.PartitionId given)) _ (number_given given word.PartitionId all.1.1.1.0) (λ part. refl))))

uart_built : (given : List Pair) → FulfilAll given word.Uart → IsOf word.Uart (uart given)
unfolding uart
uart_built given all =
    on_gives _ (number (attribute_text_of word.Id given)) _ (number_given given word.Id all.0) (λ id.
    on_gives _ (name_from_bytes (attribute_text_of word.Name given)) _ (name_given given word.Name all.1.0) (λ name. refl))

area_of_hypervisor_built : (given : List Pair) → FulfilAll given word.PhysicalMemoryArea → IsOf word.PhysicalMemoryArea (hypervisor_area given)
unfolding hypervisor_area
area_of_hypervisor_built given all = on_gives _ (size (attribute_text_of word.Size given)) _ (size_given given word.Size all.0) (λ size. refl)

partition_built : (given : List Pair) → FulfilAll given word.Partition → IsOf word.Partition (partition given)
unfolding partition
partition_built given all =
    on_gives _ (number (attribute_text_of word.Id given)) _ (number_given given word.Id all.0) (λ id.
    on_gives _ (name_from_bytes (attribute_text_of word.Name given)) _ (name_given given word.Name all.1.0) (λ name.
    on_gives _ (system_given given) _ (flags_are given all.1.1.0) (λ system.
    on_gives _ (console_given given) _ (console_is given all.1.1.1.0) (λ console. refl))))

area_built : (given : List Pair) → FulfilAll given word.Area → IsOf word.Area (area_element given)
unfolding area_element
area_built given all =
    on_gives _ (address (attribute_text_of word.Start given)) _ (address_given given word.Start all.0) (λ start.
    on_gives _ (size (attribute_text_of word.Size given)) _ (size_given given word.Size all.1.0) (λ size.
    on_gives _ (is_read_only given) _ (access_is given all.1.1.0) (λ read_only. refl)))

need_built : (given : List Pair) → FulfilAll given word.TemporalRequirements → IsOf word.TemporalRequirements (need_element given)
unfolding need_element
need_built given all =
    on_gives _ (time (attribute_text_of word.Duration given)) _ (time_given given word.Duration all.0) (λ duration.
    on_gives _ (time (attribute_text_of word.Period given)) _ (time_given given word.Period all.1.0) (λ period. refl))

event_built : (given : List Pair) → FulfilAll given word.Event → IsOf word.Event (event given)
unfolding event
event_built given all =
    on_gives _ (event_given given) _ (event_is given all.0) (λ event.
    on_gives _ (action_given given) _ (action_is given all.1.0) (λ action.
    on_gives _ (logged_given given) _ (log_is given all.1.1.0) (λ log. refl)))

trace_built : (given : List Pair) → FulfilAll given word.Trace → IsOf word.Trace (trace given)
unfolding trace
trace_built given all = on_gives _ (address (attribute_text_of word.Bitmask given)) _ (address_given given word.Bitmask all.0) (λ mask. refl)

port_built : (given : List Pair) → FulfilAll given word.Port → IsOf word.Port (port_element given)
unfolding port_element
port_built given all =
    on_gives _ (name_from_bytes (attribute_text_of word.Name given)) _ (name_given given word.Name all.0) (λ name.
    on_gives _ (kind_named (attribute_text_of word.Kind given)) _ (kind_is given all.1.0) (λ kind.
    on_gives _ (way_named (attribute_text_of word.Direction given)) _ (way_is given all.1.1.0) (λ way. refl)))

sampling_built : (given : List Pair) → FulfilAll given word.SamplingChannel → IsOf word.SamplingChannel (sampling given)
unfolding sampling
sampling_built given all =
    on_gives _ (size (attribute_text_of word.MaxMessageLength given)) _ (size_given given word.MaxMessageLength all.0) (λ length.
    on_gives _ (refresh given) _ (refresh_is given all.1.0) (λ refresh. refl))

queuing_built : (given : List Pair) → FulfilAll given word.QueuingChannel → IsOf word.QueuingChannel (queuing given)
unfolding queuing
queuing_built given all =
    on_gives _ (size (attribute_text_of word.MaxMessageLength given)) _ (size_given given word.MaxMessageLength all.0) (λ length.
    on_gives _ (number (attribute_text_of word.MaxNoMessages given)) _ (number_given given word.MaxNoMessages all.1.0) (λ most. refl))

source_built : (given : List Pair) → FulfilAll given word.Source → IsOf word.Source (source given)
unfolding source
source_built given all =
    on_gives _ (number (attribute_text_of word.PartitionId given)) _ (number_given given word.PartitionId all.0) (λ part.
    on_gives _ (name_from_bytes (attribute_text_of word.PortName given)) _ (name_given given word.PortName all.1.0) (λ name. refl))

destination_built : (given : List Pair) → FulfilAll given word.Destination → IsOf word.Destination (destination given)
unfolding destination
destination_built given all =
    on_gives _ (number (attribute_text_of word.PartitionId given)) _ (number_given given word.PartitionId all.0) (λ part.
    on_gives _ (name_from_bytes (attribute_text_of word.PortName given)) _ (name_given given word.PortName all.1.0) (λ name. refl))

ipvi_built : (given : List Pair) → FulfilAll given word.Ipvi → IsOf word.Ipvi (ipvi given)
unfolding ipvi
ipvi_built given all =
    on_gives _ (number (attribute_text_of word.Id given)) _ (number_given given word.Id all.0) (λ id.
    on_gives _ (number (attribute_text_of word.SourceId given)) _ (number_given given word.SourceId all.1.0) (λ source.
    on_gives _ (number (attribute_text_of word.DestinationId given)) _ (number_given given word.DestinationId all.1.1.0) (λ dest. refl)))

-- whether a name is an element's
abbrev pub is_element : Word → Bool
is_element word = nat_lt (word_number word) 29

-- a start tag that lacks no attribute, whose values have their forms, gives its element
pub built_is : (word : Word) (given : List Pair) → is_element word ≡ true → FulfilAll given word → IsOf word (built word given)
unfolding built
built_is word.SystemDescription given is all = system_built given all
built_is word.HwDescription given is all = refl
built_is word.MemoryLayout given is all = refl
built_is word.Region given is all = region_built given all
built_is word.ProcessorTable given is all = refl
built_is word.Processor given is all = processor_built given all
built_is word.CyclicPlanTable given is all = refl
built_is word.Plan given is all = plan_built given all
built_is word.Slot given is all = slot_built given all
built_is word.Devices given is all = refl
built_is word.Uart given is all = uart_built given all
built_is word.XmHypervisor given is all = refl
built_is word.PhysicalMemoryArea given is all = area_of_hypervisor_built given all
built_is word.PartitionTable given is all = refl
built_is word.Partition given is all = partition_built given all
built_is word.PhysicalMemoryAreas given is all = refl
built_is word.Area given is all = area_built given all
built_is word.TemporalRequirements given is all = need_built given all
built_is word.HealthMonitor given is all = refl
built_is word.Event given is all = event_built given all
built_is word.Trace given is all = trace_built given all
built_is word.PortTable given is all = refl
built_is word.Port given is all = port_built given all
built_is word.Channels given is all = refl
built_is word.SamplingChannel given is all = sampling_built given all
built_is word.QueuingChannel given is all = queuing_built given all
built_is word.Source given is all = source_built given all
built_is word.Destination given is all = destination_built given all
built_is word.Ipvi given is all = ipvi_built given all
built_is other given is all = cc
