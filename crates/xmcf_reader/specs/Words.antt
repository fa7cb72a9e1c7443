-- The names of elements and attributes.
use Rattle.std.specs.Prelude.{ℕ, ◌==◌, Bool, List, [], ◌∷◌, codes, Option}
use Rattle.std.specs.List.{find}
use Rattle.std.specs.Str.{bytes_eq}
use Rattle.xmcf_reader.specs.declared.word.Word.{Word}
use Rattle.xmcf_reader.specs.declared.word.Word.TheVariants as word

-- the name of each as a text has it
abbrev pub word_text : Word → List ℕ
word_text word.SystemDescription = codes "SystemDescription"
word_text word.HwDescription = codes "HwDescription"
word_text word.MemoryLayout = codes "MemoryLayout"
word_text word.Region = codes "Region"
word_text word.ProcessorTable = codes "ProcessorTable"
word_text word.Processor = codes "Processor"
word_text word.CyclicPlanTable = codes "CyclicPlanTable"
word_text word.Plan = codes "Plan"
word_text word.Slot = codes "Slot"
word_text word.Devices = codes "Devices"
word_text word.Uart = codes "Uart"
word_text word.XmHypervisor = codes "XMHypervisor"
word_text word.PhysicalMemoryArea = codes "PhysicalMemoryArea"
word_text word.PartitionTable = codes "PartitionTable"
word_text word.Partition = codes "Partition"
word_text word.PhysicalMemoryAreas = codes "PhysicalMemoryAreas"
word_text word.Area = codes "Area"
word_text word.TemporalRequirements = codes "TemporalRequirements"
word_text word.HealthMonitor = codes "HealthMonitor"
word_text word.Event = codes "Event"
word_text word.Trace = codes "Trace"
word_text word.PortTable = codes "PortTable"
word_text word.Port = codes "Port"
word_text word.Channels = codes "Channels"
word_text word.SamplingChannel = codes "SamplingChannel"
word_text word.QueuingChannel = codes "QueuingChannel"
word_text word.Source = codes "Source"
word_text word.Destination = codes "Destination"
word_text word.Ipvi = codes "Ipvi"
word_text word.Version = codes "version"
word_text word.Name = codes "name"
word_text word.Xmlns = codes "xmlns"
word_text word.Kind = codes "type"
word_text word.Start = codes "start"
word_text word.Size = codes "size"
word_text word.Id = codes "id"
word_text word.Frequency = codes "frequency"
word_text word.MajorFrame = codes "majorFrame"
word_text word.Duration = codes "duration"
word_text word.PartitionId = codes "partitionId"
word_text word.BaudRate = codes "baudRate"
word_text word.Console = codes "console"
word_text word.Flags = codes "flags"
word_text word.Period = codes "period"
word_text word.Action = codes "action"
word_text word.Log = codes "log"
word_text word.Bitmask = codes "bitmask"
word_text word.Device = codes "device"
word_text word.Direction = codes "direction"
word_text word.MaxMessageLength = codes "maxMessageLength"
word_text word.RefreshPeriod = codes "refreshPeriod"
word_text word.MaxNoMessages = codes "maxNoMessages"
word_text word.PortName = codes "portName"
word_text word.SourceId = codes "sourceId"
word_text word.DestinationId = codes "destinationId"

-- each has a number of its own
abbrev pub word_number : Word → ℕ
word_number word.SystemDescription = 0
word_number word.HwDescription = 1
word_number word.MemoryLayout = 2
word_number word.Region = 3
word_number word.ProcessorTable = 4
word_number word.Processor = 5
word_number word.CyclicPlanTable = 6
word_number word.Plan = 7
word_number word.Slot = 8
word_number word.Devices = 9
word_number word.Uart = 10
word_number word.XmHypervisor = 11
word_number word.PhysicalMemoryArea = 12
word_number word.PartitionTable = 13
word_number word.Partition = 14
word_number word.PhysicalMemoryAreas = 15
word_number word.Area = 16
word_number word.TemporalRequirements = 17
word_number word.HealthMonitor = 18
word_number word.Event = 19
word_number word.Trace = 20
word_number word.PortTable = 21
word_number word.Port = 22
word_number word.Channels = 23
word_number word.SamplingChannel = 24
word_number word.QueuingChannel = 25
word_number word.Source = 26
word_number word.Destination = 27
word_number word.Ipvi = 28
word_number word.Version = 29
word_number word.Name = 30
word_number word.Xmlns = 31
word_number word.Kind = 32
word_number word.Start = 33
word_number word.Size = 34
word_number word.Id = 35
word_number word.Frequency = 36
word_number word.MajorFrame = 37
word_number word.Duration = 38
word_number word.PartitionId = 39
word_number word.BaudRate = 40
word_number word.Console = 41
word_number word.Flags = 42
word_number word.Period = 43
word_number word.Action = 44
word_number word.Log = 45
word_number word.Bitmask = 46
word_number word.Device = 47
word_number word.Direction = 48
word_number word.MaxMessageLength = 49
word_number word.RefreshPeriod = 50
word_number word.MaxNoMessages = 51
word_number word.PortName = 52
word_number word.SourceId = 53
word_number word.DestinationId = 54

-- both are the same name
abbrev pub is_word : Word → Word → Bool
is_word one other = word_number one == word_number other

-- all elements, in the order of their table
abbrev pub elements : List Word
elements =
    word.SystemDescription ∷ word.HwDescription ∷ word.MemoryLayout ∷ word.Region ∷ word.ProcessorTable ∷
    word.Processor ∷ word.CyclicPlanTable ∷ word.Plan ∷ word.Slot ∷ word.Devices ∷ word.Uart ∷
    word.XmHypervisor ∷ word.PhysicalMemoryArea ∷ word.PartitionTable ∷ word.Partition ∷
    word.PhysicalMemoryAreas ∷ word.Area ∷ word.TemporalRequirements ∷ word.HealthMonitor ∷ word.Event ∷
    word.Trace ∷ word.PortTable ∷ word.Port ∷ word.Channels ∷ word.SamplingChannel ∷ word.QueuingChannel ∷
    word.Source ∷ word.Destination ∷ word.Ipvi ∷ []

-- the element that bytes name, where they name one
unfoldable pub element_named : List ℕ → Option Word
element_named bytes = find (λ element. bytes_eq (word_text element) bytes) elements
