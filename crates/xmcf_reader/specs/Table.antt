-- The table of elements: the attributes of each with the forms of their values, and its children.
use Rattle.std.specs.Prelude.{true, false, List, [], ◌∷◌}
use Rattle.xmcf_reader.specs.declared.word.Word.{Word}
use Rattle.xmcf_reader.specs.declared.word.Word.TheVariants as word
use Rattle.xmcf_reader.specs.declared.table.Form.{Form}
use Rattle.xmcf_reader.specs.declared.table.Form.TheVariants as form
use Rattle.xmcf_reader.specs.declared.table.Attribute.{Attribute}
use Rattle.xmcf_reader.specs.declared.table.Often.TheVariants as often
use Rattle.xmcf_reader.specs.declared.table.Child.{Child}

-- an attribute that has to stand
abbrev pub must : Word → Form → Attribute
must word form = record { word = word; form = form; needed = true }

-- an attribute that may stand
abbrev pub may : Word → Form → Attribute
may word form = record { word = word; form = form; needed = false }

-- a child that stands once
abbrev pub once : Word → Child
once word = record { word = word; often = often.One }

-- a child that stands once or not at all
abbrev pub maybe : Word → Child
maybe word = record { word = word; often = often.Maybe }

-- a child that stands once or more
abbrev pub some : Word → Child
some word = record { word = word; often = often.Some }

-- a child that stands any number of times
abbrev pub any : Word → Child
any word = record { word = word; often = often.Any }

-- the attributes of each element
abbrev pub attributes : Word → List Attribute
attributes word.SystemDescription = must word.Version form.Text ∷ must word.Name form.Name ∷ may word.Xmlns form.Text ∷ []
attributes word.HwDescription = []
attributes word.MemoryLayout = []
attributes word.Region = must word.Kind form.Text ∷ must word.Start form.Address ∷ must word.Size form.Size ∷ []
attributes word.ProcessorTable = []
attributes word.Processor = must word.Id form.Number ∷ may word.Frequency form.Frequency ∷ []
attributes word.CyclicPlanTable = []
attributes word.Plan = must word.Id form.Number ∷ must word.MajorFrame form.Time ∷ []
attributes word.Slot = must word.Id form.Number ∷ must word.Start form.Time ∷ must word.Duration form.Time ∷ must word.PartitionId form.Number ∷ []
attributes word.Devices = []
attributes word.Uart = must word.Id form.Number ∷ must word.Name form.Name ∷ may word.BaudRate form.Number ∷ []
attributes word.XmHypervisor = may word.Console form.Name ∷ []
attributes word.PhysicalMemoryArea = must word.Size form.Size ∷ []
attributes word.PartitionTable = []
attributes word.Partition = must word.Id form.Number ∷ must word.Name form.Name ∷ may word.Flags form.Flags ∷ may word.Console form.Name ∷ []
attributes word.PhysicalMemoryAreas = []
attributes word.Area = must word.Start form.Address ∷ must word.Size form.Size ∷ may word.Flags form.Access ∷ []
attributes word.TemporalRequirements = must word.Duration form.Time ∷ must word.Period form.Time ∷ []
attributes word.HealthMonitor = []
attributes word.Event = must word.Name form.Event ∷ must word.Action form.Action ∷ may word.Log form.Log ∷ []
attributes word.Trace = must word.Bitmask form.Address ∷ may word.Device form.Name ∷ []
attributes word.PortTable = []
attributes word.Port = must word.Name form.Name ∷ must word.Kind form.Kind ∷ must word.Direction form.Way ∷ []
attributes word.Channels = []
attributes word.SamplingChannel = must word.MaxMessageLength form.Size ∷ may word.RefreshPeriod form.Time ∷ []
attributes word.QueuingChannel = must word.MaxMessageLength form.Size ∷ must word.MaxNoMessages form.Number ∷ []
attributes word.Source = must word.PartitionId form.Number ∷ must word.PortName form.Name ∷ []
attributes word.Destination = must word.PartitionId form.Number ∷ must word.PortName form.Name ∷ []
attributes word.Ipvi = must word.Id form.Number ∷ must word.SourceId form.Number ∷ must word.DestinationId form.Number ∷ []
attributes other = []

-- the children of each element
abbrev pub allowed_children : Word → List Child
allowed_children word.SystemDescription = once word.HwDescription ∷ once word.XmHypervisor ∷ once word.PartitionTable ∷ maybe word.Channels ∷ []
allowed_children word.HwDescription = once word.MemoryLayout ∷ once word.ProcessorTable ∷ maybe word.Devices ∷ []
allowed_children word.MemoryLayout = some word.Region ∷ []
allowed_children word.Region = []
allowed_children word.ProcessorTable = once word.Processor ∷ []
allowed_children word.Processor = once word.CyclicPlanTable ∷ []
allowed_children word.CyclicPlanTable = some word.Plan ∷ []
allowed_children word.Plan = some word.Slot ∷ []
allowed_children word.Slot = []
allowed_children word.Devices = any word.Uart ∷ []
allowed_children word.Uart = []
allowed_children word.XmHypervisor = once word.PhysicalMemoryArea ∷ []
allowed_children word.PhysicalMemoryArea = []
allowed_children word.PartitionTable = some word.Partition ∷ []
allowed_children word.Partition = once word.PhysicalMemoryAreas ∷ maybe word.TemporalRequirements ∷ maybe word.HealthMonitor ∷ maybe word.Trace ∷ maybe word.PortTable ∷ []
allowed_children word.PhysicalMemoryAreas = some word.Area ∷ []
allowed_children word.Area = []
allowed_children word.TemporalRequirements = []
allowed_children word.HealthMonitor = any word.Event ∷ []
allowed_children word.Event = []
allowed_children word.Trace = []
allowed_children word.PortTable = any word.Port ∷ []
allowed_children word.Port = []
allowed_children word.Channels = any word.SamplingChannel ∷ any word.QueuingChannel ∷ any word.Ipvi ∷ []
allowed_children word.SamplingChannel = once word.Source ∷ some word.Destination ∷ []
allowed_children word.QueuingChannel = once word.Source ∷ once word.Destination ∷ []
allowed_children word.Source = []
allowed_children word.Destination = []
allowed_children word.Ipvi = []
allowed_children other = []
