-- What each draft keeps: its root, the order of its entries, and the children that the table allows and demands.
use Rattle.std.specs.Prelude.{◌≡◌, ℕ, ◌==◌, ◌<◌, ◌≤◌, true, List, [], ◌∷◌, map, filter, Some}
use Rattle.std.specs.List.{slice_get, count_by, AllByRecursion}
use Rattle.xmcf_reader.specs.Draft.{is_among}
use Rattle.xmcf_reader.specs.Table.{allowed_children}
use Rattle.xmcf_reader.specs.Words.{is_word}
use Rattle.xmcf_reader.specs.declared.draft.Entry.{Entry}
use Rattle.xmcf_reader.specs.declared.draft.Element.{Element}
use Rattle.xmcf_reader.specs.declared.draft.Element.TheVariants as element
use Rattle.xmcf_reader.specs.declared.table.Often.{Often}
use Rattle.xmcf_reader.specs.declared.table.Often.TheVariants as often
use Rattle.xmcf_reader.specs.declared.word.Word.{Word}
use Rattle.xmcf_reader.specs.declared.word.Word.TheVariants as word

-- the name of each element
abbrev pub word_of : Element → Word
word_of (element.System name) = word.SystemDescription
word_of element.Hw = word.HwDescription
word_of element.MemoryLayout = word.MemoryLayout
word_of (element.Region start size) = word.Region
word_of element.ProcessorTable = word.ProcessorTable
word_of (element.Processor id) = word.Processor
word_of element.CyclicPlanTable = word.CyclicPlanTable
word_of (element.Plan id frame) = word.Plan
word_of (element.Slot id start duration part) = word.Slot
word_of element.Devices = word.Devices
word_of (element.Uart id name) = word.Uart
word_of element.Hypervisor = word.XmHypervisor
word_of (element.HvArea size) = word.PhysicalMemoryArea
word_of element.PartitionTable = word.PartitionTable
word_of (element.Partition id name system console) = word.Partition
word_of element.Areas = word.PhysicalMemoryAreas
word_of (element.Area start size read_only) = word.Area
word_of (element.Need duration period) = word.TemporalRequirements
word_of element.HealthMonitor = word.HealthMonitor
word_of (element.Event event action log) = word.Event
word_of (element.Trace mask) = word.Trace
word_of element.PortTable = word.PortTable
word_of (element.Port name kind way) = word.Port
word_of element.Channels = word.Channels
word_of (element.Sampling length refresh) = word.SamplingChannel
word_of (element.Queuing length most) = word.QueuingChannel
word_of (element.Source part name) = word.Source
word_of (element.Destination part name) = word.Destination
word_of (element.Ipvi id source dest) = word.Ipvi

-- the entry has this number
abbrev pub StandsAt : List Entry → ℕ → Entry → Type 0
StandsAt entries number entry = slice_get entries number ≡ Some entry

-- the entries after the first
abbrev pub after_root : List Entry → List Entry
after_root [] = []
after_root (root ∷ entries) = entries

-- the names of the children of the entry with this number, in the order of the text; the first entry is nobody's child
unfoldable pub children_of : ℕ → List Entry → List Word
children_of number entries = map (λ entry. word_of entry.what) (filter (λ entry. entry.parent == number) (after_root entries))

-- the names of the children that the table has for an element
abbrev pub child_words : Word → List Word
child_words element = map (λ child. child.word) (allowed_children element)

-- a child that stands this many times stands as often as it may and has to
abbrev pub StandsOften : Often → ℕ → Type 0
StandsOften often.One count = count ≡ 1
StandsOften often.Maybe count = count ≤ 1
StandsOften often.Some count = 1 ≤ count
StandsOften often.Any count = Unit {0}

-- the children of an element: the table has each of them, and each of the table's stands as often as it may and has to
pub record HasChildren (element : Word) (names : List Word) : Type 0 where
  pub allowed : AllByRecursion (λ name. is_among name (child_words element) ≡ true) names
  pub counted : AllByRecursion (λ child. StandsOften child.often (count_by (is_word child.word) names)) (allowed_children element)

-- the first entry is the system, and its parent is 0
pub record IsRoot (entry : Entry) : Type 0 where
  pub name : List ℕ
  pub system : entry.what ≡ element.System name
  pub parent : entry.parent ≡ 0

-- a draft: entry 0 is the system; the parent of each later one stands before it; what stands between an entry and its
-- child stands within that entry; and each entry has the children that the table allows and demands
pub record IsDraft (entries : List Entry) : Type 0 where
  pub root : (first : Entry) × StandsAt entries 0 first × IsRoot first
  pub before : (number : ℕ) (entry : Entry) → StandsAt entries number entry → 0 < number → entry.parent < number
  pub within : (number between : ℕ) (entry other : Entry) → StandsAt entries number entry → StandsAt entries between other → entry.parent < between → between < number → entry.parent ≤ other.parent
  pub children : (number : ℕ) (entry : Entry) → StandsAt entries number entry → HasChildren (word_of entry.what) (children_of number entries)
