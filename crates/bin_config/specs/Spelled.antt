-- What can be spelled, and what values of the fields' types are.
use Rattle.std.specs.Prelude.{◌≡◌, ◌≢◌, ℕ, ◌<◌, ◌^◌, List, [], length, All, IfSome}
use Rattle.xm_conf.specs.Configuration.{Plan, Part, Chan, Conf}
use Rattle.xm_conf.specs.Name.{IsName}
use Rattle.xm_conf.specs.declared.plan.Slot.{Slot}
use Rattle.xm_conf.specs.declared.part.Area.{Area}
use Rattle.xm_conf.specs.declared.part.Need.{Need}
use Rattle.xm_conf.specs.declared.part.HmTable.{HmTable}
use Rattle.xm_conf.specs.declared.channel.ChanKind.{ChanKind}
use Rattle.xm_conf.specs.declared.channel.ChanKind.TheVariants as chan_kind
use Rattle.xm_conf.specs.declared.channel.End.{End}
use Rattle.xm_conf.specs.declared.link.Link.{Link}
use Rattle.xm_conf.specs.declared.raw.Region.{Region}
use Rattle.bin_config.specs.declared.version.Version.{Version}
use Rattle.bin_config.specs.declared.version.Version.TheVariants as version

-- a number has one byte
abbrev pub IsByte : ℕ → Type 0
IsByte n = n < 256

-- a number has two bytes
abbrev pub IsHalfWord : ℕ → Type 0
IsHalfWord n = n < 2 ^ 16

-- a number has four bytes
abbrev pub HasFourBytes : ℕ → Type 0
HasFourBytes n = n < 2 ^ 32

-- a list has no more elements than a byte can count, and each is so
pub record AreFew {X : Type 0} (P : X → Type 0) (xs : List X) : Type 0 where
  pub few : length xs < 256
  pub each : All P xs

-- what is said of a list, by what is said of its elements
abbrev pub ListTest : Type 1
ListTest = (X : Type 0) → (X → Type 0) → List X → Type 0

-- each element is so
abbrev pub ForEach : ListTest
ForEach X P xs = All P xs

-- each element is so, and they are few
abbrev pub ForFew : ListTest
ForFew X P xs = AreFew P xs

-- a region
pub record IsSpelledRegion (region : Region) : Type 0 where
  pub start : HasFourBytes region.start
  pub size : HasFourBytes region.size

-- a slot
pub record IsSpelledSlot (slot : Slot) : Type 0 where
  pub start : HasFourBytes slot.start
  pub duration : HasFourBytes slot.duration
  pub part : IsByte slot.part

-- a plan, with what is said of its list
pub record IsPlanWith (Lists : ListTest) (plan : Plan) : Type 0 where
  pub frame : HasFourBytes plan.frame
  pub slots : Lists Slot IsSpelledSlot plan.slots

-- a requirement: neither number is 0, since two zeros say that there is none
pub record IsSpelledNeed (need : Need) : Type 0 where
  pub duration : HasFourBytes need.duration
  pub period : HasFourBytes need.period
  pub lasts : need.duration ≢ 0
  pub returns : need.period ≢ 0

-- a partition's table of health events: an action for each of the twelve, and a flag for each
pub record IsSpelledMonitor (hm : HmTable) : Type 0 where
  pub actions : length hm.actions ≡ 12
  pub logged : hm.logged < 4096

-- an area
pub record IsSpelledArea (area : Area) : Type 0 where
  pub start : HasFourBytes area.start
  pub size : HasFourBytes area.size

-- a partition. A console's UART is not 255, which says that there is none
pub record IsSpelledPart (part : Part) : Type 0 where
  pub name : IsName part.name
  pub console : IfSome part.console (λ uart. uart < 255)
  pub need : IfSome part.need IsSpelledNeed
  pub trace_mask : HasFourBytes part.trace_mask
  pub hm : IsSpelledMonitor part.hm
  pub areas : AreFew IsSpelledArea part.areas
  pub ports : AreFew (λ port. IsName port.name) part.ports

-- an end of a channel
pub record IsSpelledEnd (end : End) : Type 0 where
  pub part : IsByte end.part
  pub port : IsByte end.port

-- what a channel's kind has beside it
abbrev pub IsSpelledKind : ChanKind → Type 0
IsSpelledKind (chan_kind.Sampling refresh) = HasFourBytes refresh
IsSpelledKind (chan_kind.Queuing most) = IsByte most

-- a channel, with what is said of its list
pub record IsChanWith (Lists : ListTest) (chan : Chan) : Type 0 where
  pub kind : IsSpelledKind chan.kind
  pub length : IsHalfWord chan.length
  pub source : IsSpelledEnd chan.source
  pub dests : Lists End IsSpelledEnd chan.dests

-- a link
pub record IsSpelledLink (link : Link) : Type 0 where
  pub number : IsByte link.number
  pub source : IsByte link.source
  pub dest : IsByte link.dest

-- the links, of which version 1 has none
abbrev pub AreSpelledLinks : Version → List Link → Type 0
AreSpelledLinks version.One links = links ≡ []
AreSpelledLinks version.Two links = AreFew IsSpelledLink links

-- a configuration, with what is said of its lists and of theirs, of a partition, and of the links
pub record IsConfWith (Lists : ListTest) (IsPart : Part → Type 0) (AreLinks : List Link → Type 0) (conf : Conf) : Type 0 where
  pub name : IsName conf.name
  pub regions : Lists Region IsSpelledRegion conf.regions
  pub hv_size : HasFourBytes conf.hv_size
  pub uarts : Lists (List ℕ) IsName conf.uarts
  pub plans : Lists Plan (IsPlanWith Lists) conf.plans
  pub parts : Lists Part IsPart conf.parts
  pub chans : Lists Chan (IsChanWith Lists) conf.chans
  pub links : AreLinks conf.links

-- a configuration that can be spelled in a version
abbrev pub IsSpelledConf : Version → Conf → Type 0
IsSpelledConf v conf = IsConfWith ForFew IsSpelledPart (AreSpelledLinks v) conf

-- a requirement's numbers are
pub record HasNeedRanges (need : Need) : Type 0 where
  pub duration : HasFourBytes need.duration
  pub period : HasFourBytes need.period

-- a partition's numbers are, its names are names, and it has an action for each of the twelve health events
pub record HasPartRanges (part : Part) : Type 0 where
  pub name : IsName part.name
  pub need : IfSome part.need HasNeedRanges
  pub trace_mask : HasFourBytes part.trace_mask
  pub actions : length part.hm.actions ≡ 12
  pub areas : All IsSpelledArea part.areas
  pub ports : All (λ port. IsName port.name) part.ports

-- all numbers of a configuration are in the ranges of their fields, and its names are names
abbrev pub HasConfRanges : Conf → Type 0
HasConfRanges conf = IsConfWith ForEach HasPartRanges (All IsSpelledLink) conf
