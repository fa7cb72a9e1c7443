-- A binary configuration is read from left to right: each field with its value and what is after it, or the first fault.
use Rattle.std.specs.Prelude.{ℕ, suc, zero, ◌==◌, Bool, true, false, ◌&&◌, ◌||◌, nat_lt, if◌then◌else◌, List, [], ◌∷◌, length, slice_get, codes, Option, Some, None, Result, Ok, Err}
use Rattle.std.specs.Int.{w8, w16, w32}
use Rattle.xm_base.specs.Cursor.{Place, cursor_start, left}
use Rattle.file_headers.specs.Fields.{field_bytes, number_at}
use Rattle.file_headers.specs.Heads.{magic_at}
use Rattle.file_headers.specs.Steps.{◌>>=◌}
use Rattle.xm_conf.specs.Configuration.{Plan, Part, Chan, Conf}
use Rattle.xm_conf.specs.Health.{actions}
use Rattle.xm_conf.specs.Name.{name_from_bytes}
use Rattle.xm_conf.specs.declared.health.Action.{Action}
use Rattle.xm_conf.specs.declared.plan.Slot.{Slot}
use Rattle.xm_conf.specs.declared.part.Area.{Area}
use Rattle.xm_conf.specs.declared.part.Need.{Need}
use Rattle.xm_conf.specs.declared.part.HmTable.{HmTable}
use Rattle.xm_conf.specs.declared.port.Port.{Port}
use Rattle.xm_conf.specs.declared.port.Kind.{Kind}
use Rattle.xm_conf.specs.declared.port.Kind.TheVariants as kind
use Rattle.xm_conf.specs.declared.port.Way.{Way}
use Rattle.xm_conf.specs.declared.port.Way.TheVariants as way
use Rattle.xm_conf.specs.declared.channel.ChanKind.{ChanKind}
use Rattle.xm_conf.specs.declared.channel.ChanKind.TheVariants as chan_kind
use Rattle.xm_conf.specs.declared.channel.End.{End}
use Rattle.xm_conf.specs.declared.link.Link.{Link}
use Rattle.xm_conf.specs.declared.raw.Region.{Region}
use Rattle.xm_conf.specs.declared.item.Broken.{Broken}
use Rattle.xm_conf.specs.Description.{described}
use Rattle.xm_conf.specs.Rules.{first_broken}
use Rattle.bin_config.specs.Version.{wanted, parts_in_version}
use Rattle.bin_config.specs.declared.identity.Identity.{Identity}
use Rattle.bin_config.specs.declared.version.Version.{Version}
use Rattle.bin_config.specs.declared.version.Version.TheVariants as version
use Rattle.fault_messages.specs.declared.fault.XmcFault.{XmcFault}
use Rattle.fault_messages.specs.declared.fault.XmcFault.TheVariants as fault

-- a value with the place after it, or a fault
abbrev pub Read : Type 0 → Type 0
Read X = Result (X × Place) XmcFault

-- a field that passes the end
abbrev pub conf_short : ℕ → XmcFault
conf_short at = fault.Short at

-- a number of one byte
unfoldable pub byte_field_at : Place → Read ℕ
byte_field_at place = number_at conf_short w8 place

-- a number of two bytes
unfoldable pub half_word_at : Place → Read ℕ
half_word_at place = number_at conf_short w16 place

-- a number of four bytes
unfoldable pub word_field_at : Place → Read ℕ
word_field_at place = number_at conf_short w32 place

-- a value where there is one; else the field at a place is at fault
abbrev pub or_fault : {X : Type 0} → ℕ → Place → Option X → Read X
or_fault at following None = Err (fault.Field at)
or_fault at following (Some x) = Ok (x, following)

-- a number that means a value; else its field is at fault
abbrev pub coded_at : {X : Type 0} → (Place → Read ℕ) → (ℕ → Option X) → Place → Read X
coded_at field meaning place = do
  code ← field place
  or_fault place.at code.1 (meaning code.0)

-- what a byte means that is 0 or 1, each for a value
abbrev pub one_of_two : {X : Type 0} → X → X → ℕ → Option X
one_of_two first second byte = if byte == 0 then Some first else if byte == 1 then Some second else None

-- a byte that is 0 or 1
unfoldable pub flag_at : Place → Read Bool
flag_at place = coded_at byte_field_at (one_of_two false true) place

-- the bytes of a text, where this many are left; the text begins at a place
abbrev pub text_after : ℕ → ℕ → Place → Read (List ℕ)
text_after at count place = field_bytes (λ here. fault.Short at) count place >>= λ bytes. or_fault at bytes.1 (name_from_bytes bytes.0)

-- a text
unfoldable pub text_field_at : Place → Read (List ℕ)
text_field_at place = do
  count ← byte_field_at place
  text_after place.at count.0 count.1

-- this many elements, one after another
abbrev pub elements_at : {X : Type 0} → (Place → Read X) → ℕ → Place → Read (List X)
elements_at element zero place = Ok ([], place)
elements_at element (suc count) place = do
  x ← element place
  xs ← elements_at element count x.1
  Ok (x.0 ∷ xs.0, xs.1)

-- a byte with the number of elements, and each of them
abbrev pub counted_at : {X : Type 0} → (Place → Read X) → Place → Read (List X)
counted_at element place = do
  count ← byte_field_at place
  elements_at element count.0 count.1

-- two fields, as one value
abbrev pub two_fields_at : {A B X : Type 0} → (Place → Read A) → (Place → Read B) → (A → B → X) → Place → Read X
two_fields_at one other made place = do
  a ← one place
  b ← other a.1
  Ok (made a.0 b.0, b.1)

-- three fields, as one value
abbrev pub three_fields_at : {A B C X : Type 0} → (Place → Read A) → (Place → Read B) → (Place → Read C) → (A → B → C → X) → Place → Read X
three_fields_at one other third made place = do
  a ← one place
  b ← other a.1
  c ← third b.1
  Ok (made a.0 b.0 c.0, c.1)

-- a region
unfoldable pub region_at : Place → Read Region
region_at place = two_fields_at word_field_at word_field_at (λ start size. record { start = start; size = size }) place

-- a slot
unfoldable pub slot_record_at : Place → Read Slot
slot_record_at place = three_fields_at word_field_at word_field_at byte_field_at (λ start duration part. record { start = start; duration = duration; part = part }) place

-- a plan
unfoldable pub plan_record_at : Place → Read Plan
plan_record_at place = two_fields_at word_field_at (counted_at slot_record_at) (λ frame slots. record { frame = frame; slots = slots }) place

-- the UART of a console
abbrev pub console_of : ℕ → Option ℕ
console_of byte = if byte == 255 then None else Some byte

-- a requirement of a duration and a period, which stands at a place: both are 0 or neither
abbrev pub need_of_numbers : ℕ → ℕ → Option (Option Need)
need_of_numbers duration period =
    if duration == 0 && period == 0 then Some None
    else if duration == 0 || period == 0 then None
    else Some (Some (record { duration = duration; period = period }))

-- a requirement
unfoldable pub need_at : Place → Read (Option Need)
need_at place = do
  duration ← word_field_at place
  period ← word_field_at duration.1
  or_fault duration.1.at period.1 (need_of_numbers duration.0 period.0)

-- an action
unfoldable pub action_at : Place → Read Action
action_at place = coded_at byte_field_at (slice_get actions) place

-- the flags of the events that are logged
abbrev pub logged_flags : ℕ → Option ℕ
logged_flags flags = if nat_lt flags 4096 then Some flags else None

-- the flags of the events that are logged
unfoldable pub flags_at : Place → Read ℕ
flags_at place = coded_at half_word_at logged_flags place

-- an area
unfoldable pub area_at : Place → Read Area
area_at place = three_fields_at word_field_at word_field_at flag_at (λ start size read_only. record { start = start; size = size; read_only = read_only }) place

-- a port's kind
unfoldable pub kind_at : Place → Read Kind
kind_at place = coded_at byte_field_at (one_of_two kind.Sampling kind.Queuing) place

-- a port's way
unfoldable pub way_at : Place → Read Way
way_at place = coded_at byte_field_at (one_of_two way.Source way.Destination) place

-- a port
unfoldable pub port_record_at : Place → Read Port
port_record_at place = three_fields_at text_field_at kind_at way_at (λ name kind way. record { name = name; kind = kind; way = way }) place

-- an end of a channel
unfoldable pub end_at : Place → Read End
end_at place = two_fields_at byte_field_at byte_field_at (λ part port. record { part = part; port = port }) place

-- what a channel's kind has beside it
unfoldable pub keeps_at : Kind → Place → Read ChanKind
keeps_at kind.Sampling place = do
  refresh ← word_field_at place
  Ok (chan_kind.Sampling refresh.0, refresh.1)
keeps_at kind.Queuing place = do
  most ← byte_field_at place
  Ok (chan_kind.Queuing most.0, most.1)

-- a channel
unfoldable pub chan_record_at : Place → Read Chan
chan_record_at place = do
  kind ← kind_at place
  length ← half_word_at kind.1
  keeps ← keeps_at kind.0 length.1
  source ← end_at keeps.1
  dests ← counted_at end_at source.1
  Ok (record { kind = keeps.0; length = length.0; source = source.0; dests = dests.0 }, dests.1)

-- how many health events there are
unfoldable pub event_count : ℕ
event_count = 12

-- a partition's table of health events
unfoldable pub health_table_at : Place → Read HmTable
health_table_at place = two_fields_at (elements_at action_at event_count) flags_at (λ actions logged. record { actions = actions; logged = logged }) place

-- who a partition is, and what time it requires
unfoldable pub identity_at : Place → Read Identity
identity_at place = do
  name ← text_field_at place
  system ← flag_at name.1
  console ← byte_field_at system.1
  need ← need_at console.1
  trace_mask ← word_field_at need.1
  Ok (record { name = name.0; system = system.0; console = console_of console.0; need = need.0; trace_mask = trace_mask.0 }, trace_mask.1)

-- a partition
unfoldable pub part_record_at : Place → Read Part
part_record_at place = do
  identity ← identity_at place
  hm ← health_table_at identity.1
  areas ← counted_at area_at hm.1
  ports ← counted_at port_record_at areas.1
  Ok (
    record {
      name = identity.0.name;
      system = identity.0.system;
      console = identity.0.console;
      need = identity.0.need;
      trace_mask = identity.0.trace_mask;
      hm = hm.0;
      areas = areas.0;
      ports = ports.0;
    },
    ports.1,
  )

-- a link
unfoldable pub link_at : Place → Read Link
link_at place = three_fields_at byte_field_at byte_field_at byte_field_at (λ number source dest. record { number = number; source = source; dest = dest }) place

-- the links, which version 1 does not have
abbrev pub links_at : Version → Place → Read (List Link)
links_at version.One place = Ok ([], place)
links_at version.Two place = counted_at link_at place

-- what stands after the length of the whole
unfoldable pub conf_body_at : Version → Place → Read Conf
conf_body_at v place = do
  name ← text_field_at place
  regions ← counted_at region_at name.1
  hv_size ← word_field_at regions.1
  uarts ← counted_at text_field_at hv_size.1
  plans ← counted_at plan_record_at uarts.1
  parts ← counted_at part_record_at plans.1
  chans ← counted_at chan_record_at parts.1
  links ← links_at v chans.1
  Ok (
    record {
      name = name.0;
      regions = regions.0;
      hv_size = hv_size.0;
      uarts = uarts.0;
      plans = plans.0;
      parts = parts.0;
      chans = chans.0;
      links = links.0;
    },
    links.1,
  )

-- a version where there is one; else the number of a version is at fault
abbrev pub or_version : ℕ → Place → Option Version → Read Version
or_version number following None = Err (fault.Version number)
or_version number following (Some v) = Ok (v, following)

-- the version, which is the one that is wanted, or either
unfoldable pub wanted_version_at : Option Version → Place → Read Version
wanted_version_at want place = do
  number ← half_word_at place
  or_version number.0 number.1 (wanted want number.0)

-- there are as many bytes as the length field states
abbrev pub is_whole : ℕ → ℕ → Result (Unit {0}) XmcFault
is_whole total stated =
    if nat_lt total stated then Err (fault.Short total) else if nat_lt stated total then Err (fault.Trailing stated) else Ok tt

-- the first fields: what comes first, the version, which is returned, and the length of the whole
unfoldable pub head_at : Option Version → Place → Read Version
head_at want place = do
  named ← magic_at conf_short fault.Magic (codes "XMCF") place
  version ← wanted_version_at want named
  stated ← word_field_at version.1
  is_whole (length place.bytes) stated.0 >>= λ all. Ok (version.0, stated.1)

-- nothing is left
abbrev pub nothing_left : (Conf × Place) → Result Conf XmcFault
nothing_left conf = if nat_lt 0 (left conf.1) then Err (fault.Trailing conf.1.at) else Ok conf.0

-- a configuration, where no rule is broken
abbrev pub unbroken : Conf → Option Broken → Result Conf XmcFault
unbroken conf None = Ok conf
unbroken conf (Some broken) = Err (fault.NotFit broken.rule)

-- the other fields of a version, and nothing after them
unfoldable pub fields_at : Version → Place → Result Conf XmcFault
fields_at v place = do
  conf ← conf_body_at v place
  nothing_left conf

-- the configuration that bytes are in the version that is wanted, or in either, or the first fault
unfoldable pub read_within : Option Version → List ℕ → Result Conf XmcFault
read_within want bytes = do
  head ← head_at want (cursor_start bytes)
  conf ← fields_at head.0 head.1
  unbroken conf (first_broken (parts_in_version head.0) (described conf))

-- the configuration that bytes are in either version, or the first fault
abbrev pub read_of : List ℕ → Result Conf XmcFault
read_of bytes = read_within None bytes

-- the configuration that bytes are in one version, or the first fault
abbrev pub read_as : Version → List ℕ → Result Conf XmcFault
read_as v bytes = read_within (Some v) bytes
