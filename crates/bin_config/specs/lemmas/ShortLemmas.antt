-- How long a spelling can be.
use Rattle.std.proofs.Common.{ℕ, ◌+◌, ◌*◌, ◌≤◌, List, [], ◌∷◌, ◌++◌, length, Option, Some, None, arith}
use Rattle.std.specs.Prelude.{⊤, All, flat_map}
use Rattle.std.proofs.lemmas.List.{length-append}
use Rattle.std.proofs.lemmas.List.Concat.{length-flat_map}
use Rattle.std.proofs.lemmas.List.Sums.{sum_by-le}
use Rattle.std.proofs.lemmas.Nat.{mul-le}
use Rattle.xm_conf.specs.Configuration.{Plan, Part, Chan, Conf}
use Rattle.xm_conf.specs.Health.{action_row}
use Rattle.xm_conf.specs.Name.{IsName}
use Rattle.xm_conf.specs.declared.health.Action.{Action}
use Rattle.xm_conf.specs.declared.plan.Slot.{Slot}
use Rattle.xm_conf.specs.declared.part.Area.{Area}
use Rattle.xm_conf.specs.declared.part.Need.{Need}
use Rattle.xm_conf.specs.declared.part.HmTable.{HmTable}
use Rattle.xm_conf.specs.declared.port.Port.{Port}
use Rattle.xm_conf.specs.declared.channel.ChanKind.{ChanKind}
use Rattle.xm_conf.specs.declared.channel.ChanKind.TheVariants as chan_kind
use Rattle.xm_conf.specs.declared.channel.End.{End}
use Rattle.xm_conf.specs.declared.link.Link.{Link}
use Rattle.xm_conf.specs.declared.raw.Region.{Region}
use Rattle.bin_config.specs.Spelled.{AreFew, IsSpelledRegion, IsSpelledSlot, IsSpelledMonitor, IsSpelledArea, IsSpelledPart, IsSpelledEnd, IsSpelledLink, AreSpelledLinks, IsSpelledConf}
use Rattle.bin_config.specs.lemmas.SpelledTerms.{IsSpelledPlan, IsSpelledChan}
use Rattle.bin_config.specs.Xmc as xmc
use Rattle.bin_config.specs.declared.version.Version.{Version}
use Rattle.bin_config.specs.declared.version.Version.TheVariants as version

-- a text has at most this many bytes
pub record HasAtMost (most : ℕ) (bytes : List ℕ) : Type 0 where
  pub is : length bytes ≤ most

-- one text after another
both_short : {a b : List ℕ} {m n : ℕ} → HasAtMost m a → HasAtMost n b → HasAtMost (m + n) (a ++ b)
both_short {a} {b} first second = record { is = omega (arith, length-append a b, first.is, second.is) }

-- one byte
byte_short : (byte : ℕ) → HasAtMost 1 (byte ∷ [])
byte_short byte = record { is = omega arith }

-- a number of two bytes
half_word_short : (n : ℕ) → HasAtMost 2 (xmc.half_word n)
half_word_short n = record { is = omega arith }

-- a number of four bytes
word_short : (n : ℕ) → HasAtMost 4 (xmc.word_field n)
word_short n = record { is = omega arith }

-- elements, each of them short
each_short : {X : Type 0} (spell : X → List ℕ) (P : X → Type 0) (m : ℕ) → ((x : X) → P x → HasAtMost m (spell x)) → (xs : List X) → All P xs → length (flat_map spell xs) ≤ length xs * m
each_short spell P m short xs each =
    let few : All (λ x. length (spell x) ≤ m) xs = λ n d below. (short _ (each n d below)).is in
    let sum = sum_by-le (λ x. length (spell x)) m xs few in
    omega (arith, length-flat_map spell xs, sum)

-- a list of elements, each of them short
counted_short : {X : Type 0} (spell : X → List ℕ) (P : X → Type 0) (m : ℕ) → ((x : X) → P x → HasAtMost m (spell x)) → (xs : List X) → AreFew P xs → HasAtMost (1 + 255 * m) (xmc.list_field spell xs)
counted_short spell P m short xs few =
    let all = each_short spell P m short xs few.each in
    let most = mul-le (length xs) m 255 m (omega (arith, few.few)) (omega arith) in
    let sum : length (flat_map spell xs) ≤ 255 * m = omega (arith, all, most) in
    both_short (byte_short (length xs)) (record { is = sum })

-- a text
text_short : (name : List ℕ) → IsName name → HasAtMost 32 (xmc.text_field name)
unfolding xmc.text_field
text_short name is = both_short {n = 31} (byte_short (length name)) (record { is = is.most })

-- a region
region_short : (r : Region) → IsSpelledRegion r → HasAtMost 8 (xmc.region_record r)
unfolding xmc.region_record
region_short r is = both_short (word_short r.start) (word_short r.size)

-- a slot
slot_short : (s : Slot) → IsSpelledSlot s → HasAtMost 9 (xmc.slot_record s)
unfolding xmc.slot_record
slot_short s is = both_short (both_short (word_short s.start) (word_short s.duration)) (byte_short s.part)

-- a plan
plan_short : (p : Plan) → IsSpelledPlan p → HasAtMost 2300 (xmc.plan_record p)
unfolding xmc.plan_record
plan_short p is = both_short (word_short p.frame) (counted_short xmc.slot_record IsSpelledSlot 9 slot_short p.slots is.slots)

-- a requirement
need_short : (need : Option Need) → HasAtMost 8 (xmc.need_field need)
need_short None = both_short (word_short 0) (word_short 0)
need_short (Some need) = both_short (word_short need.duration) (word_short need.period)

-- an action
action_short : (a : Action) → ⊤ → HasAtMost 1 (xmc.action a)
unfolding xmc.action
action_short a is = byte_short (action_row a).number

-- a partition's table of health events
monitor_short : (hm : HmTable) → IsSpelledMonitor hm → HasAtMost 14 (xmc.monitor hm)
unfolding xmc.monitor
monitor_short hm is =
    let all = each_short xmc.action (λ a. ⊤) 1 action_short hm.actions (λ n d below. tt) in
    both_short {m = 12} (record { is = omega (arith, all, is.actions) }) (half_word_short hm.logged)

-- an area
area_short : (a : Area) → IsSpelledArea a → HasAtMost 9 (xmc.area_record a)
unfolding xmc.area_record
area_short a is = both_short (both_short (word_short a.start) (word_short a.size)) (byte_short (xmc.flag_field a.read_only))

-- a port
port_short : (p : Port) → IsName p.name → HasAtMost 34 (xmc.port_record p)
unfolding xmc.port_record
port_short p is = both_short (both_short (text_short p.name is) (byte_short (xmc.kind_byte p.kind))) (byte_short (xmc.way_byte p.way))

-- who a partition is
identity_short : (p : Part) → IsSpelledPart p → HasAtMost 46 (xmc.identity p)
unfolding xmc.identity
identity_short p is =
    both_short
    (both_short (both_short (both_short (text_short p.name is.name) (byte_short (xmc.flag_field p.system))) (byte_short (xmc.console_field p.console))) (need_short p.need))
    (word_short p.trace_mask)

-- what a partition has
belongings_short : (p : Part) → IsSpelledPart p → HasAtMost 10967 (xmc.belongings p)
unfolding xmc.belongings
belongings_short p is =
    both_short (counted_short xmc.area_record IsSpelledArea 9 area_short p.areas is.areas) (counted_short xmc.port_record (λ port. IsName port.name) 34 port_short p.ports is.ports)

-- a partition
part_short : (p : Part) → IsSpelledPart p → HasAtMost 11027 (xmc.part_record p)
unfolding xmc.part_record
part_short p is = both_short (both_short (identity_short p is) (monitor_short p.hm is.hm)) (belongings_short p is)

-- what a channel's kind has beside it
keeps_short : (c : ChanKind) → HasAtMost 4 (xmc.keeps c)
keeps_short (chan_kind.Sampling refresh) = word_short refresh
keeps_short (chan_kind.Queuing most) = record { is = omega arith }

-- an end of a channel
end_short : (e : End) → IsSpelledEnd e → HasAtMost 2 (xmc.end e)
unfolding xmc.end
end_short e is = both_short (byte_short e.part) (byte_short e.port)

-- a channel
chan_short : (c : Chan) → IsSpelledChan c → HasAtMost 520 (xmc.chan c)
unfolding xmc.chan
chan_short c is =
    both_short
    (both_short (both_short (both_short (byte_short (xmc.chan_byte c.kind)) (half_word_short c.length)) (keeps_short c.kind)) (end_short c.source is.source))
    (counted_short xmc.end IsSpelledEnd 2 end_short c.dests is.dests)

-- a link
link_short : (l : Link) → IsSpelledLink l → HasAtMost 3 (xmc.link_text l)
unfolding xmc.link_text
link_short l is = both_short (both_short (byte_short l.number) (byte_short l.source)) (byte_short l.dest)

-- the links of each version
links_short : (v : Version) (ls : List Link) → AreSpelledLinks v ls → HasAtMost 766 (xmc.links v ls)
links_short version.One ls is = record { is = omega arith }
links_short version.Two ls is = counted_short xmc.link_text IsSpelledLink 3 link_short ls is

-- what stands after the length of the whole
pub body_short : (v : Version) (conf : Conf) → IsSpelledConf v conf → HasAtMost 3541992 (xmc.body v conf)
unfolding xmc.body
body_short v conf is =
    both_short
    (both_short
    (both_short
    (both_short
    (both_short
    (both_short (both_short (text_short conf.name is.name) (counted_short xmc.region_record IsSpelledRegion 8 region_short conf.regions is.regions)) (word_short conf.hv_size))
    (counted_short xmc.text_field IsName 32 text_short conf.uarts is.uarts))
    (counted_short xmc.plan_record IsSpelledPlan 2300 plan_short conf.plans is.plans))
    (counted_short xmc.part_record IsSpelledPart 11027 part_short conf.parts is.parts))
    (counted_short xmc.chan IsSpelledChan 520 chan_short conf.chans is.chans))
    (links_short v conf.links is.links)
