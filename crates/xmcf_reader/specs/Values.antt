-- The values of attributes: what each form of text means.
use Rattle.std.specs.Prelude.{ℕ, ◌+◌, ◌-◌, ◌*◌, ◌/◌, ◌%◌, ◌^◌, ◌==◌, Bool, true, false, ◌&&◌, nat_le, nat_lt, nat_eq, if◌then◌else◌, List, [], ◌∷◌, length, codes, take, drop, Option, Some, None, is_some}
use Rattle.std.specs.List.{position, list_all, starts_with}
use Rattle.std.specs.Str.{bytes_eq}
use Rattle.xm_conf.specs.Name.{is_name}
use Rattle.xm_conf.specs.Health.{event_named, action_named}
use Rattle.xm_conf.specs.declared.port.Kind.{Kind}
use Rattle.xm_conf.specs.declared.port.Kind.TheVariants as kind
use Rattle.xm_conf.specs.declared.port.Way.{Way}
use Rattle.xm_conf.specs.declared.port.Way.TheVariants as way
use Rattle.xmcf_reader.specs.declared.table.Form.{Form}
use Rattle.xmcf_reader.specs.declared.table.Form.TheVariants as form

-- go on with what there is
abbrev pub on_value : {A B : Type 0} → Option A → (A → Option B) → Option B
on_value None go = None
on_value (Some x) go = go x

-- the first of two that there is
abbrev pub either : {A : Type 0} → Option A → Option A → Option A
either (Some x) other = Some x
either None other = other

-- a number below 2^32
unfoldable pub word32 : ℕ → Option ℕ
word32 n = if nat_lt n 4294967296 then Some n else None

-- a digit's value, to base 10 or, with letters of either case, to base 16
unfoldable pub digit : ℕ → ℕ → Option ℕ
digit base byte =
    if nat_le 48 byte && nat_le byte 57 then Some (byte - 48)
    else (if base == 16 && nat_le 65 byte && nat_le byte 70 then Some (byte - 55)
    else (if base == 16 && nat_le 97 byte && nat_le byte 102 then Some (byte - 87)
    else None))

-- the number that digits spell after those of a number
abbrev pub spelled : ℕ → ℕ → List ℕ → Option ℕ
spelled base n [] = Some n
spelled base n (byte ∷ bytes) = on_value (digit base byte) (λ d. spelled base (n * base + d) bytes)

-- the number that 1 to this many digits spell
unfoldable pub digits : ℕ → ℕ → List ℕ → Option ℕ
digits base most bytes = if nat_le 1 (length bytes) && nat_le (length bytes) most then spelled base 0 bytes else None

-- a number: 1 to 10 digits, below 2^32
unfoldable pub number : List ℕ → Option ℕ
number text = on_value (digits 10 10 text) word32

-- an address: `0x` and 1 to 8 hexadecimal digits, which always are below 2^32
unfoldable pub address : List ℕ → Option ℕ
address text = if starts_with nat_eq text (codes "0x") then on_value (digits 16 8 (drop 2 text)) word32 else None

-- whole and part of a decimal number, in millionths; the part has this many digits
unfoldable pub millionths : ℕ → ℕ → ℕ → ℕ
millionths whole part size = whole * 1000000 + part * 10 ^ (6 - size)

-- a decimal number with a part after its point, in millionths
unfoldable pub parted : List ℕ → List ℕ → Option ℕ
parted whole part = on_value (digits 10 10 whole) (λ w. on_value (digits 10 6 part) (λ p. Some (millionths w p (length part))))

-- the point of a decimal number
abbrev pub is_point : ℕ → Bool
is_point byte = byte == 46

-- a decimal number, in millionths, by the place of its point
abbrev pub decimal_at : Option ℕ → List ℕ → Option ℕ
decimal_at None text = on_value (digits 10 10 text) (λ w. Some (w * 1000000))
decimal_at (Some at) text = parted (take at text) (drop (at + 1) text)

-- a decimal number, in millionths: 1 to 10 digits, and where there is a point 1 to 6 more
unfoldable pub decimal_number : List ℕ → Option ℕ
decimal_number text = decimal_at (position is_point text) text

-- this many millionths of a unit, where they come out whole and below 2^32
unfoldable pub whole : ℕ → ℕ → Option ℕ
whole unit n = if n * unit % 1000000 == 0 then word32 (n * unit / 1000000) else None

-- what stands before the unit, where the text ends with it
unfoldable pub before_unit : List ℕ → List ℕ → Option (List ℕ)
before_unit unit text =
    if nat_le (length unit) (length text) && bytes_eq (drop (length text - length unit) text) unit
    then Some (take (length text - length unit) text) else None

-- a decimal number of units, where it comes out whole and below 2^32
unfoldable pub measured : List ℕ → ℕ → List ℕ → Option ℕ
measured name unit text = on_value (before_unit name text) (λ front. on_value (decimal_number front) (whole unit))

-- a size in bytes
unfoldable pub size : List ℕ → Option ℕ
size text = either (measured (codes "KB") 1024 text) (either (measured (codes "MB") 1048576 text) (measured (codes "B") 1 text))

-- a time in microseconds
unfoldable pub time : List ℕ → Option ℕ
time text = either (measured (codes "us") 1 text) (either (measured (codes "ms") 1000 text) (measured (codes "s") 1000000 text))

-- a frequency
unfoldable pub is_frequency : List ℕ → Bool
is_frequency text = is_some (on_value (before_unit (codes "Mhz") text) decimal_number)

-- a byte of a text: printed ASCII. No value has `<`, `&` or its quote in it
unfoldable pub is_printed : ℕ → Bool
is_printed byte = nat_le 32 byte && nat_le byte 126

-- a text
unfoldable pub is_text : List ℕ → Bool
is_text text = list_all is_printed text

-- put a byte before the first of words
abbrev pub onto : ℕ → List (List ℕ) → List (List ℕ)
onto byte [] = (byte ∷ []) ∷ []
onto byte (word ∷ words) = (byte ∷ word) ∷ words

-- the words that single spaces part
abbrev pub split : List ℕ → List (List ℕ)
split [] = [] ∷ []
split (byte ∷ bytes) = if byte == 32 then [] ∷ split bytes else onto byte (split bytes)

-- the flags of a partition, each with whether it stands
pub record FlagSet : Type 0 where
  pub none : Bool
  pub system : Bool
  pub boot : Bool
  pub fp : Bool

-- no flag
abbrev pub no_flags : FlagSet
no_flags = record { none = false; system = false; boot = false; fp = false }

-- what a new flag gives, where it doesn't stand yet
abbrev pub new_flag : Bool → FlagSet → Option FlagSet
new_flag false flags = Some flags
new_flag true flags = None

-- one more flag; no other word is one, and none stands twice
unfoldable pub with_flag : List ℕ → FlagSet → Option FlagSet
with_flag word flags =
    if bytes_eq word (codes "none") then new_flag flags.none (record flags { none = true })
    else (if bytes_eq word (codes "system") then new_flag flags.system (record flags { system = true })
    else (if bytes_eq word (codes "boot") then new_flag flags.boot (record flags { boot = true })
    else (if bytes_eq word (codes "fp") then new_flag flags.fp (record flags { fp = true })
    else None)))

-- this many more flags
abbrev pub with_flags : List (List ℕ) → FlagSet → Option FlagSet
with_flags [] flags = Some flags
with_flags (word ∷ words) flags = on_value (with_flag word flags) (λ more. with_flags words more)

-- flags, of which only `system` has an effect
unfoldable pub flags : List ℕ → Option Bool
flags text = on_value (with_flags (split text) no_flags) (λ found. Some found.system)

-- whether an area is only read
unfoldable pub access : List ℕ → Option Bool
access text = if bytes_eq text (codes "none") then Some false else (if bytes_eq text (codes "read-only") then Some true else None)

-- whether an event is logged
unfoldable pub log : List ℕ → Option Bool
log text = if bytes_eq text (codes "yes") then Some true else (if bytes_eq text (codes "no") then Some false else None)

-- the kind of a port
unfoldable pub kind_named : List ℕ → Option Kind
kind_named text = if bytes_eq text (codes "sampling") then Some kind.Sampling else (if bytes_eq text (codes "queuing") then Some kind.Queuing else None)

-- the direction of a port
unfoldable pub way_named : List ℕ → Option Way
way_named text = if bytes_eq text (codes "source") then Some way.Source else (if bytes_eq text (codes "destination") then Some way.Destination else None)

-- whether a text has the form of an attribute's value
unfoldable pub has_form : Form → List ℕ → Bool
has_form form.Text text = is_text text
has_form form.Name text = is_name text
has_form form.Address text = is_some (address text)
has_form form.Size text = is_some (size text)
has_form form.Number text = is_some (number text)
has_form form.Frequency text = is_frequency text
has_form form.Time text = is_some (time text)
has_form form.Flags text = is_some (flags text)
has_form form.Access text = is_some (access text)
has_form form.Event text = is_some (event_named text)
has_form form.Action text = is_some (action_named text)
has_form form.Log text = is_some (log text)
has_form form.Kind text = is_some (kind_named text)
has_form form.Way text = is_some (way_named text)
