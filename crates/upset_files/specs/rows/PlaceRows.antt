-- Rows on places and bits, worked by hand: the first and the last of each, and what stands beside them.
use Rattle.std.specs.Prelude.{◌≡◌, List, ℕ, [], true, false, codes, Some, None}
use Rattle.upset_files.specs.Fits.{is_bit_of}
use Rattle.upset_files.specs.Reading.{place_spelled}
use Rattle.xm_report.specs.Places.{place_text}
use Rattle.xm_report.specs.declared.place.Place.{Place}
use Rattle.xm_report.specs.declared.place.Place.TheVariants.{Conditions, ExecutionDeadline, Global, HardwareDeadline, Mask, MemoryByte, Npc, Pc, Pending, TrapBase, Windowed, YRegister}

-- a place is spelled so
abbrev pub IsPlaceText : Place → List ℕ → Type 0
IsPlaceText place text = (place_text place ≡ text) × (place_spelled text ≡ Some place)

-- the first and the last place of each kind
pub record SpelledPlaces : Type 0 where
  pub first_global : IsPlaceText (Global 1) (codes "g1")
  pub last_global : IsPlaceText (Global 7) (codes "g7")
  pub first_windowed : IsPlaceText (Windowed 0) (codes "w0")
  pub last_windowed : IsPlaceText (Windowed 127) (codes "w127")
  pub pc : IsPlaceText Pc (codes "pc")
  pub npc : IsPlaceText Npc (codes "npc")
  pub y : IsPlaceText YRegister (codes "y")
  pub icc : IsPlaceText Conditions (codes "icc")
  pub hw : IsPlaceText HardwareDeadline (codes "hw")
  pub exec : IsPlaceText ExecutionDeadline (codes "exec")
  pub tbr : IsPlaceText TrapBase (codes "tbr")
  pub mask : IsPlaceText Mask (codes "mask")
  pub pending : IsPlaceText Pending (codes "pending")
  pub first_byte : IsPlaceText (MemoryByte 0) (codes "00000000")
  pub byte : IsPlaceText (MemoryByte 0x40100010) (codes "40100010")
  pub last_byte : IsPlaceText (MemoryByte 0xffffffff) (codes "ffffffff")

-- what stands beside them, and other spellings, are no places
pub record OtherWords : Type 0 where
  pub global_0 : place_spelled (codes "g0") ≡ None
  pub global_8 : place_spelled (codes "g8") ≡ None
  pub windowed_128 : place_spelled (codes "w128") ≡ None
  pub zero_first : place_spelled (codes "g01") ≡ None
  pub no_number : place_spelled (codes "w") ≡ None
  pub capital : place_spelled (codes "PC") ≡ None
  pub capital_digit : place_spelled (codes "4010001A") ≡ None
  pub seven_digits : place_spelled (codes "4010001") ≡ None
  pub nine_digits : place_spelled (codes "400000000") ≡ None
  pub prefixed : place_spelled (codes "0x401000") ≡ None
  pub empty : place_spelled [] ≡ None

-- a place has the bits from the first to the last, and not those beside them
abbrev pub HasBits : Place → ℕ → ℕ → ℕ → Type 0
HasBits place first last after = (is_bit_of place first ≡ true) × (is_bit_of place last ≡ true) × (is_bit_of place after ≡ false)

-- the first and the last bit of each place
pub record BitEdges : Type 0 where
  pub globals : HasBits (Global 1) 0 31 32
  pub windows : HasBits (Windowed 0) 0 31 32
  pub pc : HasBits Pc 2 31 32
  pub npc : HasBits Npc 2 31 32
  pub low_pc : is_bit_of Pc 1 ≡ false
  pub low_npc : is_bit_of Npc 1 ≡ false
  pub y : HasBits YRegister 0 31 32
  pub icc : HasBits Conditions 0 3 4
  pub hw : HasBits HardwareDeadline 0 62 63
  pub exec : HasBits ExecutionDeadline 0 62 63
  pub tbr : HasBits TrapBase 12 31 32
  pub low_tbr : is_bit_of TrapBase 11 ≡ false
  pub mask : HasBits Mask 0 31 32
  pub pending : HasBits Pending 0 31 32
  pub byte : HasBits (MemoryByte 0x40100010) 0 7 8
