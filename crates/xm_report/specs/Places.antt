-- The spelling of a place where a bit of a partition may flip.
use Rattle.std.specs.Prelude.{ℕ, ◌<◌, ◌≤◌, ◌^◌, List, ◌++◌, codes, decimal}
use Rattle.std.specs.Int.{w32, to_be_bytes}
use Rattle.hex.specs.Hex.{encode_lower}
use Rattle.xm_report.specs.declared.place.Place.{Place}
use Rattle.xm_report.specs.declared.place.Place.TheVariants.{Conditions, ExecutionDeadline, Global, HardwareDeadline, Mask, MemoryByte, Npc, Pc, Pending, TrapBase, Windowed, YRegister}

-- a place: a register by its number in the core file, another by its name, and a byte of memory by its address
abbrev pub place_text : Place → List ℕ
place_text (Global n) = codes "g" ++ decimal n
place_text (Windowed n) = codes "w" ++ decimal n
place_text Pc = codes "pc"
place_text Npc = codes "npc"
place_text YRegister = codes "y"
place_text Conditions = codes "icc"
place_text HardwareDeadline = codes "hw"
place_text ExecutionDeadline = codes "exec"
place_text TrapBase = codes "tbr"
place_text Mask = codes "mask"
place_text Pending = codes "pending"
place_text (MemoryByte address) = encode_lower (to_be_bytes w32 address)

-- a place that has a spelling: the registers g1 to g7 and w0 to w127, those with a name, and a byte with an address of 32 bits
abbrev pub IsSpelledPlace : Place → Type 0
IsSpelledPlace (Global n) = (1 ≤ n) × (n < 8)
IsSpelledPlace (Windowed n) = n < 128
IsSpelledPlace Pc = Unit {0}
IsSpelledPlace Npc = Unit {0}
IsSpelledPlace YRegister = Unit {0}
IsSpelledPlace Conditions = Unit {0}
IsSpelledPlace HardwareDeadline = Unit {0}
IsSpelledPlace ExecutionDeadline = Unit {0}
IsSpelledPlace TrapBase = Unit {0}
IsSpelledPlace Mask = Unit {0}
IsSpelledPlace Pending = Unit {0}
IsSpelledPlace (MemoryByte address) = address < 2 ^ 32
