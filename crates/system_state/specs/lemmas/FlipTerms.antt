-- For proofs and private clauses: the flip of a bit of a partition whose memory is kept apart.
use Rattle.std.specs.Prelude.{ℕ, ◌<◌, ◌≤◌, Option, None, Some}
use Rattle.upset_model.specs.Places.{flipped, flipped_at, flipped_timer}
use Rattle.xm_report.specs.declared.place.Place.{Place}
use Rattle.xm_report.specs.declared.place.Place.TheVariants.{Conditions, ExecutionDeadline, Global, HardwareDeadline, Mask, MemoryByte, Npc, Pc, Pending, TrapBase, Windowed, YRegister}
use Rattle.system_state.specs.State.{OwnState}

-- the state but for the memory after the flip of a bit; a byte of memory is none of it
abbrev pub flipped_own : Place → ℕ → OwnState → OwnState
flipped_own (Global n) bit own = record own { core = record own.core { globals = flipped_at n bit own.core.globals } }
flipped_own (Windowed n) bit own = record own { core = record own.core { windows = flipped_at n bit own.core.windows } }
flipped_own Pc bit own = record own { core = record own.core { pc = flipped bit own.core.pc } }
flipped_own Npc bit own = record own { core = record own.core { npc = flipped bit own.core.npc } }
flipped_own YRegister bit own = record own { core = record own.core { y = flipped bit own.core.y } }
flipped_own Conditions bit own = record own { core = record own.core { icc = flipped bit own.core.icc } }
flipped_own HardwareDeadline bit own = record own { clocks = record own.clocks { hardware_timer = flipped_timer bit own.clocks.hardware_timer } }
flipped_own ExecutionDeadline bit own = record own { clocks = record own.clocks { execution_timer = flipped_timer bit own.clocks.execution_timer } }
flipped_own TrapBase bit own = record own { virt = record own.virt { base = flipped bit own.virt.base } }
flipped_own Mask bit own = record own { virt = record own.virt { mask = flipped bit own.virt.mask } }
flipped_own Pending bit own = record own { virt = record own.virt { pending = flipped bit own.virt.pending } }
flipped_own (MemoryByte address) bit own = own

-- a bit of a place that every partition has, or of a byte of memory
abbrev pub IsOwnBit : Place → ℕ → Type 0
IsOwnBit (Global n) bit = (1 ≤ n) × (n < 8) × (bit < 32)
IsOwnBit (Windowed n) bit = (n < 128) × (bit < 32)
IsOwnBit Pc bit = (2 ≤ bit) × (bit < 32)
IsOwnBit Npc bit = (2 ≤ bit) × (bit < 32)
IsOwnBit YRegister bit = bit < 32
IsOwnBit Conditions bit = bit < 4
IsOwnBit HardwareDeadline bit = bit < 63
IsOwnBit ExecutionDeadline bit = bit < 63
IsOwnBit TrapBase bit = (12 ≤ bit) × (bit < 32)
IsOwnBit Mask bit = bit < 32
IsOwnBit Pending bit = bit < 32
IsOwnBit (MemoryByte address) bit = bit < 8

-- the address of a byte of memory; none of another place
abbrev pub byte_address : Place → Option ℕ
byte_address (Global n) = None
byte_address (Windowed n) = None
byte_address Pc = None
byte_address Npc = None
byte_address YRegister = None
byte_address Conditions = None
byte_address HardwareDeadline = None
byte_address ExecutionDeadline = None
byte_address TrapBase = None
byte_address Mask = None
byte_address Pending = None
byte_address (MemoryByte address) = Some address
