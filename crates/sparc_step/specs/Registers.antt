-- The registers that a guest's program sees, in windows.
use borrow.Rule.Slice.PartMut.{put_mid}
use Rattle.std.specs.Prelude.{◌≡◌, ◌≢◌, ℕ, ◌+◌, ◌-◌, ◌*◌, ◌%◌, ◌^◌, ◌<◌, nat_lt, ◌==◌, if◌then◌else◌, List, ◌++◌, length, take, drop, replicate, slice_index, slice_set}

-- the two program counters, Y, the condition codes, the current and the invalid window, and the numbered registers
pub record Registers : Type 0 where
  pub pc : ℕ
  pub npc : ℕ
  pub y : ℕ
  pub icc : ℕ
  pub cwp : ℕ
  pub inv : ℕ
  pub globals : List ℕ
  pub windows : List ℕ

-- what holds of the registers at all times
pub record AreRegisters (r : Registers) : Type 0 where
  pub pc_aligned : r.pc % 4 ≡ 0
  pub npc_aligned : r.npc % 4 ≡ 0
  pub four_conditions : r.icc < 16
  pub current_window : r.cwp < 8
  pub invalid_window : r.inv < 8
  pub windows_differ : r.cwp ≢ r.inv
  pub zero : slice_index r.globals 0 ≡ 0
  pub eight_globals : length r.globals ≡ 8
  pub eight_windows : length r.windows ≡ 128

-- where a register of a window stands: the ins of a window are the outs of the next one
abbrev pub place_in_windows : ℕ → ℕ → ℕ
place_in_windows window n = if nat_lt n 24 then 16 * window + n - 8 else 16 * ((window + 1) % 8) + n - 24

-- the value of register n of the current window
unfoldable pub register_at : Registers → ℕ → ℕ
register_at r n =
    if nat_lt n 8 then slice_index r.globals n else slice_index r.windows (place_in_windows r.cwp n)

-- the registers with a value in register n of the current window; register 0 stays zero
unfoldable pub with_register : Registers → ℕ → ℕ → Registers
with_register r n value =
    if n == 0 then r
    else if nat_lt n 8 then record r { globals = slice_set r.globals n value }
    else record r { windows = slice_set r.windows (place_in_windows r.cwp n) value }

-- the registers of a program that begins at its entry
unfoldable pub registers_started : ℕ → Registers
registers_started entry = record {
  pc = entry;
  npc = (entry + 4) % 2 ^ 32;
  y = 0;
  icc = 0;
  cwp = 7;
  inv = 0;
  globals = replicate 8 0;
  windows = replicate 128 0;
}

-- the registers at the next instruction
unfoldable pub advanced : Registers → Registers
advanced r = record r { pc = r.npc; npc = (r.npc + 4) % 2 ^ 32 }

-- the registers at the next instruction, where the one after it stands at a target
unfoldable pub branched : Registers → ℕ → Registers
branched r target = record r { pc = r.npc; npc = target }

-- the registers after the next instruction, which is annulled
unfoldable pub skipped : Registers → Registers
skipped r = record r { pc = (r.npc + 4) % 2 ^ 32; npc = (r.npc + 8) % 2 ^ 32 }

-- the registers at a target, the next instruction being annulled
unfoldable pub sent : Registers → ℕ → Registers
sent r target = record r { pc = target; npc = (target + 4) % 2 ^ 32 }

-- the registers with other program counters
unfoldable pub placed : ℕ → ℕ → Registers → Registers
placed pc npc r = record r { pc = pc; npc = npc }

-- the registers in another window
unfoldable pub in_window : Registers → ℕ → Registers
in_window r window = record r { cwp = window }

-- the registers with another Y
unfoldable pub with_y : Registers → ℕ → Registers
with_y r y = record r { y = y }

-- the registers with other condition codes
unfoldable pub with_icc : Registers → ℕ → Registers
with_icc r icc = record r { icc = icc }

-- the registers with another window invalid
unfoldable pub with_inv : Registers → ℕ → Registers
with_inv r window = record r { inv = window }

-- where the locals of a window stand, and where its ins
abbrev pub locals_place : ℕ → ℕ
locals_place window = 16 * window + 8

abbrev pub ins_place : ℕ → ℕ
ins_place window = 16 * ((window + 1) % 8)

-- the locals of a window, and after them its ins
unfoldable pub locals_and_ins : List ℕ → ℕ → List ℕ
locals_and_ins windows window = take 8 (drop (locals_place window) windows) ++ take 8 (drop (ins_place window) windows)

-- the windows with other locals and ins of one of them
unfoldable pub with_locals_and_ins : List ℕ → ℕ → List ℕ → List ℕ
with_locals_and_ins windows window words =
    put_mid (ins_place window) 8 (put_mid (locals_place window) 8 windows (take 8 words)) (drop 8 words)

-- the registers with other locals and ins of a window
unfoldable pub with_saved : Registers → ℕ → List ℕ → Registers
with_saved r window words = record r { windows = with_locals_and_ins r.windows window words }

-- the registers with the invalid window filled: the one above it is invalid then
unfoldable pub window_filled : Registers → List ℕ → Registers
window_filled r words = with_inv (with_saved r r.inv words) ((r.inv + 1) % 8)
