-- Registers of which the current window is kept apart, each register of it by its number.
use Rattle.std.specs.Prelude.{◌≡◌, ◌≢◌, ◌<◌, length, ℕ, zero, suc, ◌+◌, ◌-◌, ◌*◌, ◌%◌, Bool, ◌&&◌, nat_le, nat_lt, ◌==◌, if◌then◌else◌, List, [], ◌∷◌, take, slice_index}
use Rattle.sparc_step.specs.Registers.{Registers, ins_place}

-- a function of the numbers below a bound, as a list
abbrev pub listed_below : (ℕ → ℕ) → ℕ → List ℕ
listed_below f zero = []
listed_below f (suc n) = f 0 ∷ listed_below (λ k. f (suc k)) n

-- place k of the windows is one of this many from a place on
abbrev pub lies_in : ℕ → ℕ → ℕ → Bool
lies_in from count k = nat_le from k && nat_lt k (from + count)

-- where the outs and locals of the window stand
abbrev pub own_place : ℕ → ℕ
own_place window = 16 * window

-- the word at a place of the windows: that cached, where it is the current window's
abbrev pub word_at : ℕ → List ℕ → List ℕ → ℕ → ℕ
word_at cwp cached windows k =
    if lies_in (own_place cwp) 16 k then slice_index cached (k - own_place cwp + 8)
    else if lies_in (ins_place cwp) 8 k then slice_index cached (k - ins_place cwp + 24)
    else slice_index windows k

-- the windows with what is cached
unfoldable pub windows_with : ℕ → List ℕ → List ℕ → List ℕ
windows_with cwp cached windows = listed_below (word_at cwp cached windows) 128

-- the registers with what is cached
unfoldable pub gathered : ℕ → ℕ → ℕ → ℕ → ℕ → ℕ → List ℕ → List ℕ → Registers
gathered pc npc y icc cwp inv cached windows = record {
  pc = pc;
  npc = npc;
  y = y;
  icc = icc;
  cwp = cwp;
  inv = inv;
  globals = take 8 cached;
  windows = windows_with cwp cached windows;
}

-- the register that a number stands for as a result: 32 stands for register 0, which drops it
unfoldable pub register_of : ℕ → ℕ
register_of r = if r == 32 then 0 else r

-- what holds of what is cached, at all times
pub record IsCached (pc npc y icc cwp inv : ℕ) (cached windows : List ℕ) : Type 0 where
  pub pc_aligned : pc % 4 ≡ 0
  pub npc_aligned : npc % 4 ≡ 0
  pub four_conditions : icc < 16
  pub current_window : cwp < 8
  pub invalid_window : inv < 8
  pub windows_differ : cwp ≢ inv
  pub zero : slice_index cached 0 ≡ 0
  pub cached_count : length cached ≡ 33
  pub eight_windows : length windows ≡ 128
