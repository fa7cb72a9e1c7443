-- A ring: how many entries were noted, and the last of them.
use Rattle.std.specs.Prelude.{◌≡◌, ℕ, ◌+◌, ◌-◌, ◌^◌, ◌<◌, List, [], ◌∷◌, ◌++◌, length, slice_get, min, Option, None, if◌then◌else◌, nat_lt, refl}
use Rattle.std.specs.Coded.{Coded, code_by, coded×, coded_list, coded_ℕ}
use Rattle.circular_buffer.specs.Buffer.{keep_last}

-- how many entries were noted, which is the number of the next, and those that are kept, the oldest first
pub record Kept (T : Type 0) : Type 0 where
  pub next : ℕ
  pub entries : List T

-- how many entries are kept at most
abbrev pub RING_ENTRIES : ℕ
RING_ENTRIES = 64

module _ {T : Type 0} where
  -- this many were noted, and these are kept
  abbrev pub kept_of : ℕ → List T → Kept T
  kept_of next entries = record { next = next; entries = entries }

  -- its code, as the pair of its parts
  abbrev pub kept_code : Coded T → Coded (Kept T)
  kept_code code =
      code_by (ℕ × List T) (coded× coded_ℕ (coded_list code)) (λ kept. (kept.next, kept.entries)) (λ pair. kept_of pair.0 pair.1) (λ _. refl)

  -- nothing was noted yet
  unfoldable pub nothing_kept : Kept T
  nothing_kept = kept_of 0 []

  -- after one more entry, which is the last of those that are kept
  unfoldable pub noted : T → Kept T → Kept T
  noted entry kept = kept_of (kept.next + 1) (keep_last RING_ENTRIES (kept.entries ++ entry ∷ []))

  -- the number of the oldest entry that is kept, or that of the next where none is
  abbrev pub first_kept : Kept T → ℕ
  first_kept kept = kept.next - length kept.entries

  -- the entry of a number, where it is kept
  unfoldable pub entry_at : ℕ → Kept T → Option T
  entry_at seq kept =
      if nat_lt seq (first_kept kept) then None
      else if nat_lt seq kept.next then slice_get kept.entries (seq - first_kept kept)
      else None

  -- all that was noted is kept, but the last 64 at most, and its count has 32 bits
  pub record IsKept (kept : Kept T) : Type 0 where
    pub count : length kept.entries ≡ min kept.next RING_ENTRIES
    pub within : kept.next < 2 ^ 32

  -- after entries that are noted one after another
  abbrev pub all_noted : List T → Kept T → Kept T
  all_noted [] kept = kept
  all_noted (entry ∷ rest) kept = all_noted rest (noted entry kept)

-- entries that are noted one after another from nothing are counted, and the last 64 are kept
abbrev pub KeepsLast : Type 0 → Type 0
KeepsLast T = (entries : List T) → all_noted entries nothing_kept ≡ kept_of (length entries) (keep_last RING_ENTRIES entries)

-- entry number n is the n-th of those that were noted, counted from 0, unless 64 have come after it
abbrev pub FindsByNumber : Type 0 → Type 0
FindsByNumber T =
    (entries : List T) (n : ℕ) → entry_at n (all_noted entries nothing_kept)
    ≡ (if nat_lt n (length entries - RING_ENTRIES) then None else slice_get entries n)
