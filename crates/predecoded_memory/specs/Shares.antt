-- The rows of each partition, and which words they are of.
use Rattle.std.specs.Prelude.{◌≡◌, ℕ, ◌+◌, ◌-◌, ◌*◌, ◌/◌, ◌<◌, ◌≤◌, List, [], ◌∷◌, true, Some, length, max, min, slice_get, slice_index, slice_index_or}
use Rattle.guest_bus.specs.Memory.{Area}
use Rattle.guest_bus.specs.Words.{AreWords, word_address}
use Rattle.guest_bus.specs.declared.words.Words.{Words}
use Rattle.guest_memory.specs.Memories.{AreMemories, Memories, areas_at, map_at}
use Rattle.predecode.specs.Kept.{AreKeptRows, IsBranchOn}
use Rattle.predecode.specs.Kinds.{follows, is_exit, is_unmade}
use Rattle.predecode.specs.declared.rows.Row.{Row}
use Rattle.predecoded_memory.specs.declared.share.PartRows.{PartRows}

-- the lowest address of areas, none of which begins below it
abbrev pub lowest : ℕ → List Area → ℕ
lowest least [] = least
lowest least (area ∷ areas) = lowest (min least area.start) areas

abbrev pub first_address : List Area → ℕ
first_address [] = 0
first_address (area ∷ areas) = lowest area.start areas

-- the highest end of areas, or this address, where none ends after it
abbrev pub highest : ℕ → List Area → ℕ
highest most [] = most
highest most (area ∷ areas) = highest (max most (area.start + area.size)) areas

-- how many words lie from the lowest address of areas to the highest end
unfoldable pub span_of : List Area → ℕ
span_of areas = (highest 0 areas - first_address areas) / 4

-- the most words that lie so of one of these partitions, or this many, where none has more
abbrev pub widest : ℕ → List (List Area) → ℕ
widest most [] = most
widest most (areas ∷ others) = widest (max most (span_of areas)) others

-- how many words of each of this many partitions have rows, where the widest has this many words
unfoldable pub share_for : ℕ → ℕ → ℕ
share_for count wide = min (1048576 / count) wide

-- each place of the words is the number of a row, the first of which is that of the word at an address
abbrev pub AreNumbered : ℕ → Words → Type 0
AreNumbered first words = (number : ℕ) → words.begin ≤ number → number < words.end → word_address words.origin number ≡ first + 4 * (number - words.begin)

-- the rows of a partition: a share, before which this many others stand
pub record ArePartRows (share base : ℕ) (areas : List Area) (part : PartRows) : Type 0 where
  pub first : part.first ≡ first_address areas
  pub are_words : AreWords part.words
  pub begin : part.words.begin ≡ base
  pub under : part.words.end ≤ base + share
  pub address : AreNumbered part.first part.words

-- those of all partitions, one after the other
pub record AreParts (share : ℕ) (areas : List (List Area)) (parts : List PartRows) : Type 0 where
  pub counted : length parts ≡ length areas
  pub each : (p : ℕ) (part : PartRows) → slice_get parts p ≡ Some part → ArePartRows share (p * share) (slice_index_or areas p []) part

-- the rows of a share from its top on are empty
abbrev pub AreUnmade : List Row → ℕ → ℕ → ℕ → Type 0
AreUnmade rows base top share = (k : ℕ) (row : Row) → top ≤ k → k < share → slice_get rows (base + k) ≡ Some row → is_unmade row.kind ≡ true

-- after each row of a pair in a share the branch stands that it says, below the top as the row itself
abbrev pub ArePairs : List Row → ℕ → ℕ → Type 0
ArePairs rows base top =
    (k : ℕ) (row : Row) (condition : ℕ) → k < top → slice_get rows (base + k) ≡ Some row → follows row.kind ≡ Some condition
    → (k + 1 < top) × IsBranchOn (Some condition) (slice_get rows (base + k + 1))

-- in a share, the block that begins at a place ends before another, which is not past these many words: one of its instructions never goes on to the
-- next word, or is left to others, and the word in its delay slot stands before the end
pub record EndsIn (rows : List Row) (base count at end : ℕ) : Type 0 where
  pub place : ℕ
  pub from : at ≤ place
  pub under : place + 1 < end
  pub within : end ≤ count
  pub row : Row
  pub there : slice_get rows (base + place) ≡ Some row
  pub exit : is_exit row.kind ≡ true

-- a length below 128 in a share is that of a block, less 1, which ends among this many first words of it
abbrev pub AreLengths : List ℕ → List Row → ℕ → ℕ → ℕ → Type 0
AreLengths lengths rows base share count = (k : ℕ) → k < share → slice_index lengths (base + k) < 128 → EndsIn rows base count k (k + slice_index lengths (base + k) + 1)

-- how many words of a partition have rows that may have been made: those up to the top that lie below the end of all addresses
abbrev pub made_of : ℕ → PartRows → ℕ
made_of top part = min top (part.words.end - part.words.begin)

-- each row is empty or that of its word, those of each share from the top on and past its words are empty, each of a pair stands before its branch,
-- the lengths are those of blocks, and the share of the selected partition is current
pub record AreKept (memories : Memories) (rows : List Row) (lengths : List ℕ) (parts : List PartRows) (share top : ℕ) (own : PartRows) : Type 0 where
  pub are : AreMemories memories
  pub shared : share ≡ share_for (length memories.areas) (widest 0 memories.areas)
  pub whole : length rows ≡ length memories.areas * share
  pub few : length rows ≤ 1048576
  pub measured : length lengths ≡ length rows
  pub known : AreParts share memories.areas parts
  pub current : ArePartRows share (memories.selected * share) (areas_at memories.selected memories) own
  pub listed : slice_get parts memories.selected ≡ Some own
  pub each : (p : ℕ) → p < length memories.areas → AreKeptRows rows (p * share) share (areas_at p memories) (map_at p memories) (first_address (areas_at p memories))
  pub pairs : (p : ℕ) → p < length memories.areas → ArePairs rows (p * share) top
  pub ends : (p : ℕ) (part : PartRows) → slice_get parts p ≡ Some part → AreLengths lengths rows (p * share) share (made_of top part)
  pub high : top ≤ share
  pub free : (p : ℕ) → p < length memories.areas → AreUnmade rows (p * share) top share
  pub past : (p : ℕ) (part : PartRows) → slice_get parts p ≡ Some part → AreUnmade rows (p * share) (part.words.end - part.words.begin) share
