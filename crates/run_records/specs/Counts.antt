-- How often each word was executed: rows by addresses, and their text.
use Rattle.std.specs.Prelude.{◌≡◌, ℕ, ◌+◌, ◌<◌, ◌≤◌, ◌^◌, ◌==◌, nat_lt, Bool, true, false, not, if◌then◌else◌, List, [], ◌∷◌, ◌++◌, length, filter, Option, Some, None, codes, decimal}
use Rattle.std.specs.List.{flat_map}
use Rattle.std.specs.Int.{w32, to_be_bytes}
use Rattle.hex.specs.Hex.{encode_lower}
use Rattle.guest_bus.specs.Memory.{all_from, is_readable}
use Rattle.machine_model.specs.Alone.{Alone}
use Rattle.machine_model.specs.Cue.{Cue}
use Rattle.machine_model.specs.Laws.{alone_part_at}
use Rattle.machine_model.specs.Machine.{Machine}
use Rattle.machine_model.specs.Partition.{PartitionState, areas_of}
use Rattle.machine_model.specs.View.{PartitionView, view_of}
use Rattle.upset_model.specs.Upsets.{Schedule, Strike, own_strikes, upset_script}
use Rattle.run_records.specs.Executed.{delivered, executed, executed_by, is_busy}
use Rattle.run_records.specs.OwnTicks.{OwnTick, alone_ticks, own_ticks}
use Rattle.run_records.specs.Tried.{Completed, Executed, Fate, Trapped}

-- a row: an address, how often the instruction there completed, how often it was a branch that was taken, and how often it trapped
pub record Row : Type 0 where
  pub address : ℕ
  pub completed : ℕ
  pub taken : ℕ
  pub trapped : ℕ

-- what an instruction adds to each count of its row; a branch that is taken has completed, too
abbrev pub adds_completed : Fate → ℕ
adds_completed (Completed taken) = 1
adds_completed (Trapped type) = 0

abbrev pub adds_taken : Fate → ℕ
adds_taken (Completed true) = 1
adds_taken (Completed false) = 0
adds_taken (Trapped type) = 0

abbrev pub adds_trapped : Fate → ℕ
adds_trapped (Completed taken) = 0
adds_trapped (Trapped type) = 1

-- the row with one instruction more
abbrev pub with_one : Fate → Row → Row
with_one fate row = record row {
  completed = adds_completed fate + row.completed;
  taken = adds_taken fate + row.taken;
  trapped = adds_trapped fate + row.trapped;
}

-- the row of a word that was not executed
abbrev pub empty_row : ℕ → Row
empty_row address = record { address = address; completed = 0; taken = 0; trapped = 0 }

-- rows in rising order of address with one instruction more: its row is the one of its address, or a new one in its place
abbrev pub counted : Executed → List Row → List Row
counted one [] = with_one one.fate (empty_row one.address) ∷ []
counted one (row ∷ rows) =
    if one.address == row.address then with_one one.fate row ∷ rows
    else if nat_lt one.address row.address then with_one one.fate (empty_row one.address) ∷ row ∷ rows
    else row ∷ counted one rows

-- the rows of instructions
abbrev pub rows_of : List Executed → List Row
rows_of [] = []
rows_of (one ∷ more) = counted one (rows_of more)

-- the row that an address has by what was executed there, each instruction for itself
abbrev pub row_at : ℕ → List Executed → Row
row_at address [] = empty_row address
row_at address (one ∷ more) = if one.address == address then with_one one.fate (row_at address more) else row_at address more

-- whether one of these instructions stands at an address
abbrev pub is_executed : ℕ → List Executed → Bool
is_executed address [] = false
is_executed address (one ∷ more) = if one.address == address then true else is_executed address more

-- the row of an address, where there is one
abbrev pub row_for : ℕ → List Row → Option Row
row_for address [] = None
row_for address (row ∷ rows) = if row.address == address then Some row else row_for address rows

-- the rows rise from an address on, so that no two are of one address
abbrev pub RiseFrom : ℕ → List Row → Type 0
RiseFrom least [] = Unit {0}
RiseFrom least (row ∷ rows) = (least ≤ row.address) × RiseFrom (row.address + 1) rows

-- the instructions of a row, and those of all rows
abbrev pub in_row : Row → ℕ
in_row row = row.completed + row.trapped

abbrev pub in_rows : List Row → ℕ
in_rows [] = 0
in_rows (row ∷ rows) = in_row row + in_rows rows

-- a word has a row exactly where an instruction stood at it, and the row says what was executed there
abbrev pub CountsWords : Type 0
CountsWords = (some : List Executed) (address : ℕ) → row_for address (rows_of some) ≡ (if is_executed address some then Some (row_at address some) else None)

abbrev pub RowsRise : Type 0
RowsRise = (some : List Executed) → RiseFrom 0 (rows_of some)

-- the rows count each instruction once
abbrev pub CountsEachOnce : Type 0
CountsEachOnce = (some : List Executed) → in_rows (rows_of some) ≡ length some

-- a branch that is taken has completed
abbrev pub TakesNoMore : Type 0
TakesNoMore = (some : List Executed) (address : ℕ) → (row_at address some).taken ≤ (row_at address some).completed

-- the ticks in which a partition does something
abbrev pub busy : List OwnTick → List OwnTick
busy ticks = filter is_busy ticks

-- in each of them it executes one instruction, or one interrupt is delivered to it
abbrev pub CountsBusyTicks : Type 0
CountsBusyTicks = (view : PartitionView) (ticks : List OwnTick) → length (busy ticks) ≡ in_rows (rows_of (executed view ticks)) + length (delivered ticks)

-- whether an instruction stands at a word of the partition's areas
abbrev pub is_inside : PartitionView → Executed → Bool
is_inside view one = all_from (is_readable (areas_of view)) one.address 4

abbrev pub inside : PartitionView → List Executed → List Executed
inside view some = filter (is_inside view) some

abbrev pub outside : PartitionView → List Executed → List Executed
outside view some = filter (λ one. not (is_inside view one)) some

-- what is counted of a partition: the rows of the words of its areas, how often it stood outside them, where each instruction traps, and how many
-- interrupts were delivered
pub record Counts : Type 0 where
  pub rows : List Row
  pub outside : ℕ
  pub interrupts : ℕ

unfoldable pub counts : PartitionView → List OwnTick → Counts
counts view ticks = record {
  rows = rows_of (inside view (executed view ticks));
  outside = length (outside view (executed view ticks));
  interrupts = length (delivered ticks);
}

-- all of it together is how often the partition did something
abbrev pub in_counts : Counts → ℕ
in_counts c = in_rows c.rows + c.outside + c.interrupts

abbrev pub CountsAllTicks : Type 0
CountsAllTicks = (view : PartitionView) (ticks : List OwnTick) → in_counts (counts view ticks) ≡ length (busy ticks)

-- the line of a row: its address in eight hexadecimal digits, and its counts
unfoldable pub row_text : Row → List ℕ
row_text row =
    encode_lower (to_be_bytes w32 row.address) ++ codes " " ++ decimal row.completed ++ codes " " ++ decimal row.taken ++ codes " "
    ++ decimal row.trapped ++ codes "\n"

-- the text of the file: a line for each row, and two lines more
unfoldable pub counts_text : Counts → List ℕ
counts_text c =
    flat_map row_text c.rows ++ codes "outside " ++ decimal c.outside ++ codes "\ninterrupts " ++ decimal c.interrupts ++ codes "\n"

-- the numbers of a row can be those of a run: its address is a word, and its counts are below 2 ^ 64
pub record IsRow (row : Row) : Type 0 where
  pub address : row.address < 2 ^ 32
  pub completed : row.completed < 2 ^ 64
  pub taken : row.taken < 2 ^ 64
  pub trapped : row.trapped < 2 ^ 64

abbrev pub AreRows : List Row → Type 0
AreRows [] = Unit {0}
AreRows (row ∷ rows) = IsRow row × AreRows rows

pub record AreCounts (c : Counts) : Type 0 where
  pub rows : AreRows c.rows
  pub outside : c.outside < 2 ^ 64
  pub interrupts : c.interrupts < 2 ^ 64

-- no two counts have the same text
abbrev pub TextsDetermineCounts : Type 0
TextsDetermineCounts = (one other : Counts) → AreCounts one → AreCounts other → counts_text one ≡ counts_text other → one ≡ other

-- what is counted of partition p in a run with upsets, and of the partition alone
abbrev pub run_counts : Schedule → Machine → ℕ → ℕ → Counts
run_counts s g p count = counts (view_of g.system p) (own_ticks s g p count)

abbrev pub alone_counts : PartitionView → (ℕ → List Strike) → Alone → List Cue → Counts
alone_counts view own a cues = counts view (alone_ticks view own a cues)

-- the counts of a run are those of the partition alone, under its script and with its own upsets
abbrev pub CountsAlone : Type 0
CountsAlone = (count : ℕ) (s : Schedule) (g : Machine) (p : ℕ) (a : Alone) → alone_part_at g p ≡ Some a
    → run_counts s g p count ≡ alone_counts (view_of g.system p) (own_strikes p s) a (upset_script s g p count)

-- an instruction trapped as one that cannot be fetched: a word at a multiple of 4 with a byte outside all areas, or an address that is no such multiple
abbrev pub IsUnfetched : Fate → Type 0
IsUnfetched (Completed taken) = ⊥
IsUnfetched (Trapped type) = type ≡ 1

-- so does each that stands outside the areas of its partition
abbrev pub TrapsOutside : Type 0
TrapsOutside = (view : PartitionView) (ps : PartitionState) → is_inside view (executed_by view ps) ≡ false → IsUnfetched (executed_by view ps).fate
