-- The row on a system that is started: the words of its image are those that it fetches.
use Rattle.std.proofs.Common.{◌≡◌, ℕ, zero, suc, ◌+◌, ◌≤◌, List, [], ◌∷◌, length, take, drop, get_or, replicate, Option, Some, None, Ok, refl, ap, subst, ◌∙◌, arith}
use Rattle.std.specs.Prelude.{codes, false, map, unwrap_or}
use Rattle.std.specs.Int.{from_be_bytes, w32}
use Rattle.std.proofs.lemmas.List.{drop_more}
use Rattle.std.proofs.lemmas.Option.{unwrap_or-slice_get}
use Rattle.std.specs.FinMap.{empty}
use Rattle.guest_bus.specs.Access.{access_fault, fetched, unless_refused}
use Rattle.guest_bus.specs.Memory.{Area, Memory, byte_at, bytes_at, is_readable, with_bytes}
use Rattle.guest_bus.specs.lemmas.MemoryLemmas.{get-with_bytes_within}
use Rattle.xm_base.specs.declared.partition.State.TheVariants.{Halted}
use Rattle.xm_report.specs.Report.{ReportLine, ConsoleLine, EndPart, EndWhole, MovedLine, SystemLine}
use Rattle.xm_report.specs.declared.line.Move.TheVariants as move
use Rattle.machine_model.specs.Lines.{report}
use Rattle.machine_model.specs.Machine.{Machine, start}
use Rattle.guest_memory.specs.Loading.{area_of, with_zeros}
use Rattle.machine_model.specs.Partition.{areas_of, booted}
use Rattle.machine_model.specs.rows.Rows.{Holds, Prints, at, plain_part}
use Rattle.machine_model.specs.rows.StartRows.{BeginsAtEntry, BeginsWithInputs, HaltsAfterHi, ReportsHi, ReportsTwo, StaysHalted, hi, hi_bytes}
use Rattle.machine_model.specs.View.{view_of}
use Rattle.machine_model.proofs.Computing.{computing}
use Rattle.machine_model.proofs.WordLemmas.{FetchAll, prints_words, run_by, step_by}

-- a range of bytes that were put into a memory is a part of their list
bytes_within : (m : Memory) (a : ℕ) (bs : List ℕ) (i q n : ℕ) → q ≡ a + i → i + n ≤ length bs → bytes_at (with_bytes m a bs) q n ≡ take n (drop i bs)
bytes_within m a bs i q zero e h = refl
bytes_within m a bs i q (suc n) e h =
    let first : byte_at (with_bytes m a bs) q ≡ get_or bs i 0 = ap (λ found. unwrap_or found 0) (get-with_bytes_within m a bs i q e (omega arith)) ∙ unwrap_or-slice_get bs i 0 in
    let others = bytes_within m a bs (i + 1) (suc q) n (omega arith) (omega arith) in
    rw (drop_more bs i 0 (omega arith), first, others)

-- a word among them is fetched where each of its bytes may be read
fetched_within : (areas : List Area) (m : Memory) (a : ℕ) (bs : List ℕ) (i q word : ℕ) → q ≡ a + i → i + 4 ≤ length bs
    → access_fault (is_readable areas) q 4 ≡ None → from_be_bytes w32 (take 4 (drop i bs)) ≡ word → fetched areas (with_bytes m a bs) q ≡ Ok word
unfolding fetched
fetched_within areas m a bs i q word e h allowed spells =
    ap (λ fault. unless_refused fault (from_be_bytes w32 (bytes_at (with_bytes m a bs) q 4))) allowed
    ∙ ap (λ bytes. unless_refused None (from_be_bytes w32 bytes)) (bytes_within m a bs i q 4 e h)
    ∙ ap Ok spells

-- the machine that runs the program, over a memory
abbrev saying : Memory → Machine
saying memory = record (start hi) { parts = at 0x40000000 memory ∷ [] }

-- what it prints in this many ticks, where these bytes stand after the program's words
abbrev said_lines : ℕ → List ℕ → List ReportLine
said_lines ticks bytes = ConsoleLine 4 0 bytes ∷ MovedLine 7 0 move.Halt ∷ EndPart 0 Halted 0 8 0x40000020 ∷ EndWhole false 0 ticks ticks ∷ []

-- a memory holds the word of the partition's program
abbrev Has : Memory → ℕ → ℕ → Type 0
Has memory address word = Holds (plain_part 0x40000000 34) memory address word

-- it holds all words of the program
record HasAll (memory : Memory) : Type 0 where
  first : Has memory 0x40000000 0x13100000
  second : Has memory 0x40000004 0x92126020
  third : Has memory 0x40000008 0x94102002
  fourth : Has memory 0x4000000c 0x90102020
  fifth : Has memory 0x40000010 0x91d02070
  sixth : Has memory 0x40000014 0x90102002
  seventh : Has memory 0x40000018 0x92102000
  eighth : Has memory 0x4000001c 0x91d02070

-- the words that are fetched, and then this many ticks in which none is
abbrev hi_words : ℕ → List (Option ℕ)
hi_words more =
    Some 0x13100000 ∷ Some 0x92126020 ∷ Some 0x94102002 ∷ Some 0x90102020 ∷ Some 0x91d02070 ∷ Some 0x90102002 ∷ Some 0x92102000 ∷ Some 0x91d02070
    ∷ replicate more None

-- in ticks without a word there is nothing to be fetched
none_fetched : (more : ℕ) (g : Machine) → FetchAll (replicate more None) g
none_fetched zero g = tt
none_fetched (suc more) g = (tt, none_fetched more (step_by None g))

says : (memory : Memory) → HasAll memory → Prints (saying memory) 8 (said_lines 8 (bytes_at memory 0x40000020 2))
unfolding computing start booted
says memory all =
    prints_words (hi_words 0) _ _ (all.first, (all.second, (all.third, (all.fourth, (all.fifth, (all.sixth, (all.seventh, (all.eighth, tt)))))))) refl

says_on : (memory : Memory) → HasAll memory → Prints (saying memory) 100 (said_lines 100 (bytes_at memory 0x40000020 2))
unfolding computing start booted
says_on memory all =
    prints_words (hi_words 92) _ _ (all.first, (all.second, (all.third, (all.fourth, (all.fifth, (all.sixth, (all.seventh, (all.eighth, none_fetched 92 (run_by (hi_words 0) (saying memory)))))))))) refl

pub begins_at_entry : BeginsAtEntry
unfolding computing start booted
begins_at_entry = prints_words [] _ _ tt refl

pub begins_with_inputs : BeginsWithInputs
unfolding computing start booted
begins_with_inputs = refl

pub reports_two : ReportsTwo
unfolding computing report start booted
reports_two = refl

-- the memory of the program before its image is loaded, and after
abbrev bare : Memory
bare = with_zeros empty (areas_of (view_of hi 0))

abbrev full : Memory
full = with_bytes bare 0x40000000 hi_bytes

-- the memory of the program as it boots has its words
has : (i q word : ℕ) → q ≡ 0x40000000 + i → i + 4 ≤ length hi_bytes → access_fault (is_readable (map area_of (plain_part 0x40000000 34).areas)) q 4 ≡ None
    → from_be_bytes w32 (take 4 (drop i hi_bytes)) ≡ word → Has full q word
has i q word e h allowed spells = fetched_within (map area_of (plain_part 0x40000000 34).areas) bare 0x40000000 hi_bytes i q word e h allowed spells

has_all : HasAll full
has_all = record {
  first = has 0 0x40000000 0x13100000 refl (omega arith) refl refl;
  second = has 4 0x40000004 0x92126020 refl (omega arith) refl refl;
  third = has 8 0x40000008 0x94102002 refl (omega arith) refl refl;
  fourth = has 12 0x4000000c 0x90102020 refl (omega arith) refl refl;
  fifth = has 16 0x40000010 0x91d02070 refl (omega arith) refl refl;
  sixth = has 20 0x40000014 0x90102002 refl (omega arith) refl refl;
  seventh = has 24 0x40000018 0x92102000 refl (omega arith) refl refl;
  eighth = has 28 0x4000001c 0x91d02070 refl (omega arith) refl refl;
}

-- the two bytes after its words are the text
text_there : bytes_at full 0x40000020 2 ≡ codes "hi"
text_there = bytes_within bare 0x40000000 hi_bytes 32 0x40000020 2 refl (omega arith)

says_hi : Prints (saying full) 8 (said_lines 8 (codes "hi"))
says_hi = subst (λ bytes. Prints (saying full) 8 (said_lines 8 bytes)) text_there (says full has_all)

stays_silent : Prints (saying full) 100 (said_lines 100 (codes "hi"))
stays_silent = subst (λ bytes. Prints (saying full) 100 (said_lines 100 bytes)) text_there (says_on full has_all)

pub halts_after_hi : HaltsAfterHi
unfolding computing start booted
halts_after_hi = says_hi

pub stays_halted : StaysHalted
unfolding computing start booted
stays_halted = stays_silent

pub reports_hi : ReportsHi
unfolding report
reports_hi = ap (λ rest. SystemLine 1 1 100 ∷ rest) stays_halted.report
