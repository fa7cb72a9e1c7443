-- Flips of bits at places.
use Rattle.std.proofs.Common.{◌≡◌, ℕ, zero, suc, ◌<◌, ◌≤◌, ◌+◌, ◌%◌, ◌^◌, Bool, true, false, List, [], ◌∷◌, length, map, Option, None, Some, refl, sym, ap, ◌∙◌, arith, subst}
use Rattle.std.specs.Prelude.{◌==◌, if◌then◌else◌, bit_xor, slice_index, slice_set, unwrap_or}
use Rattle.std.specs.List.{AllByRecursion}
use Rattle.std.specs.Option.{ForSome}
use Rattle.std.proofs.Math.Pow.{pow-lt}
use Rattle.std.proofs.lemmas.Bool.Decides.{nat_tests}
use Rattle.std.proofs.lemmas.Nat.{xor_lt}
use Rattle.std.proofs.lemmas.Option.{same_Some}
use Rattle.std.proofs.lemmas.List.{get_or-set_other, get_or-set_same}
use Rattle.guest_bus.specs.Memory.{byte_at}
use Rattle.guest_bus.specs.lemmas.MemoryLemmas.{get-insert_other, get-insert_same}
use Rattle.sparc_step.specs.Registers.{AreRegisters, Registers}
use Rattle.virt_clocks.specs.Clocks.{IsTimer, armed}
use Rattle.virt_clocks.specs.declared.timer.Timer.{Timer}
use Rattle.xm_base.specs.Bytes.{AreBytes}
use Rattle.xm_traces.specs.Ring.{Kept}
use Rattle.xm_traces.specs.declared.entry.TraceEntry.{TraceEntry}
use Rattle.machine_model.specs.Partition.{PartitionState}
use Rattle.machine_model.specs.View.{PartitionView}
use Rattle.range_model.specs.Numbers.{AreBelow, IsByteMemory}
use Rattle.range_model.specs.Ranges.{IsPartitionInRange}
use Rattle.range_model.specs.Registers.{AreWordRegisters}
use Rattle.upset_laws.specs.FlipLaws.{AreSameBut, FlipsItsPlace, FlipsKeepFacts, FlipsKeepRanges, FlipsKeepRegisters, FlipsKeepTimers, FlipsKeepTraps, FlipsNothingElse, FlipsStayIn, HasItsInterval, StrikesByOwnLines, TwoStruckRuns, place_bits, place_value}
use Rattle.upset_model.specs.Places.{deadline_of, flip, flipped, flipped_at, flipped_timer, due, interval_of, is_place, lines_for, schedule_of, upset_of}
use Rattle.xm_report.specs.declared.place.Place.{Place}
use Rattle.xm_report.specs.declared.place.Place.TheVariants.{Conditions, ExecutionDeadline, Global, HardwareDeadline, Mask, MemoryByte, Npc, Pc, Pending, TrapBase, Windowed, YRegister}
use Rattle.upset_laws.specs.UpsetLaws.{TwoUpsetRuns}
use Rattle.upset_model.specs.Upsets.{own_strikes, strikes_on}
use Rattle.upset_model.specs.lemmas.BitLemmas.{aligned, conditions, counted, on_page, zero_stays}
use Rattle.upset_model.specs.lemmas.FactLemmas.{facts_stay}

pub strikes_by_own_lines : StrikesByOwnLines
strikes_by_own_lines p [] k = refl
strikes_by_own_lines p (line ∷ lines) k = at (line.part == p) refl (line.tick == k) refl (strikes_by_own_lines p lines k)
  where
    at : (b : Bool) → (line.part == p) ≡ b → (c : Bool) → (line.tick == k) ≡ c → own_strikes p (schedule_of lines) k ≡ own_strikes p (schedule_of (lines_for p lines)) k
        → strikes_on p (map upset_of (if c then line ∷ due lines k else due lines k))
        ≡ strikes_on p (schedule_of (if b then line ∷ lines_for p lines else lines_for p lines) k)
    at true its true now rest = rw (now, its) (ap (λ strikes. flip line.place line.bit ∷ strikes) rest)
    at true its false other rest = rw other rest
    at false not_its true now rest = rw not_its rest
    at false not_its false other rest = rest

pub two_struck_runs : TwoUpsetRuns → TwoStruckRuns
two_struck_runs law lines one others other p count fewer below alike = law (schedule_of lines) one (schedule_of others) other p count fewer below (record {
  state = alike.state;
  there = alike.there;
  part = alike.part;
  view = alike.view;
  strikes = λ k less. strikes_by_own_lines p lines k ∙ ap (λ own. own_strikes p (schedule_of own) k) alike.own_lines ∙ sym (strikes_by_own_lines p others k);
  script = alike.script;
})

pub flips_keep_facts : FlipsKeepFacts
flips_keep_facts = facts_stay

-- what holds of the registers holds with other counters, another Y and other conditions
others_keep : (r : Registers) (pc npc y icc : ℕ) → pc % 4 ≡ 0 → npc % 4 ≡ 0 → icc < 16 → AreRegisters r → AreRegisters (record r { pc = pc; npc = npc; y = y; icc = icc })
others_keep r pc npc y icc first second four f = record {
  pc_aligned = first;
  npc_aligned = second;
  four_conditions = four;
  current_window = f.current_window;
  invalid_window = f.invalid_window;
  windows_differ = f.windows_differ;
  zero = f.zero;
  eight_globals = f.eight_globals;
  eight_windows = f.eight_windows;
}

-- and with other numbers in as many registers, of which register 0 stays zero
numbered_keep : (r : Registers) (globals windows : List ℕ) → slice_index globals 0 ≡ 0 → length globals ≡ 8 → length windows ≡ 128 → AreRegisters r
    → AreRegisters (record r { globals = globals; windows = windows })
numbered_keep r globals windows none eight all f = record {
  pc_aligned = f.pc_aligned;
  npc_aligned = f.npc_aligned;
  four_conditions = f.four_conditions;
  current_window = f.current_window;
  invalid_window = f.invalid_window;
  windows_differ = f.windows_differ;
  zero = none;
  eight_globals = eight;
  eight_windows = all;
}

pub flips_keep_registers : FlipsKeepRegisters
flips_keep_registers view (Global n) bit ps here f =
    numbered_keep ps.core (flipped_at n bit ps.core.globals) ps.core.windows (zero_stays n bit ps.core.globals (grind (arith, here)) f.zero)
    (counted n bit ps.core.globals ∙ f.eight_globals) f.eight_windows f
flips_keep_registers view (Windowed n) bit ps here f =
    numbered_keep ps.core ps.core.globals (flipped_at n bit ps.core.windows) f.zero f.eight_globals (counted n bit ps.core.windows ∙ f.eight_windows) f
flips_keep_registers view Pc bit ps here f =
    others_keep ps.core (flipped bit ps.core.pc) ps.core.npc ps.core.y ps.core.icc (aligned bit ps.core.pc (grind (arith, here)) f.pc_aligned) f.npc_aligned f.four_conditions f
flips_keep_registers view Npc bit ps here f =
    others_keep ps.core ps.core.pc (flipped bit ps.core.npc) ps.core.y ps.core.icc f.pc_aligned (aligned bit ps.core.npc (grind (arith, here)) f.npc_aligned) f.four_conditions f
flips_keep_registers view YRegister bit ps here f =
    others_keep ps.core ps.core.pc ps.core.npc (flipped bit ps.core.y) ps.core.icc f.pc_aligned f.npc_aligned f.four_conditions f
flips_keep_registers view Conditions bit ps here f =
    others_keep ps.core ps.core.pc ps.core.npc ps.core.y (flipped bit ps.core.icc) f.pc_aligned f.npc_aligned (conditions bit ps.core.icc (grind (arith, here)) f.four_conditions) f
flips_keep_registers view HardwareDeadline bit ps here f = f
flips_keep_registers view ExecutionDeadline bit ps here f = f
flips_keep_registers view TrapBase bit ps here f = f
flips_keep_registers view Mask bit ps here f = f
flips_keep_registers view Pending bit ps here f = f
flips_keep_registers view (MemoryByte address) bit ps here f = f

-- the deadline of a timer after a flip
armed_at : (deadline interval : ℕ) → deadline_of (armed deadline interval) ≡ deadline
armed_at deadline interval = by (deadline == 0) refl
  where
    by : (b : Bool) → (deadline == 0) ≡ b → deadline_of (if b then None else Some (record { deadline = deadline; interval = interval })) ≡ deadline
    by true none = let is : deadline ≡ 0 = grind (arith, none, nat_tests) in sym is
    by false some = refl

-- and its interval, where it is armed
armed_for : (deadline interval : ℕ) → (deadline_of (armed deadline interval) == 0) ≡ false → interval_of (armed deadline interval) ≡ interval
armed_for deadline interval some = by (deadline == 0) refl some
  where
    by : (b : Bool) → (deadline == 0) ≡ b → (deadline_of (if b then None else Some (record { deadline = deadline; interval = interval })) == 0) ≡ false
        → interval_of (if b then None else Some (record { deadline = deadline; interval = interval })) ≡ interval
    by true none said = absurd cc
    by false is said = refl

has_interval : (bit : ℕ) (timer : Option Timer) → HasItsInterval timer (flipped_timer bit timer)
has_interval bit timer some = armed_for (flipped bit (deadline_of timer)) (interval_of timer) some

flips_here : (n bit : ℕ) (words : List ℕ) → n < length words → slice_index (flipped_at n bit words) n ≡ bit_xor (slice_index words n) (2 ^ bit)
flips_here n bit words below = get_or-set_same words n (flipped bit (slice_index words n)) 0 below

pub flips_its_place : FlipsItsPlace
flips_its_place view (Global n) bit ps here f = flips_here n bit ps.core.globals (let below : n < 8 = grind (arith, here) in let eight = f.eight_globals in omega (arith, below, eight))
flips_its_place view (Windowed n) bit ps here f = flips_here n bit ps.core.windows (let below : n < 128 = grind (arith, here) in let all = f.eight_windows in omega (arith, below, all))
flips_its_place view HardwareDeadline bit ps here f = armed_at (flipped bit (deadline_of ps.clocks.hardware_timer)) (interval_of ps.clocks.hardware_timer)
flips_its_place view ExecutionDeadline bit ps here f = armed_at (flipped bit (deadline_of ps.clocks.execution_timer)) (interval_of ps.clocks.execution_timer)
flips_its_place view (MemoryByte address) bit ps here f = ap (λ o. unwrap_or o 0) (get-insert_same ps.memory address (flipped bit (byte_at ps.memory address)) address refl)
flips_its_place view Pc bit ps here f = refl
flips_its_place view Npc bit ps here f = refl
flips_its_place view YRegister bit ps here f = refl
flips_its_place view Conditions bit ps here f = refl
flips_its_place view TrapBase bit ps here f = refl
flips_its_place view Mask bit ps here f = refl
flips_its_place view Pending bit ps here f = refl

-- nothing else is another
same_but : (n bit : ℕ) (words : List ℕ) → AreSameBut n words (flipped_at n bit words)
same_but n bit words = record {
  counted = counted n bit words;
  others = λ k other. get_or-set_other words n k (flipped bit (slice_index words n)) 0 (λ same. let fails : (k == n) ≡ true = grind (arith, same, nat_tests) in absurd cc);
}

pub flips_nothing_else : FlipsNothingElse
flips_nothing_else (Global n) bit ps = (refl, same_but n bit ps.core.globals)
flips_nothing_else (Windowed n) bit ps = (refl, same_but n bit ps.core.windows)
flips_nothing_else HardwareDeadline bit ps = (refl, has_interval bit ps.clocks.hardware_timer)
flips_nothing_else ExecutionDeadline bit ps = (refl, has_interval bit ps.clocks.execution_timer)
flips_nothing_else (MemoryByte address) bit ps = (
  refl,
  λ other differ. ap (λ o. unwrap_or o 0) (get-insert_other ps.memory address (flipped bit (byte_at ps.memory address)) other
      (λ same. let fails : (other == address) ≡ true = grind (arith, same, nat_tests) in absurd cc)),
)
flips_nothing_else Pc bit ps = refl
flips_nothing_else Npc bit ps = refl
flips_nothing_else YRegister bit ps = refl
flips_nothing_else Conditions bit ps = refl
flips_nothing_else TrapBase bit ps = refl
flips_nothing_else Mask bit ps = refl
flips_nothing_else Pending bit ps = refl

-- the bit is one of the place's
in_width : (view : PartitionView) (place : Place) (bit : ℕ) → is_place view place bit ≡ true → bit < place_bits place
in_width view (Global n) bit here = grind (arith, here)
in_width view (Windowed n) bit here = grind (arith, here)
in_width view Pc bit here = grind (arith, here)
in_width view Npc bit here = grind (arith, here)
in_width view YRegister bit here = grind (arith, here)
in_width view Conditions bit here = grind (arith, here)
in_width view HardwareDeadline bit here = grind (arith, here)
in_width view ExecutionDeadline bit here = grind (arith, here)
in_width view TrapBase bit here = grind (arith, here)
in_width view Mask bit here = grind (arith, here)
in_width view Pending bit here = grind (arith, here)
in_width view (MemoryByte address) bit here = grind (arith, here)

pub flips_stay_in : FlipsStayIn
flips_stay_in view place bit ps here f below =
    subst (λ n. n < 2 ^ place_bits place) (sym (flips_its_place view place bit ps here f))
    (xor_lt (place_bits place) (place_value place ps) (2 ^ bit) below (pow-lt (in_width view place bit here)))

pub flips_keep_traps : FlipsKeepTraps
flips_keep_traps view (Global n) bit ps here f = f
flips_keep_traps view (Windowed n) bit ps here f = f
flips_keep_traps view Pc bit ps here f = f
flips_keep_traps view Npc bit ps here f = f
flips_keep_traps view YRegister bit ps here f = f
flips_keep_traps view Conditions bit ps here f = f
flips_keep_traps view HardwareDeadline bit ps here f = f
flips_keep_traps view ExecutionDeadline bit ps here f = f
flips_keep_traps view TrapBase bit ps here f = record { aligned = on_page bit ps.traps.base (grind (arith, here)) f.aligned }
flips_keep_traps view Mask bit ps here f = record { aligned = f.aligned }
flips_keep_traps view Pending bit ps here f = record { aligned = f.aligned }
flips_keep_traps view (MemoryByte address) bit ps here f = f

-- a timer that is armed after a flip can be set
interval_stays : (timer : Option Timer) → ForSome timer IsTimer → interval_of timer < 2 ^ 63
interval_stays None f = omega arith
interval_stays (Some timer) f = (f timer refl).interval

deadline_stays : (timer : Option Timer) → ForSome timer IsTimer → deadline_of timer < 2 ^ 63
deadline_stays None f = omega arith
deadline_stays (Some timer) f = (f timer refl).deadline

armed_so : (deadline interval : ℕ) → deadline < 2 ^ 63 → interval < 2 ^ 63 → ForSome (armed deadline interval) IsTimer
armed_so deadline interval below also = by (deadline == 0) refl
  where
    by : (b : Bool) → (deadline == 0) ≡ b → ForSome (if b then None else Some (record { deadline = deadline; interval = interval })) IsTimer
    by true none = λ x is. absurd cc
    by false some = λ x is.
        subst IsTimer (same_Some (record { deadline = deadline; interval = interval }) x is) (record { some = grind (arith, some, nat_tests); deadline = below; interval = also })

flipped_so : (bit : ℕ) (timer : Option Timer) → bit < 63 → ForSome timer IsTimer → ForSome (flipped_timer bit timer) IsTimer
flipped_so bit timer low f =
    armed_so (flipped bit (deadline_of timer)) (interval_of timer) (xor_lt 63 (deadline_of timer) (2 ^ bit) (deadline_stays timer f) (pow-lt low)) (interval_stays timer f)

pub flips_keep_timers : FlipsKeepTimers
flips_keep_timers view (Global n) bit ps here f = f
flips_keep_timers view (Windowed n) bit ps here f = f
flips_keep_timers view Pc bit ps here f = f
flips_keep_timers view Npc bit ps here f = f
flips_keep_timers view YRegister bit ps here f = f
flips_keep_timers view Conditions bit ps here f = f
flips_keep_timers view HardwareDeadline bit ps here f = record { hardware = flipped_so bit ps.clocks.hardware_timer (grind (arith, here)) f.hardware; execution = f.execution }
flips_keep_timers view ExecutionDeadline bit ps here f = record { hardware = f.hardware; execution = flipped_so bit ps.clocks.execution_timer (grind (arith, here)) f.execution }
flips_keep_timers view TrapBase bit ps here f = f
flips_keep_timers view Mask bit ps here f = f
flips_keep_timers view Pending bit ps here f = f
flips_keep_timers view (MemoryByte address) bit ps here f = f

-- words stay words, and bytes stay bytes
set_below : (bound : ℕ) (words : List ℕ) (n word : ℕ) → word < bound → AreBelow bound words → AreBelow bound (slice_set words n word)
set_below bound [] n word small all k = all k
set_below bound (first ∷ words) zero word small all zero = small
set_below bound (first ∷ words) zero word small all (suc k) = all (suc k)
set_below bound (first ∷ words) (suc n) word small all zero = all zero
set_below bound (first ∷ words) (suc n) word small all (suc k) = set_below bound words n word small (λ i. all (suc i)) k

words_stay : (n bit : ℕ) (words : List ℕ) → bit < 32 → AreBelow (2 ^ 32) words → AreBelow (2 ^ 32) (flipped_at n bit words)
words_stay n bit words low all = set_below (2 ^ 32) words n (flipped bit (slice_index words n)) (xor_lt 32 (slice_index words n) (2 ^ bit) (all n) (pow-lt low)) all

bytes_stay : (address bit : ℕ) (ps : PartitionState) → bit < 8 → IsByteMemory ps.memory → IsByteMemory (flip (MemoryByte address) bit ps).memory
bytes_stay address bit ps low all other = by (other == address) refl
  where
    by : (b : Bool) → (other == address) ≡ b → byte_at (flip (MemoryByte address) bit ps).memory other < 256
    by true is =
        let same : other ≡ address = grind (arith, is, nat_tests) in
        subst (λ m. byte_at (flip (MemoryByte address) bit ps).memory m < 256) (sym same)
        (subst (λ value. value < 256) (sym (ap (λ o. unwrap_or o 0) (get-insert_same ps.memory address (flipped bit (byte_at ps.memory address)) address refl)))
        (xor_lt 8 (byte_at ps.memory address) (2 ^ bit) (all address) (pow-lt low)))
    by false differs = subst (λ value. value < 256) (sym ((flips_nothing_else (MemoryByte address) bit ps).1 other differs)) (all other)

-- a table that begins at a multiple of its size below the end of the addresses ends among them
table_ends : (base : ℕ) → base % 4096 ≡ 0 → base < 2 ^ 32 → base + 4096 ≤ 2 ^ 32
table_ends base whole below = omega (arith, whole, below)

core_stays : (view : PartitionView) (place : Place) (bit : ℕ) (ps : PartitionState) → is_place view place bit ≡ true → AreWordRegisters ps.core → AreWordRegisters (flip place bit ps).core
core_stays view (Global n) bit ps here f = record { pc = f.pc; npc = f.npc; y = f.y; icc = f.icc; cwp = f.cwp; globals = words_stay n bit ps.core.globals (in_width view (Global n) bit here) f.globals; windows = f.windows }
core_stays view (Windowed n) bit ps here f = record { pc = f.pc; npc = f.npc; y = f.y; icc = f.icc; cwp = f.cwp; globals = f.globals; windows = words_stay n bit ps.core.windows (in_width view (Windowed n) bit here) f.windows }
core_stays view Pc bit ps here f = record { pc = xor_lt 32 ps.core.pc (2 ^ bit) f.pc (pow-lt (in_width view Pc bit here)); npc = f.npc; y = f.y; icc = f.icc; cwp = f.cwp; globals = f.globals; windows = f.windows }
core_stays view Npc bit ps here f = record { pc = f.pc; npc = xor_lt 32 ps.core.npc (2 ^ bit) f.npc (pow-lt (in_width view Npc bit here)); y = f.y; icc = f.icc; cwp = f.cwp; globals = f.globals; windows = f.windows }
core_stays view YRegister bit ps here f = record { pc = f.pc; npc = f.npc; y = xor_lt 32 ps.core.y (2 ^ bit) f.y (pow-lt (in_width view YRegister bit here)); icc = f.icc; cwp = f.cwp; globals = f.globals; windows = f.windows }
core_stays view Conditions bit ps here f = record { pc = f.pc; npc = f.npc; y = f.y; icc = conditions bit ps.core.icc (grind (arith, here)) f.icc; cwp = f.cwp; globals = f.globals; windows = f.windows }
core_stays view HardwareDeadline bit ps here f = f
core_stays view ExecutionDeadline bit ps here f = f
core_stays view TrapBase bit ps here f = f
core_stays view Mask bit ps here f = f
core_stays view Pending bit ps here f = f
core_stays view (MemoryByte address) bit ps here f = f

memory_stays : (view : PartitionView) (place : Place) (bit : ℕ) (ps : PartitionState) → is_place view place bit ≡ true → IsByteMemory ps.memory → IsByteMemory (flip place bit ps).memory
memory_stays view (Global n) bit ps here f = f
memory_stays view (Windowed n) bit ps here f = f
memory_stays view Pc bit ps here f = f
memory_stays view Npc bit ps here f = f
memory_stays view YRegister bit ps here f = f
memory_stays view Conditions bit ps here f = f
memory_stays view HardwareDeadline bit ps here f = f
memory_stays view ExecutionDeadline bit ps here f = f
memory_stays view TrapBase bit ps here f = f
memory_stays view Mask bit ps here f = f
memory_stays view Pending bit ps here f = f
memory_stays view (MemoryByte address) bit ps here f = bytes_stay address bit ps (in_width view (MemoryByte address) bit here) f

-- the table of traps begins at a multiple of its size
pub flip_on_page : (view : PartitionView) (place : Place) (bit : ℕ) (ps : PartitionState) → is_place view place bit ≡ true → ps.traps.base % 4096 ≡ 0 → (flip place bit ps).traps.base % 4096 ≡ 0
flip_on_page view place bit ps here t = (flips_keep_traps view place bit ps here (record { aligned = t })).aligned

table_stays : (view : PartitionView) (place : Place) (bit : ℕ) (ps : PartitionState) → is_place view place bit ≡ true → ps.traps.base % 4096 ≡ 0 → ps.traps.base + 4096 ≤ 2 ^ 32 → (flip place bit ps).traps.base + 4096 ≤ 2 ^ 32
table_stays view (Global n) bit ps here t f = f
table_stays view (Windowed n) bit ps here t f = f
table_stays view Pc bit ps here t f = f
table_stays view Npc bit ps here t f = f
table_stays view YRegister bit ps here t f = f
table_stays view Conditions bit ps here t f = f
table_stays view HardwareDeadline bit ps here t f = f
table_stays view ExecutionDeadline bit ps here t f = f
table_stays view TrapBase bit ps here t f =
    table_ends (flipped bit ps.traps.base) (flip_on_page view TrapBase bit ps here t)
    (xor_lt 32 ps.traps.base (2 ^ bit) (omega (arith, f)) (pow-lt (in_width view TrapBase bit here)))
table_stays view Mask bit ps here t f = f
table_stays view Pending bit ps here t f = f
table_stays view (MemoryByte address) bit ps here t f = f

same_rest : (place : Place) (bit : ℕ) (ps : PartitionState) → ((flip place bit ps).reset_status ≡ ps.reset_status) × ((flip place bit ps).traces ≡ ps.traces)
same_rest (Global n) bit ps = (refl, refl)
same_rest (Windowed n) bit ps = (refl, refl)
same_rest Pc bit ps = (refl, refl)
same_rest Npc bit ps = (refl, refl)
same_rest YRegister bit ps = (refl, refl)
same_rest Conditions bit ps = (refl, refl)
same_rest HardwareDeadline bit ps = (refl, refl)
same_rest ExecutionDeadline bit ps = (refl, refl)
same_rest TrapBase bit ps = (refl, refl)
same_rest Mask bit ps = (refl, refl)
same_rest Pending bit ps = (refl, refl)
same_rest (MemoryByte address) bit ps = (refl, refl)

pub flip_in_range : (view : PartitionView) (place : Place) (bit : ℕ) (ps : PartitionState) → is_place view place bit ≡ true → ps.traps.base % 4096 ≡ 0 → IsPartitionInRange ps → IsPartitionInRange (flip place bit ps)
flip_in_range view place bit ps here t f =
    let rest = same_rest place bit ps in
    record {
      core = core_stays view place bit ps here f.core;
      memory = memory_stays view place bit ps here f.memory;
      table = table_stays view place bit ps here t f.table;
      status = subst (λ value. value < 2 ^ 32) (sym rest.0) f.status;
      traces = subst (λ (kept : Kept TraceEntry). AllByRecursion (λ entry. AreBytes entry.load) kept.entries) (sym rest.1) f.traces;
    }

pub flips_keep_ranges : FlipsKeepRanges
flips_keep_ranges view place bit ps here r t f = flip_in_range view place bit ps here t.aligned f
