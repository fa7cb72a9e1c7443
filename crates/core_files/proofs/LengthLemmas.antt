-- How long a core file is.
use Rattle.std.proofs.Common.{◌≡◌, ℕ, ◌+◌, ◌-◌, ◌*◌, ◌≤◌, List, [], ◌∷◌, ◌++◌, length, replicate, refl, sym, ◌∙◌, arith, length-append}
use Rattle.std.specs.Prelude.{Option, Some, None}
use Rattle.std.specs.List.{flat_map, sum_by}
use Rattle.std.proofs.lemmas.List.{length-replicate}
use Rattle.std.proofs.lemmas.List.Elements.{All-head, All-tail}
use Rattle.std.proofs.lemmas.List.Sums.{sum_by-cons}
use Rattle.guest_bus.specs.Memory.{Area, Memory, bytes_at}
use Rattle.guest_bus.specs.lemmas.MemoryLemmas.{length-bytes_at}
use Rattle.health_monitor.specs.declared.entry.HealthEntry.{HealthEntry}
use Rattle.virt_clocks.specs.declared.timer.Timer.{Timer}
use Rattle.xm_traces.specs.Ring.{Kept}
use Rattle.xm_traces.specs.declared.entry.TraceEntry.{TraceEntry}
use Rattle.machine_model.specs.CoreFile.{area_bytes, bits_of_flags, core_file, log_bytes, processor_bytes, standing_bytes, timer_bytes}
use Rattle.machine_model.specs.Facts.{HaveEight}
use Rattle.machine_model.specs.Partition.{PartitionState, areas_of}
use Rattle.machine_model.specs.Structures.{counts_bytes, double, health_bytes, trace_bytes, word}
use Rattle.machine_model.specs.View.{PartitionView}
use Rattle.core_files.specs.Length.{area_length, core_length_of}

-- a list after another one
longer : {X : Type 0} (xs ys : List X) (n m : ℕ) → length xs ≡ n → length ys ≡ m → length (xs ++ ys) ≡ n + m
longer xs ys n m first second = omega (arith, length-append xs ys, first, second)

-- the length of a list
record IsLong {X : Type 0} (xs : List X) (n : ℕ) : Type 0 where
  pub is : length xs ≡ n

-- another list after it
after : {X : Type 0} {xs : List X} {n : ℕ} → IsLong xs n → (ys : List X) (m : ℕ) → length ys ≡ m → IsLong (xs ++ ys) (n + m)
after {X} {xs} {n} first ys m second = record { is = longer xs ys n m first.is second }

-- words
words_long : (words : List ℕ) → length (flat_map word words) ≡ length words * 4
words_long [] = refl
words_long (n ∷ words) = omega (arith, longer (word n) (flat_map word words) 4 (length words * 4) refl (words_long words))

-- trace entries that have 8 bytes
traces_long : (entries : List TraceEntry) → HaveEight entries → length (flat_map trace_bytes entries) ≡ length entries * 24
unfolding trace_bytes
traces_long [] eight = refl
traces_long (entry ∷ entries) eight =
    let one : length (double entry.time ++ word entry.bits ++ word entry.seq ++ entry.load) ≡ 16 + 8 = longer (double entry.time ++ word entry.bits ++ word entry.seq) entry.load 16 8 refl (All-head (λ (e : TraceEntry). length e.load ≡ 8) entry entries eight) in
    let others = traces_long entries (All-tail (λ (e : TraceEntry). length e.load ≡ 8) entry entries eight) in
    omega (arith, longer (trace_bytes entry) (flat_map trace_bytes entries) 24 (length entries * 24) one others)

-- health entries
health_long : (entries : List HealthEntry) → length (flat_map health_bytes entries) ≡ length entries * 20
unfolding health_bytes
health_long [] = refl
health_long (entry ∷ entries) =
    let one : length (health_bytes entry) ≡ 20 = refl in
    omega (arith, longer (health_bytes entry) (flat_map health_bytes entries) 20 (length entries * 20) one (health_long entries))

-- a log whose entries have this many bytes
log_long : {T : Type 0} (size : ℕ) (bytes : T → List ℕ) (kept : Kept T) (most : ℕ) → length kept.entries * size + (64 - length kept.entries) * size ≡ most
    → length (flat_map bytes kept.entries) ≡ length kept.entries * size → length (log_bytes size bytes kept) ≡ 8 + most
unfolding counts_bytes
log_long size bytes kept most all long =
    let both = longer (counts_bytes kept) (flat_map bytes kept.entries) 8 (length kept.entries * size) refl long in
    let whole = longer (counts_bytes kept ++ flat_map bytes kept.entries) (replicate ((64 - length kept.entries) * size) 0) _ _ both (length-replicate ((64 - length kept.entries) * size) 0) in
    omega (arith, whole, all)

-- a timer
timer_long : (timer : Option Timer) → length (timer_bytes timer) ≡ 17
timer_long None = refl
timer_long (Some timer) = refl

-- areas with their bytes
areas_long : (memory : Memory) (areas : List Area) → length (flat_map (area_bytes memory) areas) ≡ sum_by area_length areas
areas_long memory [] = refl
areas_long memory (area ∷ areas) =
    let one = longer (word area.start ++ word area.size) (bytes_at memory area.start area.size) 8 area.size refl (length-bytes_at memory area.start area.size) in
    longer (area_bytes memory area) (flat_map (area_bytes memory) areas) (area_length area) (sum_by area_length areas) one (areas_long memory areas)
    ∙ sym (sum_by-cons area_length area areas)

-- what a partition always has: eight and 128 registers, and logs with at most 64 entries, whose traces have 8 bytes
pub record HasSizes (ps : PartitionState) : Type 0 where
  pub globals : length ps.core.globals ≡ 8
  pub windows : length ps.core.windows ≡ 128
  pub traces : length ps.traces.entries ≤ 64
  pub loads : HaveEight ps.traces.entries
  pub health : length ps.health.entries ≤ 64

-- the whole file
pub file_long : (view : PartitionView) (ps : PartitionState) → HasSizes ps → length (core_file view ps) ≡ core_length_of view
unfolding core_file standing_bytes processor_bytes core_length_of
file_long view ps has =
    let standing : length (standing_bytes view ps) ≡ 24 = refl in
    let processor : length (processor_bytes ps) ≡ 28 = refl in
    let globals : length (flat_map word ps.core.globals) ≡ 32 = omega (arith, words_long ps.core.globals, has.globals) in
    let windows : length (flat_map word ps.core.windows) ≡ 512 = omega (arith, words_long ps.core.windows, has.windows) in
    let traces = log_long 24 trace_bytes ps.traces 1536 (omega (arith, has.traces)) (traces_long ps.traces.entries has.loads) in
    let health = log_long 20 health_bytes ps.health 1280 (omega (arith, has.health)) (health_long ps.health.entries) in
    let one : IsLong (standing_bytes view ps ++ processor_bytes ps) 52 = record { is = longer (standing_bytes view ps) (processor_bytes ps) 24 28 standing processor } in
    let two = after one (timer_bytes ps.clocks.hardware_timer) 17 (timer_long ps.clocks.hardware_timer) in
    let three = after two (timer_bytes ps.clocks.execution_timer) 17 (timer_long ps.clocks.execution_timer) in
    let four = after three (word (length ps.inputs)) 4 refl in
    let five = after four (word (bits_of_flags ps.made)) 4 refl in
    let six = after five (flat_map word ps.core.globals) 32 globals in
    let seven = after six (flat_map word ps.core.windows) 512 windows in
    let eight = after seven (log_bytes 24 trace_bytes ps.traces) 1544 traces in
    let nine = after eight (log_bytes 20 health_bytes ps.health) 1288 health in
    let ten = after nine (length (areas_of view) ∷ []) 1 refl in
    let all = after ten (flat_map (area_bytes ps.memory) (areas_of view)) (sum_by area_length (areas_of view)) (areas_long ps.memory (areas_of view)) in
    all.is
