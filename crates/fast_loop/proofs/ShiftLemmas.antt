-- A SAVE with its spill, and a RESTORE with its fill, as one step.
use Rattle.std.proofs.Common.{◌≡◌, ℕ, ◌+◌, ◌%◌, ◌^◌, ◌<◌, Bool, true, false, List, refl, sym, ap, ◌∙◌, subst, arith}
use Rattle.std.proofs.lemmas.Bool.Decides.{nat_tests}
use Rattle.std.specs.Prelude.{if◌then◌else◌, ◌==◌}
use Rattle.guest_bus.specs.Memory.{Area, Memory, is_readable, is_writable, with_bytes}
use Rattle.guest_bus.specs.Words.{bytes_of, words_at}
use Rattle.sparc_code.specs.Decoded.{decoded}
use Rattle.sparc_code.specs.declared.instruction.Instr.{Instr}
use Rattle.sparc_code.specs.declared.instruction.Instr.TheVariants as instr
use Rattle.sparc_code.specs.declared.instruction.Src.{Src}
use Rattle.sparc_step.specs.Execution.{Turned, keeping_memory, done, executed, refused as refused_by, turned}
use Rattle.sparc_step.specs.Flow.{window_entered, moved, window_above, window_below}
use Rattle.sparc_step.specs.Operands.{sum_of}
use Rattle.sparc_step.specs.Outcome.{trapped, went}
use Rattle.sparc_step.specs.Registers.{Registers, in_window, placed, register_at, window_filled, with_register}
use Rattle.virt_traps.specs.Moves.{Moved, fill_address, filled, move_made, move_refused, spill_address, spill_window, spilled}
use Rattle.virt_traps.specs.SaveArea.{is_usable, saved, with_registers}
use Rattle.virt_traps.specs.Settled.{after_trap, again_or_trap, answered, made_again, settled}
use Rattle.predecode.specs.Kinds.{Does, Saves, Restores, Sum, does}
use Rattle.predecode.specs.Rows.{AreRegisterNumbers, DoesSo, IsFormed, IsSourced, IsTarget}
use Rattle.predecode.specs.declared.kinds.Kind.{Kind}
use Rattle.predecode.specs.declared.kinds.Kind.TheVariants.{Restore, Save}
use Rattle.predecode.specs.declared.rows.Row.{Row}
use Rattle.fast_loop.specs.lemmas.Effects.{address_so}
use Rattle.fast_loop.specs.lemmas.Shifts.{IsFilled, IsShift, IsSpilled}
use Rattle.fast_loop.specs.lemmas.TurnLemmas.{turned-word}
use Rattle.fast_loop.proofs.DoesLemmas.{goes_so}

-- a SAVE to the invalid window traps
save_trapped : (rd rs1 pc npc : ℕ) (source : Src) (areas : List Area) (old : Registers) (memory : Memory) → (old.cwp + 7) % 8 ≡ old.inv
    → executed (instr.Save rd rs1 source) areas (placed pc npc old) memory ≡ refused_by 5 (placed pc npc old) memory
unfolding window_below moved placed
save_trapped rd rs1 pc npc source areas old memory needed =
    let test : ((old.cwp + 7) % 8 == old.inv) ≡ true = grind (arith, nat_tests) in
    ap (λ (t : Bool). keeping_memory memory (if t then trapped 5 (placed pc npc old) else went (window_entered ((old.cwp + 7) % 8) rd (sum_of rs1 source (placed pc npc old)) (placed pc npc old)))) test

-- so does a RESTORE
restore_trapped : (rd rs1 pc npc : ℕ) (source : Src) (areas : List Area) (old : Registers) (memory : Memory) → (old.cwp + 1) % 8 ≡ old.inv
    → executed (instr.Restore rd rs1 source) areas (placed pc npc old) memory ≡ refused_by 6 (placed pc npc old) memory
unfolding window_above moved placed
restore_trapped rd rs1 pc npc source areas old memory needed =
    let test : ((old.cwp + 1) % 8 == old.inv) ≡ true = grind (arith, nat_tests) in
    ap (λ (t : Bool). keeping_memory memory (if t then trapped 6 (placed pc npc old) else went (window_entered ((old.cwp + 1) % 8) rd (sum_of rs1 source (placed pc npc old)) (placed pc npc old)))) test

-- a spill or a fill with other program counters
shifted-placed : (pc npc : ℕ) (m : Moved) → Moved
shifted-placed pc npc m = record { answer = m.answer; core = placed pc npc m.core; memory = m.memory }

spilled-placed : (areas : List Area) (core : Registers) (memory : Memory) (pc npc : ℕ) → spilled areas (placed pc npc core) memory ≡ shifted-placed pc npc (spilled areas core memory)
unfolding spilled spill_address placed shifted-placed
spilled-placed areas core memory pc npc = at (is_usable (is_writable areas) (spill_address core))
  where
    at : (usable : Bool)
        → (if usable then move_made (record (placed pc npc core) { inv = spill_window core }) (with_bytes memory (spill_address core) (bytes_of (saved core.windows (spill_window core)))) else move_refused (placed pc npc core) memory)
        ≡ shifted-placed pc npc (if usable then move_made (record core { inv = spill_window core }) (with_bytes memory (spill_address core) (bytes_of (saved core.windows (spill_window core)))) else move_refused core memory)
    at true = refl
    at false = refl

filled-placed : (areas : List Area) (core : Registers) (memory : Memory) (pc npc : ℕ) → filled areas (placed pc npc core) memory ≡ shifted-placed pc npc (filled areas core memory)
unfolding filled fill_address placed shifted-placed
filled-placed areas core memory pc npc = at (is_usable (is_readable areas) (fill_address core))
  where
    at : (usable : Bool)
        → (if usable then move_made (record (placed pc npc core) { windows = with_registers core.windows core.inv 16 (words_at memory (fill_address core) 16); inv = (core.inv + 1) % 8 }) memory else move_refused (placed pc npc core) memory)
        ≡ shifted-placed pc npc (if usable then move_made (record core { windows = with_registers core.windows core.inv 16 (words_at memory (fill_address core) 16); inv = (core.inv + 1) % 8 }) memory else move_refused core memory)
    at true = refl
    at false = refl

-- the step after a spill that was made, and after a fill
settled_spilled : (areas : List Area) (core mid : Registers) (memory there : Memory) (t : Turned) → turned areas core memory ≡ refused_by 5 core memory → spilled areas core memory ≡ move_made mid there → turned areas mid there ≡ t → settled areas core memory ≡ t
unfolding settled after_trap made_again
settled_spilled areas core mid memory there t trap moves again =
    ap (λ (x : Turned). answered x.turn x areas core memory) trap ∙ ap (λ (m : Moved). again_or_trap m.answer 5 areas m.core m.memory) moves ∙ again

settled_filled : (areas : List Area) (core mid : Registers) (memory there : Memory) (t : Turned) → turned areas core memory ≡ refused_by 6 core memory → filled areas core memory ≡ move_made mid there → turned areas mid there ≡ t → settled areas core memory ≡ t
unfolding settled after_trap made_again
settled_filled areas core mid memory there t trap moves again =
    ap (λ (x : Turned). answered x.turn x areas core memory) trap ∙ ap (λ (m : Moved). again_or_trap m.answer 6 areas m.core m.memory) moves ∙ again

-- what a row does, by its kind
by_kind : (P : Does → Type 0) (kind one : Kind) → kind ≡ one → P (does kind) → P (does one)
by_kind P kind one is so = subst (λ (k : Kind). P (does k)) is so

-- a SAVE with its spill
pub shift_save : (row : Row) (pc : ℕ) (areas : List Area) (old mid new : Registers) (memory there : Memory) → row.kind ≡ Save → AreRegisterNumbers row → (old.cwp + 7) % 8 ≡ old.inv → IsSpilled pc areas old mid memory there
    → register_at mid 0 ≡ 0 → new ≡ with_register (in_window mid ((mid.cwp + 7) % 8)) row.rd (address_so Sum row mid) → IsShift row pc areas old new memory there
unfolding shifted-placed
shift_save row pc areas old mid new memory there kind numbers needed is zeroed left = λ npc word stands done_row.
    let so : IsSourced row (instr.Save row.rd row.rs1) (decoded word) = by_kind (λ (d : Does). DoesSo d row (decoded word)) row.kind Save kind done_row in
    let trap = turned-word word pc npc areas old memory (refused_by 5 (placed pc npc old) memory) stands
    (ap (λ (i : Instr). executed i areas (placed pc npc old) memory) so.is ∙ save_trapped row.rd row.rs1 pc npc so.source areas old memory needed) in
    let moves : spilled areas (placed pc npc old) memory ≡ move_made (placed pc npc mid) there = spilled-placed areas old memory pc npc ∙ ap (shifted-placed pc npc) is.moved in
    let same : (old.cwp + 7) % 8 ≡ (mid.cwp + 7) % 8 = ap (λ (n : ℕ). (n + 7) % 8) (sym is.current) in
    let goes = goes_so Saves row (decoded word) areas mid new there there so (by_kind (λ (d : Does). IsFormed d row) row.kind Save kind numbers.form) (by_kind (λ (d : Does). IsTarget d row.rd) row.kind Save kind numbers.rd) zeroed
    (record { valid = λ e. is.valid (same ∙ e); entered = left }, refl) in
    settled_spilled areas (placed pc npc old) (placed pc npc mid) memory there (done (placed npc ((npc + 4) % 2 ^ 32) new) there) trap moves
    (turned-word word pc npc areas mid there (done (placed npc ((npc + 4) % 2 ^ 32) new) there) (is.word ∙ stands) (goes pc npc))

-- the sum of the operands is the same where the registers are
same_sum : (row : Row) (old mid : Registers) → AreRegisterNumbers row → ((r : ℕ) → r < 32 → register_at mid r ≡ register_at old r) → address_so Sum row mid ≡ address_so Sum row old
same_sum row old mid numbers same =
    ap (λ (v : ℕ). (v + (register_at mid row.rs2 + row.number)) % 2 ^ 32) (same row.rs1 numbers.rs1)
    ∙ ap (λ (v : ℕ). (register_at old row.rs1 + (v + row.number)) % 2 ^ 32) (same row.rs2 numbers.rs2)

-- a RESTORE whose window is filled as it is entered
pub shift_filled : (row : Row) (pc : ℕ) (areas : List Area) (old new : Registers) (memory : Memory) (words : List ℕ)
    → row.kind ≡ Restore → AreRegisterNumbers row → (old.cwp + 1) % 8 ≡ old.inv → IsFilled areas old (window_filled old words) memory
    → ((r : ℕ) → r < 32 → register_at (window_filled old words) r ≡ register_at old r) → register_at old 0 ≡ 0
    → new ≡ with_register (in_window (window_filled old words) old.inv) row.rd (address_so Sum row old) → IsShift row pc areas old new memory memory
unfolding shifted-placed
shift_filled row pc areas old new memory words kind numbers needed is apart zeroed left = λ npc word stands done_row.
    let mid = window_filled old words in
    let so : IsSourced row (instr.Restore row.rd row.rs1) (decoded word) = by_kind (λ (d : Does). DoesSo d row (decoded word)) row.kind Restore kind done_row in
    let trap = turned-word word pc npc areas old memory (refused_by 6 (placed pc npc old) memory) stands
    (ap (λ (i : Instr). executed i areas (placed pc npc old) memory) so.is ∙ restore_trapped row.rd row.rs1 pc npc so.source areas old memory needed) in
    let moves : filled areas (placed pc npc old) memory ≡ move_made (placed pc npc mid) memory = filled-placed areas old memory pc npc ∙ ap (shifted-placed pc npc) is.moved in
    let same : (old.cwp + 1) % 8 ≡ (mid.cwp + 1) % 8 = ap (λ (n : ℕ). (n + 1) % 8) (sym is.current) in
    let entered : new ≡ with_register (in_window mid ((mid.cwp + 1) % 8)) row.rd (address_so Sum row mid) =
    left ∙ ap (λ (w : ℕ). with_register (in_window mid w) row.rd (address_so Sum row old)) (sym needed ∙ same)
    ∙ ap (with_register (in_window mid ((mid.cwp + 1) % 8)) row.rd) (sym (same_sum row old mid numbers apart)) in
    let goes = goes_so Restores row (decoded word) areas mid new memory memory so (by_kind (λ (d : Does). IsFormed d row) row.kind Restore kind numbers.form) (by_kind (λ (d : Does). IsTarget d row.rd) row.kind Restore kind numbers.rd)
    (apart 0 (omega arith) ∙ zeroed) (record { valid = λ e. is.valid (same ∙ e); entered = entered }, refl) in
    settled_filled areas (placed pc npc old) (placed pc npc mid) memory memory (done (placed npc ((npc + 4) % 2 ^ 32) new) memory) trap moves
    (turned-word word pc npc areas mid memory (done (placed npc ((npc + 4) % 2 ^ 32) new) memory) stands (goes pc npc))
