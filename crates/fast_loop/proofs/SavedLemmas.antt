-- The outcome of a spill and a fill by the locals and ins of a window.
use Rattle.std.proofs.Common.{◌≡◌, ◌⊎◌, ℕ, zero, suc, ◌+◌, ◌-◌, ◌*◌, ◌%◌, ◌^◌, ◌<◌, ◌≤◌, Bool, true, false, List, length, take, drop, refl, sym, ap, ◌∙◌, inl, inr, arith, length-append, length-drop}
use Rattle.std.proofs.lemmas.Bool.{cases_lt}
use Rattle.std.proofs.lemmas.Bool.Decides.{nat_tests}
use Rattle.std.proofs.lemmas.List.{length-take-le}
use Rattle.std.specs.Int.{from_be_bytes, w32}
use Rattle.std.specs.Prelude.{if◌then◌else◌, ◌==◌, ◌&&◌, nat_le, slice_index}
use Rattle.guest_bus.specs.Access.{access_fault, fetched, unless_refused}
use Rattle.guest_bus.specs.lemmas.AccessLemmas.{length-bytes_of}
use Rattle.guest_bus.specs.Memory.{Area, Memory, bytes_at, is_readable, is_writable, with_bytes}
use Rattle.guest_bus.specs.lemmas.MemoryLemmas.{bytes_at-with_bytes_apart}
use Rattle.guest_bus.specs.Words.{MayStand, allows, bytes_of, words_at}
use Rattle.sparc_step.specs.Registers.{Registers, ins_place, locals_and_ins, locals_place, register_at, with_inv, with_locals_and_ins, with_saved}
use Rattle.virt_traps.specs.Moves.{fill_address, filled, move_made, move_refused, spill_address, spill_window, spilled}
use Rattle.virt_traps.specs.SaveArea.{is_usable, saved, with_registers}
use Rattle.virt_traps.specs.lemmas.SavedLemmas.{given_is, saved_is}
use Rattle.fast_loop.specs.lemmas.Shifts.{IsFilled, IsSpilled}

-- an address where sixteen words may stand is that of a save area
all_three : (a b c : Bool) → a ≡ true → b ≡ true → c ≡ true → (a && (b && c)) ≡ true
all_three true true true one two three = refl
all_three true true false one two three = absurd cc
all_three true false c one two three = absurd cc
all_three false b c one two three = absurd cc

usable_where : (allowed : ℕ → Bool) (address : ℕ) → MayStand allowed address → is_usable allowed address ≡ true
unfolding is_usable
usable_where allowed address may =
    let aligned : address % 8 ≡ 0 = may.aligned in
    let inside : address + 64 ≤ 2 ^ 32 = may.inside in
    all_three (address % 8 == 0) (nat_le (address + 64) (2 ^ 32)) (allows allowed address 64) (grind (arith, nat_tests)) (grind (arith, nat_tests)) may.bytes

-- a word beside them stays
pub word_stays : (areas : List Area) (memory after : Memory) (address pc : ℕ) (words : List ℕ) → address % 8 ≡ 0 → pc % 4 ≡ 0 → length (bytes_of words) ≡ 64 → (pc < address) ⊎ (address + 64 ≤ pc)
    → after ≡ with_bytes memory address (bytes_of words) → fetched areas after pc ≡ fetched areas memory pc
unfolding fetched
word_stays areas memory after address pc words aligned word long apart is =
    ap (λ (bytes : List ℕ). unless_refused (access_fault (is_readable areas) pc 4) (from_be_bytes w32 bytes))
    (ap (λ (m : Memory). bytes_at m pc 4) is ∙ bytes_at-with_bytes_apart memory address (bytes_of words) pc 4 (beside apart))
  where
    beside : (pc < address) ⊎ (address + 64 ≤ pc) → (pc + 4 ≤ address) ⊎ (address + length (bytes_of words) ≤ pc)
    beside (inl below) = inl (omega arith)
    beside (inr above) = inr (omega arith)

-- as many as were asked for
pub length-words_at : (memory : Memory) (address count : ℕ) → length (words_at memory address count) ≡ count
unfolding words_at
length-words_at memory address zero = refl
length-words_at memory address (suc count) = ap suc (length-words_at memory (address + 4) count)

-- a window saves sixteen
pub length-saved : (windows : List ℕ) (window : ℕ) → window < 8 → length windows ≡ 128 → length (locals_and_ins windows window) ≡ 16
unfolding locals_and_ins
length-saved windows window small whole =
    omega (arith, length-append (take 8 (drop (locals_place window) windows)) (take 8 (drop (ins_place window) windows)), length-take-le 8 (drop (locals_place window) windows) (omega (arith, length-drop (locals_place window) windows, whole)), length-take-le 8 (drop (ins_place window) windows) (omega (arith, length-drop (ins_place window) windows, whole)))

-- sixteen have 64 bytes
pub sixteen_words : (words : List ℕ) → length words ≡ 16 → length (bytes_of words) ≡ 64
sixteen_words words counted = omega (arith, length-bytes_of words, counted)

-- an address that is not among 64 bytes
pub apart_of : (here address distance : ℕ) → here < 2 ^ 32 → address + 64 ≤ 2 ^ 32 → distance ≡ (here + (2 ^ 32 - address)) % 2 ^ 32 → 64 ≤ distance → (here < address) ⊎ (address + 64 ≤ here)
apart_of here address distance small inside is far = at (cases_lt here address)
  where
    at : (here < address) ⊎ (address ≤ here) → (here < address) ⊎ (address + 64 ≤ here)
    at (inl below) = inl below
    at (inr from) = inr (omega arith)

-- a spill by them
pub spilled_by : (pc window address : ℕ) (areas : List Area) (old new : Registers) (memory after : Memory) (words : List ℕ)
    → window ≡ (old.inv + 7) % 8 → (old.cwp + 7) % 8 ≡ old.inv → length old.windows ≡ 128 → address ≡ slice_index old.windows (16 * window + 6) → words ≡ locals_and_ins old.windows window → MayStand (is_writable areas) address
    → after ≡ with_bytes memory address (bytes_of words) → new ≡ with_inv old window → fetched areas after pc ≡ fetched areas memory pc → IsSpilled pc areas old new memory after
unfolding spilled spill_address with_inv
spilled_by pc window address areas old new memory after words window_is needed whole address_is words_are may after_is new_is word = record {
  moved = ap (λ (t : Bool). if t then move_made (record old { inv = spill_window old }) (with_bytes memory (spill_address old) (bytes_of (saved old.windows (spill_window old)))) else move_refused old memory) usable
      ∙ ap (λ (core : Registers). move_made core (with_bytes memory (spill_address old) (bytes_of (saved old.windows (spill_window old))))) (ap (λ (w : ℕ). record old { inv = w }) (sym window_is) ∙ sym new_is)
      ∙ ap (move_made new) (ap (λ (a : ℕ). with_bytes memory a (bytes_of (saved old.windows (spill_window old)))) there ∙ ap (λ (bytes : List ℕ). with_bytes memory address (bytes_of bytes)) stored ∙ sym after_is);
  current = ap (λ (r : Registers). r.cwp) new_is;
  valid = λ e. valid_window old.cwp old.inv window needed window_is (e ∙ ap (λ (r : Registers). r.inv) new_is);
  word = word;
}
  where
    small : window < 8
    small = omega (arith, window_is)

    there : spill_address old ≡ address
    there =
        let same : 16 * spill_window old + 14 - 8 ≡ 16 * window + 6 = omega (arith, window_is) in
        ap (slice_index old.windows) same ∙ sym address_is

    usable : is_usable (is_writable areas) (spill_address old) ≡ true
    usable = ap (is_usable (is_writable areas)) there ∙ usable_where (is_writable areas) address may

    stored : saved old.windows (spill_window old) ≡ words
    stored = ap (saved old.windows) (sym window_is) ∙ saved_is old.windows window small whole ∙ sym words_are

    valid_window : (cwp inv w : ℕ) → (cwp + 7) % 8 ≡ inv → w ≡ (inv + 7) % 8 → (cwp + 7) % 8 ≡ w → ⊥
    valid_window cwp inv w a b e = omega arith

-- a fill by them
pub filled_by : (window address : ℕ) (areas : List Area) (old given new : Registers) (memory : Memory) (words : List ℕ)
    → window ≡ old.inv → (old.cwp + 1) % 8 ≡ old.inv → length old.windows ≡ 128 → length words ≡ 16 → address ≡ register_at old 30
    → words ≡ words_at memory address 16 → MayStand (is_readable areas) address → given ≡ with_saved old window words → new ≡ with_inv given ((window + 1) % 8) → IsFilled areas old new memory
unfolding filled fill_address with_inv with_saved register_at
filled_by window address areas old given new memory words window_is needed whole sixteen address_is words_are may given_are new_is = record {
  moved = ap (λ (t : Bool). if t then move_made (record old { windows = with_registers old.windows old.inv 16 (words_at memory (fill_address old) 16); inv = (old.inv + 1) % 8 }) memory else move_refused old memory) usable
      ∙ ap (λ (core : Registers). move_made core memory) (ap (λ (windows : List ℕ). record old { windows = windows; inv = (old.inv + 1) % 8 }) loaded ∙ ap (λ (w : ℕ). record old { windows = with_locals_and_ins old.windows window words; inv = (w + 1) % 8 }) (sym window_is) ∙ sym both);
  current = ap (λ (r : Registers). r.cwp) both;
  valid = λ e. valid_window old.cwp old.inv window needed window_is (e ∙ ap (λ (r : Registers). r.inv) both);
}
  where
    both : new ≡ record old { windows = with_locals_and_ins old.windows window words; inv = (window + 1) % 8 }
    both = new_is ∙ ap (λ (r : Registers). with_inv r ((window + 1) % 8)) given_are

    there : fill_address old ≡ address
    there = sym address_is

    usable : is_usable (is_readable areas) (fill_address old) ≡ true
    usable = ap (is_usable (is_readable areas)) there ∙ usable_where (is_readable areas) address may

    loaded : with_registers old.windows old.inv 16 (words_at memory (fill_address old) 16) ≡ with_locals_and_ins old.windows window words
    loaded =
        ap (λ (w : ℕ). with_registers old.windows w 16 (words_at memory (fill_address old) 16)) (sym window_is)
        ∙ ap (with_registers old.windows window 16) (ap (λ (a : ℕ). words_at memory a 16) there ∙ sym words_are)
        ∙ given_is old.windows window words (omega (arith, window_is, needed)) whole sixteen

    valid_window : (cwp inv w : ℕ) → (cwp + 1) % 8 ≡ inv → w ≡ inv → (cwp + 1) % 8 ≡ (w + 1) % 8 → ⊥
    valid_window cwp inv w a b e = omega arith
