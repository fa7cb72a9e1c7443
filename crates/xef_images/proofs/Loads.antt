-- The headers one after the other, as a loop reads them.
use Rattle.std.proofs.Common.{◌≡◌, ℕ, suc, ◌-◌, ◌+◌, ◌*◌, ◌≤◌, ◌<◌, List, [], ◌++◌, length, Result, Ok, Err, refl, sym, ap, ◌∙◌, append_assoc, length-append, arith}
use Rattle.std.proofs.lemmas.List.{append-nil}
use Rattle.xef_images.specs.Image.{Segment}
use Rattle.file_headers.specs.Steps.{◌>>=◌}
use Rattle.xef_images.specs.Elf.{load_at, loads}
use Rattle.xef_images.specs.ElfGives.{ElfFails}
use Rattle.fault_messages.specs.declared.fault.ElfFault.{ElfFault}
use Rattle.fault_messages.specs.declared.fault.ElfFault.TheVariants as fault

-- what was loaded before, and what is still loaded
abbrev pub with_loaded : List Segment → Result (List Segment) ElfFault → Result (List Segment) ElfFault
with_loaded front read = read >>= λ others. Ok (front ++ others)

-- a loop over the headers at one of them
pub record Loaded (bytes : List ℕ) (start count done place : ℕ) (front : List Segment) : Type 0 where
  pub at : place ≡ start + 32 * done
  pub read : with_loaded front (loads bytes (length front) place (count - done)) ≡ loads bytes 0 start count

-- a fault that is met in a part is that of the whole
pub elf_fails_on : {Y Z : Type 0} (reported : ElfFault) (part : Result Y ElfFault) (whole : Result Z ElfFault) → ((f : ElfFault) → part ≡ Err f → whole ≡ Err f) → ElfFails reported part → ElfFails reported whole
elf_fails_on fault.Memory part whole so e = tt
elf_fails_on other part whole so e = so _ e

-- what a header loads is at the end of the prefix
regroup : (front first : List Segment) (read : Result (List Segment) ElfFault) → with_loaded front (read >>= λ others. Ok (first ++ others)) ≡ with_loaded (front ++ first) read
regroup front first (Ok others) = ap (λ all. Ok all) (sym (append_assoc front first others))
regroup front first (Err reported) = refl

-- no header yet
pub loaded_none : (bytes : List ℕ) (start count : ℕ) → Loaded bytes start count 0 start []
loaded_none bytes start count = record { at = omega arith; read = rw (sub_zero count) (whole (loads bytes 0 start count)) }
  where
    sub_zero : (n : ℕ) → n - 0 ≡ n
    sub_zero n = omega arith

    whole : (read : Result (List Segment) ElfFault) → with_loaded [] read ≡ read
    whole (Ok others) = refl
    whole (Err reported) = refl

-- a header more
pub loaded_more : (bytes : List ℕ) (start count done place : ℕ) (front first new : List Segment) → Loaded bytes start count done place front → done < count
    → load_at bytes (length front) place ≡ Ok first → new ≡ front ++ first → Loaded bytes start count (done + 1) (place + 32) new
unfolding loads
loaded_more bytes start count done place front first new so_far below read is =
    let more : count - done ≡ suc (count - (done + 1)) = omega arith in
    let longer : length new ≡ length front + length first = ap length is ∙ length-append front first in
    let one : with_loaded front (loads bytes (length front) place (count - done)) ≡ with_loaded (front ++ first) (loads bytes (length front + length first) (place + 32) (count - (done + 1)))
    = rw (more, read) (regroup front first (loads bytes (length front + length first) (place + 32) (count - (done + 1)))) in
    record { at = omega (arith, so_far.at); read = rw (longer, is) (sym one ∙ so_far.read) }

-- a header that fails
pub loaded_fails : (reported : ElfFault) (bytes : List ℕ) (start count done place : ℕ) (front : List Segment) → Loaded bytes start count done place front → done < count
    → ElfFails reported (load_at bytes (length front) place) → ElfFails reported (loads bytes 0 start count)
unfolding loads
loaded_fails reported bytes start count done place front so_far below fails =
    elf_fails_on reported (load_at bytes (length front) place) (loads bytes 0 start count)
    (λ f met.
    let more : count - done ≡ suc (count - (done + 1)) = omega arith in
    let one : with_loaded front (loads bytes (length front) place (count - done)) ≡ Err f = rw (more, met) refl in
    sym so_far.read ∙ one)
    fails

-- all headers
pub loaded_all : (bytes : List ℕ) (start count done place : ℕ) (front : List Segment) → Loaded bytes start count done place front → count ≤ done → loads bytes 0 start count ≡ Ok front
unfolding loads
loaded_all bytes start count done place front so_far all =
    let none : count - done ≡ 0 = omega arith in
    let one : with_loaded front (loads bytes (length front) place (count - done)) ≡ Ok front = rw none (ap (λ all. Ok all) (append-nil front)) in
    sym so_far.read ∙ one
