-- What was loaded, with the pages that are saved of a memory, is that memory.
use Rattle.std.proofs.Common.{◌≡◌, ℕ, zero, suc, ◌+◌, ◌-◌, ◌*◌, ◌/◌, ◌<◌, ◌≤◌, ◌⊎◌, inl, inr, ⊎_elim, Bool, true, false, List, [], ◌∷◌, length, map, Option, None, Some, refl, sym, ap, ◌∙◌, arith}
use Rattle.std.specs.Prelude.{All, IsSomeAnd, if◌then◌else◌, slice_get, unwrap_or}
use Rattle.std.specs.FinMap.{get}
use Rattle.std.specs.Str.{bytes_eq}
use Rattle.std.proofs.lemmas.Bool.{cases_lt, false≢true}
use Rattle.std.proofs.lemmas.Bool.Decides.{nat_tests}
use Rattle.std.proofs.lemmas.List.Elements.{All-head, All-tail}
use Rattle.std.proofs.lemmas.Slice.Eq.{bytes_eq-Decides}
use Rattle.guest_bus.specs.Memory.{Area, Memory, byte_at, bytes_at, holds_address, is_readable, with_bytes}
use Rattle.guest_bus.specs.Whole.{HoldsByte}
use Rattle.guest_bus.specs.lemmas.MemoryLemmas.{covers-within, get-with_bytes_above, get-with_bytes_below, get-with_bytes_within, length-bytes_at, same_memory}
use Rattle.guest_memory.specs.Memories.{IsPlaced}
use Rattle.saved_machines.specs.Laws.{SavedPagesRestore}
use Rattle.saved_machines.specs.SavedFormat.{loaded_page}
use Rattle.saved_machines.specs.Saving.{changed_in, changed_pages, page_bytes, with_area_pages, with_saved_pages}

-- the byte of a place among bytes
byte_in : (m : Memory) (a n i : ℕ) → i < n → slice_get (bytes_at m a n) i ≡ Some (byte_at m (a + i))
byte_in m a zero i below = absurd (omega (arith, below))
byte_in m a (suc n) zero below = ap (λ (q : ℕ). Some (byte_at m q)) (omega arith)
byte_in m a (suc n) (suc i) below = byte_in m (suc a) n i (omega (arith, below)) ∙ ap (λ (q : ℕ). Some (byte_at m q)) (omega arith)

-- a byte that stands at an address
got : (m : Memory) (q : ℕ) → HoldsByte m q → get m q ≡ Some (byte_at m q)
got m q holds = found (get m q) holds
  where
    found : (byte : Option ℕ) → IsSomeAnd byte (λ b. b < 256) → byte ≡ Some (unwrap_or byte 0)
    found None there = absurd there
    found (Some b) there = refl

-- a page
page_long : (m : Memory) (a : ℕ) → length (page_bytes m a) ≡ 256
unfolding page_bytes
page_long m a = length-bytes_at m a 256

page_in : (m : Memory) (a q : ℕ) → a ≤ q → q < a + 256 → slice_get (page_bytes m a) (q - a) ≡ Some (byte_at m q)
unfolding page_bytes
page_in m a q from under = byte_in m a 256 (q - a) (omega (arith, from, under)) ∙ ap (λ (at : ℕ). Some (byte_at m at)) (omega (arith, from))

loaded_in : (m : Memory) (a q : ℕ) → a ≤ q → q < a + 256 → slice_get (loaded_page m a) (q - a) ≡ Some (byte_at m q)
unfolding loaded_page
loaded_in m a q from under = byte_in m a 256 (q - a) (omega (arith, from, under)) ∙ ap (λ (at : ℕ). Some (byte_at m at)) (omega (arith, from))

module _ (m loaded : Memory) where
  -- what stands at an address is what was loaded, or what the memory has
  abbrev IsBetween : Memory → ℕ → Type 0
  IsBetween base q = (get base q ≡ get loaded q) ⊎ (get base q ≡ get m q)

  -- both memories have a byte there
  record HaveBytes (q : ℕ) : Type 0 where
    pub now : HoldsByte m q
    pub before : HoldsByte loaded q

  -- a range has what the memory has, and nothing else changes
  record AreBack (base new : Memory) (from to : ℕ) : Type 0 where
    pub here : (q : ℕ) → from ≤ q → q < to → get new q ≡ get m q
    pub below : (q : ℕ) → q < from → get new q ≡ get base q
    pub above : (q : ℕ) → to ≤ q → get new q ≡ get base q

  pages_back : (count a : ℕ) (base : Memory) → ((q : ℕ) → a ≤ q → q < a + 256 * count → HaveBytes q) → ((q : ℕ) → a ≤ q → q < a + 256 * count → IsBetween base q)
      → AreBack base (with_saved_pages base (changed_pages loaded m a count)) a (a + 256 * count)
  unfolding changed_pages
  pages_back zero a base bytes between = record {
    here = λ q from under. absurd (omega (arith, from, under));
    below = λ q under. refl;
    above = λ q from. refl;
  }
  pages_back (suc count) a base bytes between =
      at (bytes_eq (page_bytes m a) (loaded_page loaded a)) refl (later (λ other have is. pages_back count (a + 256) other have is) base (λ q from. refl))
      (later (λ other have is. pages_back count (a + 256) other have is) written past)
    where
      written : Memory
      written = with_bytes base a (page_bytes m a)

      later : ((other : Memory) → ((q : ℕ) → a + 256 ≤ q → q < a + 256 + 256 * count → HaveBytes q) → ((q : ℕ) → a + 256 ≤ q → q < a + 256 + 256 * count → IsBetween other q)
          → AreBack other (with_saved_pages other (changed_pages loaded m (a + 256) count)) (a + 256) (a + 256 + 256 * count))
          → (other : Memory) → ((q : ℕ) → a + 256 ≤ q → get other q ≡ get base q) → AreBack other (with_saved_pages other (changed_pages loaded m (a + 256) count)) (a + 256) (a + 256 + 256 * count)
      later others other same = others other (λ q from under. bytes q (omega (arith, from)) (omega (arith, under)))
          (λ q from under. ⊎_elim (λ was. inl (same q from ∙ was)) (λ is. inr (same q from ∙ is)) (between q (omega (arith, from)) (omega (arith, under))))

      old : (page_bytes m a ≡ loaded_page loaded a) → (q : ℕ) → a ≤ q → q < a + 256 → get base q ≡ get m q
      old same q from under =
          let have = bytes q from (omega (arith, under)) in
          let alike = sym (page_in m a q from under) ∙ ap (λ (page : List ℕ). slice_get page (q - a)) same ∙ loaded_in loaded a q from under in
          ⊎_elim (λ was. was ∙ got loaded q have.before ∙ sym alike ∙ sym (got m q have.now)) (λ is. is) (between q from (omega (arith, under)))

      new : (q : ℕ) → a ≤ q → q < a + 256 → get written q ≡ get m q
      new q from under =
          let have = bytes q from (omega (arith, under)) in
          get-with_bytes_within base a (page_bytes m a) (q - a) q (omega (arith, from)) (omega (arith, page_long m a, from, under)) ∙ page_in m a q from under ∙ sym (got m q have.now)

      past : (q : ℕ) → a + 256 ≤ q → get written q ≡ get base q
      past q from = get-with_bytes_above base a (page_bytes m a) q (omega (arith, page_long m a, from))

      at : (b : Bool) → bytes_eq (page_bytes m a) (loaded_page loaded a) ≡ b → AreBack base (with_saved_pages base (changed_pages loaded m (a + 256) count)) (a + 256) (a + 256 + 256 * count)
          → AreBack written (with_saved_pages written (changed_pages loaded m (a + 256) count)) (a + 256) (a + 256 + 256 * count)
          → AreBack base (with_saved_pages base (if b then changed_pages loaded m (a + 256) count else record { address = a; bytes = page_bytes m a } ∷ changed_pages loaded m (a + 256) count)) a (a + 256 * suc count)
      at true same back none =
          let alike = (bytes_eq-Decides (page_bytes m a) (loaded_page loaded a)).0 same in
          record {
            here = λ q from under. ⊎_elim (λ low. back.below q low ∙ old alike q from low) (λ high. back.here q high (omega (arith, under))) (cases_lt q (a + 256));
            below = λ q under. back.below q (omega (arith, under));
            above = λ q from. back.above q (omega (arith, from));
          }
      at false differ none back = record {
        here = λ q from under. ⊎_elim (λ low. back.below q low ∙ new q from low) (λ high. back.here q high (omega (arith, under))) (cases_lt q (a + 256));
        below = λ q under. back.below q (omega (arith, under)) ∙ get-with_bytes_below base a (page_bytes m a) q under;
        above = λ q from. back.above q (omega (arith, from)) ∙ past q (omega (arith, from));
      }

  -- all addresses of an area
  area_back : (area : Area) (base : Memory) → IsPlaced area → ((q : ℕ) → holds_address q area ≡ true → HaveBytes q) → ((q : ℕ) → holds_address q area ≡ true → IsBetween base q)
      → AreBack base (with_saved_pages base (changed_in loaded m area)) area.start (area.start + 256 * (area.size / 256))
  area_back area base placed bytes between =
      pages_back (area.size / 256) area.start base (λ q from under. bytes q (inside q from (omega (arith, under)))) (λ q from under. between q (inside q from (omega (arith, under))))
    where
      inside : (q : ℕ) → area.start ≤ q → q < area.start + area.size → holds_address q area ≡ true
      inside q from under = grind (arith, nat_tests, from, under)

  -- what an address has that is in no area, and one that is in some
  record AreRestored (areas : List Area) (base new : Memory) : Type 0 where
    pub here : (q : ℕ) → is_readable areas q ≡ true → get new q ≡ get m q
    pub elsewhere : (q : ℕ) → is_readable areas q ≡ false → get new q ≡ get base q

  areas_back : (areas : List Area) (base : Memory) → All IsPlaced areas → ((q : ℕ) → is_readable areas q ≡ true → HaveBytes q) → ((q : ℕ) → is_readable areas q ≡ true → IsBetween base q)
      → AreRestored areas base (with_area_pages base (map (changed_in loaded m) areas))
  areas_back [] base placed bytes between = record { here = λ q some. absurd (false≢true some); elsewhere = λ q none. refl }
  areas_back (area ∷ areas) base placed bytes between =
      let rest = areas_back areas one (All-tail IsPlaced area areas placed) (λ q later. bytes q (some_first q (holds_address q area) later refl)) (λ q later. kept q (holds_address q area) later refl) in
      record {
        here = λ q some. here rest q (holds_address q area) (is_readable areas q) refl refl some;
        elsewhere = λ q none. elsewhere rest q (holds_address q area) (is_readable areas q) refl refl none;
      }
    where
      is : IsPlaced area
      is = All-head IsPlaced area areas placed

      one : Memory
      one = with_saved_pages base (changed_in loaded m area)

      first : AreBack base one area.start (area.start + 256 * (area.size / 256))
      first = area_back area base is (λ q some. bytes q (rw some refl)) (λ q some. between q (rw some refl))

      in_area : (q : ℕ) → holds_address q area ≡ true → get one q ≡ get m q
      in_area q some = let within = covers-within area q some in first.here q within.0 (omega (arith, within.1, is.size))

      out_of_area : (q : ℕ) → holds_address q area ≡ false → get one q ≡ get base q
      out_of_area q none = ⊎_elim (λ low. first.below q low) (λ high. first.above q (past q high none)) (cases_lt q area.start)
        where
          past : (q : ℕ) → area.start ≤ q → holds_address q area ≡ false → area.start + 256 * (area.size / 256) ≤ q
          past q high none = ⊎_elim (λ under. absurd (false≢true (sym none ∙ grind (arith, nat_tests, high, under)))) (λ over. omega (arith, over)) (cases_lt q (area.start + area.size))

      some_first : (q : ℕ) (b : Bool) → is_readable areas q ≡ true → holds_address q area ≡ b → is_readable (area ∷ areas) q ≡ true
      some_first q true later held = rw held refl
      some_first q false later held = rw (held, later) refl

      kept : (q : ℕ) (b : Bool) → is_readable areas q ≡ true → holds_address q area ≡ b → IsBetween one q
      kept q true later held = inr (in_area q held)
      kept q false later held = ⊎_elim (λ was. inl (out_of_area q held ∙ was)) (λ is. inr (out_of_area q held ∙ is)) (between q (some_first q false later held))

      here : AreRestored areas one (with_area_pages one (map (changed_in loaded m) areas)) → (q : ℕ) (b c : Bool) → holds_address q area ≡ b → is_readable areas q ≡ c → is_readable (area ∷ areas) q ≡ true
          → get (with_area_pages one (map (changed_in loaded m) areas)) q ≡ get m q
      here rest q b true held later some = rest.here q later
      here rest q true false held later some = rest.elsewhere q later ∙ in_area q held
      here rest q false false held later some = absurd (false≢true (sym (rw (held, later) refl) ∙ some))

      elsewhere : AreRestored areas one (with_area_pages one (map (changed_in loaded m) areas)) → (q : ℕ) (b c : Bool) → holds_address q area ≡ b → is_readable areas q ≡ c → is_readable (area ∷ areas) q ≡ false
          → get (with_area_pages one (map (changed_in loaded m) areas)) q ≡ get base q
      elsewhere rest q b true held later none = absurd (false≢true (sym none ∙ some_first q b later held))
      elsewhere rest q true false held later none = absurd (false≢true (sym none ∙ rw held refl))
      elsewhere rest q false false held later none = rest.elsewhere q later ∙ out_of_area q held

pub pages_restore : SavedPagesRestore
pages_restore areas loaded memory placed before now =
    same_memory new memory (λ q. at q (is_readable areas q) refl)
  where
    new : Memory
    new = with_area_pages loaded (map (changed_in loaded memory) areas)

    back : AreRestored memory loaded areas loaded new
    back = areas_back memory loaded areas loaded placed (λ q some. record { now = now.held q some; before = before.held q some }) (λ q some. inl refl)

    at : (q : ℕ) (b : Bool) → is_readable areas q ≡ b → get new q ≡ get memory q
    at q true some = back.here q some
    at q false none = back.elsewhere q none ∙ before.nothing q none ∙ sym (now.nothing q none)
