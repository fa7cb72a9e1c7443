-- Ranges of addresses: which of them is the first that is not allowed, and their bytes by parts.
use Rattle.std.proofs.Common.{◌≡◌, ℕ, zero, suc, ◌+◌, ◌-◌, ◌<◌, ◌≤◌, ◌^◌, Bool, true, false, ◌&&◌, not, cond, List, [], ◌∷◌, ◌++◌, length, take, drop, Option, Some, None, is_some, refl, sym, ap, ◌∙◌, arith, length-take, take-add}
use borrow.Rule.Slice.PartMut.{put_mid}
use Rattle.std.specs.Prelude.{slice_get}
use Rattle.std.proofs.lemmas.Bool.{and_parts}
use Rattle.std.proofs.lemmas.List.{take_rest}
use Rattle.std.proofs.lemmas.Slice.{take-put_mid}
use Rattle.std.specs.FinMap.{insert}
use Rattle.guest_bus.specs.Memory.{Area, Memory, holds_address, is_readable, all_from, bytes_at, with_bytes}
use Rattle.guest_bus.specs.lemmas.MemoryLemmas.{all_from-each, all_from-true, length-bytes_at}
use Rattle.guest_memory.specs.lemmas.FlatTerms.{StandsInArea, IsSpace, StandsInEntry}
use Rattle.guest_memory.specs.Flat.{area_in, listed, memory_in}
use Rattle.guest_memory.specs.Memories.{ArePlaced, first_refused}
use Rattle.guest_memory.specs.lemmas.MemoriesTerms.{allows_byte, refuses}
use Rattle.guest_memory.specs.declared.access.Access.{Access}
use Rattle.guest_memory.specs.declared.access.Access.TheVariants.{Read, Write}
use Rattle.guest_memory.specs.declared.entry.Entry.{Entry}
use Rattle.guest_memory.specs.declared.entry.Place.{Place}
use Rattle.guest_memory.proofs.AccessLemmas.{by_entry, bytes_stand, bytes_written}
use Rattle.guest_memory.proofs.AreaLemmas.{covers_at, listed_at, placed_at, readable_at, writable_at, writable_readable}

-- twice not
pub not_not : (b : Bool) → not (not b) ≡ b
not_not true = refl
not_not false = refl

-- after addresses that all are allowed the first refused is that of the rest
pub first_refused-on : (allowed : ℕ → Bool) (address piece left : ℕ) → all_from allowed address piece ≡ true → piece ≤ left → first_refused allowed (address + piece) (left - piece) ≡ first_refused allowed address left
first_refused-on allowed address zero left all within =
    let same : address + 0 ≡ address = omega arith in
    let rest : left - 0 ≡ left = omega arith in
    rw (same, rest)
first_refused-on allowed address (suc piece) zero all within = absurd (omega arith)
first_refused-on allowed address (suc piece) (suc left) all within =
    let parts = and_parts (allowed address) (all_from allowed (suc address) piece) all in
    let same : address + suc piece ≡ suc address + piece = omega arith in
    let rest : suc left - suc piece ≡ left - piece = omega arith in
    rw (same, rest, parts.0) (first_refused-on allowed (suc address) piece left parts.1 (omega arith))

-- the prefix of a range that is allowed is allowed
pub all_from-front : (allowed : ℕ → Bool) (address count front : ℕ) → all_from allowed address count ≡ true → front ≤ count → all_from allowed address front ≡ true
all_from-front allowed address count front all within = all_from-true allowed address front (λ q from under. all_from-each allowed address count q all from (omega arith))

-- where the first of some addresses is not allowed, it is the first refused
pub first_refused-here : (allowed : ℕ → Bool) (address left : ℕ) → allowed address ≡ false → 0 < left → first_refused allowed address left ≡ Some address
first_refused-here allowed address zero none some = absurd (omega arith)
first_refused-here allowed address (suc left) none some = rw none

-- all are allowed exactly where none is refused
pub all_from-none : (allowed : ℕ → Bool) (address count : ℕ) → all_from allowed address count ≡ not (is_some (first_refused allowed address count))
all_from-none allowed address zero = refl
all_from-none allowed address (suc count) = at (allowed address) (all_from-none allowed (suc address) count)
  where
    at : (b : Bool) → all_from allowed (suc address) count ≡ not (is_some (first_refused allowed (suc address) count))
        → (b && all_from allowed (suc address) count) ≡ not (is_some (cond b (first_refused allowed (suc address) count) (Some address)))
    at true later = later
    at false later = refl

-- where none is refused, all are allowed
pub all_allowed : (allowed : ℕ → Bool) (address count : ℕ) → first_refused allowed address count ≡ None → all_from allowed address count ≡ true
all_allowed allowed address count none = all_from-none allowed address count ∙ ap (λ (found : Option ℕ). not (is_some found)) none

-- where all are allowed, none is refused
pub none_refused : (allowed : ℕ → Bool) (address count : ℕ) → all_from allowed address count ≡ true → first_refused allowed address count ≡ None
none_refused allowed address zero all = refl
none_refused allowed address (suc count) all =
    let parts = and_parts (allowed address) (all_from allowed (suc address) count) all in
    rw (parts.0) (none_refused allowed (suc address) count parts.1)

-- an access to an address that may not be read is not allowed
pub nothing_allowed : (access : Access) (areas : List Area) (q : ℕ) → is_readable areas q ≡ false → allows_byte access areas q ≡ false
nothing_allowed Read areas q none = none
nothing_allowed Write areas q none = writable_readable areas q none

-- an access is allowed where the one area that has the address does not refuse it
allowed_in : (access : Access) (areas : List Area) (k q : ℕ) (area : Area) → ArePlaced areas → slice_get areas k ≡ Some area → holds_address q area ≡ true → allows_byte access areas q ≡ not (refuses access area.read_only)
allowed_in Read areas k q area placed is has = readable_at areas k q area is has
allowed_in Write areas k q area placed is has = writable_at areas k q area placed.apart is has

-- the rest of an area that does not refuse an access is allowed
pub room_allowed : (access : Access) (entries : List Entry) (place : Place) (q : ℕ) → ArePlaced (listed entries) → StandsInArea q 1 place entries → refuses access place.read_only ≡ false
    → all_from (allows_byte access (listed entries)) q place.room ≡ true
room_allowed access entries place q placed stands free = by_entry entries place q 1 stands (λ entry is here.
    all_from-true (allows_byte access (listed entries)) q place.room (λ p from under.
    allowed_in access (listed entries) place.area p (area_in entry) placed (listed_at entries place.area entry is) (covers_at (area_in entry) p (omega (arith, here.from)) (omega (arith, here.room)))
    ∙ ap (λ (only : Bool). not (refuses access only)) (sym here.read_only) ∙ ap not free))

-- it ends at or below 2^32, and has at least one byte
pub room_ends : (entries : List Entry) (place : Place) (q : ℕ) → ArePlaced (listed entries) → StandsInArea q 1 place entries → (0 < place.room) × (q + place.room ≤ 2 ^ 32)
room_ends entries place q placed stands = by_entry entries place q 1 stands (λ entry is here.
    let whole = placed_at (listed entries) place.area (area_in entry) placed.each (listed_at entries place.area entry is) in
    (omega (arith, here.room, here.fits), omega (arith, here.room, whole.ends)))

-- an area that refuses an access
pub room_refused : (access : Access) (entries : List Entry) (place : Place) (q : ℕ) → ArePlaced (listed entries) → StandsInArea q 1 place entries → refuses access place.read_only ≡ true → allows_byte access (listed entries) q ≡ false
room_refused access entries place q placed stands refused = by_entry entries place q 1 stands (λ entry is here.
    allowed_in access (listed entries) place.area q (area_in entry) placed (listed_at entries place.area entry is) (covers_at (area_in entry) q here.from (omega (arith, here.fits)))
    ∙ ap (λ (only : Bool). not (refuses access only)) (sym here.read_only) ∙ ap not refused)

-- this many bytes up to the end of an area
pub room_stands : (entries : List Entry) (place : Place) (q n : ℕ) → StandsInArea q 1 place entries → n ≤ place.room → StandsInArea q n place entries
room_stands entries place q n stands within = by_entry entries place q 1 stands (λ entry is here.
    let all : StandsInEntry q n place entry = record { from = here.from; fits = omega (arith, here.room); byte = here.byte; room = here.room; read_only = here.read_only } in
    rw is all)

-- the bytes of a range in two parts
pub bytes_at-add : (m : Memory) (a n k : ℕ) → bytes_at m a (n + k) ≡ bytes_at m a n ++ bytes_at m (a + n) k
bytes_at-add m a zero k =
    let same : a + 0 ≡ a = omega arith in
    let none : 0 + k ≡ k = omega arith in
    rw (same, none)
bytes_at-add m a (suc n) k =
    let same : a + suc n ≡ suc a + n = omega arith in
    let more : suc n + k ≡ suc (n + k) = omega arith in
    rw (more, same, bytes_at-add m (suc a) n k)

-- bytes written in two parts
pub with_bytes-append : (m : Memory) (a : ℕ) (xs ys : List ℕ) → with_bytes m a (xs ++ ys) ≡ with_bytes (with_bytes m a xs) (a + length xs) ys
with_bytes-append m a [] ys = let same : a + 0 ≡ a = omega arith in rw same
with_bytes-append m a (x ∷ xs) ys =
    let same : a + suc (length xs) ≡ suc a + length xs = omega arith in
    rw same (with_bytes-append (insert m a x) (suc a) xs ys)

-- a piece of a range is read from the area that has its first address
pub piece_read : (entries : List Entry) (bytes : List ℕ) (place : Place) (address count done : ℕ) (into new part : List ℕ) → IsSpace entries bytes → StandsInArea address 1 place entries → count ≤ place.room
    → part ≡ take count (drop place.byte bytes) → new ≡ put_mid done (length part) into part → new ≡ put_mid done count into (bytes_at (memory_in (listed entries) bytes) address count)
piece_read entries bytes place address count done into new part space stands within part_is changed =
    let same : part ≡ bytes_at (memory_in (listed entries) bytes) address count = part_is ∙ sym (bytes_stand entries bytes place address count space (room_stands entries place address count stands within)) in
    changed ∙ ap (λ (p : List ℕ). put_mid done (length p) into p) same
    ∙ ap (λ (n : ℕ). put_mid done n into (bytes_at (memory_in (listed entries) bytes) address count)) (length-bytes_at (memory_in (listed entries) bytes) address count)

-- a piece of some bytes is written to the area that has the address
pub piece_written : (entries : List Entry) (bytes new : List ℕ) (place : Place) (address count : ℕ) (from : List ℕ) → IsSpace entries bytes → StandsInArea address 1 place entries → count ≤ place.room → count ≤ length from
    → new ≡ put_mid place.byte (length (take count from)) bytes (take count from) → memory_in (listed entries) new ≡ with_bytes (memory_in (listed entries) bytes) address (take count from)
piece_written entries bytes new place address count from space stands within fits put =
    let counted : length (take count from) ≡ count = omega (arith, length-take count from) in
    ap (memory_in (listed entries)) put
    ∙ bytes_written entries bytes (take count from) place address (length (take count from)) space (room_stands entries place address (length (take count from)) stands (omega (arith, counted))) refl

-- as many bytes as before are a space
pub still_space : (entries : List Entry) (bytes new : List ℕ) → IsSpace entries bytes → length new ≡ length bytes → IsSpace entries new
still_space entries bytes new space same = record { placed = space.placed; follow = space.follow; whole = same ∙ space.whole }

-- a range of which a piece more was read
pub read_more : (m : Memory) (address done n : ℕ) (old new : List ℕ) → done + n ≤ length old → take done old ≡ bytes_at m address done → new ≡ put_mid done n old (bytes_at m (address + done) n)
    → take (done + n) new ≡ bytes_at m address (done + n)
read_more m address done n old new within front changed =
    let counted : done + n ≡ done + length (bytes_at m (address + done) n) = omega (arith, length-bytes_at m (address + done) n) in
    ap (take (done + n)) changed ∙ take-put_mid done n old (bytes_at m (address + done) n) (done + n) counted (omega arith)
    ∙ ap (λ (f : List ℕ). f ++ bytes_at m (address + done) n) front ∙ sym (bytes_at-add m address done n)

-- bytes of which a piece more was written
pub written_more : (old mid new : Memory) (address done n : ℕ) (from : List ℕ) → done + n ≤ length from → mid ≡ with_bytes old address (take done from)
    → new ≡ with_bytes mid (address + done) (take n (take (length from - done) (drop done from))) → new ≡ with_bytes old address (take (done + n) from)
written_more old mid new address done n from within front changed =
    let rest : take (length from - done) (drop done from) ≡ drop done from = take_rest from done in
    let counted : length (take done from) ≡ done = omega (arith, length-take done from) in
    let joined : take done from ++ take n (drop done from) ≡ take (done + n) from = sym (take-add done n from) in
    changed ∙ ap (λ (r : List ℕ). with_bytes mid (address + done) (take n r)) rest ∙ ap (λ (m : Memory). with_bytes m (address + done) (take n (drop done from))) front
    ∙ ap (λ (k : ℕ). with_bytes (with_bytes old address (take done from)) (address + k) (take n (drop done from))) (sym counted)
    ∙ sym (with_bytes-append old address (take done from) (take n (drop done from))) ∙ ap (with_bytes old address) joined
