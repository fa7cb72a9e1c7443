-- What a field reads, as a loop or a test finds it.
use Rattle.std.proofs.Common.{◌≡◌, ℕ, zero, suc, ◌+◌, ◌-◌, ◌≤◌, ◌<◌, ◌⊎◌, inl, inr, Bool, true, false, List, [], ◌∷◌, ◌++◌, length, map, take, drop, replicate, get_or, set, Some, Global, Vec, ◌%◌, ◌/◌, Result, Ok, Err, refl, sym, ap, ◌∙◌, append_assoc, add-one, arith}
use Rattle.std.specs.Prelude.{◌==◌, ◌&&◌, nat_lt, slice_get}
use Rattle.std.specs.List.{list_all}
use Rattle.std.specs.Str.{bytes_eq}
use Rattle.std.proofs.lemmas.Bool.Decides.{nat_tests}
use Rattle.std.proofs.lemmas.List.{append-nil, length-append, length-map, length-replicate, length-take-le, map-append, take_more_set}
use Rattle.codecs.specs.Codec.{Codec, each_read, items_read, value_as}
use Rattle.codecs.specs.Gives.{ReadsOr}
use Rattle.codecs.specs.lemmas.LoopLemmas.{with_front}
use Rattle.file_headers.specs.Fields.{field_bytes}
use Rattle.file_headers.specs.Gives.{IsRead}
use Rattle.file_headers.specs.Steps.{◌>>=◌, unless}
use Rattle.file_headers.specs.lemmas.GivesTerms.{IsReadAt}
use Rattle.machine_model.specs.Lists.{table}
use Rattle.saved_machines.specs.Saved.{SavedPartition}
use Rattle.saved_machines.specs.SavedFields.{flags_of, saved_field, saved_short, zeros}
use Rattle.saved_machines.specs.Values.{PartValues, part_of_values, parts_of_values}
use Rattle.saved_machines.specs.declared.fault.SavedFault.{SavedFault}
use Rattle.saved_machines.specs.declared.part.SavedParts.{SavedParts}
use Rattle.saved_machines.specs.lemmas.ReadTerms.{parts_value}
use Rattle.xm_base.specs.Cursor.{Place, ahead, left, next}

-- where memory cannot run out, the answer is the same
pub reads_or : {X Y F : Type 0} (memory : F) (view : X → Y) (answer : Result X F) (place : Place) (read : Result (Y × Place) F) → IsReadAt view answer place read → ReadsOr memory view answer place read
reads_or memory view (Ok x) place read is = is
reads_or memory view (Err fault) place read is = inr is

-- what is read without the place after it
pub read_alone : {X Y F : Type 0} (view : X → Y) (answer : Result X F) (place : Place) (read : Result (Y × Place) F) → IsReadAt view answer place read → IsRead view answer (read >>= λ y. Ok y.0)
read_alone {Y = Y} {F = F} view (Ok x) place read is = ap (λ (found : Result (Y × Place) F). found >>= λ y. Ok y.0) is
read_alone {Y = Y} {F = F} view (Err fault) place read is = ap (λ (found : Result (Y × Place) F). found >>= λ y. Ok y.0) is

-- bytes are zeros where each is one
all_zeros : (bytes : List ℕ) → bytes_eq bytes (replicate (length bytes) 0) ≡ list_all (λ byte. byte == 0) bytes
all_zeros [] = refl
all_zeros (byte ∷ bytes) = ap (λ (rest : Bool). (byte == 0) && rest) (all_zeros bytes)

-- zeros by a test of their bytes
abbrev pub zeros_by : (List ℕ → Bool) → Place → ℕ → Result (Unit {0} × Place) SavedFault
zeros_by test place count = field_bytes saved_short count place >>= λ bytes. unless (test bytes.0) (saved_field place.at) (tt, bytes.1)

-- zeros are read by a test of each
pub zeros_are : (place : Place) (count : ℕ) → (zeros count).read place ≡ zeros_by (list_all (λ byte. byte == 0)) place count
zeros_are place count = rw (length-replicate {A = ℕ} count 0) (at (nat_lt (left place) count) refl)
  where
    at : (short : Bool) → nat_lt (left place) count ≡ short → zeros_by (λ bytes. bytes_eq bytes (replicate count 0)) place count ≡ zeros_by (list_all (λ byte. byte == 0)) place count
    at true is = rw is refl
    at false is =
        let enough : count ≤ length (ahead place) = grind (arith, nat_tests) in
        let long : length (next count place) ≡ count = length-take-le count (ahead place) enough in
        let same : bytes_eq (next count place) (replicate count 0) ≡ list_all (λ byte. byte == 0) (next count place) = ap (λ n. bytes_eq (next count place) (replicate n 0)) (sym long) ∙ all_zeros (next count place) in
        rw (is, same) refl

-- an item that fails, where memory cannot run out
module _ {F X : Type 0} (c : Codec F X) where
  pub times_fail : (front : List X) (count i : ℕ) (place : Place) (fault : F) (total : Result (List X × Place) F) → i < count → c.read place ≡ Err fault
      → with_front front (items_read (λ (u : Unit {0}). false) (λ u. c) (λ u x. u) (count - i) tt place) ≡ total → total ≡ Err fault
  unfolding items_read
  times_fail front count i place fault total below read so_far =
      let more : count - i ≡ suc (count - (i + 1)) = omega arith in
      sym so_far ∙ rw (more, read) refl

-- what was read, and what is still read with one item more before it
regroup : {F X : Type 0} (front : List X) (x : X) (read : Result (List X × Place) F) → with_front front (value_as (λ xs. x ∷ xs) read) ≡ with_front (front ++ x ∷ []) read
regroup front x (Ok xs) = ap (λ all. Ok (all, xs.1)) (sym (append_assoc front (x ∷ []) xs.0))
regroup front x (Err fault) = refl

-- nothing was read before
from_none : {F X : Type 0} (front : List X) (read : Result (List X × Place) F) → front ≡ [] → with_front front read ≡ read
from_none front (Ok xs) none = rw none refl
from_none front (Err fault) none = refl

-- an item for each of a list: none yet
pub each_begin : {F A X : Type 0} (part : A → Codec F X) (known : List A) (place : Place) (front : List X) → front ≡ [] → with_front front (each_read part (drop 0 known) place) ≡ each_read part known place
each_begin part known place front none = from_none front (each_read part known place) none

-- an item more
each_next : {F A X : Type 0} (part : A → Codec F X) (known : List A) (front : List X) (i : ℕ) (place : Place) (a : A) (x : X) (after : Place) (total : Result (List X × Place) F)
    → i < length known → a ≡ get_or known i a → (part a).read place ≡ Ok (x, after) → with_front front (each_read part (drop i known) place) ≡ total
    → with_front (front ++ x ∷ []) (each_read part (drop (suc i) known) after) ≡ total
unfolding each_read
each_next part [] front i place a x after total below here read so_far = absurd (omega (arith, below))
each_next {F} {A} {X} part (b ∷ known) front zero place a x after total below here read so_far =
    let first : (part b).read place ≡ Ok (x, after) = ap (λ (one : A). (part one).read place) (sym here) ∙ read in
    let one : with_front front (each_read part (b ∷ known) place) ≡ with_front (front ++ x ∷ []) (each_read part known after) = rw first (regroup front x (each_read part known after)) in
    sym one ∙ so_far
each_next part (b ∷ known) front (suc i) place a x after total below here read so_far = each_next part known front i place a x after total (omega (arith, below)) here read so_far

pub each_on : {F A X : Type 0} (part : A → Codec F X) (known : List A) (front : List X) (i : ℕ) (place : Place) (a : A) (x : X) (after : Place) (total : Result (List X × Place) F)
    → i < length known → a ≡ get_or known i a → (part a).read place ≡ Ok (x, after) → with_front front (each_read part (drop i known) place) ≡ total
    → with_front (front ++ x ∷ []) (each_read part (drop (i + 1) known) after) ≡ total
each_on part known front i place a x after total below here read so_far =
    let more : i + 1 ≡ suc i = add-one i in
    rw more (each_next part known front i place a x after total below here read so_far)

-- an item that fails
pub each_fail : {F A X : Type 0} (part : A → Codec F X) (known : List A) (front : List X) (i : ℕ) (place : Place) (a : A) (memory fault : F) (total : Result (List X × Place) F)
    → i < length known → a ≡ get_or known i a → (fault ≡ memory) ⊎ ((part a).read place ≡ Err fault) → with_front front (each_read part (drop i known) place) ≡ total
    → (fault ≡ memory) ⊎ (total ≡ Err fault)
unfolding each_read
each_fail part known front i place a memory fault total below here (inl out) so_far = inl out
each_fail part [] front i place a memory fault total below here (inr read) so_far = absurd (omega (arith, below))
each_fail {F} {A} {X} part (b ∷ known) front zero place a memory fault total below here (inr read) so_far =
    let first : (part b).read place ≡ Err fault = ap (λ (one : A). (part one).read place) (sym here) ∙ read in
    inr (sym so_far ∙ rw first refl)
each_fail part (b ∷ known) front (suc i) place a memory fault total below here (inr read) so_far =
    each_fail part known front i place a memory fault total (omega (arith, below)) here (inr read) so_far

-- all items
pub each_done : {F A X : Type 0} (part : A → Codec F X) (known : List A) (front : List X) (i : ℕ) (place : Place) (total : Result (List X × Place) F)
    → length known ≤ i → with_front front (each_read part (drop i known) place) ≡ total → total ≡ Ok (front, place)
unfolding each_read
each_done part [] front zero place total all so_far = sym so_far ∙ ap (λ xs. Ok (xs, place)) (append-nil front)
each_done part [] front (suc i) place total all so_far = sym so_far ∙ ap (λ xs. Ok (xs, place)) (append-nil front)
each_done part (b ∷ known) front zero place total all so_far = absurd (omega (arith, all))
each_done part (b ∷ known) front (suc i) place total all so_far = each_done part known front i place total (omega (arith, all)) so_far

-- all is taken
pub take_whole : {X : Type 0} (xs : List X) (i : ℕ) → length xs ≤ i → take i xs ≡ xs
take_whole [] zero all = refl
take_whole [] (suc i) all = refl
take_whole (x ∷ xs) zero all = absurd (omega (arith, all))
take_whole {X} (x ∷ xs) (suc i) all = ap (λ (rest : List X). x ∷ rest) (take_whole xs i (omega (arith, all)))

-- one more is seen as one more
pub map_more : {X Y : Type 0} (xs more : List X) (x : X) (f : X → Y) → more ≡ xs ++ x ∷ [] → map f more ≡ map f xs ++ f x ∷ []
map_more xs more x f is = ap (map f) is ∙ map-append f xs (x ∷ [])

-- a flag more
pub flags_more : (flags : List Bool) (i count rest : ℕ) (total : List Bool) → length flags ≡ count → i < count → take i flags ++ flags_of (count - i) rest ≡ total
    → take (i + 1) (set flags i (rest % 2 == 1)) ++ flags_of (count - (i + 1)) (rest / 2) ≡ total
unfolding flags_of
flags_more flags i count rest total long below so_far =
    let more : count - i ≡ suc (count - (i + 1)) = omega arith in
    let within : i < length flags = omega (arith, long, below) in
    let one : take i flags ++ flags_of (count - i) rest ≡ (take i flags ++ (rest % 2 == 1) ∷ []) ++ flags_of (count - (i + 1)) (rest / 2) = rw more (sym (append_assoc (take i flags) ((rest % 2 == 1) ∷ []) (flags_of (count - (i + 1)) (rest / 2)))) in
    ap (λ (front : List Bool). front ++ flags_of (count - (i + 1)) (rest / 2)) (take_more_set flags i (rest % 2 == 1) within) ∙ sym one ∙ so_far

-- all flags
pub flags_done : (flags : List Bool) (i count rest : ℕ) (total : List Bool) → length flags ≡ count → count ≤ i → take i flags ++ flags_of (count - i) rest ≡ total → flags ≡ total
unfolding flags_of
flags_done flags i count rest total long all so_far =
    let none : count - i ≡ 0 = omega arith in
    let one : take i flags ++ flags_of (count - i) rest ≡ flags = rw none (append-nil (take i flags) ∙ take_whole flags i (omega (arith, long, all))) in
    sym one ∙ so_far

-- the numbers of a table
pub length_table : {Y : Type 0} (f : ℕ → Y) (n : ℕ) → length (table f n) ≡ n
length_table f zero = refl
length_table f (suc n) = ap suc (length_table (λ k. f (suc k)) n)

pub numbered_there : {Y : Type 0} (f : ℕ → Y) (n p : ℕ) (other : Y) → p < n → f p ≡ get_or (table f n) p other
numbered_there f zero p other below = absurd (omega (arith, below))
numbered_there f (suc n) zero other below = refl
numbered_there f (suc n) (suc p) other below = numbered_there (λ k. f (suc k)) n p other (omega (arith, below))

-- a partition more
saved_more : (parts : List PartValues) (inputs : List (List ℕ)) (values : PartValues) (words : List ℕ) → length parts ≡ length inputs
    → parts_of_values (parts ++ values ∷ []) (inputs ++ words ∷ []) ≡ parts_of_values parts inputs ++ part_of_values values words ∷ []
saved_more [] [] values words same = refl
saved_more [] (i ∷ inputs) values words same = absurd (omega (arith, same))
saved_more (v ∷ parts) [] values words same = absurd (omega (arith, same))
saved_more (v ∷ parts) (i ∷ inputs) values words same = ap (λ (rest : List SavedPartition). part_of_values v i ∷ rest) (saved_more parts inputs values words (omega (arith, same)))

pub parts_more : (parts new : SavedParts) (values : PartValues) (words : Vec ℕ Global) → length parts.values.items ≡ length parts.inputs.items → new.values.items ≡ parts.values.items ++ values ∷ [] → new.inputs.items ≡ parts.inputs.items ++ words ∷ []
    → parts_value new ≡ parts_value parts ++ part_of_values values words.items ∷ []
parts_more parts new values words same put words_put =
    let seen = map_more parts.inputs.items new.inputs.items words (λ (one : Vec ℕ Global). one.items) words_put in
    let long = length-map parts.inputs.items (λ (one : Vec ℕ Global). one.items) in
    (λ i. parts_of_values (put i) (seen i)) ∙ saved_more parts.values.items (map (λ (one : Vec ℕ Global). one.items) parts.inputs.items) values words.items (omega (arith, same, long))

-- one more is one longer
pub length_more : {X : Type 0} (xs new : List X) (x : X) (n : ℕ) → new ≡ xs ++ x ∷ [] → length xs ≡ n → length new ≡ n + 1
length_more xs new x n is long = ap length is ∙ length-append xs (x ∷ []) ∙ ap (λ (k : ℕ). k + 1) long

-- what is there is there as another value
pub mapped_there : {X Y : Type 0} (f : X → Y) (xs : List X) (n : ℕ) (x : X) → slice_get xs n ≡ Some x → (n < length (map f xs)) × (f x ≡ get_or (map f xs) n (f x))
mapped_there f [] n x there = absurd cc
mapped_there {X} f (y ∷ xs) zero x there =
    let same : y ≡ x = cc in
    (omega arith, ap f (sym same))
mapped_there f (y ∷ xs) (suc n) x there =
    let rest = mapped_there f xs n x there in
    (omega (arith, rest.0), rest.1)
