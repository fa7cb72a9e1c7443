-- Passes over lists, tables, and the lines of each element, read at one place.
use Rattle.std.proofs.Common.{◌≡◌, ℕ, zero, suc, ◌<◌, Bool, true, false, cond, List, [], ◌∷◌, ◌++◌, length, map, Option, None, Some, refl, ap, arith}
use Rattle.std.specs.Prelude.{slice_get, slice_index_or}
use Rattle.std.specs.List.{filter}
use Rattle.xm_base.specs.Options.{on}
use Rattle.machine_model.specs.Lists.{each, table}

-- a pass, read at a place
pub get_each : {X Y : Type 0} (f : ℕ → X → Y) (xs : List X) (p : ℕ) → slice_get (each f xs) p ≡ on (f p) (slice_get xs p)
get_each f [] p = refl
get_each f (x ∷ xs) zero = refl
get_each f (x ∷ xs) (suc p) = get_each (λ k. f (suc k)) xs p

-- a map, read at a place
pub get_map : {X Y : Type 0} (f : X → Y) (xs : List X) (p : ℕ) → slice_get (map f xs) p ≡ on f (slice_get xs p)
get_map f [] p = refl
get_map f (x ∷ xs) zero = refl
get_map f (x ∷ xs) (suc p) = get_map f xs p

-- a table, read at a place that it has
pub get_table : {Y : Type 0} (f : ℕ → Y) (n p : ℕ) → p < n → slice_get (table f n) p ≡ Some (f p)
get_table f zero p below = absurd (omega (arith, below))
get_table f (suc n) zero below = refl
get_table f (suc n) (suc p) below = get_table (λ k. f (suc k)) n p (omega (arith, below))

-- tables of equal functions are equal
pub same_tables : {Y : Type 0} (f g : ℕ → Y) (n : ℕ) → ((p : ℕ) → f p ≡ g p) → table f n ≡ table g n
same_tables f g zero same = refl
same_tables f g (suc n) same = rw (same 0, same_tables (λ k. f (suc k)) (λ k. g (suc k)) n (λ k. same (suc k))) refl

-- a pass over a table is a table
pub each_table : {X Y : Type 0} (f : ℕ → X → Y) (g : ℕ → X) (n : ℕ) → each f (table g n) ≡ table (λ k. f k (g k)) n
each_table f g zero = refl
each_table f g (suc n) = ap (λ rest. f 0 (g 0) ∷ rest) (each_table (λ k. f (suc k)) (λ k. g (suc k)) n)

-- a map over a table is a table
pub map_table : {X Y : Type 0} (f : X → Y) (g : ℕ → X) (n : ℕ) → map f (table g n) ≡ table (λ k. f (g k)) n
map_table f g zero = refl
map_table f g (suc n) = ap (λ rest. f (g 0) ∷ rest) (map_table f (λ k. g (suc k)) n)

-- a table of options, read at a place with none after its end: what is there is the function's
pub table_or_none : {Y : Type 0} (P : Option Y → Type 0) (f : ℕ → Option Y) (n p : ℕ) → P (slice_index_or (table f n) p None) → (P None → P (f p)) → P (f p)
table_or_none P f zero p at none = none at
table_or_none P f (suc n) zero at none = at
table_or_none P f (suc n) (suc p) at none = table_or_none P (λ k. f (suc k)) n p at none

-- a pass and a table have as many elements
pub each_counted : {X Y : Type 0} (f : ℕ → X → Y) (xs : List X) → length (each f xs) ≡ length xs
each_counted f [] = refl
each_counted f (x ∷ xs) = ap suc (each_counted (λ k. f (suc k)) xs)

pub table_counted : {Y : Type 0} (f : ℕ → Y) (n : ℕ) → length (table f n) ≡ n
table_counted f zero = refl
table_counted f (suc n) = ap suc (table_counted (λ k. f (suc k)) n)

-- a filter of two lists
pub filter_append : {X : Type 0} (test : X → Bool) (xs ys : List X) → filter test (xs ++ ys) ≡ filter test xs ++ filter test ys
filter_append test [] ys = refl
filter_append test (x ∷ xs) ys = at (test x) (filter_append test xs ys)
  where
    at : (b : Bool) → filter test (xs ++ ys) ≡ filter test xs ++ filter test ys → cond b (x ∷ filter test (xs ++ ys)) (filter test (xs ++ ys)) ≡ cond b (x ∷ filter test xs) (filter test xs) ++ filter test ys
    at true further = ap (λ rest. x ∷ rest) further
    at false further = further

-- a table of options, read with none after its end
pub table_at : {Y : Type 0} (f : ℕ → Option Y) (n r : ℕ) → r < n → slice_index_or (table f n) r None ≡ f r
table_at f zero r below = absurd (omega (arith, below))
table_at f (suc n) zero below = refl
table_at f (suc n) (suc r) below = table_at (λ k. f (suc k)) n r (omega (arith, below))
