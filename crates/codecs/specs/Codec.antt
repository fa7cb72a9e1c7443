-- A format is a value: which values have a spelling, how they are spelled, and how they are read. Formats are made of formats, in these ways.
use Rattle.std.specs.Prelude.{ℕ, zero, suc, ◌*◌, ◌^◌, ◌==◌, Bool, true, false, ◌&&◌, if◌then◌else◌, nat_lt, List, [], ◌∷◌, ◌++◌, length, Option, Some, None, is_none, is_some, Result, Ok, Err}
use Rattle.std.specs.Int.{Width, byte_len, to_be_bytes}
use Rattle.std.specs.Str.{bytes_eq}
use Rattle.xm_base.specs.Cursor.{Place}
use Rattle.file_headers.specs.Fields.{field_bytes, number_at}
use Rattle.file_headers.specs.Steps.{◌>>=◌, unless}

-- a format of values X, whose reading has faults F: the values that it spells, their bytes, and what is read at a place with the place after it
pub record Codec (F X : Type 0) : Type 0 where
  pub fits : X → Bool
  pub spell : X → List ℕ
  pub read : Place → Result (X × Place) F

-- what was read, as another value
abbrev pub value_as : {A X F : Type 0} → (A → X) → Result (A × Place) F → Result (X × Place) F
value_as to read = read >>= λ a. Ok (to a.0, a.1)

-- the numbers of a width are below this
abbrev pub limit_of : Width → ℕ
limit_of width = 2 ^ (8 * byte_len width)

-- a big endian number of a width
abbrev pub any_number : {F : Type 0} → (ℕ → F) → Width → Codec F ℕ
any_number short width = record {
  fits = λ n. nat_lt n (limit_of width);
  spell = λ n. to_be_bytes width n;
  read = λ place. number_at short width place;
}

-- bytes, this many
abbrev pub raw_bytes : {F : Type 0} → (ℕ → F) → ℕ → Codec F (List ℕ)
raw_bytes short count = record {
  fits = λ bytes. length bytes == count;
  spell = λ bytes. bytes;
  read = λ place. field_bytes short count place;
}

-- one text that has to stand there; another is a fault at its beginning
abbrev pub fixed_text : {F : Type 0} → (ℕ → F) → (ℕ → F) → List ℕ → Codec F (Unit {0})
fixed_text short wrong text = record {
  fits = λ u. true;
  spell = λ u. text;
  read = λ place. field_bytes short (length text) place >>= λ bytes. unless (bytes_eq bytes.0 text) (wrong place.at) (tt, bytes.1);
}

-- no bytes, and nothing to be known
abbrev pub no_bytes : {F : Type 0} → Codec F (Unit {0})
no_bytes = record { fits = λ u. true; spell = λ u. []; read = λ place. Ok (tt, place) }

-- two values, one after the other: the format of the second may depend on the first
abbrev pub pair : {F A B : Type 0} → Codec F A → (A → Codec F B) → Codec F (A × B)
pair first second = record {
  fits = λ both. first.fits both.0 && (second both.0).fits both.1;
  spell = λ both. first.spell both.0 ++ (second both.0).spell both.1;
  read = λ place. first.read place >>= λ a. value_as (λ b. (a.0, b)) ((second a.0).read a.1);
}

-- the same bytes for other values, as a record for a tuple
abbrev pub through : {F A X : Type 0} → (A → X) → (X → A) → Codec F A → Codec F X
through to from c = record {
  fits = λ x. c.fits (from x);
  spell = λ x. c.spell (from x);
  read = λ place. value_as to (c.read place);
}

-- the same, where only some of the other values have bytes
abbrev pub through_where : {F A X : Type 0} → (X → Bool) → (A → X) → (X → A) → Codec F A → Codec F X
through_where good to from c = record {
  fits = λ x. c.fits (from x) && good x;
  spell = λ x. c.spell (from x);
  read = λ place. value_as to (c.read place);
}

-- the value that a code means; where it means none, a fault
abbrev pub or_refused : {F X : Type 0} → F → Place → Option X → Result (X × Place) F
or_refused fault after None = Err fault
or_refused fault after (Some x) = Ok (x, after)

-- values by their codes, as enums and flags; a code that means none is a fault at its beginning
abbrev pub coded : {F A X : Type 0} → (ℕ → F) → (A → Option X) → (X → A) → Codec F A → Codec F X
coded refused meaning code c = record {
  fits = λ x. c.fits (code x) && is_some (meaning (code x));
  spell = λ x. c.spell (code x);
  read = λ place. c.read place >>= λ a. or_refused (refused place.at) a.1 (meaning a.0);
}

-- first a key, which follows from the value, then the value in the format of its key: lists after their number, sums after their tag, parts
-- after whether they are there
abbrev pub keyed : {F A X : Type 0} → Codec F A → (A → Codec F X) → (X → A) → Codec F X
keyed keys of key = record {
  fits = λ x. keys.fits (key x) && (of (key x)).fits x;
  spell = λ x. keys.spell (key x) ++ (of (key x)).spell x;
  read = λ place. keys.read place >>= λ a. (of a.0).read a.1;
}

-- a value that is there
abbrev pub present_fits : {F X : Type 0} → Codec F X → Option X → Bool
present_fits c None = false
present_fits c (Some x) = c.fits x

abbrev pub present_spelled : {F X : Type 0} → Codec F X → Option X → List ℕ
present_spelled c None = []
present_spelled c (Some x) = c.spell x

abbrev pub present : {F X : Type 0} → Codec F X → Codec F (Option X)
present c = record {
  fits = λ found. present_fits c found;
  spell = λ found. present_spelled c found;
  read = λ place. value_as (λ x. Some x) (c.read place);
}

-- no value, and the bytes that stand for it
abbrev pub absent : {F X : Type 0} → Codec F (Unit {0}) → Codec F (Option X)
absent c = through_where (λ found. is_none found) (λ u. None) (λ found. tt) c

-- whether a value is there, and then the value, or the bytes that stand for none
abbrev pub optional : {F X : Type 0} → Codec F Bool → Codec F X → Codec F (Unit {0}) → Codec F (Option X)
optional there some none = keyed there (λ is. if is then present some else absent none) (λ found. is_some found)

-- a value that has to pass a test when all of it is read; one that does not is a fault by its beginning and by the value
abbrev pub tested : {F X : Type 0} → (ℕ → X → F) → (X → Bool) → Codec F X → Codec F X
tested refused test c = record {
  fits = λ x. c.fits x && test x;
  spell = λ x. c.spell x;
  read = λ place. c.read place >>= λ x. unless (test x.0) (refused place.at x.0) x;
}

-- a big endian number that has to pass a test
abbrev pub number : {F : Type 0} → (ℕ → F) → (ℕ → ℕ → F) → Width → (ℕ → Bool) → Codec F ℕ
number short refused width test = tested refused test (any_number short width)

-- whether these are items one after the other, at most this many, up to a state that is an end: the format of an item depends on the state
-- that those before it left
abbrev pub items_fit : {F S X : Type 0} → (S → Bool) → (S → Codec F X) → (S → X → S) → ℕ → S → List X → Bool
items_fit done item next zero state [] = true
items_fit done item next zero state (x ∷ xs) = false
items_fit done item next (suc most) state [] = done state
items_fit done item next (suc most) state (x ∷ xs) = (if done state then false else (item state).fits x) && items_fit done item next most (next state x) xs

-- their bytes
abbrev pub items_spelled : {F S X : Type 0} → (S → Codec F X) → (S → X → S) → S → List X → List ℕ
items_spelled item next state [] = []
items_spelled item next state (x ∷ xs) = (item state).spell x ++ items_spelled item next (next state x) xs

-- their reading
unfoldable pub items_read : {F S X : Type 0} → (S → Bool) → (S → Codec F X) → (S → X → S) → ℕ → S → Place → Result (List X × Place) F
items_read done item next zero state place = Ok ([], place)
items_read done item next (suc most) state place =
    if done state then Ok ([], place)
    else ((item state).read place >>= λ x. value_as (λ xs. x.0 ∷ xs) (items_read done item next most (next state x.0) x.1))

-- items one after the other
abbrev pub items : {F S X : Type 0} → (S → Bool) → (S → Codec F X) → (S → X → S) → ℕ → S → Codec F (List X)
items done item next most state = record {
  fits = λ xs. items_fit done item next most state xs;
  spell = λ xs. items_spelled item next state xs;
  read = λ place. items_read done item next most state place;
}

-- items of one format, exactly this many
abbrev pub times : {F X : Type 0} → ℕ → Codec F X → Codec F (List X)
times count c = items (λ (u : Unit {0}). false) (λ u. c) (λ u x. u) count tt

-- a list after its number
abbrev pub counted : {F X : Type 0} → Codec F ℕ → Codec F X → Codec F (List X)
counted count c = keyed count (λ n. times n c) (λ xs. length xs)

-- items after their number: the format of an item depends on the state that those before it left
abbrev pub counted_items : {F S X : Type 0} → Codec F ℕ → (S → Codec F X) → (S → X → S) → S → Codec F (List X)
counted_items count item next first = keyed count (λ n. items (λ state. false) item next n first) (λ xs. length xs)

-- whether these are items, one for each of a list that is known
abbrev pub each_fits : {F A X : Type 0} → (A → Codec F X) → List A → List X → Bool
each_fits part [] [] = true
each_fits part [] (x ∷ xs) = false
each_fits part (a ∷ known) [] = false
each_fits part (a ∷ known) (x ∷ xs) = (part a).fits x && each_fits part known xs

-- their bytes
abbrev pub each_spelled : {F A X : Type 0} → (A → Codec F X) → List A → List X → List ℕ
each_spelled part [] xs = []
each_spelled part (a ∷ known) [] = []
each_spelled part (a ∷ known) (x ∷ xs) = (part a).spell x ++ each_spelled part known xs

-- their reading
unfoldable pub each_read : {F A X : Type 0} → (A → Codec F X) → List A → Place → Result (List X × Place) F
each_read part [] place = Ok ([], place)
each_read part (a ∷ known) place = (part a).read place >>= λ x. value_as (λ xs. x.0 ∷ xs) (each_read part known x.1)

-- an item for each of a list that is known, in the format that it has there
abbrev pub each_of : {F A X : Type 0} → (A → Codec F X) → List A → Codec F (List X)
each_of part known = record {
  fits = λ xs. each_fits part known xs;
  spell = λ xs. each_spelled part known xs;
  read = λ place. each_read part known place;
}
