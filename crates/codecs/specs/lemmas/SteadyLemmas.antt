-- Each way to make a format is steady, and a spelling that is cut is short.
use Rattle.std.proofs.Common.{◌≡◌, ℕ, zero, suc, ◌≤◌, inl, inr, Bool, true, false, cond, List, [], ◌∷◌, ◌++◌, length, take, Option, Some, None, Result, Ok, Err, refl, sym, ap, ◌∙◌, arith}
use Rattle.std.specs.Prelude.{◌≢◌, is_some, nat_lt}
use Rattle.std.specs.Int.{Width, byte_len, from_be_bytes}
use Rattle.std.specs.Str.{bytes_eq}
use Rattle.std.proofs.lemmas.Bool.{ltb-false, le-ltb}
use Rattle.std.proofs.lemmas.List.{append-nil, length-append, length-drop, take-append-le, drop-append-le, nil_from_length}
use Rattle.xm_base.specs.Cursor.{Place, ahead, cursor_start, left, next, past}
use Rattle.file_headers.specs.Fields.{field_bytes}
use Rattle.file_headers.specs.lemmas.StepLemmas.{ok_is}
use Rattle.file_headers.specs.Steps.{◌>>=◌, unless}
use Rattle.codecs.specs.Codec.{Codec, absent, any_number, coded, counted, counted_items, each_read, fixed_text, items, items_read, keyed, number, optional, or_refused, pair, present, tested, through, through_where, times, value_as}
use Rattle.codecs.specs.Files.{whole_file}
use Rattle.codecs.specs.Lawful.{IsLawful}
use Rattle.codecs.specs.Steady.{AnswersAlike, IsSteady, with_more}

-- a value without a read
pub steady_ok : {F X : Type 0} (short : ℕ → F) (x : X) → IsSteady short (λ place. Ok (x, place))
steady_ok short x place more within = (refl, within, omega arith, refl)

pub steady_unless : {F X : Type 0} (short : ℕ → F) (test : Bool) (fault : F) (x : X) → IsSteady short (λ place. unless test fault (x, place))
steady_unless short true fault x place more within = (refl, within, omega arith, refl)
steady_unless short false fault x place more within = inl refl

-- bytes, this many
pub steady_bytes : {F : Type 0} (short : ℕ → F) (count : ℕ) → IsSteady short (field_bytes short count)
steady_bytes {F} short count place more within = at (nat_lt (left place) count) refl
  where
    at : (few : Bool) → nat_lt (left place) count ≡ few
        → (let read : Result (List ℕ × Place) F = cond few (Err (short place.at)) (Ok (next count place, past count place)) in AnswersAlike short place more read (field_bytes short count (with_more place more)))
    at true is = inr (place.at, refl, omega arith, within)
    at false is =
        let enough : count ≤ left place = ltb-false _ _ is in
        let ahead_is : ahead (with_more place more) ≡ ahead place ++ more = drop-append-le place.at place.bytes more within in
        let long : nat_lt (left (with_more place more)) count ≡ false = le-ltb _ _ (omega (arith, ap length ahead_is, length-append (ahead place) more, enough)) in
        let front : next count (with_more place more) ≡ next count place = ap (take count) ahead_is ∙ take-append-le count (ahead place) more enough in
        (rw (long, front) refl, omega (arith, enough, length-drop place.at place.bytes), omega arith, refl)

-- from a later place
later : {F X : Type 0} (short : ℕ → F) (place from : Place) (more : List ℕ) (read long : Result (X × Place) F) → place.at ≤ from.at → from.bytes ≡ place.bytes → AnswersAlike short from more read long → AnswersAlike short place more read long
later short place from more (Ok x) long le is s = (s.0, s.1, omega (arith, le, s.2), s.3 ∙ is)
later short place from more (Err fault) long le is (inl e) = inl e
later short place from more (Err fault) long le is (inr e) = inr (e.0, e.1, omega (arith, le, e.2), omega (arith, e.3, ap length is))

-- one step after the other
pub steady_then : {F A B : Type 0} (short : ℕ → F) (read : Place → Result (A × Place) F) (after : ℕ → A × Place → Result (B × Place) F) → IsSteady short read → ((at : ℕ) (a : A) → IsSteady short (λ place. after at (a, place)))
    → IsSteady short (λ place. read place >>= after place.at)
steady_then {F} {A} {B} short read after one other place more within = at (read place) (read (with_more place more)) (one place more within)
  where
    at : (first long : Result (A × Place) F) → AnswersAlike short place more first long → AnswersAlike short place more (first >>= after place.at) (long >>= after place.at)
    at (Ok a) long s =
        rw s.0 (later short place a.1 more (after place.at a) (after place.at (a.0, with_more a.1 more)) s.2 s.3 (other place.at a.0 a.1 more s.1))
    at (Err fault) long (inl e) = inl (ap (λ r. r >>= after place.at) e)
    at (Err fault) long (inr e) = inr e

pub steady_as : {F A X : Type 0} (short : ℕ → F) (to : A → X) (read : Place → Result (A × Place) F) → IsSteady short read → IsSteady short (λ place. value_as to (read place))
steady_as short to read one = steady_then short read (λ at a. Ok (to a.0, a.1)) one (λ at a. steady_ok short (to a))

pub any_number_steady : {F : Type 0} (short : ℕ → F) (width : Width) → IsSteady short (any_number short width).read
any_number_steady short width = steady_as short (from_be_bytes width) (field_bytes short (byte_len width)) (steady_bytes short (byte_len width))

pub coded_steady : {F A X : Type 0} (short refused : ℕ → F) (meaning : A → Option X) (code : X → A) (c : Codec F A) → IsSteady short c.read → IsSteady short (coded refused meaning code c).read
coded_steady {F} {A} {X} short refused meaning code c one =
    steady_then short c.read (λ at a. or_refused (refused at) a.1 (meaning a.0)) one (λ at a. found at (meaning a))
  where
    found : (at : ℕ) (o : Option X) → IsSteady short (λ place. or_refused (refused at) place o)
    found at None place more within = inl refl
    found at (Some x) place more within = (refl, within, omega arith, refl)

pub fixed_text_steady : {F : Type 0} (short wrong : ℕ → F) (text : List ℕ) → IsSteady short (fixed_text short wrong text).read
fixed_text_steady short wrong text =
    steady_then short (field_bytes short (length text)) (λ at bytes. unless (bytes_eq bytes.0 text) (wrong at) (tt, bytes.1)) (steady_bytes short (length text))
    (λ at bytes. steady_unless short (bytes_eq bytes text) (wrong at) tt)

pub pair_steady : {F A B : Type 0} (short : ℕ → F) (first : Codec F A) (second : A → Codec F B) → IsSteady short first.read → ((a : A) → IsSteady short (second a).read) → IsSteady short (pair first second).read
pair_steady {F} {A} {B} short first second one other =
    steady_then short first.read (λ at a. value_as (λ (b : B). (a.0, b)) ((second a.0).read a.1)) one (λ at a. steady_as short (λ (b : B). (a, b)) (second a).read (other a))

pub through_steady : {F A X : Type 0} (short : ℕ → F) (to : A → X) (from : X → A) (c : Codec F A) → IsSteady short c.read → IsSteady short (through to from c).read
through_steady short to from c one = steady_as short to c.read one

pub through_where_steady : {F A X : Type 0} (short : ℕ → F) (good : X → Bool) (to : A → X) (from : X → A) (c : Codec F A) → IsSteady short c.read → IsSteady short (through_where good to from c).read
through_where_steady short good to from c one = steady_as short to c.read one

pub keyed_steady : {F A X : Type 0} (short : ℕ → F) (keys : Codec F A) (of : A → Codec F X) (key : X → A) → IsSteady short keys.read → ((a : A) → IsSteady short (of a).read) → IsSteady short (keyed keys of key).read
keyed_steady short keys of key one other = steady_then short keys.read (λ at a. (of a.0).read a.1) one (λ at a. other a)

pub tested_steady : {F X : Type 0} (short : ℕ → F) (refused : ℕ → X → F) (test : X → Bool) (c : Codec F X) → IsSteady short c.read → IsSteady short (tested refused test c).read
tested_steady short refused test c one = steady_then short c.read (λ at x. unless (test x.0) (refused at x.0) x) one (λ at x. steady_unless short (test x) (refused at x) x)

pub number_steady : {F : Type 0} (short : ℕ → F) (refused : ℕ → ℕ → F) (width : Width) (test : ℕ → Bool) → IsSteady short (number short refused width test).read
number_steady short refused width test = tested_steady short refused test (any_number short width) (any_number_steady short width)

pub items_steady : {F S X : Type 0} (short : ℕ → F) (done : S → Bool) (item : S → Codec F X) (next : S → X → S) → ((s : S) → IsSteady short (item s).read) → (most : ℕ) (state : S) → IsSteady short (items_read done item next most state)
unfolding items_read
items_steady short done item next each zero state = steady_ok short []
items_steady {F} {S} {X} short done item next each (suc most) state = at (done state) (λ s. items_steady short done item next each most s)
  where
    at : (ends : Bool) → ((s : S) → IsSteady short (items_read done item next most s))
        → IsSteady short (λ place. cond ends (Ok ([], place)) ((item state).read place >>= λ x. value_as (λ xs. x.0 ∷ xs) (items_read done item next most (next state x.0) x.1)))
    at true more = steady_ok short []
    at false more =
        steady_then short (item state).read (λ at x. value_as (λ xs. x.0 ∷ xs) (items_read done item next most (next state x.0) x.1)) (each state)
        (λ at x. steady_as short (λ xs. x ∷ xs) (items_read done item next most (next state x)) (more (next state x)))

pub each_steady : {F A X : Type 0} (short : ℕ → F) (part : A → Codec F X) → ((a : A) → IsSteady short (part a).read) → (known : List A) → IsSteady short (each_read part known)
unfolding each_read
each_steady short part all [] = steady_ok short []
each_steady {F} {A} {X} short part all (a ∷ known) =
    steady_then short (part a).read (λ at x. value_as (λ xs. x.0 ∷ xs) (each_read part known x.1)) (all a)
    (λ at x. steady_as short (λ xs. x ∷ xs) (each_read part known) (each_steady short part all known))

-- whether a value is there, and then it
pub optional_steady : {F X : Type 0} (short : ℕ → F) (there : Codec F Bool) (some : Codec F X) (none : Codec F (Unit {0})) → IsSteady short there.read → IsSteady short some.read → IsSteady short none.read
    → IsSteady short (optional there some none).read
optional_steady {F} {X} short there some none first one other = keyed_steady short there (λ is. cond is (present some) (absent none)) (λ (found : Option X). is_some found) first each
  where
    each : (is : Bool) → IsSteady short (cond is (present some) (absent none)).read
    each true = steady_as short (λ (x : X). Some x) some.read one
    each false = steady_as short (λ (u : Unit {0}). None) none.read other

-- items after their number
pub counted_items_steady : {F S X : Type 0} (short : ℕ → F) (count : Codec F ℕ) (item : S → Codec F X) (next : S → X → S) (first : S) → IsSteady short count.read → ((s : S) → IsSteady short (item s).read)
    → IsSteady short (counted_items count item next first).read
counted_items_steady short count item next first one each = keyed_steady short count (λ n. items (λ s. false) item next n first) (λ xs. length xs) one (λ n. items_steady short _ item next each n first)

-- items of one format, and lists after their number
pub times_steady : {F X : Type 0} (short : ℕ → F) (count : ℕ) (c : Codec F X) → IsSteady short c.read → IsSteady short (times count c).read
times_steady short count c one = items_steady short _ _ _ (λ u. one) count tt

pub counted_steady : {F X : Type 0} (short : ℕ → F) (count : Codec F ℕ) (c : Codec F X) → IsSteady short count.read → IsSteady short c.read → IsSteady short (counted count c).read
counted_steady short count c one other = keyed_steady short count (λ n. times n c) (λ xs. length xs) one (λ n. times_steady short n c other)

-- a spelling that is cut is short, at a place in it: of every format
pub cut_is_short : {F X : Type 0} (short : ℕ → F) (c : Codec F X) → IsLawful c → IsSteady short c.read → (x : X) (front rest : List ℕ) → c.fits x ≡ true → c.spell x ≡ front ++ rest → rest ≢ []
    → (at : ℕ) × (c.read (cursor_start front) ≡ Err (short at)) × (at ≤ length front)
cut_is_short {F} {X} short c law steady x front rest fits is some = at (c.read (cursor_start front)) (steady (cursor_start front) rest (omega arith))
  where
    whole : Result (X × Place) F
    whole = c.read (cursor_start (front ++ rest))

    at : (read : Result (X × Place) F) → AnswersAlike short (cursor_start front) rest read (c.read (cursor_start (front ++ rest))) → (at : ℕ) × (read ≡ Err (short at)) × (at ≤ length front)
    at (Ok y) s =
        let r = law.again (cursor_start (front ++ rest)) x [] fits (sym is ∙ sym (append-nil (c.spell x))) in
        let same : (let p : X × Place = (x, r.after) in p ≡ (y.0, with_more y.1 rest)) = ok_is (x, r.after) (y.0, with_more y.1 rest) (sym r.is ∙ s.0) in
        let none : ahead (with_more y.1 rest) ≡ [] = sym (ap (λ p. ahead p.1) same) ∙ r.later in
        let parts : ahead (with_more y.1 rest) ≡ ahead y.1 ++ rest = drop-append-le y.1.at y.1.bytes rest s.1 in
        absurd (some (nil_from_length rest (omega (arith, ap length (sym parts ∙ none), length-append (ahead y.1) rest))))
    at (Err fault) (inl e) =
        let r = law.again (cursor_start (front ++ rest)) x [] fits (sym is ∙ sym (append-nil (c.spell x))) in
        let both : Ok (x, r.after) ≡ Err fault = sym r.is ∙ e in
        absurd cc
    at (Err fault) (inr e) = (e.0, ap (λ f. Err f) e.1, e.3)

-- so is a file of one value that is cut
pub cut_file_is_short : {F X : Type 0} (short trailing : ℕ → F) (c : Codec F X) → IsLawful c → IsSteady short c.read → (x : X) (front rest : List ℕ) → c.fits x ≡ true → c.spell x ≡ front ++ rest → rest ≢ []
    → (at : ℕ) × ((whole_file trailing c).read front ≡ Err (short at)) × (at ≤ length front)
cut_file_is_short short trailing c law steady x front rest fits is some =
    let cut = cut_is_short short c law steady x front rest fits is some in
    (cut.0, rw cut.1 refl, cut.2)
