-- Two digests are reported exactly where they differ.
use Rattle.std.proofs.Common.{◌≡◌, ℕ, Bool, true, false, cond, List, length, take, Result, Ok, Err, refl, sym, ap, ◌∙◌}
use Rattle.std.specs.Prelude.{◌≢◌, ◌↔◌, nat_lt}
use Rattle.std.specs.Int.{Width, w16, w32, byte_len, from_be_bytes}
use Rattle.std.specs.Str.{bytes_eq}
use Rattle.std.proofs.lemmas.Bool.{false≢true}
use Rattle.std.proofs.lemmas.Slice.Eq.{bytes_eq-Decides}
use Rattle.xm_base.specs.Cursor.{Place, left, next, past, cursor_start}
use Rattle.file_headers.specs.lemmas.FaultsTerms.{AreApart}
use Rattle.file_headers.specs.Faults.{HeadFaults}
use Rattle.file_headers.specs.Fields.{field_bytes, number_at}
use Rattle.file_headers.specs.Heads.{IsForged, ReportsDigests, before_digest, count_before, found_digest, is_version, magic_at, stated_length, stated_version, stored_digest, unsealed, version_at}
use Rattle.file_headers.specs.Steps.{◌>>=◌, unless}

-- a reading that reports no digests
pub record IsPlain {A F : Type 0} (faults : HeadFaults F) (read : Result A F) : Type 0 where
  pub none : (s f : List ℕ) → read ≢ Err (faults.digest s f)

-- equal faults are equal, whatever their readings give
pub same_fault : {A F : Type 0} (one other : F) → (let failed : Result A F = Err one in failed ≡ Err other) → one ≡ other
same_fault one other e = cc

-- a value is no fault
pub value_is_none : {A F : Type 0} (faults : HeadFaults F) (value : A) → IsPlain faults (Ok value)
value_is_none faults value = record { none = λ s f e. absurd cc }

-- a fault that is none of digests
pub plain_fault : {A F : Type 0} (faults : HeadFaults F) (fault : F) → ((s f : List ℕ) → fault ≢ faults.digest s f) → (let failed : Result A F = Err fault in IsPlain faults failed)
plain_fault faults fault apart = record { none = λ s f e. apart s f (same_fault fault (faults.digest s f) e) }

-- steps that report no digests
pub plain_then : {A B F : Type 0} (faults : HeadFaults F) (read : Result A F) (next : A → Result B F) → IsPlain faults read → ((value : A) → IsPlain faults (next value)) → IsPlain faults (read >>= next)
plain_then faults (Ok value) next first more = more value
plain_then {A} {B} {F} faults (Err fault) next first more = plain_fault {A = B} faults fault (λ s f e. first.none s f (ap (λ (x : F). Err x) e))

-- a choice of two that report no digests
pub plain_cond : {A F : Type 0} (faults : HeadFaults F) (test : Bool) (one other : Result A F) → IsPlain faults one → IsPlain faults other → IsPlain faults (cond test one other)
plain_cond faults true one other first second = first
plain_cond faults false one other first second = second

-- bytes that are read
pub plain_bytes : {F : Type 0} (faults : HeadFaults F) (apart : AreApart faults) (count : ℕ) (place : Place) → IsPlain faults (field_bytes faults.short count place)
plain_bytes faults apart count place =
    plain_cond faults (nat_lt (left place) count) (Err (faults.short place.at)) (Ok (next count place, past count place))
    (plain_fault faults (faults.short place.at) (apart.short place.at)) (value_is_none faults _)

-- a number that is read
pub plain_number : {F : Type 0} (faults : HeadFaults F) (apart : AreApart faults) (width : Width) (place : Place) → IsPlain faults (number_at faults.short width place)
plain_number faults apart width place =
    plain_then faults (field_bytes faults.short (byte_len width) place) (λ bytes. Ok (from_be_bytes width bytes.0, bytes.1)) (plain_bytes faults apart (byte_len width) place) (λ bytes. value_is_none faults _)

plain_magic : {F : Type 0} (faults : HeadFaults F) (apart : AreApart faults) (name : List ℕ) (place : Place) → IsPlain faults (magic_at faults.short faults.magic name place)
unfolding magic_at
plain_magic faults apart name place =
    plain_then faults (field_bytes faults.short 4 place) (λ bytes. unless (bytes_eq bytes.0 name) faults.magic bytes.1) (plain_bytes faults apart 4 place)
    (λ bytes. plain_cond faults (bytes_eq bytes.0 name) (Ok bytes.1) (Err faults.magic) (value_is_none faults _) (plain_fault faults faults.magic apart.magic))

plain_version : {F : Type 0} (faults : HeadFaults F) (apart : AreApart faults) (latest : ℕ) (place : Place) → IsPlain faults (version_at faults.short faults.version latest place)
unfolding version_at
plain_version faults apart latest place =
    plain_then faults (number_at faults.short w16 place) (λ number. unless (is_version latest number.0) (faults.version number.0) number) (plain_number faults apart w16 place)
    (λ number. plain_cond faults (is_version latest number.0) (Ok number) (Err (faults.version number.0)) (value_is_none faults _) (plain_fault faults (faults.version number.0) (apart.version number.0)))

plain_stated : {F : Type 0} (faults : HeadFaults F) (apart : AreApart faults) (name : List ℕ) (latest : ℕ) (bytes : List ℕ) → IsPlain faults (stated_length faults name latest bytes)
unfolding stated_length
plain_stated faults apart name latest bytes =
    plain_then faults (magic_at faults.short faults.magic name (cursor_start bytes)) (λ named. version_at faults.short faults.version latest named >>= λ versioned. number_at faults.short w32 versioned.1 >>= λ size. Ok size.0) (plain_magic faults apart name (cursor_start bytes))
    (λ named. plain_then faults (version_at faults.short faults.version latest named) (λ versioned. number_at faults.short w32 versioned.1 >>= λ size. Ok size.0) (plain_version faults apart latest named)
    (λ versioned. plain_then faults (number_at faults.short w32 versioned.1) (λ size. Ok size.0) (plain_number faults apart w32 versioned.1) (λ size. value_is_none faults _)))

-- the version that a head says
pub plain_stated_version : {F : Type 0} (faults : HeadFaults F) (apart : AreApart faults) (name : List ℕ) (latest : ℕ) (bytes : List ℕ) → IsPlain faults (stated_version faults name latest bytes)
unfolding stated_version
plain_stated_version faults apart name latest bytes =
    plain_then faults (magic_at faults.short faults.magic name (cursor_start bytes)) (λ named. version_at faults.short faults.version latest named >>= λ versioned. Ok versioned.0) (plain_magic faults apart name (cursor_start bytes))
    (λ named. plain_then faults (version_at faults.short faults.version latest named) (λ versioned. Ok versioned.0) (plain_version faults apart latest named) (λ versioned. value_is_none faults _))

plain_count : {F : Type 0} (faults : HeadFaults F) (apart : AreApart faults) (size stated : ℕ) → IsPlain faults (count_before faults size stated)
unfolding count_before
plain_count faults apart size stated =
    plain_cond faults (nat_lt size stated) (Err (faults.short size)) _ (plain_fault faults (faults.short size) (apart.short size))
    (plain_cond faults (nat_lt stated size) (Err (faults.trailing stated)) _ (plain_fault faults (faults.trailing stated) (apart.trailing stated))
    (plain_cond faults (nat_lt size 16) (Err (faults.short size)) _ (plain_fault faults (faults.short size) (apart.short size)) (value_is_none faults _)))

plain_before : {F : Type 0} (faults : HeadFaults F) (apart : AreApart faults) (name : List ℕ) (latest : ℕ) (bytes : List ℕ) → IsPlain faults (before_digest faults name latest bytes)
unfolding before_digest
plain_before faults apart name latest bytes =
    plain_then faults (stated_length faults name latest bytes) (λ stated. count_before faults (length bytes) stated) (plain_stated faults apart name latest bytes) (λ stated. plain_count faults apart (length bytes) stated)

-- what is not equal is found so
not_equal : (xs ys : List ℕ) → xs ≢ ys → bytes_eq xs ys ≡ false
not_equal xs ys differ = at (bytes_eq xs ys) refl
  where
    at : (test : Bool) → bytes_eq xs ys ≡ test → bytes_eq xs ys ≡ false
    at true same = absurd (differ ((bytes_eq-Decides xs ys).0 same))
    at false other = other

-- the first step reports the digests where they differ
pub unsealed_reports : {F : Type 0} (faults : HeadFaults F) (apart : AreApart faults) (name : List ℕ) (latest : ℕ) (bytes s f : List ℕ)
    → (unsealed faults name latest bytes ≡ Err (faults.digest s f)) ↔ IsForged faults name latest bytes s f
unfolding unsealed
unsealed_reports {F} faults apart name latest bytes s f = (at (before_digest faults name latest bytes) refl, back)
  where
    chosen : (count : ℕ) (test : Bool) → bytes_eq (stored_digest count bytes) (found_digest count bytes) ≡ test → before_digest faults name latest bytes ≡ Ok count
        → unless test (faults.digest (stored_digest count bytes) (found_digest count bytes)) (take count bytes) ≡ Err (faults.digest s f) → IsForged faults name latest bytes s f
    chosen count true tested is e = absurd cc
    chosen count false tested is e =
        let equal : faults.digest (stored_digest count bytes) (found_digest count bytes) ≡ faults.digest s f = same_fault _ _ e in
        let s_is : s ≡ stored_digest count bytes = sym (apart.stored (stored_digest count bytes) (found_digest count bytes) s f equal) in
        let f_is : f ≡ found_digest count bytes = sym (apart.found (stored_digest count bytes) (found_digest count bytes) s f equal) in
        record {
          count = count;
          before = is;
          stored = s_is;
          found = f_is;
          differ = λ same. absurd (false≢true (sym tested ∙ (bytes_eq-Decides (stored_digest count bytes) (found_digest count bytes)).1 (sym s_is ∙ same ∙ f_is)));
        }

    at : (first : Result ℕ F) → before_digest faults name latest bytes ≡ first
        → (first >>= λ count. unless (bytes_eq (stored_digest count bytes) (found_digest count bytes)) (faults.digest (stored_digest count bytes) (found_digest count bytes)) (take count bytes)) ≡ Err (faults.digest s f)
        → IsForged faults name latest bytes s f
    at (Ok count) is e = chosen count (bytes_eq (stored_digest count bytes) (found_digest count bytes)) refl is e
    at (Err fault) is e = absurd ((plain_before faults apart name latest bytes).none s f (is ∙ ap (λ (x : F). Err x) (same_fault fault (faults.digest s f) e)))

    back : IsForged faults name latest bytes s f → unsealed faults name latest bytes ≡ Err (faults.digest s f)
    back is =
        let differ : stored_digest is.count bytes ≢ found_digest is.count bytes = λ same. is.differ (is.stored ∙ same ∙ sym is.found) in
        let test = not_equal (stored_digest is.count bytes) (found_digest is.count bytes) differ in
        let so : unless (bytes_eq (stored_digest is.count bytes) (found_digest is.count bytes)) (faults.digest (stored_digest is.count bytes) (found_digest is.count bytes)) (take is.count bytes) ≡ Err (faults.digest s f)
        = rw (test, is.stored, is.found) refl in
        rw is.before so

-- where the first step fails
pub unsealed_fails : {X F : Type 0} (faults : HeadFaults F) (apart : AreApart faults) (name : List ℕ) (latest : ℕ) (bytes : List ℕ) (fault : F) → unsealed faults name latest bytes ≡ Err fault
    → (let failed : Result X F = Err fault in ReportsDigests faults name latest bytes failed)
unsealed_fails {X} {F} faults apart name latest bytes fault is s f = (
  λ e. (unsealed_reports faults apart name latest bytes s f).0 (is ∙ ap (λ (x : F). Err x) (same_fault fault (faults.digest s f) e)),
  λ forged. ap (λ (x : F). Err x) (same_fault fault (faults.digest s f) (sym is ∙ (unsealed_reports faults apart name latest bytes s f).1 forged)),
)

-- where the first step does not fail, no digests differ
pub none_differ : {F : Type 0} (faults : HeadFaults F) (apart : AreApart faults) (name : List ℕ) (latest : ℕ) (bytes front s f : List ℕ) → unsealed faults name latest bytes ≡ Ok front → IsForged faults name latest bytes s f → ⊥
none_differ faults apart name latest bytes front s f is forged =
    (value_is_none faults front).none s f (sym is ∙ (unsealed_reports faults apart name latest bytes s f).1 forged)

-- where the first step does not fail, and neither does what follows, or by a fault that is none of digests
pub fields_report : {X F : Type 0} (faults : HeadFaults F) (apart : AreApart faults) (name : List ℕ) (latest : ℕ) (bytes front : List ℕ) (result : Result X F)
    → unsealed faults name latest bytes ≡ Ok front → IsPlain faults result → ReportsDigests faults name latest bytes result
fields_report faults apart name latest bytes front result is plain s f = (
  λ e. absurd (plain.none s f e),
  λ forged. absurd (none_differ faults apart name latest bytes front s f is forged),
)

-- the same of a fault with another type of value
pub reports_moved : {X Y F : Type 0} (faults : HeadFaults F) (name : List ℕ) (latest : ℕ) (bytes : List ℕ) (fault : F)
    → (let failed : Result X F = Err fault in ReportsDigests faults name latest bytes failed) → (let failed : Result Y F = Err fault in ReportsDigests faults name latest bytes failed)
reports_moved {X} {Y} {F} faults name latest bytes fault reports s f = (
  λ e. (reports s f).0 (ap (λ (x : F). Err x) (same_fault fault (faults.digest s f) e)),
  λ forged. ap (λ (x : F). Err x) (same_fault fault (faults.digest s f) ((reports s f).1 forged)),
)

-- the same of another value
pub reports_other : {X Y F : Type 0} (faults : HeadFaults F) (name : List ℕ) (latest : ℕ) (bytes : List ℕ) (value : X) (other : Y)
    → (let done : Result X F = Ok value in ReportsDigests faults name latest bytes done) → (let done : Result Y F = Ok other in ReportsDigests faults name latest bytes done)
reports_other faults name latest bytes value other reports s f = (
  λ e. absurd ((value_is_none faults other).none s f e),
  λ forged. absurd ((value_is_none faults value).none s f ((reports s f).1 forged)),
)
