-- What is read with other faults is what was read, with its fault as another one.
use Rattle.std.proofs.Common.{◌≡◌, ℕ, Bool, true, false, cond, List, length, take, Result, Ok, Err, refl, sym, ap, ◌∙◌}
use Rattle.std.specs.Prelude.{nat_lt, ◌-◌}
use Rattle.std.specs.Int.{Width, w16, w32, byte_len, from_be_bytes}
use Rattle.std.specs.Str.{bytes_eq}
use Rattle.xm_base.specs.Cursor.{Place, left, next, past, cursor_start}
use Rattle.file_headers.specs.Faults.{HeadFaults}
use Rattle.file_headers.specs.Fields.{field_bytes, number_at}
use Rattle.file_headers.specs.Heads.{before_digest, count_before, found_digest, is_version, magic_at, stated_length, stated_version, stored_digest, unsealed, version_at}
use Rattle.file_headers.specs.lemmas.LiftedTerms.{lifted}
use Rattle.file_headers.specs.Lifted.{lifted_faults}
use Rattle.file_headers.specs.Steps.{◌>>=◌, unless}

-- one step after another
lift_then : {A B F G : Type 0} (to : F → G) (read : Result A F) (next : A → Result B F) (next' : A → Result B G) → ((value : A) → lifted to (next value) ≡ next' value) → lifted to (read >>= next) ≡ (lifted to read >>= next')
lift_then to (Ok value) next next' each = each value
lift_then to (Err fault) next next' each = refl

-- a test
lift_unless : {A F G : Type 0} (to : F → G) (test : Bool) (fault : F) (value : A) → lifted to (unless test fault value) ≡ unless test (to fault) value
lift_unless to true fault value = refl
lift_unless to false fault value = refl

-- a choice
lift_cond : {A F G : Type 0} (to : F → G) (test : Bool) (fault : F) (other : Result A F) → lifted to (cond test (Err fault) other) ≡ cond test (Err (to fault)) (lifted to other)
lift_cond to true fault other = refl
lift_cond to false fault other = refl

-- bytes
pub lift_bytes : {F G : Type 0} (to : F → G) (short : ℕ → F) (count : ℕ) (place : Place) → lifted to (field_bytes short count place) ≡ field_bytes (λ at. to (short at)) count place
lift_bytes to short count place = lift_cond to (nat_lt (left place) count) (short place.at) (Ok (next count place, past count place))

-- a number
pub lift_number : {F G : Type 0} (to : F → G) (short : ℕ → F) (width : Width) (place : Place) → lifted to (number_at short width place) ≡ number_at (λ at. to (short at)) width place
lift_number {F} {G} to short width place =
    lift_then to (field_bytes short (byte_len width) place) (λ bytes. Ok (from_be_bytes width bytes.0, bytes.1)) (λ bytes. Ok (from_be_bytes width bytes.0, bytes.1)) (λ bytes. refl)
    ∙ ap (λ (read : Result (List ℕ × Place) G). read >>= λ bytes. Ok (from_be_bytes width bytes.0, bytes.1)) (lift_bytes to short (byte_len width) place)

-- the name
lift_magic : {F G : Type 0} (to : F → G) (faults : HeadFaults F) (name : List ℕ) (place : Place) → lifted to (magic_at faults.short faults.magic name place) ≡ magic_at (λ at. to (faults.short at)) (to faults.magic) name place
unfolding magic_at
lift_magic {F} {G} to faults name place =
    lift_then to (field_bytes faults.short 4 place) (λ bytes. unless (bytes_eq bytes.0 name) faults.magic bytes.1) (λ bytes. unless (bytes_eq bytes.0 name) (to faults.magic) bytes.1)
    (λ bytes. lift_unless to (bytes_eq bytes.0 name) faults.magic bytes.1)
    ∙ ap (λ (read : Result (List ℕ × Place) G). read >>= λ bytes. unless (bytes_eq bytes.0 name) (to faults.magic) bytes.1) (lift_bytes to faults.short 4 place)

-- the version
lift_version : {F G : Type 0} (to : F → G) (faults : HeadFaults F) (latest : ℕ) (place : Place) → lifted to (version_at faults.short faults.version latest place) ≡ version_at (λ at. to (faults.short at)) (λ found. to (faults.version found)) latest place
unfolding version_at
lift_version {F} {G} to faults latest place =
    lift_then to (number_at faults.short w16 place) (λ number. unless (is_version latest number.0) (faults.version number.0) number) (λ number. unless (is_version latest number.0) (to (faults.version number.0)) number)
    (λ number. lift_unless to (is_version latest number.0) (faults.version number.0) number)
    ∙ ap (λ (read : Result (ℕ × Place) G). read >>= λ number. unless (is_version latest number.0) (to (faults.version number.0)) number) (lift_number to faults.short w16 place)

-- the length that the head says
lift_stated : {F G : Type 0} (to : F → G) (faults : HeadFaults F) (name : List ℕ) (latest : ℕ) (bytes : List ℕ) → lifted to (stated_length faults name latest bytes) ≡ stated_length (lifted_faults to faults) name latest bytes
unfolding stated_length
lift_stated {F} {G} to faults name latest bytes =
    lift_then to (magic_at faults.short faults.magic name (cursor_start bytes)) (λ named. version_at faults.short faults.version latest named >>= λ versioned. number_at faults.short w32 versioned.1 >>= λ size. Ok size.0)
    (λ named. version_at (λ at. to (faults.short at)) (λ found. to (faults.version found)) latest named >>= λ versioned. number_at (λ at. to (faults.short at)) w32 versioned.1 >>= λ size. Ok size.0)
    (λ named.
    lift_then to (version_at faults.short faults.version latest named) (λ versioned. number_at faults.short w32 versioned.1 >>= λ size. Ok size.0) (λ versioned. number_at (λ at. to (faults.short at)) w32 versioned.1 >>= λ size. Ok size.0)
    (λ versioned.
    lift_then to (number_at faults.short w32 versioned.1) (λ size. Ok size.0) (λ size. Ok size.0) (λ size. refl)
    ∙ ap (λ (read : Result (ℕ × Place) G). read >>= λ size. Ok size.0) (lift_number to faults.short w32 versioned.1))
    ∙ ap (λ (read : Result (ℕ × Place) G). read >>= λ versioned. number_at (λ at. to (faults.short at)) w32 versioned.1 >>= λ size. Ok size.0) (lift_version to faults latest named))
    ∙ ap (λ (read : Result Place G). read >>= λ named. version_at (λ at. to (faults.short at)) (λ found. to (faults.version found)) latest named >>= λ versioned. number_at (λ at. to (faults.short at)) w32 versioned.1 >>= λ size. Ok size.0) (lift_magic to faults name (cursor_start bytes))

-- the version that the head says
pub lift_stated_version : {F G : Type 0} (to : F → G) (faults : HeadFaults F) (name : List ℕ) (latest : ℕ) (bytes : List ℕ) → lifted to (stated_version faults name latest bytes) ≡ stated_version (lifted_faults to faults) name latest bytes
unfolding stated_version
lift_stated_version {F} {G} to faults name latest bytes =
    lift_then to (magic_at faults.short faults.magic name (cursor_start bytes)) (λ named. version_at faults.short faults.version latest named >>= λ versioned. Ok versioned.0)
    (λ named. version_at (λ at. to (faults.short at)) (λ found. to (faults.version found)) latest named >>= λ versioned. Ok versioned.0)
    (λ named.
    lift_then to (version_at faults.short faults.version latest named) (λ versioned. Ok versioned.0) (λ versioned. Ok versioned.0) (λ versioned. refl)
    ∙ ap (λ (read : Result (ℕ × Place) G). read >>= λ versioned. Ok versioned.0) (lift_version to faults latest named))
    ∙ ap (λ (read : Result Place G). read >>= λ named. version_at (λ at. to (faults.short at)) (λ found. to (faults.version found)) latest named >>= λ versioned. Ok versioned.0) (lift_magic to faults name (cursor_start bytes))

-- how many bytes stand before the digest
lift_count : {F G : Type 0} (to : F → G) (faults : HeadFaults F) (size stated : ℕ) → lifted to (count_before faults size stated) ≡ count_before (lifted_faults to faults) size stated
unfolding count_before
lift_count {F} {G} to faults size stated =
    lift_cond to (nat_lt size stated) (faults.short size) _
    ∙ ap (λ (other : Result ℕ G). cond (nat_lt size stated) (Err (to (faults.short size))) other)
    (lift_cond to (nat_lt stated size) (faults.trailing stated) _
    ∙ ap (λ (other : Result ℕ G). cond (nat_lt stated size) (Err (to (faults.trailing stated))) other)
    (lift_cond to (nat_lt size 16) (faults.short size) (Ok (size - 16))))

-- the same, of the whole file
lift_before : {F G : Type 0} (to : F → G) (faults : HeadFaults F) (name : List ℕ) (latest : ℕ) (bytes : List ℕ) → lifted to (before_digest faults name latest bytes) ≡ before_digest (lifted_faults to faults) name latest bytes
unfolding before_digest
lift_before {F} {G} to faults name latest bytes =
    lift_then to (stated_length faults name latest bytes) (λ stated. count_before faults (length bytes) stated) (λ stated. count_before (lifted_faults to faults) (length bytes) stated)
    (λ stated. lift_count to faults (length bytes) stated)
    ∙ ap (λ (read : Result ℕ G). read >>= λ stated. count_before (lifted_faults to faults) (length bytes) stated) (lift_stated to faults name latest bytes)

-- the bytes before the digest
pub lift_unsealed : {F G : Type 0} (to : F → G) (faults : HeadFaults F) (name : List ℕ) (latest : ℕ) (bytes : List ℕ) → lifted to (unsealed faults name latest bytes) ≡ unsealed (lifted_faults to faults) name latest bytes
unfolding unsealed
lift_unsealed {F} {G} to faults name latest bytes =
    lift_then to (before_digest faults name latest bytes)
    (λ count. unless (bytes_eq (stored_digest count bytes) (found_digest count bytes)) (faults.digest (stored_digest count bytes) (found_digest count bytes)) (take count bytes))
    (λ count. unless (bytes_eq (stored_digest count bytes) (found_digest count bytes)) (to (faults.digest (stored_digest count bytes) (found_digest count bytes))) (take count bytes))
    (λ count. lift_unless to (bytes_eq (stored_digest count bytes) (found_digest count bytes)) (faults.digest (stored_digest count bytes) (found_digest count bytes)) (take count bytes))
    ∙ ap (λ (read : Result ℕ G). read >>= λ count. unless (bytes_eq (stored_digest count bytes) (found_digest count bytes)) (to (faults.digest (stored_digest count bytes) (found_digest count bytes))) (take count bytes))
    (lift_before to faults name latest bytes)

-- bytes that are given with some faults are given with others
pub unsealed_so : {F G : Type 0} (to : F → G) (faults : HeadFaults F) (name : List ℕ) (latest : ℕ) (bytes front : List ℕ) → unsealed faults name latest bytes ≡ Ok front → unsealed (lifted_faults to faults) name latest bytes ≡ Ok front
unsealed_so {F} {G} to faults name latest bytes front is = sym (lift_unsealed to faults name latest bytes) ∙ ap (λ (read : Result (List ℕ) F). lifted to read) is

-- a fault is given as the other one
pub refused_so : {F G : Type 0} (to : F → G) (faults : HeadFaults F) (name : List ℕ) (latest : ℕ) (bytes : List ℕ) (fault : F) → unsealed faults name latest bytes ≡ Err fault → unsealed (lifted_faults to faults) name latest bytes ≡ Err (to fault)
refused_so {F} {G} to faults name latest bytes fault is = sym (lift_unsealed to faults name latest bytes) ∙ ap (λ (read : Result (List ℕ) F). lifted to read) is

-- a version that is given with some faults is given with others
pub version_so : {F G : Type 0} (to : F → G) (faults : HeadFaults F) (name : List ℕ) (latest : ℕ) (bytes : List ℕ) (version : ℕ) → stated_version faults name latest bytes ≡ Ok version → stated_version (lifted_faults to faults) name latest bytes ≡ Ok version
version_so {F} {G} to faults name latest bytes version is = sym (lift_stated_version to faults name latest bytes) ∙ ap (λ (read : Result ℕ F). lifted to read) is

-- a fault of a version is given as the other one
pub version_refused_so : {F G : Type 0} (to : F → G) (faults : HeadFaults F) (name : List ℕ) (latest : ℕ) (bytes : List ℕ) (fault : F) → stated_version faults name latest bytes ≡ Err fault → stated_version (lifted_faults to faults) name latest bytes ≡ Err (to fault)
version_refused_so {F} {G} to faults name latest bytes fault is = sym (lift_stated_version to faults name latest bytes) ∙ ap (λ (read : Result ℕ F). lifted to read) is
