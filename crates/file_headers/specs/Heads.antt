-- A file with a head and a digest: the name of its format, one of its versions, the length of the whole, its fields, and the MD5 of all of them.
use Rattle.std.specs.Prelude.{◌≡◌, ◌≢◌, ◌↔◌, ℕ, ◌-◌, Bool, ◌&&◌, nat_le, nat_lt, if◌then◌else◌, List, length, take, drop, Result, Ok, Err}
use Rattle.std.specs.Int.{w16, w32}
use Rattle.std.specs.Str.{bytes_eq}
use Rattle.md5.specs.Md5.{md5}
use Rattle.xm_base.specs.Cursor.{Place, cursor_start}
use Rattle.file_headers.specs.Faults.{HeadFaults}
use Rattle.file_headers.specs.Fields.{field_bytes, number_at}
use Rattle.file_headers.specs.Steps.{◌>>=◌, unless}

-- the name of the format, and the place after it
unfoldable pub magic_at : {F : Type 0} → (ℕ → F) → F → List ℕ → Place → Result Place F
magic_at short magic name place = field_bytes short 4 place >>= λ bytes. unless (bytes_eq bytes.0 name) magic bytes.1

-- whether a number is that of a version: a format numbers its versions from 1 to the latest
abbrev pub is_version : ℕ → ℕ → Bool
is_version latest number = nat_le 1 number && nat_le number latest

-- the version, and the place after it; a number that is no version's is another version
unfoldable pub version_at : {F : Type 0} → (ℕ → F) → (ℕ → F) → ℕ → Place → Result (ℕ × Place) F
version_at short other latest place = number_at short w16 place >>= λ number. unless (is_version latest number.0) (other number.0) number

-- the length that the head says
unfoldable pub stated_length : {F : Type 0} → HeadFaults F → List ℕ → ℕ → List ℕ → Result ℕ F
stated_length faults name latest bytes =
    magic_at faults.short faults.magic name (cursor_start bytes) >>= λ named. version_at faults.short faults.version latest named >>= λ versioned. number_at faults.short w32 versioned.1 >>= λ size. Ok size.0

-- the version that the head says
unfoldable pub stated_version : {F : Type 0} → HeadFaults F → List ℕ → ℕ → List ℕ → Result ℕ F
stated_version faults name latest bytes =
    magic_at faults.short faults.magic name (cursor_start bytes) >>= λ named. version_at faults.short faults.version latest named >>= λ versioned. Ok versioned.0

-- how many bytes stand before the digest, in a file of this many bytes whose head says this many
unfoldable pub count_before : {F : Type 0} → HeadFaults F → ℕ → ℕ → Result ℕ F
count_before faults size stated =
    if nat_lt size stated then Err (faults.short size)
    else if nat_lt stated size then Err (faults.trailing stated)
    else if nat_lt size 16 then Err (faults.short size)
    else Ok (size - 16)

-- how many bytes stand before the digest
unfoldable pub before_digest : {F : Type 0} → HeadFaults F → List ℕ → ℕ → List ℕ → Result ℕ F
before_digest faults name latest bytes = stated_length faults name latest bytes >>= λ stated. count_before faults (length bytes) stated

-- the digest that is stored after this many bytes
abbrev pub stored_digest : ℕ → List ℕ → List ℕ
stored_digest count bytes = drop count bytes

-- the digest that is found of this many bytes
abbrev pub found_digest : ℕ → List ℕ → List ℕ
found_digest count bytes = md5 (take count bytes)

-- the bytes before the digest, where it is theirs
unfoldable pub unsealed : {F : Type 0} → HeadFaults F → List ℕ → ℕ → List ℕ → Result (List ℕ) F
unsealed faults name latest bytes =
    before_digest faults name latest bytes >>= λ count.
    unless (bytes_eq (stored_digest count bytes) (found_digest count bytes)) (faults.digest (stored_digest count bytes) (found_digest count bytes)) (take count bytes)

-- the digest that is stored at the end of a file is not the one that is found; the head and the length are right
pub record IsForged {F : Type 0} (faults : HeadFaults F) (name : List ℕ) (latest : ℕ) (bytes digest_there digest_of_them : List ℕ) : Type 0 where
  pub count : ℕ
  pub before : before_digest faults name latest bytes ≡ Ok count
  pub stored : digest_there ≡ stored_digest count bytes
  pub found : digest_of_them ≡ found_digest count bytes
  pub differ : digest_there ≢ digest_of_them

-- the two digests are reported exactly where they differ
abbrev pub ReportsDigests : {X F : Type 0} → HeadFaults F → List ℕ → ℕ → List ℕ → Result X F → Type 0
ReportsDigests faults name latest bytes result = (s f : List ℕ) → (result ≡ Err (faults.digest s f)) ↔ IsForged faults name latest bytes s f
