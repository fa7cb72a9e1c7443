-- Formats of files: a value and nothing after it; a value with a head before it and a digest after it; a value whose head says the version and the length.
use Rattle.std.specs.Prelude.{ℕ, ◌+◌, ◌^◌, ◌==◌, Bool, ◌&&◌, if◌then◌else◌, nat_lt, List, ◌++◌, length, Result, Ok}
use Rattle.std.specs.Int.{to_be_bytes, w16, w32}
use Rattle.md5.specs.Md5.{md5}
use Rattle.xm_base.specs.Cursor.{Place, cursor_start, left, past}
use Rattle.file_headers.specs.Faults.{HeadFaults}
use Rattle.file_headers.specs.Heads.{is_version, unsealed}
use Rattle.file_headers.specs.Steps.{◌>>=◌, unless}
use Rattle.codecs.specs.Codec.{Codec, fixed_text, number, pair}

-- a format of files of values X, whose reading has faults F
pub record FileCodec (F X : Type 0) : Type 0 where
  pub fits : X → Bool
  pub spell : X → List ℕ
  pub read : List ℕ → Result X F

-- a value at a place, with nothing after it
abbrev pub read_to_end : {F X : Type 0} → (ℕ → F) → Codec F X → Place → Result X F
read_to_end trailing c place = c.read place >>= λ x. unless (left x.1 == 0) (trailing x.1.at) x.0

-- a file that is one value
abbrev pub whole_file : {F X : Type 0} → (ℕ → F) → Codec F X → FileCodec F X
whole_file trailing c = record {
  fits = λ x. c.fits x;
  spell = λ x. c.spell x;
  read = λ bytes. read_to_end trailing c (cursor_start bytes);
}

-- the length of a sealed file whose fields have this many bytes: 10 stand before them, and 16 after them
abbrev pub sealed_length : ℕ → ℕ
sealed_length count = 26 + count

-- what stands before the digest: a name, version 1, the length of the whole, and the fields
abbrev pub text_before_digest : List ℕ → List ℕ → List ℕ
text_before_digest name fields = name ++ to_be_bytes w16 1 ++ to_be_bytes w32 (sealed_length (length fields)) ++ fields

-- a file of a name, version 1 and the length of the whole, then a value, and the MD5 of all before it
abbrev pub sealed_file : {F X : Type 0} → HeadFaults F → List ℕ → Codec F X → FileCodec F X
sealed_file faults name c = record {
  fits = λ x. c.fits x && nat_lt (sealed_length (length (c.spell x))) (2 ^ 32);
  spell = λ x. text_before_digest name (c.spell x) ++ md5 (text_before_digest name (c.spell x));
  read = λ bytes. unsealed faults name 1 bytes >>= λ before. read_to_end faults.trailing c (past 10 (cursor_start before));
}

-- a file whose format depends on how many bytes it has, which its value says
abbrev pub sized_file : {F X : Type 0} → (ℕ → F) → (ℕ → Codec F X) → (X → ℕ) → FileCodec F X
sized_file trailing of size = record {
  fits = λ x. (of (size x)).fits x && (length ((of (size x)).spell x) == size x);
  spell = λ x. (of (size x)).spell x;
  read = λ bytes. read_to_end trailing (of (length bytes)) (cursor_start bytes);
}

-- the same files for other values
abbrev pub file_through : {F A X : Type 0} → (A → X) → (X → A) → FileCodec F A → FileCodec F X
file_through to from c = record {
  fits = λ x. c.fits (from x);
  spell = λ x. c.spell (from x);
  read = λ bytes. c.read bytes >>= λ a. Ok (to a);
}

-- a file whose value has to pass a test; one that does not is a fault by the value
abbrev pub judged_file : {F X : Type 0} → (X → F) → (X → Bool) → FileCodec F X → FileCodec F X
judged_file refused test c = record {
  fits = λ x. c.fits x && test x;
  spell = λ x. c.spell x;
  read = λ bytes. c.read bytes >>= λ x. unless (test x) (refused x) x;
}

-- the fault of a file of this many bytes whose head says another length: it is too short, or has more bytes than its head says
abbrev pub length_fault : {F : Type 0} → HeadFaults F → ℕ → ℕ → F
length_fault faults total stated = if nat_lt total stated then faults.short total else faults.trailing stated

-- in a file of this many bytes: the name, a version from 1 to the latest, the length of the whole, and a value in the format of the version
abbrev pub headed : {F X : Type 0} → HeadFaults F → List ℕ → ℕ → (ℕ → Codec F X) → ℕ → Codec F (Unit {0} × (ℕ × (ℕ × X)))
headed faults name latest of total =
    pair (fixed_text faults.short (λ at. faults.magic) name) λ named.
    pair (number faults.short (λ at version. faults.version version) w16 (λ version. is_version latest version)) λ version.
    pair (number faults.short (λ at stated. length_fault faults total stated) w32 (λ stated. stated == total)) λ stated.
    of version

-- a file of a name, a version and the length of the whole, and then a value: which version it is belongs to the value
abbrev pub versioned_file : {F X : Type 0} → HeadFaults F → List ℕ → ℕ → (ℕ → Codec F X) → FileCodec F (ℕ × X)
versioned_file faults name latest of =
    file_through (λ t. (t.1.0, t.1.1.1)) (λ p. (tt, (p.0, (10 + length ((of p.0).spell p.1), p.1))))
    (sized_file faults.trailing (λ total. headed faults name latest of total) (λ t. t.1.1.0))
