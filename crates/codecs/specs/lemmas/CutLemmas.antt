-- A sealed file that is cut is short, at a place in what is left of it.
use Rattle.std.proofs.Common.{◌≡◌, ℕ, ◌^◌, ◌<◌, ◌≤◌, inl, inr, Bool, true, false, List, [], ◌∷◌, ◌++◌, length, take, drop, Result, Ok, Err, refl, sym, ap, ◌∙◌, append_assoc, arith}
use Rattle.std.specs.Prelude.{◌≢◌, nat_lt}
use Rattle.std.specs.Int.{to_be_bytes, w16, w32}
use Rattle.std.specs.Str.{bytes_eq}
use Rattle.std.proofs.lemmas.Bool.{cases_lt}
use Rattle.std.proofs.lemmas.List.{length-append, length-drop, take_at, take-append-drop, take-append-le}
use Rattle.md5.specs.Md5.{md5}
use Rattle.xm_base.specs.Cursor.{Place, cursor_start}
use Rattle.file_headers.specs.Faults.{HeadFaults}
use Rattle.file_headers.specs.Fields.{field_bytes, number_at}
use Rattle.file_headers.specs.Heads.{before_digest, count_before, is_version, magic_at, stated_length, unsealed, version_at}
use Rattle.file_headers.specs.lemmas.FieldLemmas.{wide16, wide32}
use Rattle.file_headers.specs.lemmas.HeadLemmas.{length-lead, stated_again}
use Rattle.file_headers.specs.lemmas.HeadsTerms.{lead_text}
use Rattle.file_headers.specs.Steps.{◌>>=◌, unless}
use Rattle.codecs.specs.Codec.{Codec, any_number, fixed_text, number, pair, value_as}
use Rattle.codecs.specs.Files.{sealed_file, sealed_length, text_before_digest}
use Rattle.codecs.specs.Lawful.{IsLawful}
use Rattle.codecs.specs.Steady.{IsSteady}
use Rattle.codecs.specs.lemmas.CodecLemmas.{any_number_lawful, below_of, fixed_text_lawful, number_lawful, pair_lawful, test_of}
use Rattle.codecs.specs.lemmas.FileLemmas.{length-sealed}
use Rattle.codecs.specs.lemmas.ReadLemmas.{both}
use Rattle.codecs.specs.lemmas.SteadyLemmas.{any_number_steady, cut_is_short, fixed_text_steady, number_steady, pair_steady}

-- the version and the length after the name as a format
abbrev pub version_and_length : {F : Type 0} → HeadFaults F → ℕ → Codec F (ℕ × ℕ)
version_and_length faults latest =
    pair (number faults.short (λ at version. faults.version version) w16 (λ version. is_version latest version)) λ version.
    any_number faults.short w32

-- the first ten bytes as a format: the name, the version, and the length of the whole
abbrev pub lead_format : {F : Type 0} → HeadFaults F → List ℕ → ℕ → Codec F (Unit {0} × (ℕ × ℕ))
lead_format faults name latest = pair (fixed_text faults.short (λ at. faults.magic) name) λ named. version_and_length faults latest

lead_lawful : {F : Type 0} (faults : HeadFaults F) (name : List ℕ) (latest : ℕ) → IsLawful (lead_format faults name latest)
lead_lawful faults name latest =
    pair_lawful _ _ (fixed_text_lawful _ _ name) λ named. pair_lawful _ _ (number_lawful _ _ w16 _ wide16) λ version. any_number_lawful _ w32 wide32

lead_steady : {F : Type 0} (faults : HeadFaults F) (name : List ℕ) (latest : ℕ) → IsSteady faults.short (lead_format faults name latest).read
lead_steady faults name latest =
    pair_steady faults.short (fixed_text faults.short (λ at. faults.magic) name) (λ named. version_and_length faults latest) (fixed_text_steady faults.short (λ at. faults.magic) name) λ named.
    pair_steady faults.short (number faults.short (λ at version. faults.version version) w16 (λ version. is_version latest version)) (λ version. any_number faults.short w32) (number_steady faults.short _ w16 _) λ version.
    any_number_steady faults.short w32

-- the version and the length after the name, in two groupings
after_name : {F : Type 0} (version : Result (ℕ × Place) F) (size : Place → Result (ℕ × Place) F)
    → (version >>= (λ v. (size v.1 >>= (λ s. Ok s.0)))) ≡ ((value_as {X = Unit {0} × (ℕ × ℕ)} (λ (b : ℕ × ℕ). (tt, b)) (version >>= (λ v. value_as {X = ℕ × ℕ} (λ (b : ℕ). (v.0, b)) (size v.1)))) >>= (λ t. Ok t.0.1.1))
after_name (Err fault) size = refl
after_name {F} (Ok v) size = at (size v.1)
  where
    at : (read : Result (ℕ × Place) F) → (read >>= (λ s. Ok s.0)) ≡ ((value_as {X = Unit {0} × (ℕ × ℕ)} (λ (b : ℕ × ℕ). (tt, b)) (value_as {X = ℕ × ℕ} (λ (b : ℕ). (v.0, b)) read)) >>= (λ t. Ok t.0.1.1))
    at (Err fault) = refl
    at (Ok s) = refl

-- the length that a head says is the one that this format reads
stated_is : {F : Type 0} (faults : HeadFaults F) (name : List ℕ) (latest : ℕ) (bytes : List ℕ) → length name ≡ 4
    → stated_length faults name latest bytes ≡ ((lead_format faults name latest).read (cursor_start bytes) >>= (λ t. Ok t.0.1.1))
unfolding stated_length magic_at version_at
stated_is {F} faults name latest bytes four = rw four (named (field_bytes faults.short 4 (cursor_start bytes)))
  where
    version : Place → Result (ℕ × Place) F
    version place = number_at faults.short w16 place >>= (λ n. unless (is_version latest n.0) (faults.version n.0) n)

    stated : Place → Result ℕ F
    stated place = version place >>= (λ v. (number_at faults.short w32 v.1 >>= (λ s. Ok s.0)))

    fields : Unit {0} × Place → Result ((Unit {0} × (ℕ × ℕ)) × Place) F
    fields a = value_as {X = Unit {0} × (ℕ × ℕ)} (λ (b : ℕ × ℕ). (a.0, b)) (version a.1 >>= (λ v. value_as {X = ℕ × ℕ} (λ (b : ℕ). (v.0, b)) (number_at faults.short w32 v.1)))

    chosen : (test : Bool) (place : Place) → (unless test faults.magic place >>= stated) ≡ ((unless test faults.magic (tt, place) >>= fields) >>= (λ t. Ok t.0.1.1))
    chosen true place = after_name (version place) (λ from. number_at faults.short w32 from)
    chosen false place = refl

    named : (read : Result (List ℕ × Place) F)
        → ((read >>= (λ field. unless (bytes_eq field.0 name) faults.magic field.1)) >>= stated)
        ≡ (((read >>= (λ field. unless (bytes_eq field.0 name) faults.magic (tt, field.1))) >>= fields) >>= (λ t. Ok t.0.1.1))
    named (Err fault) = refl
    named (Ok field) = chosen (bytes_eq field.0 name) field.1

-- a head that is short makes the file short
head_short : {F : Type 0} (faults : HeadFaults F) (name : List ℕ) (latest : ℕ) (bytes : List ℕ) (fault : F) → stated_length faults name latest bytes ≡ Err fault → unsealed faults name latest bytes ≡ Err fault
unfolding unsealed before_digest
head_short faults name latest bytes fault is = rw is refl

-- so does a file of fewer bytes than its head says
file_short : {F : Type 0} (faults : HeadFaults F) (name : List ℕ) (latest : ℕ) (bytes : List ℕ) (size : ℕ) → stated_length faults name latest bytes ≡ Ok size → length bytes < size
    → unsealed faults name latest bytes ≡ Err (faults.short (length bytes))
unfolding unsealed before_digest count_before
file_short faults name latest bytes size is fewer = rw (is, test_of (length bytes) size fewer) refl

-- what is not nothing has a byte
has_some : (bytes : List ℕ) → bytes ≢ [] → 1 ≤ length bytes
has_some [] some = absurd (some refl)
has_some (byte ∷ bytes) some = omega arith

-- a sealed file that is cut is short
pub cut_sealed_is_short : {F X : Type 0} (faults : HeadFaults F) (name : List ℕ) (c : Codec F X) → length name ≡ 4 → (x : X) (left rest : List ℕ) → (sealed_file faults name c).fits x ≡ true
    → (sealed_file faults name c).spell x ≡ left ++ rest → rest ≢ [] → (at : ℕ) × ((sealed_file faults name c).read left ≡ Err (faults.short at)) × (at ≤ length left)
cut_sealed_is_short {F} {X} faults name c four x left rest fits is some = elim (cases_lt (length left) 10) [ inl early ↦ in_head early | inr late ↦ after_head late ]
  where
    size : ℕ
    size = sealed_length (length (c.spell x))

    lead : List ℕ
    lead = lead_text name 1 size

    tail : List ℕ
    tail = c.spell x ++ md5 (text_before_digest name (c.spell x))

    below : size < 2 ^ 32
    below = below_of size (2 ^ 32) (both (c.fits x) (nat_lt size (2 ^ 32)) fits).1

    file_is : left ++ rest ≡ lead ++ tail
    file_is = sym is ∙ append_assoc lead (c.spell x) (md5 (text_before_digest name (c.spell x)))

    ten : length lead ≡ 10
    ten = length-lead name 1 size four

    after_head : 10 ≤ length left → (at : ℕ) × ((sealed_file faults name c).read left ≡ Err (faults.short at)) × (at ≤ length left)
    after_head late =
        let first : take 10 left ≡ lead = sym (take-append-le 10 left rest late) ∙ ap (take 10) file_is ∙ take_at lead tail 10 ten in
        let parts : left ≡ lead ++ drop 10 left = sym (take-append-drop 10 left) ∙ ap (λ (bytes : List ℕ). bytes ++ drop 10 left) first in
        let stated : stated_length faults name 1 left ≡ Ok size = ap (stated_length faults name 1) parts ∙ stated_again faults name 1 1 size (drop 10 left) four refl (omega arith) below in
        let fewer : length left < size = omega (arith, has_some rest some, ap length is, length-append left rest, length-sealed faults name c four x) in
        (length left, rw (file_short faults name 1 left size stated fewer) refl, omega arith)

    in_head : length left < 10 → (at : ℕ) × ((sealed_file faults name c).read left ≡ Err (faults.short at)) × (at ≤ length left)
    in_head early =
        let n = length left in
        let front : left ≡ take n lead = sym (take_at left rest n refl) ∙ ap (take n) file_is ∙ take-append-le n lead tail (omega (arith, ten, early)) in
        let parts : lead ≡ left ++ drop n lead = sym (take-append-drop n lead) ∙ ap (λ (bytes : List ℕ). bytes ++ drop n lead) (sym front) in
        let spelled : (lead_format faults name 1).spell (tt, (1, size)) ≡ left ++ drop n lead = sym (append_assoc name (to_be_bytes w16 1) (to_be_bytes w32 size)) ∙ parts in
        let more : drop n lead ≢ [] = λ none. absurd (omega (arith, early, ten, ap length none, length-drop n lead)) in
        let cut = cut_is_short faults.short (lead_format faults name 1) (lead_lawful faults name 1) (lead_steady faults name 1) (tt, (1, size)) left (drop n lead) (test_of size (2 ^ 32) below) spelled more in
        let stated : stated_length faults name 1 left ≡ Err (faults.short cut.0) = stated_is faults name 1 left four ∙ ap (λ read. read >>= (λ t. Ok t.0.1.1)) cut.1 in
        (cut.0, rw (head_short faults name 1 left (faults.short cut.0) stated) refl, cut.2)
