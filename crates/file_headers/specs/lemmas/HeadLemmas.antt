-- The head and the digest of a file: what is read stands there, and what stands there is read.
use Rattle.std.proofs.Common.{◌≡◌, ℕ, ◌+◌, ◌-◌, ◌^◌, ◌<◌, ◌≤◌, true, false, List, ◌++◌, length, take, drop, Ok, refl, sym, ap, subst, ◌∙◌, append_assoc, arith}
use Rattle.std.specs.Prelude.{nat_lt}
use Rattle.std.specs.Int.{w16, w32, to_be_bytes}
use Rattle.std.specs.Str.{bytes_eq}
use Rattle.std.proofs.lemmas.Bool.{ltb-false, le-ltb}
use Rattle.std.proofs.lemmas.Bool.Decides.{nat_tests}
use Rattle.std.proofs.lemmas.List.{take_at, drop_at, take-append-drop, length-append, length-take}
use Rattle.std.proofs.lemmas.Slice.Eq.{bytes_eq-Decides}
use Rattle.md5.specs.Md5.{md5}
use Rattle.xm_base.specs.Bytes.{AreBytes}
use Rattle.xm_base.specs.Cursor.{Place, ahead, cursor_start}
use Rattle.file_headers.specs.Faults.{HeadFaults}
use Rattle.file_headers.specs.lemmas.FieldLemmas.{Reads, Takes, bytes_again, bytes_take, number_again, number_takes, takes_both, wide16, wide32}
use Rattle.file_headers.specs.Fields.{field_bytes, number_at}
use Rattle.file_headers.specs.Heads.{before_digest, count_before, found_digest, is_version, magic_at, stated_length, stated_version, stored_digest, unsealed, version_at}
use Rattle.file_headers.specs.lemmas.HeadsTerms.{lead_text}
use Rattle.file_headers.specs.lemmas.StepLemmas.{led_on, ok_is, passed, stepped}
use Rattle.file_headers.specs.Steps.{◌>>=◌, unless}

-- a head has 10 bytes
pub length-lead : (name : List ℕ) (version size : ℕ) → length name ≡ 4 → length (lead_text name version size) ≡ 10
length-lead name version size four =
    let a = length-append (name ++ to_be_bytes w16 version) (to_be_bytes w32 size) in
    let b = length-append name (to_be_bytes w16 version) in
    let two : length (to_be_bytes w16 version) ≡ 2 = refl in
    let last : length (to_be_bytes w32 size) ≡ 4 = refl in
    omega (arith, a, b, two, last, four)

-- the name that is read stands there
pub magic_takes : {F : Type 0} (short : ℕ → F) (magic : F) (name : List ℕ) (place after : Place) → AreBytes (ahead place) → magic_at short magic name place ≡ Ok after → Takes place name after
unfolding magic_at
magic_takes short magic name place after each e =
    let s = stepped (field_bytes short 4 place) (λ bytes. unless (bytes_eq bytes.0 name) magic bytes.1) after e in
    let p = passed (bytes_eq s.value.0 name) magic s.value.1 after s.led in
    let t = bytes_take short 4 place s.value.0 s.value.1 each s.is in
    let same : s.value.0 ≡ name = (bytes_eq-Decides s.value.0 name).0 p.true in
    subst (λ (place' : Place). Takes place name place') p.is (subst (λ (text : List ℕ). Takes place text s.value.1) same t.0)

-- the version that is read is one, and stands there
pub version_takes : {F : Type 0} (short other : ℕ → F) (latest : ℕ) (place : Place) (version : ℕ) (after : Place) → AreBytes (ahead place) → version_at short other latest place ≡ Ok (version, after)
    → Takes place (to_be_bytes w16 version) after × (is_version latest version ≡ true)
unfolding version_at
version_takes short other latest place version after each e =
    let s = stepped (number_at short w16 place) (λ number. unless (is_version latest number.0) (other number.0) number) (version, after) e in
    let p = passed (is_version latest s.value.0) (other s.value.0) s.value (version, after) s.led in
    let t = number_takes short w16 (2 ^ 16) wide16 place s.value.0 s.value.1 each s.is in
    let P : ℕ × Place → Type 0 = λ x. Takes place (to_be_bytes w16 x.0) x.1 × (is_version latest x.0 ≡ true) in
    subst P p.is (t.0, p.true)

-- a version that stands there is read
version_again : {F : Type 0} (short other : ℕ → F) (latest : ℕ) (place : Place) (version : ℕ) (rest : List ℕ) → is_version latest version ≡ true → version < 2 ^ 16 → ahead place ≡ to_be_bytes w16 version ++ rest
    → Reads (version_at short other latest place) version rest
unfolding version_at
version_again short other latest place version rest known low stands =
    let n = number_again short w16 (2 ^ 16) wide16 place version rest low stands in
    record { after = n.after; is = rw (n.is, known) refl; ahead = n.ahead }

-- a format of one version has no other
pub is_first : (version : ℕ) → is_version 1 version ≡ true → version ≡ 1
is_first version known = grind (arith, nat_tests, known)

-- what the head of a file says stands there
pub record IsHead (name : List ℕ) (latest : ℕ) (bytes : List ℕ) (size : ℕ) : Type 0 where
  pub version : ℕ
  pub parts : bytes ≡ lead_text name version size ++ drop 10 bytes
  pub known : is_version latest version ≡ true
  pub short : size < 2 ^ 32

-- the length that a head says stands after name and version
pub stated_takes : {F : Type 0} (faults : HeadFaults F) (name : List ℕ) (latest : ℕ) (bytes : List ℕ) (size : ℕ) → length name ≡ 4 → AreBytes bytes → stated_length faults name latest bytes ≡ Ok size
    → IsHead name latest bytes size
unfolding stated_length
stated_takes faults name latest bytes size four each e =
    let m = stepped (magic_at faults.short faults.magic name (cursor_start bytes)) (λ named. version_at faults.short faults.version latest named >>= λ versioned. number_at faults.short w32 versioned.1 >>= λ stated. Ok stated.0) size e in
    let v = stepped (version_at faults.short faults.version latest m.value) (λ versioned. number_at faults.short w32 versioned.1 >>= λ stated. Ok stated.0) size m.led in
    let version : ℕ = v.value.0 in
    let n = stepped (number_at faults.short w32 v.value.1) (λ stated. Ok stated.0) size v.led in
    let first = magic_takes faults.short faults.magic name (cursor_start bytes) m.value each m.is in
    let second = version_takes faults.short faults.version latest m.value version v.value.1 first.rest v.is in
    let third = number_takes faults.short w32 (2 ^ 32) wide32 v.value.1 n.value.0 n.value.1 second.0.rest n.is in
    let is : n.value.0 ≡ size = ok_is n.value.0 size n.led in
    let front = takes_both (cursor_start bytes) name m.value (to_be_bytes w16 version) v.value.1 first second.0 in
    let whole = takes_both (cursor_start bytes) (name ++ to_be_bytes w16 version) v.value.1 (to_be_bytes w32 n.value.0) n.value.1 front third.0 in
    let parts : bytes ≡ lead_text name version size ++ ahead n.value.1 = subst (λ (k : ℕ). bytes ≡ lead_text name version k ++ ahead n.value.1) is whole.parts in
    let after : drop 10 bytes ≡ ahead n.value.1 = ap (drop 10) parts ∙ drop_at (lead_text name version size) (ahead n.value.1) 10 (length-lead name version size four) in
    record { version = version; parts = parts ∙ ap (λ rest. lead_text name version size ++ rest) (sym after); known = second.1; short = omega (arith, third.1, is) }

-- the same of a format of one version
pub stated_takes_first : {F : Type 0} (faults : HeadFaults F) (name bytes : List ℕ) (size : ℕ) → length name ≡ 4 → AreBytes bytes → stated_length faults name 1 bytes ≡ Ok size
    → (bytes ≡ lead_text name 1 size ++ drop 10 bytes) × (size < 2 ^ 32)
stated_takes_first faults name bytes size four each e =
    let is = stated_takes faults name 1 bytes size four each e in
    (subst (λ (version : ℕ). bytes ≡ lead_text name version size ++ drop 10 bytes) (is_first is.version is.known) is.parts, is.short)

regroup : (a b c d : List ℕ) → ((a ++ b) ++ c) ++ d ≡ a ++ (b ++ (c ++ d))
regroup a b c d = simp append_assoc

-- a length that stands after name and version is what the head says
pub stated_again : {F : Type 0} (faults : HeadFaults F) (name : List ℕ) (latest version size : ℕ) (rest : List ℕ) → length name ≡ 4 → is_version latest version ≡ true → version < 2 ^ 16 → size < 2 ^ 32
    → stated_length faults name latest (lead_text name version size ++ rest) ≡ Ok size
unfolding stated_length magic_at
stated_again faults name latest version size rest four known low below =
    let a = bytes_again faults.short 4 (cursor_start (lead_text name version size ++ rest)) name (to_be_bytes w16 version ++ (to_be_bytes w32 size ++ rest)) four
    (regroup name (to_be_bytes w16 version) (to_be_bytes w32 size) rest) in
    let b = version_again faults.short faults.version latest a.after version (to_be_bytes w32 size ++ rest) known low a.ahead in
    let c = number_again faults.short w32 (2 ^ 32) wide32 b.after size rest below b.ahead in
    let named : bytes_eq name name ≡ true = (bytes_eq-Decides name name).1 refl in
    rw (a.is, named, b.is, c.is) refl

-- a version that stands after the name is what the head says
pub stated_version_again : {F : Type 0} (faults : HeadFaults F) (name : List ℕ) (latest version size : ℕ) (rest : List ℕ) → length name ≡ 4 → is_version latest version ≡ true → version < 2 ^ 16
    → stated_version faults name latest (lead_text name version size ++ rest) ≡ Ok version
unfolding stated_version magic_at
stated_version_again faults name latest version size rest four known low =
    let a = bytes_again faults.short 4 (cursor_start (lead_text name version size ++ rest)) name (to_be_bytes w16 version ++ (to_be_bytes w32 size ++ rest)) four
    (regroup name (to_be_bytes w16 version) (to_be_bytes w32 size) rest) in
    let b = version_again faults.short faults.version latest a.after version (to_be_bytes w32 size ++ rest) known low a.ahead in
    let named : bytes_eq name name ≡ true = (bytes_eq-Decides name name).1 refl in
    rw (a.is, named, b.is) refl

-- a file has as many bytes as its head says, and the last 16 of them are the digest
count_takes : {F : Type 0} (faults : HeadFaults F) (size stated count : ℕ) → count_before faults size stated ≡ Ok count → (stated ≡ size) × (count + 16 ≡ size)
unfolding count_before
count_takes faults size stated count e =
    let a = led_on (nat_lt size stated) (faults.short size) _ count e in
    let b = led_on (nat_lt stated size) (faults.trailing stated) _ count a.1 in
    let c = led_on (nat_lt size 16) (faults.short size) _ count b.1 in
    let is : size - 16 ≡ count = ok_is (size - 16) count c.1 in
    (omega (arith, ltb-false size stated a.0, ltb-false stated size b.0), omega (arith, ltb-false size 16 c.0, is))

-- a file of as many bytes as its head says
count_again : {F : Type 0} (faults : HeadFaults F) (size : ℕ) → 16 ≤ size → count_before faults size size ≡ Ok (size - 16)
unfolding count_before
count_again faults size long =
    let same : nat_lt size size ≡ false = le-ltb size size (omega arith) in
    let enough : nat_lt size 16 ≡ false = le-ltb size 16 long in
    rw (same, enough) refl

-- what stands before the digest of a file, and the digest
pub record IsSealed {F : Type 0} (faults : HeadFaults F) (name : List ℕ) (latest : ℕ) (bytes front : List ℕ) : Type 0 where
  pub stated : stated_length faults name latest bytes ≡ Ok (length bytes)
  pub parts : bytes ≡ front ++ md5 front
  pub count : length front + 16 ≡ length bytes

-- bytes before a digest that is theirs
pub unsealed_takes : {F : Type 0} (faults : HeadFaults F) (name : List ℕ) (latest : ℕ) (bytes front : List ℕ) → unsealed faults name latest bytes ≡ Ok front → IsSealed faults name latest bytes front
unfolding unsealed before_digest
unsealed_takes faults name latest bytes front e =
    let b = stepped (before_digest faults name latest bytes) (λ count. unless (bytes_eq (stored_digest count bytes) (found_digest count bytes)) (faults.digest (stored_digest count bytes) (found_digest count bytes)) (take count bytes)) front e in
    let t = stepped (stated_length faults name latest bytes) (λ stated. count_before faults (length bytes) stated) b.value b.is in
    let count = count_takes faults (length bytes) t.value b.value t.led in
    let p = passed (bytes_eq (stored_digest b.value bytes) (found_digest b.value bytes)) (faults.digest (stored_digest b.value bytes) (found_digest b.value bytes)) (take b.value bytes) front b.led in
    let same : stored_digest b.value bytes ≡ md5 front = (bytes_eq-Decides (stored_digest b.value bytes) (found_digest b.value bytes)).0 p.true ∙ ap md5 p.is in
    record {
      stated = t.is ∙ ap (λ n. Ok n) count.0;
      parts = sym (take-append-drop b.value bytes) ∙ ap (λ x. x ++ drop b.value bytes) p.is ∙ ap (λ x. front ++ x) same;
      count = omega (arith, sym (ap length p.is), length-take b.value bytes, count.1);
    }

-- bytes before a digest that is theirs are found
pub unsealed_again : {F : Type 0} (faults : HeadFaults F) (name : List ℕ) (latest : ℕ) (bytes front : List ℕ) → IsSealed faults name latest bytes front → unsealed faults name latest bytes ≡ Ok front
unfolding unsealed before_digest
unsealed_again faults name latest bytes front is =
    let count : length bytes - 16 ≡ length front = omega (arith, is.count) in
    let first : take (length front) bytes ≡ front = ap (take (length front)) is.parts ∙ take_at front (md5 front) (length front) refl in
    let last : drop (length front) bytes ≡ md5 front = ap (drop (length front)) is.parts ∙ drop_at front (md5 front) (length front) refl in
    let same : bytes_eq (md5 front) (md5 front) ≡ true = (bytes_eq-Decides (md5 front) (md5 front)).1 refl in
    rw (is.stated, count_again faults (length bytes) (omega (arith, is.count)), count, last, first, same) refl
