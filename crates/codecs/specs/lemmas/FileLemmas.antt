-- The laws of files, and that no spelling is a prefix of another.
use Rattle.std.proofs.Common.{◌≡◌, ℕ, ◌+◌, ◌^◌, ◌<◌, ◌≤◌, true, List, [], ◌++◌, length, take, drop, Ok, refl, sym, ap, subst, ◌∙◌, append_assoc, arith}
use Rattle.std.specs.Prelude.{◌==◌, nat_lt}
use Rattle.std.proofs.lemmas.List.{append-nil, take_at, drop_at, take-append-drop, take-append-le, length-append, length-drop, nil_from_length}
use Rattle.std.proofs.lemmas.Bool.Decides.{Decides-eqb}
use Rattle.md5.specs.Md5.{md5}
use Rattle.md5.proofs.StandardFacts.{length-md5}
use Rattle.xm_base.specs.Bytes.{AreBytes}
use Rattle.xm_base.specs.Cursor.{Place, ahead, cursor_start, left, past}
use Rattle.file_headers.specs.Faults.{HeadFaults}
use Rattle.file_headers.specs.lemmas.FieldLemmas.{AreBytes-drop, AreBytes-take}
use Rattle.file_headers.specs.lemmas.HeadLemmas.{IsSealed, length-lead, stated_again, stated_takes_first, unsealed_again, unsealed_takes}
use Rattle.file_headers.specs.lemmas.HeadsTerms.{lead_text}
use Rattle.file_headers.specs.Heads.{stated_length, unsealed}
use Rattle.file_headers.specs.lemmas.StepLemmas.{ok_is, passed, stepped}
use Rattle.file_headers.specs.Steps.{unless}
use Rattle.codecs.specs.Codec.{Codec}
use Rattle.codecs.specs.Files.{read_to_end, sealed_file, sealed_length, text_before_digest, whole_file}
use Rattle.codecs.specs.Lawful.{IsFileOf, IsLawful, IsLawfulFile, IsPrefixFree}
use Rattle.codecs.specs.Laws.{HasBytes}
use Rattle.codecs.specs.lemmas.ReadLemmas.{and_both, both, passes}
use Rattle.codecs.specs.lemmas.CodecLemmas.{below_of, test_of}

-- no spelling is a prefix of another, and what follows is what follows: of every format
pub none_is_prefix : {F X : Type 0} (c : Codec F X) → IsLawful c → (x y : X) (r s : List ℕ) → c.fits x ≡ true → c.fits y ≡ true → c.spell x ++ r ≡ c.spell y ++ s → (x ≡ y) × (r ≡ s)
none_is_prefix {F} {X} c law x y r s one other same =
    let place : Place = cursor_start (c.spell x ++ r) in
    let a = law.again place x r one refl in
    let b = law.again place y s other same in
    let e : (let p : X × Place = (x, a.after) in p ≡ (y, b.after)) = ok_is (x, a.after) (y, b.after) (sym a.is ∙ b.is) in
    (ap (λ q. q.0) e, sym a.later ∙ ap (λ q. ahead q.1) e ∙ b.later)

-- a value that was read to the end
pub record Ended {F X : Type 0} (c : Codec F X) (place : Place) (x : X) : Type 0 where
  pub text : ahead place ≡ c.spell x
  pub fits : c.fits x ≡ true

pub ended : {F X : Type 0} (trailing : ℕ → F) (c : Codec F X) → IsLawful c → (place : Place) (x : X) → AreBytes (ahead place) → read_to_end trailing c place ≡ Ok x → Ended c place x
ended {F} {X} trailing c law place x bytes e =
    let s = stepped (c.read place) (λ y. unless (left y.1 == 0) (trailing y.1.at) y.0) x e in
    let p = passed (left s.value.1 == 0) (trailing s.value.1.at) s.value.0 x s.led in
    let t = law.spelled place s.value.0 s.value.1 bytes s.is in
    let end : ahead s.value.1 ≡ [] = nil_from_length (ahead s.value.1) ((Decides-eqb (left s.value.1) 0).0 p.true) in
    subst (λ (y : X). Ended c place y) p.is
    (record { text = t.text ∙ ap (λ rest. c.spell s.value.0 ++ rest) end ∙ append-nil (c.spell s.value.0); fits = t.fits })

pub ended_again : {F X : Type 0} (trailing : ℕ → F) (c : Codec F X) → IsLawful c → (place : Place) (x : X) → c.fits x ≡ true → ahead place ≡ c.spell x → read_to_end trailing c place ≡ Ok x
ended_again {F} {X} trailing c law place x fits stands =
    let r = law.again place x [] fits (stands ∙ sym (append-nil (c.spell x))) in
    let end : (left r.after == 0) ≡ true = (Decides-eqb (left r.after) 0).1 (ap length r.later) in
    rw r.is (passes (left r.after == 0) (trailing r.after.at) x end)

-- a file that is one value
pub whole_lawful : {F X : Type 0} (trailing : ℕ → F) (c : Codec F X) → IsLawful c → IsLawfulFile (whole_file trailing c)
whole_lawful trailing c law = record {
  spelled = λ bytes x each e. let t = ended trailing c law (cursor_start bytes) x each e in record { text = t.text; fits = t.fits };
  again = λ x fits. ended_again trailing c law (cursor_start (c.spell x)) x fits refl;
}

-- no file of one value is a proper prefix of another
pub whole_ends : {F X : Type 0} (trailing : ℕ → F) (c : Codec F X) → IsLawful c → IsPrefixFree (whole_file trailing c)
whole_ends trailing c law x y rest one other longer =
    sym (none_is_prefix c law y x [] rest other one (append-nil (c.spell y) ∙ longer)).1

-- the length of a sealed file is the one in its head
length-front : (name : List ℕ) (fields : List ℕ) → length name ≡ 4 → length (text_before_digest name fields) ≡ 10 + length fields
length-front name fields four =
    omega (arith, length-append (lead_text name 1 (sealed_length (length fields))) fields, length-lead name 1 (sealed_length (length fields)) four)

pub length-sealed : {F X : Type 0} (faults : HeadFaults F) (name : List ℕ) (c : Codec F X) → length name ≡ 4 → (x : X) → length ((sealed_file faults name c).spell x) ≡ sealed_length (length (c.spell x))
length-sealed faults name c four x =
    let front = text_before_digest name (c.spell x) in
    omega (arith, length-append front (md5 front), length-md5 front, length-front name (c.spell x) four)

-- the bytes before the digest, and the digest
sealed_so : {F X : Type 0} (faults : HeadFaults F) (name : List ℕ) (c : Codec F X) → length name ≡ 4 → (x : X) → sealed_length (length (c.spell x)) < 2 ^ 32
    → IsSealed faults name 1 ((sealed_file faults name c).spell x) (text_before_digest name (c.spell x))
sealed_so faults name c four x below =
    let fields = c.spell x in
    let size = sealed_length (length fields) in
    let front = text_before_digest name fields in
    let rest = fields ++ md5 front in
    let parts : front ++ md5 front ≡ lead_text name 1 size ++ rest = append_assoc (lead_text name 1 size) fields (md5 front) in
    let stated = length-sealed faults name c four x in
    record {
      stated = ap (stated_length faults name 1) parts ∙ stated_again faults name 1 1 size rest four refl (omega arith) below ∙ ap (λ n. Ok n) (sym stated);
      parts = refl;
      count = omega (arith, stated, length-front name fields four);
    }

sealed_spelled : {F X : Type 0} (faults : HeadFaults F) (name : List ℕ) (c : Codec F X) → length name ≡ 4 → IsLawful c → HasBytes c → (bytes : List ℕ) (x : X) → AreBytes bytes
    → (sealed_file faults name c).read bytes ≡ Ok x → IsFileOf (sealed_file faults name c) bytes x
sealed_spelled {F} {X} faults name c four law some bytes x each e =
    let s = stepped (unsealed faults name 1 bytes) (λ front. read_to_end faults.trailing c (past 10 (cursor_start front))) x e in
    let front = s.value in
    let is = unsealed_takes faults name 1 bytes front s.is in
    let front_each : AreBytes front = subst (λ (y : List ℕ). AreBytes y) (ap (take (length front)) is.parts ∙ take_at front (md5 front) (length front) refl) (AreBytes-take (length front) bytes each) in
    let t = ended faults.trailing c law (past 10 (cursor_start front)) x (AreBytes-drop 10 front front_each) s.led in
    let fields = c.spell x in
    let size = length bytes in
    let long : 10 ≤ length front = omega (arith, some x t.fits, ap length t.text, length-drop 10 front) in
    let head = stated_takes_first faults name bytes size four each is.stated in
    let lead = lead_text name 1 size in
    let first : take 10 bytes ≡ lead = ap (take 10) head.0 ∙ take_at lead (drop 10 bytes) 10 (length-lead name 1 size four) in
    let same : take 10 bytes ≡ take 10 front = ap (take 10) is.parts ∙ take-append-le 10 front (md5 front) long in
    let parts : front ≡ lead ++ fields = sym (take-append-drop 10 front) ∙ ap (λ y. y ++ drop 10 front) (sym same ∙ first) ∙ ap (λ y. lead ++ y) t.text in
    let sized : size ≡ sealed_length (length fields) = omega (arith, is.count, ap length parts, length-append lead fields, length-lead name 1 size four) in
    let spelled : front ≡ text_before_digest name fields = parts ∙ ap (λ n. lead_text name 1 n ++ fields) sized in
    record {
      text = is.parts ∙ ap (λ y. y ++ md5 y) spelled;
      fits = and_both _ _ t.fits (test_of (sealed_length (length fields)) (2 ^ 32) (omega (arith, head.1, sized)));
    }

sealed_again : {F X : Type 0} (faults : HeadFaults F) (name : List ℕ) (c : Codec F X) → length name ≡ 4 → IsLawful c → (x : X) → (sealed_file faults name c).fits x ≡ true → (sealed_file faults name c).read ((sealed_file faults name c).spell x) ≡ Ok x
sealed_again {F} {X} faults name c four law x fits =
    let f = both (c.fits x) (nat_lt (sealed_length (length (c.spell x))) (2 ^ 32)) fits in
    let fields = c.spell x in
    let size = sealed_length (length fields) in
    let front = text_before_digest name fields in
    let u = unsealed_again faults name 1 ((sealed_file faults name c).spell x) front (sealed_so faults name c four x (below_of size (2 ^ 32) f.1)) in
    let after : drop 10 front ≡ fields = drop_at (lead_text name 1 size) fields 10 (length-lead name 1 size four) in
    rw u (ended_again faults.trailing c law (past 10 (cursor_start front)) x f.0 after)

-- a sealed file, where each value has some bytes
pub sealed_lawful : {F X : Type 0} (faults : HeadFaults F) (name : List ℕ) (c : Codec F X) → length name ≡ 4 → IsLawful c → HasBytes c → IsLawfulFile (sealed_file faults name c)
sealed_lawful faults name c four law some = record {
  spelled = λ bytes x each e. sealed_spelled faults name c four law some bytes x each e;
  again = λ x fits. sealed_again faults name c four law x fits;
}

-- no sealed file is a proper prefix of another
pub sealed_ends : {F X : Type 0} (faults : HeadFaults F) (name : List ℕ) (c : Codec F X) → length name ≡ 4 → (x y : X) (rest : List ℕ) → (sealed_file faults name c).fits x ≡ true → (sealed_file faults name c).fits y ≡ true
    → (sealed_file faults name c).spell y ≡ (sealed_file faults name c).spell x ++ rest → rest ≡ []
sealed_ends {F} {X} faults name c four x y rest one other longer =
    let f = below_of (sealed_length (length (c.spell x))) (2 ^ 32) (both (c.fits x) (nat_lt (sealed_length (length (c.spell x))) (2 ^ 32)) one).1 in
    let g = below_of (sealed_length (length (c.spell y))) (2 ^ 32) (both (c.fits y) (nat_lt (sealed_length (length (c.spell y))) (2 ^ 32)) other).1 in
    let size = sealed_length (length (c.spell x)) in
    let front = text_before_digest name (c.spell x) in
    let file = (sealed_file faults name c).spell x in
    let more = (sealed_file faults name c).spell y in
    let after = c.spell x ++ (md5 front ++ rest) in
    let parts : file ++ rest ≡ lead_text name 1 size ++ after = append_assoc front (md5 front) rest ∙ append_assoc (lead_text name 1 size) (c.spell x) (md5 front ++ rest) in
    let stated : stated_length faults name 1 more ≡ Ok size = ap (stated_length faults name 1) (longer ∙ parts) ∙ stated_again faults name 1 1 size after four refl (omega arith) f in
    let same : length more ≡ size = ok_is (length more) size (sym (sealed_so faults name c four y g).stated ∙ stated) in
    nil_from_length rest (omega (arith, same, ap length longer, length-append file rest, length-sealed faults name c four x))
