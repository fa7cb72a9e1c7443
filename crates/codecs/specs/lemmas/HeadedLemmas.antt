-- The laws of files whose format depends on their length, and of those whose head says the version and the length.
use Rattle.std.proofs.Common.{◌≡◌, ℕ, ◌+◌, ◌^◌, Bool, true, List, ◌++◌, length, Ok, refl, sym, ap, subst, ◌∙◌, arith}
use Rattle.std.specs.Prelude.{◌&&◌, ◌==◌, nat_lt}
use Rattle.std.specs.Int.{w16, w32, to_be_bytes}
use Rattle.std.proofs.lemmas.Bool.Decides.{Decides-eqb}
use Rattle.std.proofs.lemmas.List.{length-append}
use Rattle.xm_base.specs.Cursor.{cursor_start}
use Rattle.file_headers.specs.Faults.{HeadFaults}
use Rattle.file_headers.specs.lemmas.FieldLemmas.{wide16, wide32}
use Rattle.file_headers.specs.Heads.{is_version}
use Rattle.file_headers.specs.lemmas.StepLemmas.{ok_is, passed, stepped}
use Rattle.file_headers.specs.Steps.{unless}
use Rattle.codecs.specs.Codec.{Codec}
use Rattle.codecs.specs.Files.{FileCodec, file_through, headed, judged_file, read_to_end, sized_file, versioned_file}
use Rattle.codecs.specs.Lawful.{IsFileOf, IsLawful, IsLawfulFile}
use Rattle.codecs.specs.lemmas.FileLemmas.{ended, ended_again}
use Rattle.codecs.specs.lemmas.ReadLemmas.{and_both, both, passes}
use Rattle.codecs.specs.lemmas.CodecLemmas.{fixed_text_lawful, number_lawful, pair_lawful}

-- a file whose format depends on how many bytes it has
pub sized_lawful : {F X : Type 0} (trailing : ℕ → F) (of : ℕ → Codec F X) (size : X → ℕ) → ((n : ℕ) → IsLawful (of n)) → ((n : ℕ) (x : X) → (of n).fits x ≡ true → size x ≡ n) → IsLawfulFile (sized_file trailing of size)
sized_lawful {F} {X} trailing of size law is = record {
  spelled = λ bytes x each e.
      let t = ended trailing (of (length bytes)) (law (length bytes)) (cursor_start bytes) x each e in
      let stated : length bytes ≡ size x = sym (is (length bytes) x t.fits) in
      let P : ℕ → Type 0 = λ n. (bytes ≡ (of n).spell x) × ((of n).fits x ≡ true) in
      let so = subst P stated (t.text, t.fits) in
      record { text = so.0; fits = and_both _ _ so.1 ((Decides-eqb (length ((of (size x)).spell x)) (size x)).1 (sym (ap length so.0) ∙ stated)) };
  again = λ x fits.
      let f = both ((of (size x)).fits x) (length ((of (size x)).spell x) == size x) fits in
      let long : size x ≡ length ((of (size x)).spell x) = sym ((Decides-eqb (length ((of (size x)).spell x)) (size x)).0 f.1) in
      let text : List ℕ = (of (size x)).spell x in
      subst (λ (n : ℕ). read_to_end trailing (of n) (cursor_start text) ≡ Ok x) long (ended_again trailing (of (size x)) (law (size x)) (cursor_start text) x f.0 refl);
}

pub file_through_lawful : {F A X : Type 0} (to : A → X) (from : X → A) (c : FileCodec F A) → ((a : A) → c.fits a ≡ true → from (to a) ≡ a) → ((x : X) → c.fits (from x) ≡ true → to (from x) ≡ x) → IsLawfulFile c → IsLawfulFile (file_through to from c)
file_through_lawful {F} {A} {X} to from c back there law = record {
  spelled = λ bytes x each e.
      let s = stepped (c.read bytes) (λ a. Ok (to a)) x e in
      let t = law.spelled bytes s.value each s.is in
      let same : s.value ≡ from x = sym (back s.value t.fits) ∙ ap from (ok_is (to s.value) x s.led) in
      let u : IsFileOf c bytes (from x) = subst (λ (a : A). IsFileOf c bytes a) same t in
      record { text = u.text; fits = u.fits };
  again = λ x fits. rw (law.again (from x) fits) (ap (λ y. Ok y) (there x fits));
}

pub judged_lawful : {F X : Type 0} (refused : X → F) (test : X → Bool) (c : FileCodec F X) → IsLawfulFile c → IsLawfulFile (judged_file refused test c)
judged_lawful {F} {X} refused test c law = record {
  spelled = λ bytes x each e.
      let s = stepped (c.read bytes) (λ y. unless (test y) (refused y) y) x e in
      let p = passed (test s.value) (refused s.value) s.value x s.led in
      let t = law.spelled bytes s.value each s.is in
      subst (λ (y : X). IsFileOf (judged_file refused test c) bytes y) p.is (record { text = t.text; fits = and_both _ _ t.fits p.true });
  again = λ x fits.
      let f = both (c.fits x) (test x) fits in
      rw (law.again x f.0) (passes (test x) (refused x) x f.1);
}

headed_lawful : {F X : Type 0} (faults : HeadFaults F) (name : List ℕ) (latest : ℕ) (of : ℕ → Codec F X) → ((v : ℕ) → IsLawful (of v)) → (total : ℕ) → IsLawful (headed faults name latest of total)
headed_lawful faults name latest of law total =
    pair_lawful _ _ (fixed_text_lawful faults.short _ name) λ named.
    pair_lawful _ _ (number_lawful faults.short _ w16 _ wide16) λ version.
    pair_lawful _ _ (number_lawful faults.short _ w32 _ wide32) λ stated.
    law version

-- a value in one of the versions
pub versioned_lawful : {F X : Type 0} (faults : HeadFaults F) (name : List ℕ) (latest : ℕ) (of : ℕ → Codec F X) → length name ≡ 4 → ((v : ℕ) → IsLawful (of v)) → IsLawfulFile (versioned_file faults name latest of)
versioned_lawful {F} {X} faults name latest of four law =
    file_through_lawful _ _ (sized_file faults.trailing (headed faults name latest of) (λ t. t.1.1.0))
    (λ t fits.
    let f = both ((headed faults name latest of t.1.1.0).fits t) (length ((headed faults name latest of t.1.1.0).spell t) == t.1.1.0) fits in
    let long : length ((headed faults name latest of t.1.1.0).spell t) ≡ t.1.1.0 = (Decides-eqb (length ((headed faults name latest of t.1.1.0).spell t)) t.1.1.0).0 f.1 in
    let body : List ℕ = (of t.1.0).spell t.1.1.1 in
    let two : length (to_be_bytes w16 t.1.0) ≡ 2 = refl in
    let word : length (to_be_bytes w32 t.1.1.0) ≡ 4 = refl in
    let stated : 10 + length body ≡ t.1.1.0 = omega (
      arith,
      long,
      four,
      two,
      word,
      length-append name (to_be_bytes w16 t.1.0 ++ (to_be_bytes w32 t.1.1.0 ++ body)),
      length-append (to_be_bytes w16 t.1.0) (to_be_bytes w32 t.1.1.0 ++ body),
      length-append (to_be_bytes w32 t.1.1.0) body,
    ) in
    ap (λ n. (tt, (t.1.0, (n, t.1.1.1)))) stated)
    (λ x fits. refl)
    (sized_lawful faults.trailing (headed faults name latest of) (λ t. t.1.1.0) (headed_lawful faults name latest of law)
    (λ n t fits. stated_is n t fits))
  where
    third : (a w k rest : Bool) → (true && (a && ((w && k) && rest))) ≡ true → k ≡ true
    third a w k rest e = (both w k (both (w && k) rest (both a ((w && k) && rest) (both true (a && ((w && k) && rest)) e).1).1).0).1

    stated_is : (n : ℕ) (t : Unit {0} × (ℕ × (ℕ × X))) → (headed faults name latest of n).fits t ≡ true → t.1.1.0 ≡ n
    stated_is n t fits = (Decides-eqb t.1.1.0 n).0 (third (nat_lt t.1.0 (2 ^ 16) && is_version latest t.1.0) (nat_lt t.1.1.0 (2 ^ 32)) (t.1.1.0 == n) ((of t.1.0).fits t.1.1.1) fits)
