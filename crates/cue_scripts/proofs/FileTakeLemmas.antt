-- The file of a script: what is read is the script that it spells.
use Rattle.std.proofs.Common.{◌≡◌, ℕ, ◌^◌, ◌≤◌, List, [], ◌∷◌, ◌++◌, length, codes, None, Ok, sym, ap, subst, ◌∙◌, arith}
use Rattle.std.specs.Prelude.{nat_le, ◌==◌}
use Rattle.std.specs.Int.{w8, w16, w64, to_be_bytes}
use Rattle.std.specs.List.{flat_map}
use Rattle.std.proofs.lemmas.Bool.{eqb-true}
use Rattle.std.proofs.lemmas.List.{append-nil, nil_from_length}
use Rattle.xm_base.specs.Bytes.{AreBytes}
use Rattle.xm_base.specs.Cursor.{Place, ahead, left, cursor_start}
use Rattle.xm_conf.specs.Configuration.{Conf}
use Rattle.file_headers.specs.lemmas.FieldLemmas.{Takes, takes_both, wide8, listed_takes}
use Rattle.xef_images.specs.lemmas.ImageLemmas.{Decides-nat_le}
use Rattle.file_headers.specs.lemmas.StepLemmas.{stepped, ok_is, passed}
use Rattle.file_headers.specs.Steps.{◌>>=◌, unless}
use Rattle.machine_model.specs.Cue.{Cue}
use Rattle.file_headers.specs.Fields.{listed_at}
use Rattle.file_headers.specs.lemmas.HeadLemmas.{is_first, magic_takes, version_takes}
use Rattle.file_headers.specs.Heads.{magic_at, version_at}
use Rattle.cue_scripts.specs.Entries.{Entry, expanded, runs}
use Rattle.cue_scripts.specs.Spelling.{IsSpelledScript, entry_text, script_head_text, script_text}
use Rattle.cue_scripts.specs.Reading.{body_at, script_entries_at, entries_of, partition_at, script_read, cue_count_at, script_field, script_short, script_version}
use Rattle.fault_messages.specs.declared.fault.ScriptFault.TheVariants.{Magic, Trailing}
use Rattle.cue_scripts.proofs.FieldLemmas.{one_byte, wide64}
use Rattle.cue_scripts.proofs.RunLemmas.{runs_again}
use Rattle.cue_scripts.proofs.ScriptLemmas.{are_longest, are_script, have_cues}
use Rattle.cue_scripts.proofs.WholeTakeLemmas.{AreEntries, entries_take}

-- the partition's number that is read stands there
id_takes : (p : ℕ) (place after : Place) → AreBytes (ahead place) → partition_at p place ≡ Ok after → Takes place (p ∷ []) after
unfolding partition_at
id_takes p place after each e =
    let s = stepped (listed_at script_short script_field w8 (λ id. id == p) place) (λ field. Ok field.1) after e in
    let t = listed_takes script_short script_field w8 256 wide8 (λ id. id == p) place s.value.0 s.value.1 each s.is in
    let same : s.value.0 ≡ p = eqb-true s.value.0 p t.2 in
    let here : Takes place (s.value.0 ∷ []) s.value.1 = rw (one_byte s.value.0 t.1) at t.0 in
    subst (λ (place' : Place). Takes place (p ∷ []) place') (ok_is s.value.1 after s.led) (subst (λ (n : ℕ). Takes place (n ∷ []) s.value.1) same here)

-- the entries of a file that is read, and their number of cues
pub record IsRead (conf : Conf) (p : ℕ) (bytes : List ℕ) (entries : List Entry) : Type 0 where
  pub total : ℕ
  pub few : total ≤ 4000000000
  pub are : AreEntries conf p total None entries
  pub text : bytes ≡ script_head_text p total ++ flat_map entry_text entries

-- what is read of a file stands there
pub file_takes : (conf : Conf) (p : ℕ) (bytes : List ℕ) (entries : List Entry) → AreBytes bytes → entries_of conf p bytes ≡ Ok entries → IsRead conf p bytes entries
unfolding entries_of body_at cue_count_at script_head_text
file_takes conf p bytes entries each e =
    let b = stepped (body_at conf p (cursor_start bytes)) (λ found. unless (left found.1 == 0) (Trailing found.1.at) found.0) entries e in
    let q = passed (left b.value.1 == 0) (Trailing b.value.1.at) b.value.0 entries b.led in
    let m = stepped (magic_at script_short Magic (codes "XMSC") (cursor_start bytes)) (λ name. version_at script_short script_version 1 name >>= λ version. partition_at p version.1 >>= λ id. cue_count_at id >>= λ total. script_entries_at conf p total.0 total.0 None total.1) b.value b.is in
    let v = stepped (version_at script_short script_version 1 m.value) (λ version. partition_at p version.1 >>= λ id. cue_count_at id >>= λ total. script_entries_at conf p total.0 total.0 None total.1) b.value m.led in
    let i = stepped (partition_at p v.value.1) (λ id. cue_count_at id >>= λ total. script_entries_at conf p total.0 total.0 None total.1) b.value v.led in
    let t = stepped (cue_count_at i.value) (λ total. script_entries_at conf p total.0 total.0 None total.1) b.value i.led in
    let first = magic_takes script_short Magic (codes "XMSC") (cursor_start bytes) m.value each m.is in
    let known = version_takes script_short script_version 1 m.value v.value.0 v.value.1 first.rest v.is in
    let second : Takes m.value (to_be_bytes w16 1) v.value.1 = subst (λ (version : ℕ). Takes m.value (to_be_bytes w16 version) v.value.1) (is_first v.value.0 known.1) known.0 in
    let third = id_takes p v.value.1 i.value second.rest i.is in
    let fourth = listed_takes script_short script_field w64 (2 ^ 64) wide64 (λ total. nat_le total 4000000000) i.value t.value.0 t.value.1 third.rest t.is in
    let fifth = entries_take conf p t.value.0 t.value.0 None t.value.1 b.value.0 b.value.1 (omega arith) fourth.0.rest t.led in
    let numbered = takes_both v.value.1 (p ∷ []) i.value (to_be_bytes w64 t.value.0) t.value.1 third fourth.0 in
    let versioned = takes_both m.value (to_be_bytes w16 1) v.value.1 (p ∷ to_be_bytes w64 t.value.0) t.value.1 second numbered in
    let head = takes_both (cursor_start bytes) (codes "XMSC") m.value (to_be_bytes w16 1 ++ p ∷ to_be_bytes w64 t.value.0) t.value.1 first versioned in
    let whole = takes_both (cursor_start bytes) (script_head_text p t.value.0) t.value.1 (flat_map entry_text b.value.0) b.value.1 head fifth.0 in
    let none : ahead b.value.1 ≡ [] = nil_from_length (ahead b.value.1) (eqb-true (left b.value.1) 0 q.true) in
    let all : bytes ≡ script_head_text p t.value.0 ++ flat_map entry_text b.value.0
    = whole.parts ∙ ap (λ rest. (script_head_text p t.value.0 ++ flat_map entry_text b.value.0) ++ rest) none ∙ append-nil (script_head_text p t.value.0 ++ flat_map entry_text b.value.0) in
    subst (λ found. IsRead conf p bytes found) q.is (
    record {
      total = t.value.0;
      few = (Decides-nat_le t.value.0 4000000000).0 fourth.2;
      are = fifth.1;
      text = all;
    }
    )

-- a file that is read is the one spelling of its cues
pub file_spells : (conf : Conf) (p : ℕ) (bytes : List ℕ) (entries : List Entry) → IsRead conf p bytes entries → IsSpelledScript conf p bytes (expanded entries)
unfolding script_text
file_spells conf p bytes entries is =
    let counted : length (expanded entries) ≡ is.total = have_cues conf p is.total None entries is.are in
    let again : runs (expanded entries) ≡ entries = runs_again None entries (are_longest conf p is.total None entries is.are) in
    record {
      script = are_script conf p is.total entries is.few is.are;
      text = is.text ∙ ap (λ n. script_head_text p n ++ flat_map entry_text entries) (sym counted) ∙ ap (λ xs. script_head_text p (length (expanded entries)) ++ flat_map entry_text xs) (sym again);
    }

-- what is read of bytes is what they spell
pub script_takes : (conf : Conf) (p : ℕ) (bytes : List ℕ) (cues : List Cue) → AreBytes bytes → script_read conf p bytes ≡ Ok cues → IsSpelledScript conf p bytes cues
unfolding script_read
script_takes conf p bytes cues each e =
    let s = stepped (entries_of conf p bytes) (λ entries. Ok (expanded entries)) cues e in
    subst (λ found. IsSpelledScript conf p bytes found) (ok_is (expanded s.value) cues s.led) (file_spells conf p bytes s.value (file_takes conf p bytes s.value each s.is))
