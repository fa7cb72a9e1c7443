-- The file of a script: what is spelled is read, and nothing more.
use Rattle.std.proofs.Common.{◌≡◌, ℕ, suc, ◌+◌, ◌-◌, ◌^◌, ◌<◌, ◌≤◌, Bool, true, List, [], ◌∷◌, ◌++◌, length, codes, Option, Some, None, Ok, Err, refl, sym, ap, subst, ◌∙◌, append_assoc, arith}
use Rattle.std.specs.Prelude.{nat_le, ◌==◌, replicate}
use Rattle.std.specs.Int.{w8, w16, w64, to_be_bytes}
use Rattle.std.specs.List.{AllByRecursion, flat_map}
use Rattle.std.proofs.lemmas.Bool.{eq-eqb}
use Rattle.std.proofs.lemmas.List.{append-nil, length-append, length-replicate}
use Rattle.xm_base.specs.Cursor.{ahead, left, cursor_start}
use Rattle.xm_conf.specs.Configuration.{Conf}
use Rattle.file_headers.specs.lemmas.FieldLemmas.{wide8, wide16, Reads, bytes_again, listed_again, number_again}
use Rattle.xef_images.specs.lemmas.ImageLemmas.{Decides-nat_le}
use Rattle.file_headers.specs.lemmas.StepLemmas.{ok_is}
use Rattle.machine_model.specs.Cue.{Cue}
use Rattle.file_headers.specs.Heads.{magic_at, version_at}
use Rattle.cue_scripts.specs.Entries.{Alike, AreLongest, Entry, Other, expanded, bare_cue, runs}
use Rattle.cue_scripts.specs.Script.{HaltsLast, IsCue, IsScript}
use Rattle.cue_scripts.specs.Gives.{Fails}
use Rattle.cue_scripts.specs.Spelling.{IsSpelledScript, entry_text, script_head_text, script_text}
use Rattle.cue_scripts.specs.Reading.{body_at, entries_of, partition_at, script_read, cue_count_at, script_field, script_short}
use Rattle.fault_messages.specs.declared.fault.ScriptFault.{ScriptFault}
use Rattle.cue_scripts.proofs.EntriesLemmas.{fails_on}
use Rattle.cue_scripts.proofs.FieldLemmas.{one_byte, wide64}
use Rattle.cue_scripts.proofs.RunLemmas.{runs_expand, runs_longest}
use Rattle.cue_scripts.proofs.WholeAgainLemmas.{entries_again}
use Rattle.cue_scripts.proofs.WholeTakeLemmas.{AreEntries}

-- the head and the entries that stand there are read
pub body_again : (conf : Conf) (p total : ℕ) (entries : List Entry) (rest : List ℕ) → p < 256 → total ≤ 4000000000 → AreEntries conf p total None entries
    → Reads (body_at conf p (cursor_start ((script_head_text p total ++ flat_map entry_text entries) ++ rest))) entries rest
unfolding body_at magic_at version_at partition_at cue_count_at script_head_text
body_again conf p total entries rest below few are =
    let following = flat_map entry_text entries ++ rest in
    let stands = append_assoc (script_head_text p total) (flat_map entry_text entries) rest in
    let a = bytes_again script_short 4 (cursor_start ((script_head_text p total ++ flat_map entry_text entries) ++ rest)) (codes "XMSC") (to_be_bytes w16 1 ++ (p ∷ (to_be_bytes w64 total ++ (flat_map entry_text entries ++ rest)))) refl stands in
    let b = number_again script_short w16 (2 ^ 16) wide16 a.after 1 (p ∷ (to_be_bytes w64 total ++ (flat_map entry_text entries ++ rest))) (omega arith) a.ahead in
    let i = listed_again script_short script_field w8 256 wide8 (λ id. id == p) b.after p (to_be_bytes w64 total ++ (flat_map entry_text entries ++ rest)) below (eq-eqb p p refl)
    (b.ahead ∙ ap (λ x. x ++ (to_be_bytes w64 total ++ (flat_map entry_text entries ++ rest))) (sym (one_byte p below))) in
    let t = listed_again script_short script_field w64 (2 ^ 64) wide64 (λ total. nat_le total 4000000000) i.after total (flat_map entry_text entries ++ rest) (omega (arith, few)) ((Decides-nat_le total 4000000000).1 few) i.ahead in
    let r = entries_again conf p total total None t.after entries rest (omega arith) (omega (arith, few)) are t.ahead in
    record { after = r.after; is = rw (a.is, b.is, i.is, t.is) r.is; ahead = r.ahead }

-- entries that are spelled are read
pub file_again : (conf : Conf) (p total : ℕ) (entries : List Entry) → p < 256 → total ≤ 4000000000 → AreEntries conf p total None entries → entries_of conf p (script_head_text p total ++ flat_map entry_text entries) ≡ Ok entries
unfolding entries_of
file_again conf p total entries below few are =
    let r = body_again conf p total entries [] below few are in
    let none : (left r.after == 0) ≡ true = eq-eqb (left r.after) 0 (ap length r.ahead) in
    ap (entries_of conf p) (sym (append-nil (script_head_text p total ++ flat_map entry_text entries))) ∙ rw (r.is, none) refl

-- what stands after others
all_after : {X : Type 0} (P : X → Type 0) (xs ys : List X) → AllByRecursion P (xs ++ ys) → AllByRecursion P ys
all_after P [] ys all = all
all_after P (x ∷ xs) ys all = all_after P xs ys all.1

halts_after : (xs ys : List Cue) → HaltsLast (xs ++ ys) → HaltsLast ys
halts_after [] ys halts = halts
halts_after (x ∷ xs) ys halts = halts_after xs ys halts.1

-- entries that are as long as they can be stand one after the other
are_entries : (conf : Conf) (p : ℕ) (last : Option Bool) (entries : List Entry) → AreLongest last entries → AllByRecursion (IsCue conf p) (expanded entries) → HaltsLast (expanded entries)
    → AreEntries conf p (length (expanded entries)) last entries
are_entries conf p last [] longest each halts = refl
are_entries conf p last (Alike own count ∷ later) longest each halts =
    let size : length (expanded (Alike own count ∷ later)) ≡ count + length (expanded later)
    = length-append (replicate count (bare_cue own)) (expanded later) ∙ ap (λ n. n + length (expanded later)) (length-replicate count (bare_cue own)) in
    let fewer : length (expanded later) ≡ length (expanded (Alike own count ∷ later)) - count = omega (arith, size) in
    let others = are_entries conf p (Some own) later longest.1 (all_after (IsCue conf p) (replicate count (bare_cue own)) (expanded later) each) (halts_after (replicate count (bare_cue own)) (expanded later) halts) in
    ((longest.0.0, longest.0.1, omega (arith, size)), omega (arith, size, longest.0.1), subst (λ n. AreEntries conf p n (Some own) later) fewer others)
are_entries conf p last (Other cue ∷ later) longest each halts =
    let fewer : length (expanded later) ≡ suc (length (expanded later)) - 1 = omega arith in
    let others = are_entries conf p None later longest.1 each.1 halts.1 in
    ((longest.0, each.0, λ h. ap (λ xs. suc (length xs)) (halts.0 h)), omega arith, subst (λ n. AreEntries conf p n None later) fewer others)

-- the entries of a script
script_entries : (conf : Conf) (p : ℕ) (cues : List Cue) → IsScript conf p cues → AreEntries conf p (length cues) None (runs cues)
script_entries conf p cues is =
    let same = runs_expand cues in
    subst (λ xs. AreEntries conf p (length xs) None (runs cues)) same
    (are_entries conf p None (runs cues) (runs_longest cues) (subst (AllByRecursion (IsCue conf p)) (sym same) is.each) (subst HaltsLast (sym same) is.halts))

-- what is written is read
pub script_again : (conf : Conf) (p : ℕ) (cues : List Cue) → p < 256 → IsScript conf p cues → script_read conf p (script_text p cues) ≡ Ok cues
unfolding script_read script_text
script_again conf p cues below is = rw (file_again conf p (length cues) (runs cues) below is.few (script_entries conf p cues is)) (ap Ok (runs_expand cues))

-- so bytes that spell a script are read as its cues
pub spelled_read : (conf : Conf) (p : ℕ) (bytes : List ℕ) (cues : List Cue) → p < 256 → IsSpelledScript conf p bytes cues → script_read conf p bytes ≡ Ok cues
spelled_read conf p bytes cues below spelled = ap (script_read conf p) spelled.text ∙ script_again conf p cues below spelled.script

-- the cues are those of the entries
pub script_is : (conf : Conf) (p : ℕ) (bytes : List ℕ) (entries : List Entry) → entries_of conf p bytes ≡ Ok entries → script_read conf p bytes ≡ Ok (expanded entries)
unfolding script_read
script_is conf p bytes entries read = rw read refl

-- a fault of the entries is that of the script
fault_is : (conf : Conf) (p : ℕ) (bytes : List ℕ) (f : ScriptFault) → entries_of conf p bytes ≡ Err f → script_read conf p bytes ≡ Err f
unfolding script_read
fault_is conf p bytes f met = rw met refl

pub script_fails : (fault : ScriptFault) (conf : Conf) (p : ℕ) (bytes : List ℕ) → Fails fault (entries_of conf p bytes) → Fails fault (script_read conf p bytes)
script_fails fault conf p bytes met = fails_on fault (entries_of conf p bytes) (script_read conf p bytes) (fault_is conf p bytes) met

-- no script is a proper prefix of another
pub none_longer : (conf : Conf) (p : ℕ) (one other : List Cue) (rest : List ℕ) → p < 256 → IsScript conf p one → IsScript conf p other → script_text p other ≡ script_text p one ++ rest → rest ≡ []
unfolding script_text
none_longer conf p one other rest below is is_other longer =
    let a = body_again conf p (length one) (runs one) rest below is.few (script_entries conf p one is) in
    let b = body_again conf p (length other) (runs other) [] below is_other.few (script_entries conf p other is_other) in
    let same : body_at conf p (cursor_start (script_text p other ++ [])) ≡ body_at conf p (cursor_start (script_text p one ++ rest)) = ap (λ bytes. body_at conf p (cursor_start bytes)) (append-nil (script_text p other) ∙ longer) in
    let ends : (runs other, b.after) ≡ (runs one, a.after) = ok_is (runs other, b.after) (runs one, a.after) (sym b.is ∙ same ∙ a.is) in
    sym a.ahead ∙ ap (λ x. ahead x.1) (sym ends) ∙ b.ahead
