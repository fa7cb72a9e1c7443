-- Cues that are written one by one.
use Rattle.std.proofs.Common.{◌≡◌, ◌≢◌, ℕ, zero, suc, ◌+◌, ◌<◌, ◌≤◌, Bool, true, false, List, [], ◌∷◌, ◌++◌, length, Option, Some, None, refl, sym, ap, subst, ◌∙◌, append_assoc, arith}
use Rattle.std.specs.Prelude.{nat_le, replicate}
use Rattle.std.specs.List.{flat_map}
use Rattle.std.proofs.lemmas.Bool.Decides.{nat_tests}
use Rattle.std.proofs.lemmas.Grind.{flat_map-append}
use Rattle.std.proofs.lemmas.List.{append-nil, length-append}
use Rattle.std.proofs.lemmas.List.Concat.{flat_map-cons}
use Rattle.xm_base.specs.declared.limits.TheConstants.{FILE_BYTES}
use Rattle.xef_images.specs.lemmas.ImageLemmas.{Decides-nat_le}
use Rattle.machine_model.specs.Cue.{Cue}
use Rattle.cue_scripts.specs.Entries.{Alike, AreLongest, Entry, MayFollow, Other, bare_cue, cues_of, expanded, is_bare, plain_cue_of, plain_kind, runs}
use Rattle.cue_scripts.specs.Spelling.{entry_text, script_head_text, script_text}
use Rattle.cue_scripts.specs.Written.{AreWholeEntries, IsWithin, IsWritten, Written, entry_closed, closed_by, is_open, kept_within, last_own, nothing_written, entry_opened, plain_repeated, repeated_by, with_alike, with_cue, with_kind, with_script_entry}
use Rattle.cue_scripts.proofs.RunLemmas.{plain_is, runs_again, runs_expand, runs_longest}

-- entries and one more that may stand there are as long as they can be
more_longest : (last : Option Bool) (entries : List Entry) (entry : Entry) → AreLongest last entries → MayFollow (last_own last entries) entry → AreLongest last (entries ++ entry ∷ [])
more_longest last [] entry longest may = (may, tt)
more_longest last (first ∷ later) entry longest may = (longest.0, more_longest (plain_cue_of first) later entry longest.1 may)

-- the last one may repeat its cue once more
grown_longest : (last : Option Bool) (entries : List Entry) (own : Bool) (count : ℕ) → AreLongest last (entries ++ Alike own count ∷ []) → AreLongest last (entries ++ Alike own (suc count) ∷ [])
grown_longest last [] own count longest = ((longest.0.0, omega arith), tt)
grown_longest last (first ∷ later) own count longest = (longest.0, grown_longest (plain_cue_of first) later own count longest.1)

-- the cues of entries and of one more
expanded_more : (entries : List Entry) (entry : Entry) → expanded (entries ++ entry ∷ []) ≡ expanded entries ++ cues_of entry
expanded_more [] entry = append-nil (cues_of entry)
expanded_more (first ∷ later) entry = ap (λ rest. cues_of first ++ rest) (expanded_more later entry) ∙ sym (append_assoc (cues_of first) (expanded later) (cues_of entry))

-- one more plain cue is at the end, too
replicate_more : (count : ℕ) (cue : Cue) → replicate (suc count) cue ≡ replicate count cue ++ cue ∷ []
replicate_more zero cue = refl
replicate_more (suc count) cue = ap (λ rest. cue ∷ rest) (replicate_more count cue)

-- which cue is repeated last
last_more : (last : Option Bool) (entries : List Entry) (entry : Entry) → last_own last (entries ++ entry ∷ []) ≡ plain_cue_of entry
last_more last [] entry = refl
last_more last (first ∷ later) entry = last_more (plain_cue_of first) later entry

-- a cue of an entry of its own
runs_more : (cues : List Cue) (cue : Cue) (entry : Entry) → cues_of entry ≡ cue ∷ [] → MayFollow (last_own None (runs cues)) entry → runs (cues ++ cue ∷ []) ≡ runs cues ++ entry ∷ []
runs_more cues cue entry one may =
    let all : expanded (runs cues ++ entry ∷ []) ≡ cues ++ cue ∷ [] =
    expanded_more (runs cues) entry ∙ ap (λ xs. xs ++ cues_of entry) (runs_expand cues) ∙ ap (λ xs. cues ++ xs) one in
    ap runs (sym all) ∙ runs_again None (runs cues ++ entry ∷ []) (more_longest None (runs cues) entry (runs_longest cues) may)

-- a cue that the last entry repeats
runs_longer : (cues : List Cue) (whole : List Entry) (own : Bool) (count : ℕ) → runs cues ≡ whole ++ Alike own count ∷ [] → runs (cues ++ bare_cue own ∷ []) ≡ whole ++ Alike own (suc count) ∷ []
runs_longer cues whole own count are =
    let longest = grown_longest None whole own count (subst (AreLongest None) are (runs_longest cues)) in
    let before : expanded whole ++ replicate count (bare_cue own) ≡ cues = sym (expanded_more whole (Alike own count)) ∙ ap expanded (sym are) ∙ runs_expand cues in
    let all : expanded (whole ++ Alike own (suc count) ∷ []) ≡ cues ++ bare_cue own ∷ [] =
    expanded_more whole (Alike own (suc count)) ∙ ap (λ xs. expanded whole ++ xs) (replicate_more count (bare_cue own))
    ∙ sym (append_assoc (expanded whole) (replicate count (bare_cue own)) (bare_cue own ∷ [])) ∙ ap (λ xs. xs ++ bare_cue own ∷ []) before in
    ap runs (sym all) ∙ runs_again None (whole ++ Alike own (suc count) ∷ []) longest

-- the text of entries and of one more
text_more : (entries : List Entry) (entry : Entry) → flat_map entry_text (entries ++ entry ∷ []) ≡ flat_map entry_text entries ++ entry_text entry
text_more entries entry =
    flat_map-append entry_text entries (entry ∷ []) ∙ ap (λ xs. flat_map entry_text entries ++ xs) (flat_map-cons entry_text entry [] ∙ append-nil (entry_text entry))

-- an entry more is whole
whole_more : (whole : List Entry) (entry : Entry) (w : Written) → AreWholeEntries whole w → AreWholeEntries (whole ++ entry ∷ []) (with_script_entry entry w)
unfolding with_script_entry
whole_more whole entry w are =
    let same = text_more whole entry in
    let sized : length (flat_map entry_text (whole ++ entry ∷ [])) ≡ w.size + length (entry_text entry) =
    ap length same ∙ length-append (flat_map entry_text whole) (entry_text entry) ∙ ap (λ n. n + length (entry_text entry)) (sym are.size) in
    record {
      size = sym sized;
      text = λ few.
          let fits : nat_le (w.size + length (entry_text entry)) FILE_BYTES ≡ true = (Decides-nat_le (w.size + length (entry_text entry)) FILE_BYTES).1 few in
          let had : w.text ≡ flat_map entry_text whole = are.text (omega (arith, few)) in
          ap (λ test. kept_within test w.text (entry_text entry)) fits ∙ ap (λ text. text ++ entry_text entry) had ∙ sym same;
    }

-- the cues of what was written, whatever is counted
record Covers (cues : List Cue) (w : Written) : Type 0 where
  pub whole : List Entry
  pub are : AreWholeEntries whole w
  pub entries : runs cues ≡ whole ++ entry_opened w.own w.count

-- what was written, with no plain cue that may get more
pub record IsClosed (cues : List Cue) (w : Written) : Type 0 where
  pub are : AreWholeEntries (runs cues) w
  pub own : w.own ≡ None

-- closing it makes all entries whole
closes : (cues : List Cue) (w : Written) → Covers cues w → IsClosed cues (entry_closed w)
unfolding entry_closed
closes cues w is = at w.own refl
  where
    at : (last : Option Bool) → w.own ≡ last → IsClosed cues (closed_by last w)
    at None e =
        let all : is.whole ≡ runs cues = sym (append-nil is.whole) ∙ ap (λ last. is.whole ++ entry_opened last w.count) (sym e) ∙ sym is.entries in
        record { are = subst (λ entries. AreWholeEntries entries w) all is.are; own = e }
    at (Some own) e =
        let all : is.whole ++ Alike own w.count ∷ [] ≡ runs cues = ap (λ last. is.whole ++ entry_opened last w.count) (sym e) ∙ sym is.entries in
        let more = whole_more is.whole (Alike own w.count) w is.are in
        let are = subst (λ entries. AreWholeEntries entries (with_script_entry (Alike own w.count) w)) all more in
        record { are = record { size = are.size; text = are.text }; own = refl }

-- closing it keeps the number of cues
closed_cues : (w : Written) → (entry_closed w).cues ≡ w.cues
unfolding entry_closed with_script_entry
closed_cues w = at w.own
  where
    at : (last : Option Bool) → (closed_by last w).cues ≡ w.cues
    at None = refl
    at (Some own) = refl

-- one cue more is counted
counted : (cues : List Cue) (cue : Cue) (count : ℕ) → count ≡ length cues → count + 1 ≡ length (cues ++ cue ∷ [])
counted cues cue count e = omega (arith, e, length-append cues (cue ∷ []))

-- the cue that is repeated, or another one
same_own : (last : Option Bool) (own : Bool) → is_open last own ≡ true → last ≡ Some own
same_own None own e = absurd cc
same_own (Some true) true e = refl
same_own (Some true) false e = absurd cc
same_own (Some false) true e = absurd cc
same_own (Some false) false e = refl

other_own : (last : Option Bool) (own : Bool) → is_open last own ≡ false → last ≢ Some own
other_own None own e same = absurd cc
other_own (Some true) true e same = absurd cc
other_own (Some true) false e same = absurd cc
other_own (Some false) true e same = absurd cc
other_own (Some false) false e same = absurd cc

-- nothing is written at first
pub first_written : IsWritten [] nothing_written
unfolding runs
first_written = record { whole = []; are = record { size = refl; text = λ few. refl }; entries = refl; last = refl; count = refl }

-- what was written with one cue more counted
abbrev one_counted : Written → Written
one_counted w = record w { cues = w.cues + 1 }

covered : (cues : List Cue) (w : Written) → IsWritten cues w → Covers cues (one_counted w)
covered cues w is = record { whole = is.whole; are = record { size = is.are.size; text = is.are.text }; entries = is.entries }

-- a plain cue more
repeats : (cues : List Cue) (own : Bool) (w : Written) → IsWritten cues w → IsWritten (cues ++ bare_cue own ∷ []) (plain_repeated own 1 (one_counted w))
unfolding plain_repeated
repeats cues own w is = at (is_open w.own own) refl
  where
    at : (test : Bool) → is_open w.own own ≡ test → IsWritten (cues ++ bare_cue own ∷ []) (repeated_by test own 1 (one_counted w))
    at true e =
        let last = same_own w.own own e in
        let next : w.count + 1 ≡ suc w.count = omega arith in
        let longer = runs_longer cues is.whole own w.count (is.entries ∙ ap (λ last. is.whole ++ entry_opened last w.count) last) in
        record {
          whole = is.whole;
          are = record { size = is.are.size; text = is.are.text };
          entries = longer ∙ ap (λ count. is.whole ++ Alike own count ∷ []) (sym next) ∙ ap (λ last. is.whole ++ entry_opened last (w.count + 1)) (sym last);
          last = ap (last_own None) longer ∙ last_more None is.whole (Alike own (suc w.count)) ∙ sym last;
          count = counted cues (bare_cue own) w.cues is.count;
        }
    at false e =
        let other = other_own w.own own e in
        let more = runs_more cues (bare_cue own) (Alike own 1) refl ((λ same. other (sym is.last ∙ same)), omega arith) in
        let c = closes cues (one_counted w) (covered cues w is) in
        record {
          whole = runs cues;
          are = record { size = c.are.size; text = c.are.text };
          entries = more;
          last = ap (last_own None) more ∙ last_more None (runs cues) (Alike own 1);
          count = closed_cues (one_counted w) ∙ counted cues (bare_cue own) w.cues is.count;
        }

-- another cue more
pub puts : (cues : List Cue) (cue : Cue) (w : Written) → plain_kind cue ≡ None → IsWritten cues w → IsWritten (cues ++ cue ∷ []) (with_script_entry (Other cue) (entry_closed (one_counted w)))
unfolding with_script_entry
puts cues cue w other is =
    let more = runs_more cues cue (Other cue) refl other in
    let c = closes cues (one_counted w) (covered cues w is) in
    let whole = whole_more (runs cues) (Other cue) (entry_closed (one_counted w)) c.are in
    record {
      whole = runs cues ++ Other cue ∷ [];
      are = record { size = whole.size; text = whole.text };
      entries = more ∙ sym (append-nil (runs cues ++ Other cue ∷ [])) ∙ ap (λ last. (runs cues ++ Other cue ∷ []) ++ entry_opened last (entry_closed (one_counted w)).count) (sym c.own);
      last = ap (last_own None) more ∙ last_more None (runs cues) (Other cue) ∙ sym c.own;
      count = closed_cues (one_counted w) ∙ counted cues cue w.cues is.count;
    }

-- a plain cue more
pub plain_written : (cues : List Cue) (cue : Cue) (own : Bool) (w : Written) → plain_kind cue ≡ Some own → IsWritten cues w → IsWritten (cues ++ cue ∷ []) (plain_repeated own 1 (one_counted w))
plain_written cues cue own w kind is = subst (λ last. IsWritten (cues ++ last ∷ []) (plain_repeated own 1 (one_counted w))) (plain_is own cue kind) (repeats cues own w is)

-- a plain cue is added as what it is
plain_bare : (own : Bool) → plain_kind (bare_cue own) ≡ Some own
unfolding plain_kind is_bare bare_cue
plain_bare true = refl
plain_bare false = refl

bare_added : (own : Bool) (w : Written) → with_cue (bare_cue own) w ≡ plain_repeated own 1 (one_counted w)
unfolding with_cue
bare_added own w = ap (λ kind. with_kind kind (bare_cue own) (one_counted w)) (plain_bare own)

-- this many cues more are counted
abbrev counted_more : ℕ → Written → Written
counted_more more w = record w { cues = w.cues + more }

-- closing what was written does not look at the number of cues
close_counts : (more : ℕ) (w : Written) → entry_closed (counted_more more w) ≡ counted_more more (entry_closed w)
unfolding entry_closed with_script_entry
close_counts more w = at w.own
  where
    at : (last : Option Bool) → closed_by last (counted_more more w) ≡ counted_more more (closed_by last w)
    at None = refl
    at (Some own) = refl

-- the same cue is the one that is repeated
is_own : (own : Bool) → is_open (Some own) own ≡ true
is_own true = refl
is_own false = refl

-- a plain cue is repeated this many times
abbrev repeating : Option Bool → ℕ → Written → Written
repeating own count w = record w { own = own; count = count }

-- a plain cue once more, after it was repeated
once_more : (own : Bool) (count : ℕ) (w : Written) → plain_repeated own 1 (one_counted (plain_repeated own count w)) ≡ plain_repeated own (suc count) (one_counted w)
unfolding plain_repeated
once_more own count w = at (is_open w.own own) refl
  where
    at : (test : Bool) → is_open w.own own ≡ test → plain_repeated own 1 (one_counted (repeated_by test own count w)) ≡ repeated_by test own (suc count) (one_counted w)
    at true e =
        let more : w.count + count + 1 ≡ w.count + suc count = omega arith in
        ap (λ test. repeated_by test own 1 (one_counted (repeated_by true own count w))) e ∙ ap (λ n. repeating w.own n (one_counted w)) more
    at false e =
        let more : count + 1 ≡ suc count = omega arith in
        ap (λ test. repeated_by test own 1 (one_counted (repeated_by false own count w))) (is_own own)
        ∙ ap (λ n. repeating (Some own) n (one_counted (entry_closed w))) more
        ∙ ap (repeating (Some own) (suc count)) (sym (close_counts 1 w))

-- plain cues more that are written at once are those that are added one by one
alike_closed : (own : Bool) (n : ℕ) (w : Written) → with_alike own (suc n) w ≡ plain_repeated own (suc n) (counted_more (suc n) w)
unfolding with_alike
alike_closed own zero w = bare_added own w
alike_closed own (suc n) w =
    let sum : w.cues + suc n + 1 ≡ w.cues + suc (suc n) = omega arith in
    ap (with_cue (bare_cue own)) (alike_closed own n w)
    ∙ bare_added own (plain_repeated own (suc n) (counted_more (suc n) w))
    ∙ once_more own (suc n) (counted_more (suc n) w)
    ∙ ap (λ cues. plain_repeated own (suc (suc n)) (record w { cues = cues })) sum

alike_some : (own : Bool) (count : ℕ) (w : Written) → 0 < count → plain_repeated own count (counted_more count w) ≡ with_alike own count w
alike_some own zero w some = absurd (omega (arith, some))
alike_some own (suc n) w some = sym (alike_closed own n w)

pub alike_at : (own : Bool) (count : ℕ) (w old : Written) → w ≡ old → 0 < count → plain_repeated own count (counted_more count w) ≡ with_alike own count old
alike_at own count w old is some = alike_some own count w some ∙ ap (with_alike own count) is

-- plain cues more
pub alike_written : (own : Bool) (count : ℕ) (cues : List Cue) (w : Written) → IsWritten cues w → IsWritten (cues ++ replicate count (bare_cue own)) (with_alike own count w)
unfolding with_alike
alike_written own zero cues w is = subst (λ all. IsWritten all w) (sym (append-nil cues)) is
alike_written own (suc count) cues w is =
    let cue = bare_cue own in
    let before = cues ++ replicate count cue in
    let all : before ++ cue ∷ [] ≡ cues ++ replicate (suc count) cue = append_assoc cues (replicate count cue) (cue ∷ []) ∙ ap (λ more. cues ++ more) (sym (replicate_more count cue)) in
    let more = repeats before own (with_alike own count w) (alike_written own count cues w is) in
    subst (λ all. IsWritten all (with_cue cue (with_alike own count w))) all (subst (IsWritten (before ++ cue ∷ [])) (sym (bare_added own (with_alike own count w))) more)

-- the entry of a cue has room where one cue more has
pub entry_within : (text : List ℕ) (w : Written) (size : ℕ) → IsWithin 1 w → size ≤ 70000 → IsWithin 0 (record w { text = text; size = w.size + size })
entry_within text w size is few = record { size = omega (arith, is.size, few); count = is.count; cues = is.cues }

-- how long an entry of plain cues is
alike_size : (own : Bool) (count : ℕ) → length (entry_text (Alike own count)) ≡ 5
unfolding entry_text
alike_size own count = refl

-- a number is past another
past : (n m : ℕ) → m < n → nat_le n m ≡ false
past n m more = grind (arith, nat_tests, more)

-- what stands when the plain cue is put that was repeated
abbrev pub after_close : List ℕ → ℕ → ℕ → Written
after_close text size cues = record { text = text; size = size; own = None; count = 0; cues = cues }

-- its entry is kept
pub close_kept : (text : List ℕ) (size count cues : ℕ) (last : Option Bool) (own : Bool) (new : List ℕ) → last ≡ Some own → size + 5 ≤ FILE_BYTES → new ≡ text ++ entry_text (Alike own count)
    → after_close new (size + 5) cues ≡ entry_closed (record { text = text; size = size; own = last; count = count; cues = cues })
unfolding entry_closed with_script_entry
close_kept text size count cues last own new is few added =
    let w : Written = record { text = text; size = size; own = last; count = count; cues = cues } in
    let sized : size + length (entry_text (Alike own count)) ≡ size + 5 = ap (λ n. size + n) (alike_size own count) in
    let fits : nat_le (size + length (entry_text (Alike own count))) FILE_BYTES ≡ true = (Decides-nat_le (size + length (entry_text (Alike own count))) FILE_BYTES).1 (omega (arith, sized, few)) in
    ap (λ t. after_close t (size + 5) cues) (added ∙ sym (ap (λ test. kept_within test text (entry_text (Alike own count))) fits))
    ∙ ap (λ n. after_close (kept_within (nat_le (size + length (entry_text (Alike own count))) FILE_BYTES) text (entry_text (Alike own count))) n cues) (sym sized)
    ∙ ap (λ last. closed_by last w) (sym is)

-- its entry is not kept
pub close_cut : (text : List ℕ) (size count cues : ℕ) (last : Option Bool) (own : Bool) → last ≡ Some own → FILE_BYTES < size + 5
    → after_close text (size + 5) cues ≡ entry_closed (record { text = text; size = size; own = last; count = count; cues = cues })
unfolding entry_closed with_script_entry
close_cut text size count cues last own is more =
    let w : Written = record { text = text; size = size; own = last; count = count; cues = cues } in
    let sized : size + length (entry_text (Alike own count)) ≡ size + 5 = ap (λ n. size + n) (alike_size own count) in
    let long : nat_le (size + length (entry_text (Alike own count))) FILE_BYTES ≡ false = past (size + length (entry_text (Alike own count))) FILE_BYTES (omega (arith, sized, more)) in
    ap (λ t. after_close t (size + 5) cues) (sym (ap (λ test. kept_within test text (entry_text (Alike own count))) long))
    ∙ ap (λ n. after_close (kept_within (nat_le (size + length (entry_text (Alike own count))) FILE_BYTES) text (entry_text (Alike own count))) n cues) (sym sized)
    ∙ ap (λ last. closed_by last w) (sym is)

-- how long the head of a script is
head_size : (p count : ℕ) → length (script_head_text p count) ≡ 15
unfolding script_head_text
head_size p count = refl

-- the text of the script, where it is not too long, and how long it is
pub record IsEnded (p : ℕ) (cues : List Cue) (w : Written) : Type 0 where
  pub size : 15 + w.size ≡ length (script_text p cues)
  pub text : w.size ≤ FILE_BYTES → script_head_text p w.cues ++ w.text ≡ script_text p cues

pub ended : (p : ℕ) (cues : List Cue) (w : Written) → IsWritten cues w → IsEnded p cues (entry_closed w)
unfolding script_text
ended p cues w is =
    let c = closes cues w (record { whole = is.whole; are = is.are; entries = is.entries }) in
    let count : (entry_closed w).cues ≡ length cues = closed_cues w ∙ is.count in
    record {
      size = ap (λ n. 15 + n) c.are.size
          ∙ sym (length-append (script_head_text p (length cues)) (flat_map entry_text (runs cues)) ∙ ap (λ n. n + length (flat_map entry_text (runs cues))) (head_size p (length cues)));
      text = λ few. ap (λ n. script_head_text p n ++ (entry_closed w).text) count ∙ ap (λ text. script_head_text p (length cues) ++ text) (c.are.text few);
    }

-- the file, where the text is not too long
pub file_whole : (p : ℕ) (cues : List Cue) (w new : Written) (file : List ℕ) → IsWritten cues w → new ≡ entry_closed w → 15 + new.size ≤ FILE_BYTES → file ≡ script_head_text p new.cues ++ new.text
    → (file ≡ script_text p cues) × (length (script_text p cues) ≤ FILE_BYTES)
file_whole p cues w new file is closes few made =
    let e = subst (IsEnded p cues) (sym closes) (ended p cues w is) in
    (made ∙ e.text (omega (arith, few)), omega (arith, few, e.size))

-- how long it is, where it is too long
pub file_long : (p : ℕ) (cues : List Cue) (w new : Written) (found : ℕ) → IsWritten cues w → new ≡ entry_closed w → found ≡ 15 + new.size → FILE_BYTES < found
    → (found ≡ length (script_text p cues)) × (FILE_BYTES < length (script_text p cues))
file_long p cues w new found is closes counted more =
    let e = subst (IsEnded p cues) (sym closes) (ended p cues w is) in
    (counted ∙ e.size, omega (arith, counted, more, e.size))
