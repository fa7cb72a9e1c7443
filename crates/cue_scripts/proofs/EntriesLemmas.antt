-- Entries that are read one after the other, as a loop does.
use Rattle.std.proofs.Common.{◌≡◌, ℕ, zero, suc, ◌-◌, ◌≤◌, Bool, false, List, [], ◌∷◌, ◌++◌, Option, None, Result, Ok, Err, refl, sym, ap, ◌∙◌, append_assoc, arith}
use Rattle.std.specs.Prelude.{◌==◌}
use Rattle.std.proofs.Math.Dec.{eqb-suc-zero}
use Rattle.std.proofs.lemmas.List.{append-nil}
use Rattle.xm_base.specs.Cursor.{Place}
use Rattle.xm_conf.specs.Configuration.{Conf}
use Rattle.file_headers.specs.Steps.{◌>>=◌}
use Rattle.cue_scripts.specs.Entries.{Entry, cue_count, plain_cue_of}
use Rattle.cue_scripts.specs.Gives.{Fails}
use Rattle.cue_scripts.specs.Reading.{ScriptRead, script_entries_at, script_entry_at}
use Rattle.cue_scripts.specs.Values.{entry_value, entry_values}
use Rattle.cue_scripts.specs.declared.cue.ScriptEntry.{ScriptEntry}
use Rattle.fault_messages.specs.declared.fault.ScriptFault.{ScriptFault}
use Rattle.fault_messages.specs.declared.fault.ScriptFault.TheVariants as fault

-- what was read before, and what is still read
abbrev pub with_front : {X : Type 0} → List X → ScriptRead (List X) → ScriptRead (List X)
with_front front read = read >>= λ x. Ok (front ++ x.0, x.1)

-- of the whole this many cues are left, after these entries
pub record IsLeft (conf : Conf) (p cues : ℕ) (last : Option Bool) (place : Place) (front : List Entry) (whole : ScriptRead (List Entry)) : Type 0 where
  pub most : ℕ
  pub enough : cues ≤ most
  pub rest : with_front front (script_entries_at conf p most cues last place) ≡ whole

-- a fault that is met in a part is that of the whole
pub fails_on : {Y Z : Type 0} (fault : ScriptFault) (part : Result Y ScriptFault) (whole : Result Z ScriptFault) → ((f : ScriptFault) → part ≡ Err f → whole ≡ Err f) → Fails fault part → Fails fault whole
fails_on fault.Memory part whole so e = tt
fails_on (fault.Length found) part whole so e = e
fails_on (fault.Cue tick) part whole so e = e
fails_on other part whole so e = so _ e

-- an item more is at the end of the prefix
regroup : {X : Type 0} (front : List X) (x : X) (read : ScriptRead (List X)) → with_front front (read >>= λ xs. Ok (x ∷ xs.0, xs.1)) ≡ with_front (front ++ x ∷ []) read
regroup front x (Ok xs) = ap (λ all. Ok (all, xs.1)) (sym (append_assoc front (x ∷ []) xs.0))
regroup front x (Err fault) = refl

-- cues are left
pub some_left : (cues : ℕ) → 1 ≤ cues → (cues == 0) ≡ false
some_left zero some = absurd (omega (arith, some))
some_left (suc more) some = eqb-suc-zero more

-- one entry more
pub one_more : (conf : Conf) (p most cues : ℕ) (last : Option Bool) (place : Place) (entry : Entry) (after : Place) → 1 ≤ cues → script_entry_at conf p cues last place ≡ Ok (entry, after)
    → script_entries_at conf p (suc most) cues last place ≡ (script_entries_at conf p most (cues - cue_count entry) (plain_cue_of entry) after >>= λ later. Ok (entry ∷ later.0, later.1))
unfolding script_entries_at
one_more conf p most cues last place entry after some read = rw (some_left cues some, read) refl

-- one that fails
one_fails : (conf : Conf) (p most cues : ℕ) (last : Option Bool) (place : Place) (f : ScriptFault) → 1 ≤ cues → script_entry_at conf p cues last place ≡ Err f
    → script_entries_at conf p (suc most) cues last place ≡ Err f
unfolding script_entries_at
one_fails conf p most cues last place f some read = rw (some_left cues some, read) refl

-- no cue is left
pub none_left : (conf : Conf) (p most : ℕ) (last : Option Bool) (place : Place) → script_entries_at conf p most 0 last place ≡ Ok ([], place)
unfolding script_entries_at
none_left conf p zero last place = refl
none_left conf p (suc most) last place = refl

-- at first all cues are left
pub all_left : (conf : Conf) (p total : ℕ) (place : Place) → IsLeft conf p total None place [] (script_entries_at conf p total total None place)
all_left conf p total place = record { most = total; enough = omega arith; rest = same (script_entries_at conf p total total None place) }
  where
    same : (read : ScriptRead (List Entry)) → with_front [] read ≡ read
    same (Ok xs) = refl
    same (Err fault) = refl

-- after an entry fewer are
pub fewer_left : (conf : Conf) (p cues : ℕ) (last : Option Bool) (place : Place) (front : List Entry) (whole : ScriptRead (List Entry)) (entry : Entry) (after : Place) → 1 ≤ cues → 1 ≤ cue_count entry
    → script_entry_at conf p cues last place ≡ Ok (entry, after) → IsLeft conf p cues last place front whole → IsLeft conf p (cues - cue_count entry) (plain_cue_of entry) after (front ++ entry ∷ []) whole
fewer_left conf p cues last place front whole entry after some counted read so_far = on so_far.most so_far.enough so_far.rest
  where
    on : (most : ℕ) → cues ≤ most → with_front front (script_entries_at conf p most cues last place) ≡ whole → IsLeft conf p (cues - cue_count entry) (plain_cue_of entry) after (front ++ entry ∷ []) whole
    on zero enough rest = absurd (omega (arith, enough, some))
    on (suc most) enough rest = record {
      most = most;
      enough = omega (arith, enough, counted);
      rest = sym (regroup front entry (script_entries_at conf p most (cues - cue_count entry) (plain_cue_of entry) after)) ∙ ap (with_front front) (sym (one_more conf p most cues last place entry after some read)) ∙ rest;
    }

-- an entry that fails
pub entry_fails : (fault : ScriptFault) (conf : Conf) (p cues : ℕ) (last : Option Bool) (place : Place) (front : List Entry) (whole : ScriptRead (List Entry)) → 1 ≤ cues
    → Fails fault (script_entry_at conf p cues last place) → IsLeft conf p cues last place front whole → Fails fault whole
entry_fails fault conf p cues last place front whole some read so_far = fails_on fault (script_entry_at conf p cues last place) whole (λ f met. on f met so_far.most so_far.enough so_far.rest) read
  where
    on : (f : ScriptFault) → script_entry_at conf p cues last place ≡ Err f → (most : ℕ) → cues ≤ most → with_front front (script_entries_at conf p most cues last place) ≡ whole → whole ≡ Err f
    on f met zero enough rest = absurd (omega (arith, enough, some))
    on f met (suc most) enough rest = sym rest ∙ ap (with_front front) (one_fails conf p most cues last place f some met)

-- all entries
pub all_read : (conf : Conf) (p : ℕ) (last : Option Bool) (place : Place) (front : List Entry) (whole : ScriptRead (List Entry)) → IsLeft conf p 0 last place front whole → whole ≡ Ok (front, place)
all_read conf p last place front whole so_far = sym so_far.rest ∙ ap (with_front front) (none_left conf p so_far.most last place) ∙ ap (λ all. Ok (all, place)) (append-nil front)

-- one entry more is kept
pub one_kept : (kept : List ScriptEntry) (entry : ScriptEntry) → entry_values (kept ++ entry ∷ []) ≡ entry_values kept ++ entry_value entry ∷ []
one_kept [] entry = refl
one_kept (first ∷ kept) entry = ap (λ rest. entry_value first ∷ rest) (one_kept kept entry)
