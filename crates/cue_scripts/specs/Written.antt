-- A script that is written cue by cue.
use Rattle.std.specs.Prelude.{◌≡◌, ℕ, zero, suc, ◌+◌, ◌*◌, ◌<◌, ◌≤◌, Bool, true, false, nat_le, List, [], ◌∷◌, ◌++◌, length, Option, Some, None, Result, Ok, Err}
use Rattle.std.specs.List.{flat_map}
use Rattle.xm_base.specs.declared.limits.TheConstants.{FILE_BYTES}
use Rattle.machine_model.specs.Cue.{Cue}
use Rattle.cue_scripts.specs.Entries.{Alike, Entry, Other, bare_cue, is_same, plain_cue_of, plain_kind, runs}
use Rattle.cue_scripts.specs.Spelling.{entry_text}
use Rattle.fault_messages.specs.declared.fault.ScriptFault.{ScriptFault}
use Rattle.fault_messages.specs.declared.fault.ScriptFault.TheVariants as fault

-- what is written of a script: the text of the entries that are whole, as far as a file may have it, and how long that text is; which plain
-- cue is repeated last, so that there may be more of it, and how often; and how many cues there are
pub record Written : Type 0 where
  pub text : List ℕ
  pub size : ℕ
  pub own : Option Bool
  pub count : ℕ
  pub cues : ℕ

-- nothing
abbrev pub nothing_written : Written
nothing_written = record { text = []; size = 0; own = None; count = 0; cues = 0 }

-- an entry more is whole: its text is kept where all of it is not too long
abbrev pub kept_within : Bool → List ℕ → List ℕ → List ℕ
kept_within true text entry = text ++ entry
kept_within false text entry = text

unfoldable pub with_script_entry : Entry → Written → Written
with_script_entry entry w = record w {
  text = kept_within (nat_le (w.size + length (entry_text entry)) FILE_BYTES) w.text (entry_text entry);
  size = w.size + length (entry_text entry);
}

-- no plain cue is repeated any more
abbrev pub closed_by : Option Bool → Written → Written
closed_by None w = w
closed_by (Some own) w = record (with_script_entry (Alike own w.count) w) { own = None; count = 0 }

unfoldable pub entry_closed : Written → Written
entry_closed w = closed_by w.own w

-- plain cues more
abbrev pub is_open : Option Bool → Bool → Bool
is_open None own = false
is_open (Some last) own = is_same last own

abbrev pub repeated_by : Bool → Bool → ℕ → Written → Written
repeated_by true own count w = record w { count = w.count + count }
repeated_by false own count w = record (entry_closed w) { own = Some own; count = count }

-- this many times the same plain cue, once at least
unfoldable pub plain_repeated : Bool → ℕ → Written → Written
plain_repeated own count w = repeated_by (is_open w.own own) own count w

-- a cue more
abbrev pub with_kind : Option Bool → Cue → Written → Written
with_kind (Some own) cue w = plain_repeated own 1 w
with_kind None cue w = with_script_entry (Other cue) (entry_closed w)

unfoldable pub with_cue : Cue → Written → Written
with_cue cue w = with_kind (plain_kind cue) cue (record w { cues = w.cues + 1 })

-- this many plain cues more, one by one
unfoldable pub with_alike : Bool → ℕ → Written → Written
with_alike own zero w = w
with_alike own (suc count) w = with_cue (bare_cue own) (with_alike own count w)

-- the entry of plain cues that may still get more
abbrev pub entry_opened : Option Bool → ℕ → List Entry
entry_opened None count = []
entry_opened (Some own) count = Alike own count ∷ []

-- a plain cue that is repeated stands there
abbrev pub IsThere : Option Bool → ℕ → Type 0
IsThere None count = count ≡ 0
IsThere (Some own) count = 1 ≤ count

-- what is written is not too long for its number of cues, with room for this many more
pub record IsWithin (more : ℕ) (w : Written) : Type 0 where
  pub size : w.size + 70000 * (w.count + more) ≤ 70000 * w.cues
  pub count : IsThere w.own w.count
  pub cues : w.cues ≤ 4000000000

-- which plain cue entries repeat last
abbrev pub last_own : Option Bool → List Entry → Option Bool
last_own last [] = last
last_own last (entry ∷ later) = last_own (plain_cue_of entry) later

-- these entries are whole
pub record AreWholeEntries (whole : List Entry) (w : Written) : Type 0 where
  pub size : w.size ≡ length (flat_map entry_text whole)
  pub text : w.size ≤ FILE_BYTES → w.text ≡ flat_map entry_text whole

-- these cues are written
pub record IsWritten (cues : List Cue) (w : Written) : Type 0 where
  pub whole : List Entry
  pub are : AreWholeEntries whole w
  pub entries : runs cues ≡ whole ++ entry_opened w.own w.count
  pub last : last_own None (runs cues) ≡ w.own
  pub count : w.cues ≡ length cues

-- a text is a file, unless memory runs out, or it is too long for one
abbrev pub IsScriptFile : {X : Type 0} → (X → List ℕ) → List ℕ → Result X ScriptFault → Type 0
IsScriptFile view text (Ok file) = (view file ≡ text) × (length text ≤ FILE_BYTES)
IsScriptFile view text (Err fault.Memory) = Unit {0}
IsScriptFile view text (Err (fault.Length found)) = (found ≡ length text) × (FILE_BYTES < length text)
IsScriptFile view text (Err other) = ⊥
