-- How many cues entries have, and their text.
use Rattle.std.proofs.Common.{◌≡◌, ℕ, ◌+◌, List, [], ◌∷◌, ◌++◌, All, None, length, sum_by, refl, sym, ap, ◌∙◌}
use Rattle.std.specs.List.{AllByRecursion, flat_map}
use Rattle.std.proofs.lemmas.List.{length-append, length-replicate}
use Rattle.std.proofs.lemmas.List.Elements.{All-cons, All-nil}
use Rattle.std.proofs.lemmas.List.Folds.{flat_map-map}
use Rattle.std.proofs.lemmas.List.Sums.{sum_by-cons}
use Rattle.cue_scripts.specs.Entries.{Alike, Entry, Other, cue_count, cues_of, expanded, bare_cue}
use Rattle.cue_scripts.specs.Kept.{HasEntryRanges, AreKeptEntries}
use Rattle.cue_scripts.specs.Spelling.{entry_text, script_head_text, script_text}
use Rattle.cue_scripts.specs.Values.{entry_value, entry_values}
use Rattle.cue_scripts.specs.declared.cue.ScriptEntry.{ScriptEntry}
use Rattle.cue_scripts.proofs.RunLemmas.{runs_again}

-- an entry has as many cues as it counts
pub length_cues : (entry : Entry) → length (cues_of entry) ≡ cue_count entry
length_cues (Alike own count) = length-replicate count (bare_cue own)
length_cues (Other cue) = refl

-- and entries have the sum
pub length_expanded : (entries : List ScriptEntry) → length (expanded (entry_values entries)) ≡ sum_by (λ entry. cue_count (entry_value entry)) entries
length_expanded [] = refl
length_expanded (entry ∷ later) =
    length-append (cues_of (entry_value entry)) (expanded (entry_values later))
    ∙ ap (λ n. n + length (expanded (entry_values later))) (length_cues (entry_value entry))
    ∙ ap (λ n. cue_count (entry_value entry) + n) (length_expanded later)
    ∙ sym (sum_by-cons (λ entry. cue_count (entry_value entry)) entry later)

-- the lengths in entries that are kept are in the ranges of their fields
pub kept_ranges : (entries : List ScriptEntry) → AllByRecursion HasEntryRanges (entry_values entries) → All (λ entry. HasEntryRanges (entry_value entry)) entries
kept_ranges [] ranges = All-nil (λ entry. HasEntryRanges (entry_value entry))
kept_ranges (entry ∷ later) ranges = All-cons (λ entry. HasEntryRanges (entry_value entry)) entry later ranges.0 (kept_ranges later ranges.1)

-- the text of entries that are kept is that of their cues
pub kept_text : (p count : ℕ) (entries : List ScriptEntry) → AreKeptEntries (entry_values entries) → count ≡ length (expanded (entry_values entries))
    → script_head_text p count ++ flat_map (λ entry. entry_text (entry_value entry)) entries ≡ script_text p (expanded (entry_values entries))
unfolding script_text
kept_text p count entries kept counted =
    ap (λ n. script_head_text p n ++ flat_map (λ entry. entry_text (entry_value entry)) entries) counted
    ∙ ap (λ text. script_head_text p (length (expanded (entry_values entries))) ++ text) (sym (flat_map-map entry_text entry_value entries))
    ∙ ap (λ xs. script_head_text p (length (expanded (entry_values entries))) ++ flat_map entry_text xs) (sym (runs_again None (entry_values entries) kept.longest))
