use Rattle.std.proofs.Common.{◌≡◌, ◌++◌, take}
use Rattle.std.specs.List.{flat_map}
use Rattle.cue_scripts.specs.Spelling.{entry_text}
use Rattle.cue_scripts.specs.Values.{entry_value}
use Rattle.cue_scripts.proofs.writing.put_entries.Given as goal

abbrev pub invariant-loop-entry : goal.invariant-loop-entry
invariant-loop-entry l = l.out.items ≡ l.fn.out.items ++ flat_map (λ entry. entry_text (entry_value entry)) (take l.entry-index l.entries)
