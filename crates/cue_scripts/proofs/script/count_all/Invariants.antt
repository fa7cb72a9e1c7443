use Rattle.std.proofs.Common.{◌≡◌, take, sum_by}
use Rattle.cue_scripts.specs.Entries.{cue_count}
use Rattle.cue_scripts.specs.Values.{entry_value}
use Rattle.cue_scripts.proofs.script.count_all.Given as goal

abbrev pub invariant-loop-entry : goal.invariant-loop-entry
invariant-loop-entry l = l.count ≡ sum_by (λ entry. cue_count (entry_value entry)) (take l.entry-index l.entries)
