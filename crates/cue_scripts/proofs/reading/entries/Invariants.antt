use Rattle.cue_scripts.specs.Reading.{script_entries_at}
use Rattle.cue_scripts.specs.Values.{entry_values}
use Rattle.std.specs.Prelude.{None}
use Rattle.cue_scripts.proofs.EntriesLemmas.{IsLeft}
use Rattle.cue_scripts.proofs.reading.entries.Given as goal

abbrev pub invariant-loop-cues : goal.invariant-loop-cues
invariant-loop-cues l = IsLeft l.conf l.p l.cues l.last l.cursor (entry_values l.entries.items) (script_entries_at l.conf l.p l.total l.total None l.fn.cursor)

abbrev pub decreases-loop-cues : goal.decreases-loop-cues
decreases-loop-cues l = l.cues
