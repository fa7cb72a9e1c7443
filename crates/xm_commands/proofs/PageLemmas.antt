-- The promises of the top call together, from what the work did.
use Rattle.std.proofs.Common.{List, ℕ, refl}
use Rattle.replay_setup.specs.OfRun.{RunIsReplayed}
use Rattle.command_line.specs.Grammar.{CommandsAreSpelled}
use Rattle.command_line.specs.Words.{command_of}
use Rattle.file_commands.specs.Ending.{Ending, complaint, status_of}
use Rattle.file_commands.specs.Work.{Works}
use Rattle.run_commands.specs.Boards.{Plays}
use Rattle.run_commands.specs.Numbers.{HasScripts}
use Rattle.run_commands.specs.lemmas.NumbersTerms.{WordsReceive, WordsStore}
use Rattle.xm_commands.specs.Page.{IsAnswer}
use Rattle.xm_commands.specs.Top.{IsSaid}
use Rattle.xm_commands.specs.World.{World}
use Rattle.xm_commands.proofs.BoardLemmas.{marked, still}
use Rattle.xm_commands.proofs.CompleteLemmas.{completes}
use Rattle.xm_commands.proofs.ContinuedLemmas.{ContinuedLaws, go_on}
use Rattle.xm_commands.proofs.NumberLemmas.{are_stored, complete_made}
use Rattle.xm_commands.proofs.ReplayedLemmas.{are_replayed}
use Rattle.xm_commands.proofs.SeparationLemmas.{ShowsAloneLaws, are_alone, are_part}
use Rattle.xm_commands.proofs.ScriptLemmas.{no_scripts}
use Rattle.xm_commands.proofs.TopLemmas.{answers, barren, files_stay, has_causes, quiet, usage_exactly, writes_stay}

-- what the work did, and the line after it, answer the words
pub is_answer : ShowsAloneLaws → RunIsReplayed → ContinuedLaws → CommandsAreSpelled → (ending : Ending) (contents words : List (List ℕ)) (before after : World)
    → Works ending contents (command_of words) before.disk after.disk → Plays ending contents (command_of words) before.disk.got after.disk.got before.board after.board
    → (HasScripts ending → WordsReceive (command_of words) before.disk.files) → (HasScripts ending → WordsStore (command_of words) before.disk.files)
    → IsSaid (complaint ending) before.errors after.errors → IsAnswer (status_of ending) words before after
is_answer shows_laws replay_law onward_laws grammar ending contents words before after works plays numbers stored line =
    let unscripted = no_scripts grammar words (command_of words) refl in
    record {
      by = record { ending = ending; contents = contents };
      answered = refl;
      line = line;
      worked = works;
      played = plays;
      alone = are_alone shows_laws ending contents (command_of words) before.disk after.disk numbers unscripted works;
      part = are_part shows_laws ending contents (command_of words) before.disk after.disk numbers unscripted works;
      answers = answers ending contents words before after works line;
      causes = has_causes ending contents (command_of words) before.disk after.disk works;
      usage = usage_exactly ending contents (command_of words) before.disk after.disk works;
      complete = completes ending contents (command_of words) before after works plays;
      replayed = are_replayed replay_law ending contents (command_of words) before after works plays;
      stored = λ complete. are_stored (command_of words) before.disk.files (stored (complete_made ending complete));
      continued = go_on onward_laws ending contents (command_of words) before after unscripted works plays;
      marked = λ fault. marked ending contents (command_of words) before.disk.got after.disk.got before.board after.board plays fault (usage_exactly ending contents (command_of words) before.disk after.disk works).1;
      still = still ending contents (command_of words) before.disk.got after.disk.got before.board after.board plays;
      quiet = quiet ending contents (command_of words) before.disk after.disk works;
      barren = barren ending contents (command_of words) before.disk after.disk works;
      files = files_stay ending contents (command_of words) before.disk after.disk works;
      writes = writes_stay ending contents (command_of words) before.disk after.disk works;
    }
