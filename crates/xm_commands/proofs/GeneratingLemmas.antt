-- The command that generates a system reads no file, and writes none.
use Rattle.std.proofs.Common.{ℕ, List, [], Option, refl}
use Rattle.xm_outside.specs.Files.{Files}
use Rattle.command_line.specs.Words.{Generate}
use Rattle.file_commands.specs.Ending.{Ending}
use Rattle.file_commands.specs.Outcome.{outcome_of}
use Rattle.file_commands.specs.Work.{IsDone, Reports, outside}
use Rattle.file_commands.specs.lemmas.CommandLemmas.{outcome_by_report, done_by, no-writes}
use Rattle.file_commands.specs.lemmas.LaterLemmas.{no-later}

pub generate_done : (e : Ending) (number : ℕ) (files : Option Files) (reads writes calls : ℕ) (had got : Option (List ℕ)) (faults now : ℕ) → Reports e (outcome_of (Generate number) []) had faults got now
    → IsDone e (Generate number) (outside files reads writes calls had faults) (outside files reads writes calls got now)
generate_done e number files reads writes calls had got faults now reports =
    done_by e (Generate number) [] (outside files reads writes calls had faults) (outside files reads writes calls got now) tt
    (outcome_by_report e (outcome_of (Generate number) []) files reads writes calls had got faults now (no-writes (Generate number) [] refl) (no-later (Generate number) [] refl) reports)
