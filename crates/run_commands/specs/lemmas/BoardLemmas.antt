-- What commands that run a system leave of the board of UARTs.
use Rattle.std.proofs.Common.{◌≡◌, ℕ, List, Option, Ok, Err, refl, subst}
use Rattle.machine_model.specs.Machine.{Machine}
use Rattle.continuation_laws.specs.Onward.{console_from}
use Rattle.upset_model.specs.declared.upset_line.UpsetLine.{UpsetLine}
use Rattle.uart_board.specs.Heard.{IsHeard}
use Rattle.uart_board.specs.Views.{BoardView, without_marks}
use Rattle.xm_machine.specs.Struck.{IsStruckRun}
use Rattle.xm_machine.specs.declared.run.Ran.{Ran}
use Rattle.xm_report.specs.declared.output.WriteFault.{WriteFault}
use Rattle.command_line.specs.Words.{PartFile}
use Rattle.run_commands.specs.EndsAfter.{EndsAfter}
use Rattle.run_commands.specs.lemmas.EndsAfterLemmas.{leaves_and_after}
use Rattle.run_commands.specs.Boards.{IsRunTo, LeavesBoard}
use Rattle.file_commands.specs.Ending.{Ending, WriteFaultReport}
use Rattle.file_commands.specs.Makes.{IsUnmadeOf}
use Rattle.file_commands.specs.Outcome.{Output, Running, Together, outcome_of_run}
use Rattle.file_commands.specs.Work.{Outside}
use Rattle.builders.specs.declared.unmade.Unmade.{Unmade}
use Rattle.builders.specs.declared.unmade.Unmade.TheVariants as unmade

-- a run that reached its end
whole : (r : Ran) (upsets : List UpsetLine) (ticks : ℕ) (g new : Machine) (had got : Option (List ℕ)) (before mid after : BoardView)
    → IsStruckRun (Ok r) upsets ticks g new had got mid after → mid ≡ without_marks before → IsRunTo ticks (Together g upsets ticks) before after
whole r upsets ticks g new had got before mid after is begins =
    subst (λ (board : BoardView). IsHeard (console_from upsets g ticks) board after) begins is.heard

-- where its whole report went out
pub left_by_ending : (e : Ending) (outputs : List Output) (from to : Outside) (r : Ran) (upsets : List UpsetLine) (ticks : ℕ) (cores : List PartFile) (made : List Output) (g new : Machine) (had got : Option (List ℕ)) (before mid after : BoardView)
    → EndsAfter e outputs after from to → IsStruckRun (Ok r) upsets ticks g new had got mid after → mid ≡ without_marks before
    → LeavesBoard e (outcome_of_run upsets ticks cores made g).run had got before after
unfolding outcome_of_run
left_by_ending e outputs from to r upsets ticks cores made g new had got before mid after ends is begins =
    leaves_and_after e outputs (Together g upsets ticks) had got from to before after (whole r upsets ticks g new had got before mid after is begins) ends

-- a run whose report was cut
pub left_cut : (fault : WriteFault) (upsets : List UpsetLine) (ticks : ℕ) (cores : List PartFile) (made : List Output) (g new : Machine) (had got : Option (List ℕ)) (before mid after : BoardView)
    → IsStruckRun (Err fault) upsets ticks g new had got mid after → mid ≡ without_marks before
    → LeavesBoard WriteFaultReport (outcome_of_run upsets ticks cores made g).run had got before after
unfolding outcome_of_run
left_cut fault upsets ticks cores made g new had got before mid after is begins = record {
  front = is.report;
  ticks = is.ticks;
  within = is.within;
  cut = (is.whole, is.cut);
  heard = subst (λ (board : BoardView). IsHeard (console_from upsets g is.ticks) board after) begins is.heard;
}

-- where nothing was made, the board is left as it was
pub unmade_leaves : (e : Ending) (file : List ℕ) (why : Unmade) (run : Option Running) (had got : Option (List ℕ)) (board : BoardView) → IsUnmadeOf e file why → LeavesBoard e run had got board board
unmade_leaves e file (unmade.Refused text) run had got board ends = rw ends refl
unmade_leaves e file unmade.Memory run had got board ends = rw ends refl
