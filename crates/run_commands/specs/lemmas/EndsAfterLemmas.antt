-- What is done after a report that went out.
use Rattle.std.proofs.Common.{◌≡◌, ℕ, List, Option, Some, None, subst, inl, inr}
use Rattle.std.specs.Prelude.{IsSome}
use Rattle.uart_board.specs.Views.{BoardView}
use Rattle.file_commands.specs.Ending.{Ending, Done, Usage, ReadFault, Refused, WriteFaultReport, WriteFaultFile, UartFault, NoMemory}
use Rattle.file_commands.specs.Outcome.{Outcome, Output, Running}
use Rattle.file_commands.specs.Work.{Outside, AreNotSaved, SavesAll, reported_all}
use Rattle.file_commands.specs.lemmas.WorkTerms.{HasOutcome}
use Rattle.run_commands.specs.EndsAfter.{EndsAfter}
use Rattle.run_commands.specs.Boards.{EndsRun, IsRunTo, LeavesBoard, ticks_of_run}

-- an outcome whose files after the report were all written ends as the board says
ended_outcome : (e : Ending) (board : BoardView) (outcome : Outcome) (before mid after : Outside) → outcome.denial ≡ None → IsSome outcome.run → mid ≡ reported_all outcome before → EndsRun e board
    → SavesAll None outcome.later mid after → HasOutcome e outcome before after
ended_outcome e board outcome before mid after granted runs reported ends saves = by_end e ends (subst (λ (x : Outside). SavesAll None outcome.later x after) reported saves)
  where
    by_end : (e : Ending) → EndsRun e board → SavesAll None outcome.later (reported_all outcome before) after → HasOutcome e outcome before after
    by_end Done ends s = (granted, s)
    by_end Usage ends s = absurd ends
    by_end (ReadFault file) ends s = absurd ends
    by_end (Refused file text) ends s = absurd ends
    by_end WriteFaultReport ends s = absurd ends
    by_end (WriteFaultFile file) ends s = absurd ends
    by_end (UartFault place) ends s = (runs, granted, s)
    by_end NoMemory ends s = absurd ends

-- one of which a file after the report was not
unsaved_outcome : (e : Ending) (outcome : Outcome) (before mid after : Outside) → mid ≡ reported_all outcome before → AreNotSaved e outcome.later mid after → HasOutcome e outcome before after
unsaved_outcome Done outcome before mid after reported lost = absurd lost
unsaved_outcome Usage outcome before mid after reported lost = absurd lost
unsaved_outcome (ReadFault file) outcome before mid after reported lost = absurd lost
unsaved_outcome (Refused file text) outcome before mid after reported lost = absurd lost
unsaved_outcome WriteFaultReport outcome before mid after reported lost = absurd lost
unsaved_outcome (WriteFaultFile file) outcome before mid after reported lost = inr (subst (λ (x : Outside). SavesAll (Some file) outcome.later x after) reported lost)
unsaved_outcome (UartFault place) outcome before mid after reported lost = absurd lost
unsaved_outcome NoMemory outcome before mid after reported lost = absurd lost

-- so an outcome whose report went out ends with what is done after it
pub outcome_and_after : (e : Ending) (board : BoardView) (outcome : Outcome) (before mid after : Outside) → outcome.denial ≡ None → IsSome outcome.run → mid ≡ reported_all outcome before
    → EndsAfter e outcome.later board mid after → HasOutcome e outcome before after
outcome_and_after e board outcome before mid after granted runs reported (inl ends) = ended_outcome e board outcome before mid after granted runs reported ends.0 ends.1
outcome_and_after e board outcome before mid after granted runs reported (inr lost) = unsaved_outcome e outcome before mid after reported lost

-- a run that ends as the board says
ended_leaves : (e : Ending) (run : Running) (had got : Option (List ℕ)) (before after : BoardView) → IsRunTo (ticks_of_run run) run before after → EndsRun e after → LeavesBoard e (Some run) had got before after
ended_leaves Done run had got before after to ends = record { heard = to; well = ends }
ended_leaves Usage run had got before after to ends = absurd ends
ended_leaves (ReadFault file) run had got before after to ends = absurd ends
ended_leaves (Refused file text) run had got before after to ends = absurd ends
ended_leaves WriteFaultReport run had got before after to ends = absurd ends
ended_leaves (WriteFaultFile file) run had got before after to ends = absurd ends
ended_leaves (UartFault place) run had got before after to ends = record { heard = to; marked = ends }
ended_leaves NoMemory run had got before after to ends = absurd ends

-- one that ends because a file was not written
unsaved_leaves : (e : Ending) (outputs : List Output) (run : Running) (had got : Option (List ℕ)) (from to : Outside) (before after : BoardView) → IsRunTo (ticks_of_run run) run before after → AreNotSaved e outputs from to → LeavesBoard e (Some run) had got before after
unsaved_leaves Done outputs run had got from to before after all lost = absurd lost
unsaved_leaves Usage outputs run had got from to before after all lost = absurd lost
unsaved_leaves (ReadFault file) outputs run had got from to before after all lost = absurd lost
unsaved_leaves (Refused file text) outputs run had got from to before after all lost = absurd lost
unsaved_leaves WriteFaultReport outputs run had got from to before after all lost = absurd lost
unsaved_leaves (WriteFaultFile file) outputs run had got from to before after all lost = all
unsaved_leaves (UartFault place) outputs run had got from to before after all lost = absurd lost
unsaved_leaves NoMemory outputs run had got from to before after all lost = absurd lost

-- what it leaves of the board, once all of its ticks are done
pub leaves_and_after : (e : Ending) (outputs : List Output) (run : Running) (had got : Option (List ℕ)) (from to : Outside) (before after : BoardView) → IsRunTo (ticks_of_run run) run before after
    → EndsAfter e outputs after from to → LeavesBoard e (Some run) had got before after
leaves_and_after e outputs run had got from to before after all (inl ends) = ended_leaves e run had got before after all ends.0
leaves_and_after e outputs run had got from to before after all (inr lost) = unsaved_leaves e outputs run had got from to before after all lost
