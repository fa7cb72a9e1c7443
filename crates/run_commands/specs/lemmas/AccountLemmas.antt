-- The account of a call, by what was read.
use Rattle.std.proofs.Common.{◌≡◌, ℕ, List, [], ◌∷◌, Option, Some, None, refl, sym, subst}
use Rattle.std.specs.Prelude.{IsSome}
use Rattle.uart_board.specs.Views.{BoardView}
use Rattle.command_line.specs.Words.{Command}
use Rattle.file_commands.specs.lemmas.CommandLemmas.{does_by, not_all_of_one, not_all_read_does}
use Rattle.file_commands.specs.Ending.{Ending, Done, Usage, ReadFault, Refused, WriteFaultReport, WriteFaultFile, UartFault, NoMemory}
use Rattle.file_commands.specs.Outcome.{Running, inputs_of, outcome_of}
use Rattle.file_commands.specs.Work.{AreNotRead, Does, IsDone, IsNotRead, Outside, ReadsFiles, called_for}
use Rattle.file_commands.specs.lemmas.WorkTerms.{HasOutcome}
use Rattle.run_commands.specs.Accounts.{HasAccount}
use Rattle.run_commands.specs.Boards.{LeavesBoard}

-- a command whose files were read
pub accounted_by : (e : Ending) (command : Command) (contents : List (List ℕ)) (before after : Outside) (board left : BoardView) → ReadsFiles before.files (inputs_of command) contents
    → HasOutcome e (outcome_of command contents) (called_for (inputs_of command) before) after
    → LeavesBoard e (outcome_of command contents).run before.got after.got board left → HasAccount e (Some command) before after board left
accounted_by e command contents before after board left read comes leaves = record {
  contents = contents;
  works = does_by e command contents before after read comes;
  plays = leaves;
}

-- a command whose files were not all read leaves the board
unread_leaves : (e : Ending) (files : List (List ℕ)) (run : Option Running) (before after : Outside) (had got : Option (List ℕ)) (board : BoardView) → AreNotRead e files before after → LeavesBoard e run had got board board
unread_leaves Done files run before after had got board not_read = absurd not_read
unread_leaves Usage files run before after had got board not_read = absurd not_read
unread_leaves (ReadFault other) files run before after had got board not_read = refl
unread_leaves (Refused other text) files run before after had got board not_read = absurd not_read
unread_leaves WriteFaultReport files run before after had got board not_read = absurd not_read
unread_leaves (WriteFaultFile other) files run before after had got board not_read = absurd not_read
unread_leaves (UartFault place) files run before after had got board not_read = absurd not_read
unread_leaves NoMemory files run before after had got board not_read = refl

-- so its account needs no contents
pub accounted_unread : (e : Ending) (command : Command) (before after : Outside) (board : BoardView) → AreNotRead e (inputs_of command) before after → HasAccount e (Some command) before after board board
accounted_unread e command before after board not_read = record {
  contents = [];
  works = not_all_read_does e [] command before after not_read;
  plays = unread_leaves e (inputs_of command) (outcome_of command []).run before after before.got after.got board not_read;
}

-- nor does that of a command whose one file was not read
pub accounted_not_one : (e : Ending) (command : Command) (file : List ℕ) (before after : Outside) (board : BoardView) → inputs_of command ≡ file ∷ [] → IsNotRead e file before after → HasAccount e (Some command) before after board board
accounted_not_one e command file before after board one not_read =
    accounted_unread e command before after board (subst (λ (files : List (List ℕ)). AreNotRead e files before after) (sym one) (not_all_of_one e file before after not_read))

-- a command that runs nothing leaves the board, whatever it did
still_leaves : (e : Ending) (contents : List (List ℕ)) (command : Command) (before after : Outside) (board : BoardView) → (outcome_of command contents).run ≡ None → Does e contents command before after
    → LeavesBoard e (outcome_of command contents).run before.got after.got board board
still_leaves Done contents command before after board none does = subst (λ (run : Option Running). LeavesBoard Done run before.got after.got board board) (sym none) refl
still_leaves Usage contents command before after board none does = absurd does
still_leaves (ReadFault file) contents command before after board none does = refl
still_leaves (Refused file text) contents command before after board none does = refl
still_leaves WriteFaultReport contents command before after board none does = subst (λ (run : Option Running). LeavesBoard WriteFaultReport run before.got after.got board board) (sym none) refl
still_leaves (WriteFaultFile file) contents command before after board none does = subst (λ (run : Option Running). LeavesBoard (WriteFaultFile file) run before.got after.got board board) (sym none) refl
still_leaves (UartFault place) contents command before after board none does = absurd (let some : IsSome {T = Running} None = subst (λ (run : Option Running). IsSome run) none does.run in cc)
still_leaves NoMemory contents command before after board none does = refl

-- so what it did is its account
pub still_accounted : (e : Ending) (command : Command) (before after : Outside) (board : BoardView) → ((contents : List (List ℕ)) → (outcome_of command contents).run ≡ None)
    → IsDone e command before after → HasAccount e (Some command) before after board board
still_accounted e command before after board none done = record {
  contents = done.contents;
  works = done.does;
  plays = still_leaves e done.contents command before after board (none done.contents) done.does;
}
