-- A run that is refused before it begins.
use Rattle.std.proofs.Common.{◌≡◌, ℕ, ◌+◌, ◌<◌, ◌≤◌, Bool, true, false, nat_lt, if◌then◌else◌, List, drop, Option, Result, Ok, Err, refl, ap, sym, subst, ◌∙◌, arith}
use Rattle.std.proofs.lemmas.Bool.Decides.{nat_tests}
use Rattle.xm_base.specs.declared.limits.TheConstants.{TICKS}
use Rattle.xm_conf.specs.Configuration.{Conf}
use Rattle.uart_board.specs.Views.{BoardView}
use Rattle.loaded_system.specs.System.{System}
use Rattle.command_line.specs.Words.{PartFile, RunOption, span_in}
use Rattle.file_commands.specs.lemmas.CommandLemmas.{refused_outcome}
use Rattle.file_commands.specs.Denial.{Denial}
use Rattle.file_commands.specs.Ending.{Ending, Done, Usage, ReadFault, Refused, WriteFaultReport, WriteFaultFile, UartFault, NoMemory, ticks_text}
use Rattle.upset_model.specs.declared.upset_line.UpsetLine.{UpsetLine}
use Rattle.file_commands.specs.Outcome.{Outcome, Output, command_refused, content, ran_for, ran_from, ran_making, ran_struck, ran_with, ran_within, ticks_asked, upsets_for}
use Rattle.machine_model.specs.Machine.{Machine}
use Rattle.file_commands.specs.lemmas.EndingValuesTerms.{IsDenied}
use Rattle.file_commands.specs.lemmas.WorkTerms.{HasOutcome}
use Rattle.file_commands.specs.Work.{Outside}
use Rattle.run_commands.specs.Boards.{LeavesBoard}
use Rattle.run_commands.specs.Numbers.{HasScripts}
use Rattle.run_commands.specs.lemmas.Beginnings.{machine_with}
use Rattle.run_commands.specs.lemmas.ReadyRuns.{IsRefusing}

-- a run begins with the machine of its files, or is refused because of them
pub ran_first : (file : List ℕ) (options : List RunOption) (contents : List (List ℕ)) (system : System) (read : Result (List (List ℕ)) Denial)
    → ran_with file options (content 0 contents) (drop 1 contents) system read ≡ ran_from file options (content 0 contents) (drop 1 contents) (machine_with options contents system read)
ran_first file options contents system (Ok inputs) = refl
ran_first file options contents system (Err refusal) = refl

pub files_refuse : (e : Ending) (file : List ℕ) (options : List RunOption) (box : List ℕ) (contents : List (List ℕ)) (made : Result Machine Denial) → IsDenied e made → IsRefusing e (ran_from file options box contents made)
files_refuse Done file options box contents made denied = absurd denied
files_refuse Usage file options box contents made denied = absurd denied
files_refuse (ReadFault other) file options box contents made denied = absurd denied
files_refuse (Refused other text) file options box contents made denied = ap (ran_from file options box contents) denied
files_refuse WriteFaultReport file options box contents made denied = absurd denied
files_refuse (WriteFaultFile other) file options box contents made denied = absurd denied
files_refuse (UartFault place) file options box contents made denied = absurd denied
files_refuse NoMemory file options box contents made denied = tt

-- because of its upsets
pub upsets_refuse : (e : Ending) (ticks : ℕ) (options : List RunOption) (box : List ℕ) (g : Machine) (made : Result (List UpsetLine) Denial) → IsDenied e made → IsRefusing e (ran_struck ticks options box g made)
upsets_refuse Done ticks options box g made denied = absurd denied
upsets_refuse Usage ticks options box g made denied = absurd denied
upsets_refuse (ReadFault other) ticks options box g made denied = absurd denied
upsets_refuse (Refused other text) ticks options box g made denied = ap (ran_struck ticks options box g) denied
upsets_refuse WriteFaultReport ticks options box g made denied = absurd denied
upsets_refuse (WriteFaultFile other) ticks options box g made denied = absurd denied
upsets_refuse (UartFault place) ticks options box g made denied = absurd denied
upsets_refuse NoMemory ticks options box g made denied = tt

-- because of a file that is made of it
pub made_refuse : (e : Ending) (upsets : List UpsetLine) (ticks : ℕ) (cores : List PartFile) (g : Machine) (made : Result (List Output) Denial) → IsDenied e made → IsRefusing e (ran_making upsets ticks cores g made)
made_refuse Done upsets ticks cores g made denied = absurd denied
made_refuse Usage upsets ticks cores g made denied = absurd denied
made_refuse (ReadFault other) upsets ticks cores g made denied = absurd denied
made_refuse (Refused other text) upsets ticks cores g made denied = ap (ran_making upsets ticks cores g) denied
made_refuse WriteFaultReport upsets ticks cores g made denied = absurd denied
made_refuse (WriteFaultFile other) upsets ticks cores g made denied = absurd denied
made_refuse (UartFault place) upsets ticks cores g made denied = absurd denied
made_refuse NoMemory upsets ticks cores g made denied = tt

-- then nothing is done
pub refusing_outcome : (e : Ending) (outcome : Outcome) (before : Outside) → IsRefusing e outcome → HasOutcome e outcome before before
refusing_outcome Done outcome before refuses = absurd refuses
refusing_outcome Usage outcome before refuses = absurd refuses
refusing_outcome (ReadFault file) outcome before refuses = absurd refuses
refusing_outcome (Refused file text) outcome before refuses = subst (λ (o : Outcome). HasOutcome (Refused file text) o before before) (sym refuses) (refused_outcome file text before)
refusing_outcome WriteFaultReport outcome before refuses = absurd refuses
refusing_outcome (WriteFaultFile file) outcome before refuses = absurd refuses
refusing_outcome (UartFault place) outcome before refuses = absurd refuses
refusing_outcome NoMemory outcome before refuses = refl

-- and the board is left as it was
pub refusing_leaves : (e : Ending) (outcome : Outcome) (had got : Option (List ℕ)) (board : BoardView) → IsRefusing e outcome → LeavesBoard e outcome.run had got board board
refusing_leaves Done outcome had got board refuses = absurd refuses
refusing_leaves Usage outcome had got board refuses = absurd refuses
refusing_leaves (ReadFault file) outcome had got board refuses = absurd refuses
refusing_leaves (Refused file text) outcome had got board refuses = refl
refusing_leaves WriteFaultReport outcome had got board refuses = absurd refuses
refusing_leaves (WriteFaultFile file) outcome had got board refuses = absurd refuses
refusing_leaves (UartFault place) outcome had got board refuses = absurd refuses
refusing_leaves NoMemory outcome had got board refuses = refl

-- no script was made
pub refusing_unmade : (e : Ending) (outcome : Outcome) → IsRefusing e outcome → HasScripts e → ⊥
refusing_unmade Done outcome refuses made = refuses
refusing_unmade Usage outcome refuses made = made
refusing_unmade (ReadFault file) outcome refuses made = made
refusing_unmade (Refused file text) outcome refuses made = made
refusing_unmade WriteFaultReport outcome refuses made = refuses
refusing_unmade (WriteFaultFile file) outcome refuses made = refuses
refusing_unmade (UartFault place) outcome refuses made = refuses
refusing_unmade NoMemory outcome refuses made = made

-- A run that may have its ticks, and one that may not.

-- where it may, its upsets decide
pub within_is : (file : List ℕ) (options : List RunOption) (box : List ℕ) (contents : List (List ℕ)) (g : Machine) (conf : Conf) (begun asked : ℕ) (read : Result (List UpsetLine) Denial)
    → g.system.conf ≡ conf → begun ≡ g.ticks → asked ≡ ticks_asked (span_in options) conf → begun + asked ≤ TICKS → upsets_for conf begun asked options contents ≡ read
    → ran_within file options box contents g ≡ ran_struck asked options box g read
unfolding ran_within
within_is file options box contents g conf begun asked read same done is few are =
    let test : nat_lt TICKS (g.ticks + asked) ≡ false = grind (arith, nat_tests, few, done) in
    let upsets : upsets_for g.system.conf g.ticks asked options contents ≡ read =
    ap (λ (c : Conf). upsets_for c g.ticks asked options contents) same ∙ ap (λ n. upsets_for conf n asked options contents) (sym done) ∙ are in
    let by_test : ran_for file asked options box contents g ≡ ran_struck asked options box g read =
    ap (λ (t : Bool). if t then command_refused file (ticks_text (g.ticks + asked)) else ran_struck asked options box g (upsets_for g.system.conf g.ticks asked options contents)) test
    ∙ ap (ran_struck asked options box g) upsets in
    ap (λ (n : ℕ). ran_for file n options box contents g) (ap (ticks_asked (span_in options)) same ∙ sym is) ∙ by_test

-- where it may not, it is refused
pub beyond_is : (file : List ℕ) (options : List RunOption) (box : List ℕ) (contents : List (List ℕ)) (g : Machine) (conf : Conf) (begun asked : ℕ)
    → g.system.conf ≡ conf → begun ≡ g.ticks → asked ≡ ticks_asked (span_in options) conf → TICKS < begun + asked
    → ran_within file options box contents g ≡ command_refused file (ticks_text (begun + asked))
unfolding ran_within
beyond_is file options box contents g conf begun asked same done is many =
    let test : nat_lt TICKS (g.ticks + asked) ≡ true = grind (arith, nat_tests, many, done) in
    ap (λ (n : ℕ). ran_for file n options box contents g) (ap (ticks_asked (span_in options)) same ∙ sym is)
    ∙ ap (λ (t : Bool). if t then command_refused file (ticks_text (g.ticks + asked)) else ran_struck asked options box g (upsets_for g.system.conf g.ticks asked options contents)) test
    ∙ ap (λ n. command_refused file (ticks_text (n + asked))) (sym done)
