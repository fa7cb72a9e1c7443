-- What commands leave of the board of UARTs.
use Rattle.std.proofs.Common.{◌≡◌, ℕ, List, Option, Some, None, Result, Ok, Err, refl, ap, ◌∙◌}
use Rattle.uart_board.specs.Views.{BoardView}
use Rattle.command_line.specs.Words.{Command, PartFile, Pack, Generate}
use Rattle.run_commands.specs.Boards.{LeavesBoard, Plays}
use Rattle.xm_commands.specs.Played.{IsMarked}
use Rattle.file_commands.specs.Conversion.{command_making}
use Rattle.file_commands.specs.Denial.{Denial}
use Rattle.file_commands.specs.Ending.{Ending, Done, Usage, ReadFault, Refused, WriteFaultReport, WriteFaultFile, UartFault, NoMemory, status_of}
use Rattle.file_commands.specs.Outcome.{Outcome, Running, content, converted, first_long, inputs_of, outcome_of, outcome_of_file, outcome_of_print, packed_to, unless_long, outcome_of_contents}
use Rattle.xm_commands.specs.Top.{IsQuiet}
use Rattle.file_commands.specs.declared.converting.Conversion.{Conversion}
use Rattle.file_commands.specs.declared.converting.Conversion.TheVariants.{File, Report}
use Rattle.file_commands.specs.declared.status.Status.TheVariants as status
use Rattle.file_commands.specs.lemmas.ConversionLemmas.{conversion_outcome, converts}
use Rattle.xm_commands.proofs.TopLemmas.{loud}

-- Commands that run nothing.

no_run : (command : Command) (contents : List (List ℕ)) → (outcome_of_contents command contents).run ≡ None → (outcome_of command contents).run ≡ None
unfolding outcome_of
no_run command contents none = at (first_long (inputs_of command) contents)
  where
    at : (long : Option (List ℕ)) → (unless_long long (outcome_of_contents command contents)).run ≡ None
    at None = none
    at (Some file) = refl

made_runs : (file : List ℕ) (outcome : List ℕ → Outcome) (made_of : Result (List ℕ) (List ℕ)) → ((bytes : List ℕ) → (outcome bytes).run ≡ None) → (converted file outcome made_of).run ≡ None
made_runs file outcome (Ok bytes) none = none bytes
made_runs file outcome (Err text) none = refl

packed_runs : (output : List ℕ) (r : Result (List ℕ) Denial) → (packed_to output r).run ≡ None
packed_runs output (Ok bytes) = refl
packed_runs output (Err denial) = refl

-- a conversion
pub converted_runs : (made_of : Conversion) (file : List ℕ) (contents : List (List ℕ)) → (outcome_of (command_making made_of file) contents).run ≡ None
converted_runs made_of file contents = no_run (command_making made_of file) contents (ap (λ (outcome : Outcome). outcome.run) (converts made_of file contents) ∙ at made_of)
  where
    at : (made_of : Conversion) → (conversion_outcome made_of file (content 0 contents)).run ≡ None
    at (File what output) = made_runs file (outcome_of_file output.now) _ (λ bytes. refl)
    at (Report what) = made_runs file outcome_of_print _ (λ bytes. refl)

pub pack_runs : (configuration output : List ℕ) (images : List PartFile) (contents : List (List ℕ)) → (outcome_of (Pack configuration output images) contents).run ≡ None
pack_runs configuration output images contents = no_run (Pack configuration output images) contents (packed_runs output _)

pub generate_runs : (number : ℕ) (contents : List (List ℕ)) → (outcome_of (Generate number) contents).run ≡ None
generate_runs number contents = no_run (Generate number) contents refl

-- What the top call says of it.

-- a fault of a UART has left a mark
pub marked : (e : Ending) (contents : List (List ℕ)) (command : Option Command) (had got : Option (List ℕ)) (before after : BoardView) → Plays e contents command had got before after → status_of e ≡ status.UartFault → (command ≡ None → status_of e ≡ status.Usage) → IsMarked after
marked Done contents command had got before after left h usage = absurd (cc)
marked Usage contents command had got before after left h usage = absurd (cc)
marked (ReadFault file) contents command had got before after left h usage = absurd (cc)
marked (Refused file text) contents command had got before after left h usage = absurd (cc)
marked WriteFaultReport contents command had got before after left h usage = absurd (cc)
marked (WriteFaultFile file) contents command had got before after left h usage = absurd (cc)
marked (UartFault place) contents None had got before after left h usage = absurd (let wrong : status.UartFault ≡ status.Usage = usage refl in cc)
marked (UartFault place) contents (Some command) had got before after left h usage = by (outcome_of command contents).run left
  where
    by : (run : Option Running) → LeavesBoard (UartFault place) run had got before after → IsMarked after
    by None leaves = absurd leaves
    by (Some run) leaves = record { place = place; marked = leaves.marked.marked }
marked NoMemory contents command had got before after left h usage = absurd (cc)

-- a quiet call has left the board
pub still : (e : Ending) (contents : List (List ℕ)) (command : Option Command) (had got : Option (List ℕ)) (before after : BoardView) → Plays e contents command had got before after → IsQuiet (status_of e) → after ≡ before
still e contents None had got before after left q = left
still Done contents (Some command) had got before after left q = absurd (loud status.Done (λ h. cc) (λ h. cc) (λ h. cc) (λ h. cc) q)
still Usage contents (Some command) had got before after left q = left
still (ReadFault file) contents (Some command) had got before after left q = left
still (Refused file text) contents (Some command) had got before after left q = left
still WriteFaultReport contents (Some command) had got before after left q = absurd (loud status.WriteFault (λ h. cc) (λ h. cc) (λ h. cc) (λ h. cc) q)
still (WriteFaultFile file) contents (Some command) had got before after left q = absurd (loud status.WriteFault (λ h. cc) (λ h. cc) (λ h. cc) (λ h. cc) q)
still (UartFault place) contents (Some command) had got before after left q = absurd (loud status.UartFault (λ h. cc) (λ h. cc) (λ h. cc) (λ h. cc) q)
still NoMemory contents (Some command) had got before after left q = left
