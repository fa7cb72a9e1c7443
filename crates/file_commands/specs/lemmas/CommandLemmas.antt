-- The outcome of a command, and what is done in all once its files are read.
use Rattle.std.proofs.Common.{◌≡◌, ℕ, ◌<◌, ◌≤◌, true, false, nat_lt, List, [], ◌∷◌, length, codes, Option, None, Result, refl, sym, ap, subst, arith, Some}
use Rattle.std.proofs.lemmas.Bool.Decides.{nat_tests}
use Rattle.std.proofs.lemmas.List.{append-nil}
use Rattle.xm_base.specs.declared.limits.TheConstants.{FILE_BYTES}
use Rattle.xm_outside.specs.Causes.{Rose}
use Rattle.xm_outside.specs.Files.{Files, ReadsFile}
use Rattle.xm_outside.specs.lemmas.GrowthLemmas.{grown-nothing}
use Rattle.xm_outside.specs.Growth.{GrewByPrefix}
use Rattle.command_line.specs.Words.{Command}
use Rattle.file_commands.specs.Ending.{Ending, Done, Usage, ReadFault, Refused, WriteFaultReport, WriteFaultFile, UartFault, NoMemory}
use Rattle.file_commands.specs.Outcome.{Outcome, first_long, inputs_of, converted, outcome_of, output_of, command_refused, unless_long, outcome_of_contents}
use Rattle.builders.specs.Makes.{IsUnmade}
use Rattle.file_commands.specs.Makes.{IsUnmadeOf}
use Rattle.builders.specs.declared.unmade.Unmade.{Unmade}
use Rattle.builders.specs.declared.unmade.Unmade.TheVariants as unmade
use Rattle.file_commands.specs.lemmas.OutputLemmas.{called_for-is, no_output, output-named}
use Rattle.file_commands.specs.Work.{Outside, AreNotRead, Does, IsDone, IsNotRead, ReadsFiles, Reports, after_store_call, called_for, outside}
use Rattle.file_commands.specs.lemmas.WorkTerms.{HasOutcome}

-- The outcome of one file.

-- a file that is too long
pub one-long : (command : Command) (file bytes : List ℕ) → inputs_of command ≡ file ∷ [] → FILE_BYTES < length bytes → outcome_of command (bytes ∷ []) ≡ command_refused file (codes "too-long")
unfolding outcome_of
one-long command file bytes one long = let test : nat_lt FILE_BYTES (length bytes) ≡ true = grind (arith, nat_tests) in rw (one, test) refl

-- a file that is not too long
pub one-short : (command : Command) (file bytes : List ℕ) → inputs_of command ≡ file ∷ [] → length bytes ≤ FILE_BYTES → outcome_of command (bytes ∷ []) ≡ outcome_of_contents command (bytes ∷ [])
unfolding outcome_of
one-short command file bytes one short = let test : nat_lt FILE_BYTES (length bytes) ≡ false = grind (arith, nat_tests) in rw (one, test) refl

-- without contents no file is too long
pub none_long : (names contents : List (List ℕ)) → contents ≡ [] → None ≡ first_long names contents
none_long [] contents none = refl
none_long (name ∷ names) contents none = sym (ap (first_long (name ∷ names)) none)

-- a file that is too long is refused
pub outcome-long : (command : Command) (contents : List (List ℕ)) (file : List ℕ) → first_long (inputs_of command) contents ≡ Some file → outcome_of command contents ≡ command_refused file (codes "too-long")
unfolding outcome_of
outcome-long command contents file long = ap (λ (o : Option (List ℕ)). unless_long o (outcome_of_contents command contents)) long

-- files none of which is too long
pub outcome-short : (command : Command) (contents : List (List ℕ)) → first_long (inputs_of command) contents ≡ None → outcome_of command contents ≡ outcome_of_contents command contents
unfolding outcome_of
outcome-short command contents none = ap (λ (long : Option (List ℕ)). unless_long long (outcome_of_contents command contents)) none

-- a command whose words name no file to be written writes none
pub no-writes : (command : Command) (contents : List (List ℕ)) → output_of command ≡ None → (outcome_of command contents).output ≡ None
no-writes command contents none = no_output _ (λ output is. (let named = output-named command contents output is in let no : ⊥ = cc in no))

-- a command that is refused does nothing
pub refused_outcome : (file text : List ℕ) (before : Outside) → HasOutcome (Refused file text) (command_refused file text) before before
refused_outcome file text before = (refl, sym (ap (λ (g : Option (List ℕ)). record before { got = g }) (grown-nothing before.got)))

-- where nothing was made, nothing is done
pub unmade_outcome : (e : Ending) (file : List ℕ) (outcome : List ℕ → Outcome) (why : Unmade) (m : Result (List ℕ) (List ℕ)) (before : Outside) → IsUnmadeOf e file why → IsUnmade why m → HasOutcome e (converted file outcome m) before before
unmade_outcome e file outcome (unmade.Refused text) m before ends is = rw (ends, is) (refused_outcome file _ before)
unmade_outcome e file outcome unmade.Memory m before ends is = rw ends refl

-- From what is done with files to what is done in all.

-- a command whose files were read did all of its work, by what was read
pub does_by : (e : Ending) (command : Command) (contents : List (List ℕ)) (before after : Outside) → ReadsFiles before.files (inputs_of command) contents → HasOutcome e (outcome_of command contents) (called_for (inputs_of command) before) after → Does e contents command before after
does_by Done command contents before after read comes = record { read = read; denied = comes.0; outside = comes.1 }
does_by Usage command contents before after read comes = absurd comes
does_by (ReadFault other) command contents before after read comes = absurd comes
does_by (Refused other text) command contents before after read comes = record { read = read; denied = comes.0; outside = comes.1 }
does_by WriteFaultReport command contents before after read comes =
    let same = called_for-is (inputs_of command) before in
    record {
      read = read;
      cause = subst (λ (n : ℕ). Rose n after.faults) (ap (λ (x : Outside). x.faults) same) comes.0;
      front = subst (λ (g : Option (List ℕ)). GrewByPrefix g (outcome_of command contents).report after.got) (ap (λ (x : Outside). x.got) same) comes.1;
      outside = comes.2;
    }
does_by (WriteFaultFile other) command contents before after read comes = record { read = read; lost = comes }
does_by (UartFault place) command contents before after read comes = record { carried = record { read = read; denied = comes.1; outside = comes.2 }; run = comes.0 }
does_by NoMemory command contents before after read comes = record { first = inputs_of command; rest = []; named = sym (append-nil (inputs_of command)); outside = comes }

pub done_by : (e : Ending) (command : Command) (contents : List (List ℕ)) (before after : Outside) → ReadsFiles before.files (inputs_of command) contents → HasOutcome e (outcome_of command contents) (called_for (inputs_of command) before) after → IsDone e command before after
done_by e command contents before after read comes = record { contents = contents; does = does_by e command contents before after read comes }

-- a command that reads one file did all of its work
pub done_by_one : (e : Ending) (command : Command) (file bytes : List ℕ) (before after : Outside) → inputs_of command ≡ file ∷ [] → ReadsFile before.files file FILE_BYTES bytes → HasOutcome e (outcome_of command (bytes ∷ [])) (after_store_call before) after → IsDone e command before after
done_by_one e command file bytes before after one read comes = done_by e command (bytes ∷ []) before after (rw one (read, tt)) (rw one comes)

-- a command whose files were not all read ends so, whatever their contents
pub not_all_read_does : (e : Ending) (contents : List (List ℕ)) (command : Command) (before after : Outside) → AreNotRead e (inputs_of command) before after → Does e contents command before after
not_all_read_does Done contents command before after not_read = absurd not_read
not_all_read_does Usage contents command before after not_read = absurd not_read
not_all_read_does (ReadFault other) contents command before after not_read = not_read
not_all_read_does (Refused other text) contents command before after not_read = absurd not_read
not_all_read_does WriteFaultReport contents command before after not_read = absurd not_read
not_all_read_does (WriteFaultFile other) contents command before after not_read = absurd not_read
not_all_read_does (UartFault place) contents command before after not_read = absurd not_read
not_all_read_does NoMemory contents command before after not_read = not_read

pub not_all_read_done : (e : Ending) (command : Command) (before after : Outside) → AreNotRead e (inputs_of command) before after → IsDone e command before after
not_all_read_done e command before after not_read = record { contents = []; does = not_all_read_does e [] command before after not_read }

-- what is done, seen from another state that is the same
pub outcome_from : (e : Ending) (outcome : Outcome) (mid other after : Outside) → mid ≡ other → HasOutcome e outcome mid after → HasOutcome e outcome other after
outcome_from e outcome mid other after same comes = subst (λ (m : Outside). HasOutcome e outcome m after) same comes

-- where one file was not read, not all files of a list with that one alone were
pub not_all_of_one : (e : Ending) (file : List ℕ) (before after : Outside) → IsNotRead e file before after → AreNotRead e (file ∷ []) before after
not_all_of_one Done file before after not_read = absurd not_read
not_all_of_one Usage file before after not_read = absurd not_read
not_all_of_one (ReadFault other) file before after not_read = record {
  first = [];
  rest = [];
  named = rw not_read.0 refl;
  contents = [];
  read = tt;
  cause = rw not_read.0 not_read.1;
  outside = not_read.2;
}
not_all_of_one (Refused other text) file before after not_read = absurd not_read
not_all_of_one WriteFaultReport file before after not_read = absurd not_read
not_all_of_one (WriteFaultFile other) file before after not_read = absurd not_read
not_all_of_one (UartFault place) file before after not_read = absurd not_read
not_all_of_one NoMemory file before after not_read = record { first = file ∷ []; rest = []; named = refl; outside = not_read }

-- a command whose one file was not read ends so
pub not_read_done : (e : Ending) (command : Command) (file : List ℕ) (before after : Outside) → inputs_of command ≡ file ∷ [] → IsNotRead e file before after → IsDone e command before after
not_read_done e command file before after one not_read =
    not_all_read_done e command before after (subst (λ (files : List (List ℕ)). AreNotRead e files before after) (sym one) (not_all_of_one e file before after not_read))

-- a report is all that is done, where no file is written
pub outcome_by_report : (e : Ending) (outcome : Outcome) (files : Option Files) (reads writes calls : ℕ) (had got : Option (List ℕ)) (faults now : ℕ) → outcome.output ≡ None → outcome.later ≡ [] → Reports e outcome had faults got now
    → HasOutcome e outcome (outside files reads writes calls had faults) (outside files reads writes calls got now)
outcome_by_report Done outcome files reads writes calls had got faults now none last r = (r.0, rw (none, last, r.1, r.2) refl)
outcome_by_report Usage outcome files reads writes calls had got faults now none last r = absurd r
outcome_by_report (ReadFault file) outcome files reads writes calls had got faults now none last r = absurd r
outcome_by_report (Refused file text) outcome files reads writes calls had got faults now none last r = (r.0, rw (none, last, r.1, r.2) refl)
outcome_by_report WriteFaultReport outcome files reads writes calls had got faults now none last r = (r.0, r.1, rw none refl)
outcome_by_report (WriteFaultFile file) outcome files reads writes calls had got faults now none last r = absurd r
outcome_by_report (UartFault place) outcome files reads writes calls had got faults now none last r = absurd r
outcome_by_report NoMemory outcome files reads writes calls had got faults now none last r = rw (r.0, r.1) refl
