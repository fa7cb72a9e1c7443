-- Core files are written one after another, into one room.
use Rattle.std.proofs.Common.{◌≡◌, ℕ, ◌<◌, ◌≤◌, if◌then◌else◌, Bool, true, false, nat_le, ◌==◌, List, [], ◌∷◌, length, Option, Some, None, OnOk, Result, Ok, Err, refl, sym, ap, ◌∙◌, subst, arith}
use Rattle.std.proofs.lemmas.Bool.Decides.{nat_tests}
use Rattle.std.specs.List.{cons_option}
use Rattle.xm_outside.specs.Causes.{Rose}
use Rattle.xm_outside.specs.Files.{OthersStay}
use Rattle.core_files.specs.Length.{core_length_of}
use Rattle.machine_model.specs.Facts.{RunsKeepNumbers}
use Rattle.machine_model.specs.Machine.{Machine}
use Rattle.upset_model.specs.Upsets.{Schedule, upset_run}
use Rattle.run_commands.specs.lemmas.StruckRuns.{struck_numbered}
use Rattle.machine_model.specs.View.{System as Booted, view_of}
use Rattle.system_state.specs.State.{SysState}
use Rattle.tick_steps.specs.Machine.{IsMachine}
use Rattle.command_line.specs.Words.{PartFile, RunOption, Length, ForRun, ForPart, asked, cores_in, files_in, inputs_in, kind_place, scripts_in}
use Rattle.command_line.specs.declared.run_options.FileKind.{FileKind}
use Rattle.command_line.specs.declared.run_options.FileKind.TheVariants.{Core, Input, Script}
use Rattle.run_commands.specs.lemmas.Cores.{AreForPartitions, FitInto}
use Rattle.file_commands.specs.Inputs.{first_beyond, or_later}
use Rattle.file_commands.specs.Outcome.{Output, core_output, core_outputs}
use Rattle.file_commands.specs.Work.{Outside, SavesAll, after_store_call, with_files, wrote}

-- Partitions that there are.

-- where no option's partition is beyond them, those of the files of one kind are among them
options_inside : (parts : ℕ) (kind : FileKind) (options : List RunOption) → first_beyond parts options ≡ None → AreForPartitions parts (files_in kind options)
options_inside parts kind [] none = tt
options_inside parts kind (Length span ∷ options) none = options_inside parts kind options none
options_inside parts kind (ForRun other file ∷ options) none = options_inside parts kind options none
options_inside parts kind (ForPart other named ∷ options) none = at (nat_le parts named.part) refl none (λ e. options_inside parts kind options e)
  where
    one : named.part < parts → AreForPartitions parts (files_in kind options) → (t : Bool) → AreForPartitions parts (cons_option (asked t named) (files_in kind options))
    one below rest true = (below, rest)
    one below rest false = rest

    at : (t : Bool) → nat_le parts named.part ≡ t → or_later (if t then Some named else None) (first_beyond parts options) ≡ None → (first_beyond parts options ≡ None → AreForPartitions parts (files_in kind options)) → AreForPartitions parts (files_in kind (ForPart other named ∷ options))
    at true is e rest = absurd (cc)
    at false is e rest = one (grind (arith, nat_tests)) (rest e) (kind_place other == kind_place kind)

-- the inputs, the core files and the scripts of options are for such partitions
pub inputs_inside : (parts : ℕ) (options : List RunOption) → first_beyond parts options ≡ None → AreForPartitions parts (inputs_in options)
inputs_inside parts options none = options_inside parts Input options none

pub cores_inside : (parts : ℕ) (options : List RunOption) → first_beyond parts options ≡ None → AreForPartitions parts (cores_in options)
cores_inside parts options none = options_inside parts Core options none

pub scripts_inside : (parts : ℕ) (options : List RunOption) → first_beyond parts options ≡ None → AreForPartitions parts (scripts_in options)
scripts_inside parts options none = options_inside parts Script options none

-- what holds anyhow holds where a result is good
pub always_ok : {T E P : Type 0} (r : Result T E) → P → OnOk r P
always_ok (Ok value) holds = holds
always_ok (Err fault) holds = tt

-- a whole machine has the partitions of its configuration
pub machine_inside : (sys : SysState) (g : Machine) (files : List PartFile) → IsMachine sys → sys.machine ≡ g → AreForPartitions (length g.system.conf.parts) files → AreForPartitions (length g.parts) files
machine_inside sys g files is same inside = subst (λ (n : ℕ). AreForPartitions n files) (sym (ap (λ (m : Machine). length m.parts) (sym same) ∙ is.complete.parts ∙ ap (λ (m : Machine). length m.system.conf.parts) same)) inside

-- the partitions of files stay when upsets strike in a run
pub run_inside : RunsKeepNumbers → (s : Schedule) (old new : Machine) (count : ℕ) (cores : List PartFile) → new ≡ upset_run s old count → AreForPartitions (length old.parts) cores → AreForPartitions (length new.parts) cores
run_inside law s old new count cores is inside =
    subst (λ (n : ℕ). AreForPartitions n cores) (sym (ap (λ (m : Machine). length m.parts) is ∙ (struck_numbered law count s old).0)) inside

-- and so it does the lengths of their core files
pub run_fits : RunsKeepNumbers → (s : Schedule) (old new : Machine) (count most : ℕ) (cores : List PartFile) → new ≡ upset_run s old count → FitInto old.system most cores → FitInto new.system most cores
run_fits law s old new count most cores is fits =
    subst (λ (system : Booted). FitInto system most cores) (sym (ap (λ (m : Machine). m.system) is ∙ (struck_numbered law count s old).1)) fits

-- The next file.

-- it is for a partition that there is, and so are the others
pub inside_next : (parts : ℕ) (rest others : List PartFile) (named : PartFile) → rest ≡ named ∷ others → AreForPartitions parts rest → (named.part < parts) × AreForPartitions parts others
inside_next parts rest others named is inside = subst (AreForPartitions parts) is inside

-- its core file fits, and so do the others
pub fits_next : (system : Booted) (most : ℕ) (rest others : List PartFile) (named : PartFile) → rest ≡ named ∷ others → FitInto system most rest → (core_length_of (view_of system named.part) ≤ most) × FitInto system most others
fits_next system most rest others named is fits = subst (FitInto system most) is fits

-- where it fits and the others do all fit
pub fits_more : (system : Booted) (most : ℕ) (rest others : List PartFile) (named : PartFile) → rest ≡ named ∷ others → core_length_of (view_of system named.part) ≤ most → FitInto system most others → FitInto system most rest
fits_more system most rest others named is few fits = subst (FitInto system most) (sym is) (few, fits)

-- where there is none nothing is to fit
pub fits_none : (system : Booted) (most : ℕ) (rest : List PartFile) → rest ≡ [] → FitInto system most rest
fits_none system most rest none = subst (FitInto system most) (sym none) tt

-- files that are written after one that was
pub saves_after : (lost : Option (List ℕ)) (output : Output) (outputs : List Output) (before after : Outside) → SavesAll lost outputs (wrote (Some output) before) after → SavesAll lost (output ∷ outputs) before after
saves_after None output outputs before after s = s
saves_after (Some file) output outputs before after s = record {
  first = output ∷ s.first;
  output = s.output;
  rest = s.rest;
  split = ap (λ (os : List Output). output ∷ os) s.split;
  named = s.named;
  cause = s.cause;
  others = s.others;
  outside = s.outside;
}

-- the next core file was written, and the others were or were not
pub saves_next : (lost : Option (List ℕ)) (g : Machine) (rest others : List PartFile) (named : PartFile) (before mid after : Outside) → rest ≡ named ∷ others → mid ≡ wrote (Some (core_output g named)) before → SavesAll lost (core_outputs g others) mid after
    → SavesAll lost (core_outputs g rest) before after
unfolding core_outputs
saves_next lost g rest others named before mid after is one saves =
    subst (λ (files : List PartFile). SavesAll lost (core_outputs g files) before after) (sym is)
    (saves_after lost (core_output g named) (core_outputs g others) before after (subst (λ (x : Outside). SavesAll lost (core_outputs g others) x after) one saves))

-- there was none left
pub saves_none : (g : Machine) (rest : List PartFile) (before : Outside) → rest ≡ [] → SavesAll None (core_outputs g rest) before before
unfolding core_outputs
saves_none g rest before none = subst (λ (files : List PartFile). SavesAll None (core_outputs g files) before before) (sym none) refl

-- the next core file was not written
pub lost_next : (g : Machine) (rest others : List PartFile) (named : PartFile) (before after : Outside) → rest ≡ named ∷ others → Rose before.write_faults after.write_faults → OthersStay before.files named.file after.files
    → after ≡ with_files after.files after.write_faults (after_store_call before) → SavesAll (Some named.file) (core_outputs g rest) before after
unfolding core_outputs
lost_next g rest others named before after is rose stay outside =
    subst (λ (files : List PartFile). SavesAll (Some named.file) (core_outputs g files) before after) (sym is)
    (record { first = []; output = core_output g named; rest = core_outputs g others; split = refl; named = refl; cause = rose; others = stay; outside = outside })
