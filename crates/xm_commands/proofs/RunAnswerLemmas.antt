-- What a run from the boot on answers that is done, and the files that it leaves.
use Rattle.std.proofs.Common.{◌≡◌, ◌≢◌, ℕ, ◌+◌, ◌≤◌, List, [], ◌∷◌, ◌++◌, length, map, drop, Option, Some, None, Result, Ok, Err, refl, sym, ap, ◌∙◌, subst, arith}
use Rattle.std.specs.FinMap.{get, insert}
use Rattle.std.proofs.lemmas.List.{map-append}
use Rattle.xm_base.specs.declared.limits.TheConstants.{TICKS}
use Rattle.xm_outside.specs.Files.{Files}
use Rattle.xm_report.specs.Report.{texts}
use Rattle.continuation_laws.specs.Onward.{BootsAreBeginnings, after_ticks}
use Rattle.loaded_system.specs.System.{System as Loaded}
use Rattle.machine_model.specs.Machine.{Machine, start}
use Rattle.upset_model.specs.Reports.{after_run, upset_report}
use Rattle.upset_model.specs.declared.upset_line.UpsetLine.{UpsetLine}
use Rattle.machine_model.specs.View.{System}
use Rattle.system_state.specs.State.{with_inputs}
use Rattle.xm_container.specs.Reading.{unpacked}
use Rattle.command_line.specs.Words.{Command, PartFile, RunOption, Run, command_of, cores_in, from_in, inputs_in, save_in, scripts_in, span_in, upsets_in}
use Rattle.file_commands.specs.Denial.{Denial}
use Rattle.file_commands.specs.Ending.{status_of}
use Rattle.file_commands.specs.Inputs.{inputs_for}
use Rattle.file_commands.specs.lemmas.LaterLemmas.{output_names}
use Rattle.file_commands.specs.Outcome.{Output, Outcome, beginning_named, beginning_of, content, core_output, core_outputs, first_long, inputs_of, name_if_any, outcome_of, outcome_of_run, run_inputs, save_for, script_output, scripts_for, ticks_asked, upsets_for}
use Rattle.file_commands.specs.Packing.{denial, file_names}
use Rattle.file_commands.specs.declared.status.Status.TheVariants.{Done, ReadFault}
use Rattle.run_commands.specs.Numbers.{IsStored, StoresIn}
use Rattle.run_commands.specs.Contents.{read_all, read_before}
use Rattle.xm_commands.specs.Answer.{Answer, answer, answer_to_read, command_answer, ending_by, files_saved, outcome_answer, saved_all}
use Rattle.xm_commands.specs.Separation.{save_outputs}
use Rattle.xm_commands.specs.Top.{IsNoneOf, writes_of}
use Rattle.xm_commands.proofs.MadeLemmas.{both_are, saves_are, scripts_are}
use Rattle.xm_commands.proofs.OutsideLemmas.{stored-others, stored-same}
use Rattle.xm_commands.proofs.RanLemmas.{WasRan, asked_of, made_of, same_ok, was_ran}

-- Files that were written.

-- one that is none of them is as it was
pub saved_keeps : (outputs : List Output) (files : Files) (other : List ℕ) → IsNoneOf (output_names outputs) other → get (saved_all outputs files) other ≡ get files other
saved_keeps [] files other none = refl
saved_keeps (output ∷ outputs) files other none = saved_keeps outputs (insert files output.file output.bytes) other none.1 ∙ stored-others files output.file output.bytes other none.0

-- one of them, which none after it is
pub saved_has : (earlier : List Output) (output : Output) (later : List Output) (files : Files) → IsNoneOf (output_names later) output.file → get (saved_all (earlier ++ output ∷ later) files) output.file ≡ Some output.bytes
saved_has [] output later files none = saved_keeps later (insert files output.file output.bytes) output.file none ∙ stored-same files output.file output.bytes
saved_has (one ∷ earlier) output later files none = saved_has earlier output later (insert files one.file one.bytes) none

-- the names of files that are made for partitions are those that are given
pub made_names : (make : PartFile → Output) → ((named : PartFile) → (make named).file ≡ named.file) → (files : List PartFile) (other : List ℕ) → IsNoneOf (file_names files) other → IsNoneOf (output_names (map make files)) other
made_names make same [] other none = tt
made_names make same (named ∷ files) other none = (subst (λ (file : List ℕ). other ≢ file) (sym (same named)) none.0, made_names make same files other none.1)

-- what is none of two lists' names is none of either's, and the other way round
pub none_both : (names more : List (List ℕ)) (other : List ℕ) → IsNoneOf names other → IsNoneOf more other → IsNoneOf (names ++ more) other
none_both [] more other none rest = rest
none_both (name ∷ names) more other none rest = (none.0, none_both names more other none.1 rest)

pub none_apart : (names more : List (List ℕ)) (other : List ℕ) → IsNoneOf (names ++ more) other → IsNoneOf names other × IsNoneOf more other
none_apart [] more other none = (tt, none)
none_apart (name ∷ names) more other none = (let rest = none_apart names more other none.1 in ((none.0, rest.0), rest.1))

-- the saved machine is none that its name is none of
pub saves_named : (box : List ℕ) (g : Machine) (named : Option (List ℕ)) (other : List ℕ) → IsNoneOf (name_if_any named) other → IsNoneOf (output_names (save_outputs box g named)) other
saves_named box g None other none = tt
saves_named box g (Some file) other none = none

-- A run from the boot on that was not refused.

-- what it began with, and what was made of it
pub record RanBooted (container : List ℕ) (options : List RunOption) (contents : List (List ℕ)) : Type 0 where
  pub short : first_long (container ∷ run_inputs options) contents ≡ None
  pub system : Loaded
  pub unpacks : unpacked (content 0 contents) ≡ Ok system
  pub inputs : List (List ℕ)
  pub given : inputs_for (length system.conf.parts) options (drop 1 contents) ≡ Ok inputs
  pub most : ticks_asked (span_in options) system.conf ≤ TICKS
  pub upsets : List UpsetLine
  pub strikes : upsets_for system.conf 0 (ticks_asked (span_in options) system.conf) options (drop 1 contents) ≡ Ok upsets
  pub scripts : List Output
  pub made : scripts_for upsets (with_inputs system inputs) (ticks_asked (span_in options) system.conf) (scripts_in options) ≡ Ok scripts
  pub saves : List Output
  pub saved : saves ≡ save_outputs (content 0 contents) (after_ticks upsets (start (with_inputs system inputs)) (ticks_asked (span_in options) system.conf)) (save_in options)
  pub is : outcome_of (Run container options) contents ≡ outcome_of_run upsets (ticks_asked (span_in options) system.conf) (cores_in options) (scripts ++ saves) (start (with_inputs system inputs))
  pub stores : StoresIn options contents → IsStored (save_in options) (after_ticks upsets (start (with_inputs system inputs)) (ticks_asked (span_in options) system.conf))

-- a machine that boots
booted_conf : (system : System) → (start system).system ≡ system
unfolding start
booted_conf system = refl

booted_ticks : (system : System) → (start system).ticks ≡ 0
unfolding start
booted_ticks system = refl

begins_boot : (options : List RunOption) (box : List ℕ) (contents : List (List ℕ)) (system : Loaded) (inputs : List (List ℕ)) (machine : Machine) → from_in options ≡ None → beginning_of options box contents system inputs ≡ Ok machine → machine ≡ start (with_inputs system inputs)
unfolding beginning_of
begins_boot options box contents system inputs machine none begins =
    let boots : beginning_named (from_in options) box system inputs (content (length (inputs_in options) + length (name_if_any (upsets_in options))) contents) ≡ Ok (start (with_inputs system inputs)) =
    ap (λ (o : Option (List ℕ)). beginning_named o box system inputs (content (length (inputs_in options) + length (name_if_any (upsets_in options))) contents)) none in
    same_ok machine (start (with_inputs system inputs)) (beginning_of options box contents system inputs) begins boots

-- such a run was from the boot on, where it names no saved machine
ran_booted : (container : List ℕ) (options : List RunOption) (contents : List (List ℕ)) → from_in options ≡ None → WasRan container options contents → RanBooted container options contents
ran_booted container options contents none ran =
    let booted : System = with_inputs ran.system ran.inputs in
    let machine : ran.machine ≡ start booted = begins_boot options (content 0 contents) (drop 1 contents) ran.system ran.inputs ran.machine none ran.begins in
    let same : (start booted).system ≡ booted = booted_conf booted in
    let asked : asked_of options (start booted) ≡ ticks_asked (span_in options) ran.system.conf = ap (λ (s : System). ticks_asked (span_in options) s.conf) same in
    let made : made_of ran.upsets options (content 0 contents) (start booted) ≡ Ok ran.outputs = subst (λ (m : Machine). made_of ran.upsets options (content 0 contents) m ≡ Ok ran.outputs) machine ran.made in
    let both = both_are (scripts_for ran.upsets (start booted).system (asked_of options (start booted)) (scripts_in options)) (save_for (save_in options) (content 0 contents) (after_ticks ran.upsets (start booted) (asked_of options (start booted)))) ran.outputs made in
    let most : (start booted).ticks + asked_of options (start booted) ≤ TICKS = subst (λ (m : Machine). m.ticks + asked_of options m ≤ TICKS) machine ran.most in
    let zero_ticks : (start booted).ticks ≡ 0 = booted_ticks booted in
    let within : asked_of options (start booted) ≤ TICKS = omega (arith, most, zero_ticks) in
    let strikes : upsets_for (start booted).system.conf (start booted).ticks (asked_of options (start booted)) options (drop 1 contents) ≡ Ok ran.upsets =
    subst (λ (m : Machine). upsets_for m.system.conf m.ticks (asked_of options m) options (drop 1 contents) ≡ Ok ran.upsets) machine ran.strikes in
    record {
      short = ran.short;
      system = ran.system;
      unpacks = ran.unpacks;
      inputs = ran.inputs;
      given = ran.given;
      most = subst (λ (n : ℕ). n ≤ TICKS) asked within;
      upsets = ran.upsets;
      strikes = subst (λ (n : ℕ). upsets_for ran.system.conf n (ticks_asked (span_in options) ran.system.conf) options (drop 1 contents) ≡ Ok ran.upsets) zero_ticks
          (subst (λ (s : System). upsets_for s.conf (start booted).ticks (ticks_asked (span_in options) s.conf) options (drop 1 contents) ≡ Ok ran.upsets) same strikes);
      scripts = both.one;
      made = subst (λ (s : System). scripts_for ran.upsets s (ticks_asked (span_in options) s.conf) (scripts_in options) ≡ Ok both.one) same both.are;
      saves = both.other;
      saved = saves_are (save_in options) (content 0 contents) (after_ticks ran.upsets (start booted) (asked_of options (start booted))) both.other both.rest
          ∙ ap (λ (n : ℕ). save_outputs (content 0 contents) (after_ticks ran.upsets (start booted) n) (save_in options)) asked;
      is = ran.is ∙ ap (λ (m : Machine). outcome_of_run ran.upsets (asked_of options m) (cores_in options) ran.outputs m) machine
          ∙ ap (λ (n : ℕ). outcome_of_run ran.upsets n (cores_in options) ran.outputs (start booted)) asked
          ∙ ap (λ (os : List Output). outcome_of_run ran.upsets (ticks_asked (span_in options) ran.system.conf) (cores_in options) os (start booted)) both.all;
      stores = λ all. subst (λ (n : ℕ). IsStored (save_in options) (after_ticks ran.upsets (start booted) n)) asked
          (subst (λ (m : Machine). IsStored (save_in options) (after_ticks ran.upsets m (asked_of options m))) machine
          (all ran.system ran.inputs ran.machine ran.upsets ran.unpacks ran.given ran.begins ran.strikes));
    }

-- The contents of files.

-- a run's first file, and the others
pub record IsReadFirst (files : Files) (file : List ℕ) (names contents : List (List ℕ)) : Type 0 where
  pub bytes : List ℕ
  pub others : List (List ℕ)
  pub there : get files file ≡ Some bytes
  pub read : read_all files names ≡ Ok others
  pub all : contents ≡ bytes ∷ others

pub read_first : (files : Files) (file : List ℕ) (names contents : List (List ℕ)) → read_all files (file ∷ names) ≡ Ok contents → IsReadFirst files file names contents
read_first files file names contents read = at (get files file) refl (read_all files names) refl read
  where
    at : (o : Option (List ℕ)) → get files file ≡ o → (r : Result (List (List ℕ)) (List ℕ)) → read_all files names ≡ r → read_before file o r ≡ Ok contents → IsReadFirst files file names contents
    at None there r reads e = absurd (cc)
    at (Some bytes) there (Err absent) reads e = absurd (cc)
    at (Some bytes) there (Ok others) reads e = (let all : bytes ∷ others ≡ contents = cc in record { bytes = bytes; others = others; there = there; read = reads; all = sym all })

-- What is answered.

-- the answer to words of a command
pub answer_read : (words : List (List ℕ)) (command : Command) (files : Files) → command_of words ≡ Some command → answer words files ≡ answer_to_read command (read_all files (inputs_of command)) files
unfolding answer
answer_read words command files is = ap (λ (c : Option Command). command_answer c files) is

-- the answer to a command whose files were read
pub answer_by : (words : List (List ℕ)) (command : Command) (files : Files) (contents : List (List ℕ)) → command_of words ≡ Some command → read_all files (inputs_of command) ≡ Ok contents
    → answer words files ≡ outcome_answer (outcome_of command contents) files
answer_by words command files contents is read = answer_read words command files is ∙ ap (λ (r : Result (List (List ℕ)) (List ℕ)). answer_to_read command r files) read

-- one that is done is not refused
pub done_granted : (denial : Option Denial) → status_of (ending_by denial) ≡ Done → denial ≡ None
done_granted None done = refl
done_granted (Some denial) done = absurd (cc)

-- the outcome of a run that was not refused
ran_report : BootsAreBeginnings → (upsets : List UpsetLine) (ticks : ℕ) (cores : List PartFile) (outputs : List Output) (system : System)
    → (outcome_of_run upsets ticks cores outputs (start system)).report ≡ texts (upset_report upsets system ticks)
unfolding outcome_of_run
ran_report boots upsets ticks cores outputs system = ap texts (boots upsets system ticks).report

ran_files : BootsAreBeginnings → (upsets : List UpsetLine) (ticks : ℕ) (cores : List PartFile) (outputs : List Output) (system : System) (files : Files)
    → saved_all (outcome_of_run upsets ticks cores outputs (start system)).later (files_saved (outcome_of_run upsets ticks cores outputs (start system)).output files)
    ≡ saved_all (core_outputs (after_run upsets system ticks) cores ++ outputs) files
unfolding outcome_of_run
ran_files boots upsets ticks cores outputs system files = ap (λ (g : Machine). saved_all (core_outputs g cores ++ outputs) files) (boots upsets system ticks).after

pub core_names : (g : Machine) (cores : List PartFile) (other : List ℕ) → IsNoneOf (file_names cores) other → IsNoneOf (output_names (core_outputs g cores)) other
unfolding core_outputs
core_names g cores other none = made_names (core_output g) (λ named. refl) cores other none

-- What a run leaves.

-- the saved machine is none that its name is none of
pub none_saved : (container : List ℕ) (options : List RunOption) (contents : List (List ℕ)) (ran : RanBooted container options contents) (other : List ℕ) → IsNoneOf (name_if_any (save_in options)) other → IsNoneOf (output_names ran.saves) other
none_saved container options contents ran other none =
    subst (λ (os : List Output). IsNoneOf (output_names os) other) (sym ran.saved)
    (saves_named (content 0 contents) (after_ticks ran.upsets (start (with_inputs ran.system ran.inputs)) (ticks_asked (span_in options) ran.system.conf)) (save_in options) other none)

-- the answer of a run from the boot on that is done: its report, the files that it leaves, of which those that it does not write are as before
pub record HasRun (answered : Answer) (files : Files) (container : List ℕ) (options : List RunOption) : Type 0 where
  pub contents : List (List ℕ)
  pub read : read_all files (container ∷ run_inputs options) ≡ Ok contents
  pub ran : RanBooted container options contents
  pub printed : answered.out ≡ texts (upset_report ran.upsets (with_inputs ran.system ran.inputs) (ticks_asked (span_in options) ran.system.conf))
  pub written : answered.files
      ≡ saved_all (core_outputs (after_run ran.upsets (with_inputs ran.system ran.inputs) (ticks_asked (span_in options) ran.system.conf)) (cores_in options) ++ (ran.scripts ++ ran.saves)) files
  pub kept : (other : List ℕ) → IsNoneOf (writes_of (Run container options)) other → get answered.files other ≡ get files other

module _ (boots : BootsAreBeginnings) (words : List (List ℕ)) (files : Files) (container : List ℕ) (options : List RunOption) (is_run : command_of words ≡ Some (Run container options))
    (contents : List (List ℕ)) (reads : read_all files (container ∷ run_inputs options) ≡ Ok contents) (ran : RanBooted container options contents) where
  abbrev system : System
  system = with_inputs ran.system ran.inputs

  abbrev ticks : ℕ
  ticks = ticks_asked (span_in options) ran.system.conf

  abbrev outputs : List Output
  outputs = ran.scripts ++ ran.saves

  abbrev cores : List Output
  cores = core_outputs (after_run ran.upsets system ticks) (cores_in options)

  ran_answer : answer words files ≡ outcome_answer (outcome_of_run ran.upsets ticks (cores_in options) outputs (start system)) files
  ran_answer = answer_by words (Run container options) files contents is_run reads ∙ ap (λ (o : Outcome). outcome_answer o files) ran.is

  after_is : (answer words files).files ≡ saved_all (cores ++ outputs) files
  after_is = ap (λ (a : Answer). a.files) ran_answer ∙ ran_files boots ran.upsets ticks (cores_in options) outputs system files

  -- a file that the run does not write
  kept_so : (other : List ℕ) → IsNoneOf (writes_of (Run container options)) other → get (answer words files).files other ≡ get files other
  kept_so other none =
      let apart = none_apart (file_names (cores_in options) ++ file_names (scripts_in options)) (name_if_any (save_in options)) other none in
      let fronts = none_apart (file_names (cores_in options)) (file_names (scripts_in options)) other apart.0 in
      let scripts : IsNoneOf (output_names ran.scripts) other =
      subst (λ (os : List Output). IsNoneOf (output_names os) other) (sym (scripts_are ran.upsets system ticks (scripts_in options) ran.scripts ran.made)) (made_names (script_output ran.upsets system ticks) (λ n. refl) (scripts_in options) other fronts.1) in
      let made : IsNoneOf (output_names outputs) other =
      subst (λ (names : List (List ℕ)). IsNoneOf names other) (sym (map-append (λ (o : Output). o.file) ran.scripts ran.saves))
      (none_both (output_names ran.scripts) (output_names ran.saves) other scripts (none_saved container options contents ran other apart.1)) in
      let all : IsNoneOf (output_names (cores ++ outputs)) other =
      subst (λ (names : List (List ℕ)). IsNoneOf names other) (sym (map-append (λ (o : Output). o.file) cores outputs))
      (none_both (output_names cores) (output_names outputs) other (core_names (after_run ran.upsets system ticks) (cores_in options) other fronts.0) made) in
      ap (λ (f : Files). get f other) after_is ∙ saved_keeps (cores ++ outputs) files other all

  ran_so : HasRun (answer words files) files container options
  ran_so = record {
    contents = contents;
    read = reads;
    ran = ran;
    printed = ap (λ (a : Answer). a.out) ran_answer ∙ ran_report boots ran.upsets ticks (cores_in options) outputs system;
    written = after_is;
    kept = kept_so;
  }

-- a command that is done has read its files
pub record HasRead (answered : Answer) (files : Files) (command : Command) : Type 0 where
  pub contents : List (List ℕ)
  pub read : read_all files (inputs_of command) ≡ Ok contents
  pub granted : (outcome_of command contents).denial ≡ None
  pub is : answered ≡ outcome_answer (outcome_of command contents) files

pub has_read : (words : List (List ℕ)) (files : Files) (command : Command) → command_of words ≡ Some command → (answer words files).status ≡ Done → HasRead (answer words files) files command
has_read words files command is done = at (read_all files (inputs_of command)) refl
  where
    at : (r : Result (List (List ℕ)) (List ℕ)) → read_all files (inputs_of command) ≡ r → HasRead (answer words files) files command
    at (Ok contents) read =
        let answered = answer_by words command files contents is read in
        record {
          contents = contents;
          read = read;
          granted = done_granted (outcome_of command contents).denial (sym (ap (λ (a : Answer). a.status) answered) ∙ done);
          is = answered;
        }
    at (Err absent) read =
        let unread = answer_read words command files is ∙ ap (λ (r : Result (List (List ℕ)) (List ℕ)). answer_to_read command r files) read in
        let wrong : ReadFault ≡ Done = sym (ap (λ (a : Answer). a.status) unread) ∙ done in
        absurd (cc)

pub has_run : BootsAreBeginnings → (words : List (List ℕ)) (files : Files) (container : List ℕ) (options : List RunOption) → command_of words ≡ Some (Run container options) → (answer words files).status ≡ Done → from_in options ≡ None
    → HasRun (answer words files) files container options
has_run boots words files container options is_run done begun =
    let held = has_read words files (Run container options) is_run done in
    ran_so boots words files container options is_run held.contents held.read (ran_booted container options held.contents begun (was_ran container options held.contents held.granted))
