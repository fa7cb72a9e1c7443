-- What a run shows of each partition, out of the laws of own lines and of core files.
use Rattle.std.proofs.Common.{if◌then◌else◌, ◌≡◌, ℕ, ◌+◌, ◌-◌, ◌<◌, ◌≤◌, inl, inr, ⊎_elim, Bool, true, false, nat_lt, ◌==◌, ◌||◌, List, [], ◌∷◌, ◌++◌, length, map, drop, take, Option, Some, None, Result, Ok, Err, refl, sym, ap, ◌∙◌, subst, arith, length-append}
use Rattle.std.specs.Prelude.{IsSome, slice_get}
use Rattle.std.proofs.Math.Seq.{take-append-add}
use Rattle.std.proofs.lemmas.Bool.{cases_lt}
use Rattle.std.proofs.lemmas.List.{append_assoc, take-append-le}
use Rattle.std.proofs.lemmas.Option.{get_or_from_slice_get}
use Rattle.xm_base.specs.Options.{on}
use Rattle.xm_base.specs.declared.limits.TheConstants.{IMAGE_BYTES, TICKS}
use Rattle.xm_outside.specs.Files.{Files, OthersStay}
use Rattle.xm_outside.specs.Growth.{GrewByPrefix, grown}
use Rattle.xm_outside.specs.lemmas.GrowthLemmas.{grown-nothing, grown_grown}
use Rattle.xm_report.specs.Report.{ReportLine, text_of, texts}
use Rattle.loaded_system.specs.Bare.{bare_system}
use Rattle.loaded_system.specs.System.{System as Loaded}
use Rattle.xm_conf.specs.Configuration.{Conf}
use Rattle.continuation_laws.specs.Onward.{BootsAreBeginnings, after_ticks}
use Rattle.saved_machines.specs.Saved.{SavedMachine}
use Rattle.saved_machines.specs.SavedFormat.{saved_format}
use Rattle.saved_machines.specs.Saving.{loaded_of, machine_saved, stored_digest}
use Rattle.saved_machines.specs.declared.fault.SavedFault.{SavedFault}
use Rattle.xm_container.specs.Reading.{unpacked}
use Rattle.fault_messages.specs.declared.fault.BoxFault.{BoxFault}
use Rattle.machine_model.specs.CoreFile.{core_file}
use Rattle.machine_model.specs.Laws.{core_file_of}
use Rattle.machine_model.specs.Lines.{own}
use Rattle.machine_model.specs.Machine.{Machine, booted_part, start}
use Rattle.machine_model.specs.Partition.{PartitionState}
use Rattle.machine_model.specs.View.{System, view_of}
use Rattle.upset_model.specs.Reports.{after_run}
use Rattle.upset_model.specs.declared.upset_line.UpsetLine.{UpsetLine}
use Rattle.upset_laws.specs.ReportLaws.{OwnReports, SameUpsetCoreFile}
use Rattle.system_state.specs.State.{part_at, with_inputs}
use Rattle.command_line.specs.Words.{Command, PartFile, RunOption, Bare, Parse, Upgrade, BuildImage, ReadImage, Pack, ListContainer, CheckContainer, MakePlan, CheckPlan, ListGroups, ListSteerers, Generate, Run, Replay, cores_in, from_in, inputs_in, save_in, span_in, scripts_in, upsets_in}
use Rattle.run_commands.specs.lemmas.Cores.{AreForPartitions}
use Rattle.file_commands.specs.Denial.{Denial}
use Rattle.file_commands.specs.Ending.{Ending, Done, Usage, ReadFault, Refused, WriteFaultReport, WriteFaultFile, UartFault, NoMemory, length_text, status_of, ticks_text}
use Rattle.file_commands.specs.Inputs.{first_beyond, inputs_for, inputs_with, no_inputs, unless_beyond}
use Rattle.file_commands.specs.Outcome.{Output, Outcome, bare_outcome, beginning_named, beginning_of, content, core_output, core_outputs, first_long, inputs_of, machine_or, made_both, name_if_any, outcome_of, outcome_of_run, ran_from, ran_making, ran_struck, ran_with, ran_within, command_refused, refused_by, run_by, run_outcome, save_for, script_output, scripts_for, ticks_asked, unless_long, upsets_for, outcome_of_contents}
use Rattle.xm_commands.specs.Separation.{AreShownAlone, CommandAlone, ContainerAlone, OnwardAlone, PrintsAlone, RunAlone, Showing, Shown, ShowsAlone, ShowsFront, ShowsPart, ShowsSome, alone_output, booted_run, onward_output, onward_run, save_outputs}
use Rattle.xm_commands.specs.Top.{AreContents, IsCompleteStatus, IsNotWritten}
use Rattle.file_commands.specs.Work.{Does, Outside, IsCarriedOut, IsUnsaved, IsUnwritten, ReadsFiles, Works, called_for, did, reported_all, wrote, wrote_all}
use Rattle.file_commands.specs.declared.status.Status.TheVariants.{WriteFault}
use Rattle.run_commands.specs.lemmas.ContentLemmas.{are_whole}
use Rattle.run_commands.specs.Contents.{read_all}
use Rattle.run_commands.specs.lemmas.NumbersTerms.{CommandReceives, WordsReceive}
use Rattle.run_commands.specs.Numbers.{HasScripts, ReceivesOf}
use Rattle.run_commands.specs.lemmas.CoreLemmas.{cores_inside}
use Rattle.file_commands.specs.lemmas.OutputLemmas.{called_for-is}
use Rattle.xm_commands.proofs.MadeLemmas.{made_are}
use Rattle.xm_commands.proofs.NumberLemmas.{complete_made}
use Rattle.xm_commands.proofs.OnwardLemmas.{AreOnward, OnwardLaws, are_onward, own_append}
use Rattle.xm_commands.proofs.OutsideLemmas.{wrote-got}
use Rattle.xm_commands.proofs.SavedLemmas.{saved_conf, saved_counted}
use Rattle.xm_commands.proofs.TopLemmas.{IsSomeOf, done_is_finished, lost_first, lost_some, unheard_finished}
use Rattle.xm_commands.proofs.WrittenLemmas.{did-got, wrote-from, wrote_all-from}

-- Core files.

-- the core file of the partition that is found
found_core : (g : Machine) (p : ℕ) (bytes : List ℕ) (o : Option PartitionState) → slice_get g.parts p ≡ o → on (core_file (view_of g.system p)) o ≡ Some bytes → core_file (view_of g.system p) (part_at p g) ≡ bytes
found_core g p bytes None is found = absurd (cc)
found_core g p bytes (Some ps) is found =
    let there : part_at p g ≡ ps = get_or_from_slice_get g.parts p ps (booted_part g.system p) is in
    let same : core_file (view_of g.system p) ps ≡ bytes = cc in
    ap (core_file (view_of g.system p)) there ∙ same

pub core_there : (g : Machine) (p : ℕ) (bytes : List ℕ) → core_file_of g p ≡ Some bytes → core_file (view_of g.system p) (part_at p g) ≡ bytes
unfolding core_file_of
core_there g p bytes found = found_core g p bytes (slice_get g.parts p) refl found

-- the core files after a run are those of the partitions alone
same_cores : SameUpsetCoreFile → (upsets : List UpsetLine) (system : System) (ticks : ℕ) (cores : List PartFile) → AreForPartitions (length system.conf.parts) cores → core_outputs (after_run upsets system ticks) cores ≡ map (alone_output upsets system ticks) cores
unfolding core_outputs
same_cores law upsets system ticks [] inside = refl
same_cores law upsets system ticks (named ∷ cores) inside =
    let one : core_output (after_run upsets system ticks) named ≡ alone_output upsets system ticks named =
    ap (λ (bytes : List ℕ). record { file = named.file; bytes = bytes }) (core_there (after_run upsets system ticks) named.part _ (law upsets system named.part ticks inside.0)) in
    ap (λ (o : Output). o ∷ map (core_output (after_run upsets system ticks)) cores) one
    ∙ ap (λ (os : List Output). alone_output upsets system ticks named ∷ os) (same_cores law upsets system ticks cores inside.1)

-- so are those after a run from a machine on
same_onward : (upsets : List UpsetLine) (g : Machine) (ticks : ℕ) (cores : List PartFile) → AreOnward upsets g ticks → AreForPartitions (length g.system.conf.parts) cores → core_outputs (after_ticks upsets g ticks) cores ≡ map (onward_output upsets g ticks) cores
unfolding core_outputs
same_onward upsets g ticks [] onward inside = refl
same_onward upsets g ticks (named ∷ cores) onward inside =
    let one : core_output (after_ticks upsets g ticks) named ≡ onward_output upsets g ticks named =
    ap (λ (bytes : List ℕ). record { file = named.file; bytes = bytes }) (onward.core_file named.part inside.0) in
    ap (λ (o : Output). o ∷ map (core_output (after_ticks upsets g ticks)) cores) one
    ∙ ap (λ (os : List Output). onward_output upsets g ticks named ∷ os) (same_onward upsets g ticks cores onward inside.1)

-- The outcome of a run.

-- it shows what is to be shown of the run: its report is the run's, no file comes before it, and the files after it are the run's; and each partition's own
-- lines are those of that partition alone
record IsShowing (run : Showing) (outcome : Outcome) : Type 0 where
  report : outcome.report ≡ texts run.report
  output : outcome.output ≡ None
  later : outcome.later ≡ run.outputs
  own : (p : ℕ) → p < run.parts → own p run.report ≡ run.alone p

-- the laws by which a run shows each partition as it is alone
pub record ShowsAloneLaws : Type 0 where
  pub boots : BootsAreBeginnings
  pub lines : OwnReports
  pub core : SameUpsetCoreFile
  pub onward : OnwardLaws

-- a run from the boot on
booted_shows : BootsAreBeginnings → OwnReports → SameUpsetCoreFile → (upsets : List UpsetLine) (system : System) (ticks : ℕ) (cores scripts : List PartFile) (saves : List Output) → AreForPartitions (length system.conf.parts) cores
    → IsShowing (booted_run upsets system ticks cores scripts saves) (outcome_of_run upsets ticks cores (map (script_output upsets system ticks) scripts ++ saves) (start system))
unfolding outcome_of_run
booted_shows boots lines_law core_law upsets system ticks cores scripts saves inside =
    let alike = boots upsets system ticks in
    let made : List Output = map (script_output upsets system ticks) scripts ++ saves in
    record {
      report = ap texts alike.report;
      output = refl;
      later = ap (λ (g : Machine). core_outputs g cores ++ made) alike.after
          ∙ ap (λ (os : List Output). os ++ made) (same_cores core_law upsets system ticks cores inside)
          ∙ sym (append_assoc (map (alone_output upsets system ticks) cores) (map (script_output upsets system ticks) scripts) saves);
      own = λ p there. lines_law upsets system p ticks there;
    }

-- a run from a machine on
onward_shows : (upsets : List UpsetLine) (g : Machine) (ticks : ℕ) (cores : List PartFile) (saves : List Output) → AreOnward upsets g ticks → AreForPartitions (length g.system.conf.parts) cores
    → IsShowing (onward_run upsets g ticks cores saves) (outcome_of_run upsets ticks cores saves g)
unfolding outcome_of_run
onward_shows upsets g ticks cores saves onward inside = record {
  report = refl;
  output = refl;
  later = ap (λ (os : List Output). os ++ saves) (same_onward upsets g ticks cores onward inside);
  own = onward.lines;
}

-- What was done, by the outcome of a command.

-- all of it
abbrev IsAllOf : Outside → Outside → Outcome → Type 0
IsAllOf read_from after outcome = (outcome.denial ≡ None) × (after ≡ did outcome read_from)

-- a prefix of the report, after the file that comes first
abbrev IsFrontOf : Outside → Outside → Outcome → Type 0
IsFrontOf before after outcome = GrewByPrefix before.got outcome.report after.got × (after.files ≡ (wrote outcome.output before).files)

-- none of these is done by a command that is refused
never_all : (read_from after : Outside) (denial : Denial) → IsAllOf read_from after (refused_by denial) → ⊥
never_all read_from after denial is = (let none : Some denial ≡ None = is.0 in cc)

never_front : (before after : Outside) (denial : Denial) → IsFrontOf before after (refused_by denial) → ⊥
never_front before after denial is = (let short : is.0.count < 0 = is.0.short in absurd (omega (arith, short)))

never_some : (before after : Outside) (denial : Denial) → IsSomeOf before after (refused_by denial) → ⊥
never_some before after denial is =
    let count : 0 ≡ length is.first + length (is.output ∷ is.rest) = ap length is.split ∙ length-append is.first (is.output ∷ is.rest) in
    absurd (omega (arith, count))

-- The report that was cut.

-- of all lines the first went out, and a prefix of the next one
record AreCutIn (all : List ReportLine) (had got : Option (List ℕ)) : Type 0 where
  lines : List ReportLine
  next : ReportLine
  rest : List ReportLine
  split : lines ++ next ∷ rest ≡ all
  front : GrewByPrefix (grown had (texts lines)) (text_of next) got

-- where the first of them went out
after_first : (line : ReportLine) (others : List ReportLine) (had got : Option (List ℕ)) → AreCutIn others (grown had (text_of line)) got → AreCutIn (line ∷ others) had got
after_first line others had got cut = record {
  lines = line ∷ cut.lines;
  next = cut.next;
  rest = cut.rest;
  split = ap (λ (ls : List ReportLine). line ∷ ls) cut.split;
  front = subst (λ (g : Option (List ℕ)). GrewByPrefix g (text_of cut.next) got) (grown_grown had (text_of line) (texts cut.lines)) cut.front;
}

are_cut : (all : List ReportLine) (had got : Option (List ℕ)) → GrewByPrefix had (texts all) got → AreCutIn all had got
are_cut [] had got p = (let short : p.count < 0 = p.short in absurd (omega (arith, short)))
are_cut (line ∷ others) had got p = ⊎_elim here (later (are_cut others (grown had (text_of line)) got)) (cases_lt p.count (length (text_of line)))
  where
    here : p.count < length (text_of line) → AreCutIn (line ∷ others) had got
    here short = record {
      lines = [];
      next = line;
      rest = others;
      split = refl;
      front = record {
        count = p.count;
        short = short;
        grew = (let bound : p.count ≤ length (text_of line) = omega (arith, short) in
            p.grew ∙ ap (grown had) (take-append-le p.count (text_of line) (texts others) bound) ∙ ap (λ (g : Option (List ℕ)). grown g (take p.count (text_of line))) (sym (grown-nothing had)));
      };
    }

    later : (GrewByPrefix (grown had (text_of line)) (texts others) got → AreCutIn others (grown had (text_of line)) got) → length (text_of line) ≤ p.count → AreCutIn (line ∷ others) had got
    later cut past =
        let count : p.count ≡ length (text_of line) + (p.count - length (text_of line)) = omega (arith, past) in
        let all : p.count < length (text_of line) + length (texts others) = subst (λ (n : ℕ). p.count < n) (length-append (text_of line) (texts others)) p.short in
        after_first line others had got (cut (record {
          count = p.count - length (text_of line);
          short = omega (arith, all, count);
          grew = p.grew ∙ ap (λ (n : ℕ). grown had (take n (text_of line ++ texts others))) count
              ∙ ap (grown had) (take-append-add (text_of line) (texts others) (p.count - length (text_of line)))
              ∙ sym (grown_grown had (text_of line) (take (p.count - length (text_of line)) (texts others)));
        }))

-- A run.

-- whose whole report went out
prints_run : (run : Showing) (before after : Outside) → ((p : ℕ) → p < run.parts → own p run.report ≡ run.alone p) → after.got ≡ grown before.got (texts run.report) → PrintsAlone run before after
prints_run run before after law got = record { lines = run.report; whole = refl; report = got; own = law }

-- its outcome
shows_run : (run : Showing) (outcome : Outcome) (before read_from after : Outside) → IsShowing run outcome → read_from.files ≡ before.files → read_from.got ≡ before.got → IsAllOf read_from after outcome → ShowsAlone run before after
shows_run run outcome before read_from after shows files got is = record {
  printed = prints_run run before after shows.own
      (ap (λ (x : Outside). x.got) is.1 ∙ did-got outcome read_from ∙ ap (grown read_from.got) shows.report ∙ ap (λ (g : Option (List ℕ)). grown g (texts run.report)) got);
  written = ap (λ (x : Outside). x.files) is.1
      ∙ ap (λ (os : List Output). (wrote_all os (reported_all outcome read_from)).files) shows.later
      ∙ wrote_all-from run.outputs (reported_all outcome read_from) before (ap (λ (o : Option Output). (wrote o read_from).files) shows.output ∙ files);
}

-- where its report was cut
shows_front : (run : Showing) (outcome : Outcome) (before after : Outside) → IsShowing run outcome → IsFrontOf before after outcome → ShowsFront run before after
shows_front run outcome before after shows is =
    let cut = are_cut run.report before.got after.got (subst (λ (bytes : List ℕ). GrewByPrefix before.got bytes after.got) shows.report is.0) in
    record {
      lines = cut.lines;
      next = cut.next;
      rest = cut.rest;
      split = cut.split;
      front = cut.front;
      own = λ p there. sym (own_append p cut.lines (cut.next ∷ cut.rest)) ∙ ap (own p) cut.split ∙ shows.own p there;
      files = is.1 ∙ ap (λ (o : Option Output). (wrote o before).files) shows.output;
    }

-- where one of its files was not written
shows_some : (run : Showing) (outcome : Outcome) (before after : Outside) → IsShowing run outcome → IsSomeOf before after outcome → ShowsSome run before after
shows_some run outcome before after shows is =
    let unwritten : (reported_all outcome before).files ≡ before.files = ap (λ (o : Option Output). (wrote o before).files) shows.output in
    record {
      printed = prints_run run before after shows.own
          (is.report ∙ ap (λ (g : Option (List ℕ)). grown g outcome.report) (wrote-got outcome.output before) ∙ ap (grown before.got) shows.report);
      first = is.first;
      lost = is.output;
      rest = is.rest;
      split = sym is.split ∙ shows.later;
      others = subst (λ (fs : Option Files). OthersStay fs is.output.file after.files) (wrote_all-from is.first (reported_all outcome before) before unwritten) is.others;
    }

-- Commands that are not refused, by what was done.

-- none of the files is too long
worked_by : {R : Type 0} (Did : Outcome → Type 0) (command : Command) (contents : List (List ℕ)) → ((denial : Denial) → Did (refused_by denial) → ⊥)
    → (first_long (inputs_of command) contents ≡ None → Did (outcome_of_contents command contents) → R) → Did (outcome_of command contents) → R
unfolding outcome_of
worked_by {R} Did command contents never ran_so is = at (first_long (inputs_of command) contents) refl is
  where
    at : (long : Option (List ℕ)) → first_long (inputs_of command) contents ≡ long → Did (unless_long long (outcome_of_contents command contents)) → R
    at None short done = ran_so short done
    at (Some file) long done = absurd (never _ done)

-- so what was read is the whole of the files
whole_contents : (held : Option Files) (command : Command) (contents : List (List ℕ)) → ReadsFiles held (inputs_of command) contents → first_long (inputs_of command) contents ≡ None → AreContents held command contents
whole_contents None command contents read short = tt
whole_contents (Some files) command contents read short =
    let is = are_whole files (inputs_of command) contents read in
    subst (λ (all : List (List ℕ)). read_all files (inputs_of command) ≡ Ok all) (sym (is.whole (sym is.long ∙ short))) is.read

-- an image that was run
bare_by : {R : Type 0} (Did : Outcome → Type 0) (file : List ℕ) (ticks : ℕ) (image : List ℕ) → ((denial : Denial) → Did (refused_by denial) → ⊥) → (Did (outcome_of_run [] ticks [] [] (start (with_inputs (bare_system image) (no_inputs 1)))) → R) → Did (bare_outcome file ticks image) → R
unfolding bare_outcome
bare_by {R} Did file ticks image never ran_so is = at ((length image == 0) || nat_lt IMAGE_BYTES (length image)) is
  where
    at : (t : Bool) → Did (if t then command_refused file (length_text (length image)) else outcome_of_run [] ticks [] [] (start (with_inputs (bare_system image) (no_inputs 1)))) → R
    at true done = absurd (never _ done)
    at false done = ran_so done

-- what is done with the outcome of a run of this many ticks with upsets, from a machine on, of a container with these bytes: with all files that its options
-- name
abbrev RanSo : (Outcome → Type 0) → List UpsetLine → ℕ → List RunOption → List ℕ → System → Machine → Machine → Type 0
RanSo Did upsets ticks options box system last g =
    Did (outcome_of_run upsets ticks (cores_in options) (map (script_output upsets system ticks) (scripts_in options) ++ save_outputs box last (save_in options)) g)

-- a run none of whose files is refused
made_by : {R : Type 0} (Did : Outcome → Type 0) (upsets : List UpsetLine) (ticks : ℕ) (options : List RunOption) (box : List ℕ) (g : Machine) → ((denial : Denial) → Did (refused_by denial) → ⊥)
    → (RanSo Did upsets ticks options box g.system (after_ticks upsets g ticks) g → R) → Did (ran_struck ticks options box g (Ok upsets)) → R
made_by {R} Did upsets ticks options box g never ran_so is = at (made_both (scripts_for upsets g.system ticks (scripts_in options)) (save_for (save_in options) box (after_ticks upsets g ticks))) refl is
  where
    at : (made : Result (List Output) Denial) → made_both (scripts_for upsets g.system ticks (scripts_in options)) (save_for (save_in options) box (after_ticks upsets g ticks)) ≡ made
        → Did (ran_making upsets ticks (cores_in options) g made) → R
    at (Ok outputs) are done =
        ran_so (subst (λ (os : List Output). Did (outcome_of_run upsets ticks (cores_in options) os g)) (made_are upsets g.system ticks (scripts_in options) (save_in options) box (after_ticks upsets g ticks) outputs are) done)
    at (Err refusal) are done = absurd (never _ done)

-- a run that is not too long, and whose upsets are not refused
within_by : {R : Type 0} (Did : Outcome → Type 0) (file : List ℕ) (options : List RunOption) (box : List ℕ) (contents : List (List ℕ)) (g : Machine) → ((denial : Denial) → Did (refused_by denial) → ⊥)
    → ((upsets : List UpsetLine) → upsets_for g.system.conf g.ticks (ticks_asked (span_in options) g.system.conf) options contents ≡ Ok upsets
    → RanSo Did upsets (ticks_asked (span_in options) g.system.conf) options box g.system (after_ticks upsets g (ticks_asked (span_in options) g.system.conf)) g → R)
    → Did (ran_within file options box contents g) → R
unfolding ran_within
within_by {R} Did file options box contents g never ran_so is = at (nat_lt TICKS (g.ticks + asked)) is
  where
    asked : ℕ
    asked = ticks_asked (span_in options) g.system.conf

    struck : (given : Result (List UpsetLine) Denial) → upsets_for g.system.conf g.ticks asked options contents ≡ given → Did (ran_struck asked options box g given) → R
    struck (Ok upsets) given done = made_by Did upsets asked options box g never (ran_so upsets given) done
    struck (Err refusal) given done = absurd (never _ done)

    at : (t : Bool) → Did (if t then command_refused file (ticks_text (g.ticks + asked)) else ran_struck asked options box g (upsets_for g.system.conf g.ticks asked options contents)) → R
    at true done = absurd (never _ done)
    at false done = struck (upsets_for g.system.conf g.ticks asked options contents) refl done

-- where input words are given, no option's partition is beyond those that there are
pub given_inside : (parts : ℕ) (options : List RunOption) (contents inputs : List (List ℕ)) → inputs_for parts options contents ≡ Ok inputs → AreForPartitions parts (cores_in options)
unfolding inputs_for
given_inside parts options contents inputs given = at (first_beyond parts options) refl given
  where
    at : (o : Option PartFile) → first_beyond parts options ≡ o → unless_beyond o (inputs_with (no_inputs parts) (inputs_in options) contents) ≡ Ok inputs → AreForPartitions parts (cores_in options)
    at None is e = cores_inside parts options is
    at (Some named) is e = absurd (cc)

-- what was done with a run shows this
abbrev RunShows : (Outcome → Type 0) → Shown → Outside → Outside → Type 0
RunShows Did Shows before after = (run : Showing) (outcome : Outcome) → IsShowing run outcome → Did outcome → Shows run before after

-- a run from a saved machine has no scripts
abbrev pub HasNoScripts : Command → Type 0
HasNoScripts (Bare image ticks) = Unit {0}
HasNoScripts (Parse description output) = Unit {0}
HasNoScripts (Upgrade configuration output) = Unit {0}
HasNoScripts (BuildImage program output) = Unit {0}
HasNoScripts (ReadImage image) = Unit {0}
HasNoScripts (Pack configuration output images) = Unit {0}
HasNoScripts (ListContainer container) = Unit {0}
HasNoScripts (CheckContainer container) = Unit {0}
HasNoScripts (MakePlan description) = Unit {0}
HasNoScripts (CheckPlan description) = Unit {0}
HasNoScripts (ListGroups description) = Unit {0}
HasNoScripts (ListSteerers description) = Unit {0}
HasNoScripts (Generate number) = Unit {0}
HasNoScripts (Run container options) = (file : List ℕ) → from_in options ≡ Some file → scripts_in options ≡ []
HasNoScripts (Replay container part script options) = Unit {0}

-- a machine that boots
booted_system : (system : System) → (start system).system ≡ system
unfolding start
booted_system system = refl

booted_strikes : (system : System) (options : List RunOption) (contents : List (List ℕ)) (upsets : List UpsetLine)
    → upsets_for (start system).system.conf (start system).ticks (ticks_asked (span_in options) (start system).system.conf) options contents ≡ Ok upsets
    → upsets_for system.conf 0 (ticks_asked (span_in options) system.conf) options contents ≡ Ok upsets
unfolding start
booted_strikes system options contents upsets is = is

-- what the partitions of its scripts receive, and the machine that it saves, are those of the run from the boot on
booted_ran : BootsAreBeginnings → (Did : Outcome → Type 0) (upsets : List UpsetLine) (options : List RunOption) (box : List ℕ) (system : System)
    → RanSo Did upsets (ticks_asked (span_in options) (start system).system.conf) options box (start system).system (after_ticks upsets (start system) (ticks_asked (span_in options) (start system).system.conf)) (start system)
    → RanSo Did upsets (ticks_asked (span_in options) system.conf) options box system (after_run upsets system (ticks_asked (span_in options) system.conf)) (start system)
booted_ran boots Did upsets options box system done =
    let ticks : ℕ = ticks_asked (span_in options) system.conf in
    subst (λ (last : Machine). RanSo Did upsets ticks options box system last (start system)) (boots upsets system ticks).after
    (subst (λ (s : System). RanSo Did upsets (ticks_asked (span_in options) s.conf) options box s (after_ticks upsets (start system) (ticks_asked (span_in options) s.conf)) (start system)) (booted_system system) done)

module _ (laws : ShowsAloneLaws) (Did : Outcome → Type 0) (Shows : Shown) (container : List ℕ) (options : List RunOption) (contents : List (List ℕ)) (before after : Outside)
    (are : AreContents before.files (Run container options) contents) (receives : ReceivesOf container options before.files) (unscripted : HasNoScripts (Run container options))
    (never : (denial : Denial) → Did (refused_by denial) → ⊥) (shows : RunShows Did Shows before after) where
  -- a run from the boot on
  booted_by : (system : Loaded) → unpacked (content 0 contents) ≡ Ok system → (inputs : List (List ℕ)) → inputs_for (length system.conf.parts) options (drop 1 contents) ≡ Ok inputs
      → Did (ran_within container options (content 0 contents) (drop 1 contents) (start (with_inputs system inputs))) → ContainerAlone Shows contents container options before after
  booted_by system unpacks inputs reads done =
      within_by Did container options (content 0 contents) (drop 1 contents) (start (with_inputs system inputs)) never shown done
    where
      booted : System
      booted = with_inputs system inputs

      ticks : ℕ
      ticks = ticks_asked (span_in options) system.conf

      shown : (upsets : List UpsetLine) → upsets_for (start booted).system.conf (start booted).ticks (ticks_asked (span_in options) (start booted).system.conf) options (drop 1 contents) ≡ Ok upsets
          → RanSo Did upsets (ticks_asked (span_in options) (start booted).system.conf) options (content 0 contents) (start booted).system (after_ticks upsets (start booted) (ticks_asked (span_in options) (start booted).system.conf)) (start booted)
          → ContainerAlone Shows contents container options before after
      shown upsets strikes run =
          let striking = booted_strikes booted options (drop 1 contents) upsets strikes in
          let saves : List Output = save_outputs (content 0 contents) (after_run upsets booted ticks) (save_in options) in
          record {
            are = are;
            system = system;
            unpacks = unpacks;
            inputs = inputs;
            given = reads;
            upsets = upsets;
            striking = striking;
            numbers = λ files known.
                receives files known contents (subst (λ (o : Option Files). AreContents o (Run container options) contents) known are) system inputs upsets unpacks reads striking;
            shows = shows (booted_run upsets booted ticks (cores_in options) (scripts_in options) saves) _
                (booted_shows laws.boots laws.lines laws.core upsets booted ticks (cores_in options) (scripts_in options) saves (given_inside (length system.conf.parts) options (drop 1 contents) inputs reads))
                (booted_ran laws.boots Did upsets options (content 0 contents) booted run);
          }

  -- a run from the machine of a file on
  onward_by : (file : List ℕ) → from_in options ≡ Some file → (system : Loaded) → unpacked (content 0 contents) ≡ Ok system
      → (inputs : List (List ℕ)) → inputs_for (length system.conf.parts) options (drop 1 contents) ≡ Ok inputs
      → (machine : Machine) → beginning_of options (content 0 contents) (drop 1 contents) system [] ≡ Ok machine → machine.system.conf ≡ system.conf → length machine.parts ≡ length machine.system.conf.parts
      → Did (ran_within container options (content 0 contents) (drop 1 contents) machine) → OnwardAlone Shows contents container options before after
  onward_by file named system unpacks inputs reads machine begins same counted done =
      within_by Did container options (content 0 contents) (drop 1 contents) machine never shown done
    where
      ticks : ℕ
      ticks = ticks_asked (span_in options) system.conf

      shown : (upsets : List UpsetLine) → upsets_for machine.system.conf machine.ticks (ticks_asked (span_in options) machine.system.conf) options (drop 1 contents) ≡ Ok upsets
          → RanSo Did upsets (ticks_asked (span_in options) machine.system.conf) options (content 0 contents) machine.system (after_ticks upsets machine (ticks_asked (span_in options) machine.system.conf)) machine
          → OnwardAlone Shows contents container options before after
      shown upsets strikes run =
          let saves : List Output = save_outputs (content 0 contents) (after_ticks upsets machine ticks) (save_in options) in
          let inside : AreForPartitions (length machine.system.conf.parts) (cores_in options) =
          subst (λ (conf : Conf). AreForPartitions (length conf.parts) (cores_in options)) (sym same) (given_inside (length system.conf.parts) options (drop 1 contents) inputs reads) in
          let ran : RanSo Did upsets ticks options (content 0 contents) machine.system (after_ticks upsets machine ticks) machine =
          subst (λ (conf : Conf). RanSo Did upsets (ticks_asked (span_in options) conf) options (content 0 contents) machine.system (after_ticks upsets machine (ticks_asked (span_in options) conf)) machine) same run in
          record {
            are = are;
            system = system;
            unpacks = unpacks;
            machine = machine;
            begins = begins;
            upsets = upsets;
            striking = subst (λ (conf : Conf). upsets_for conf machine.ticks (ticks_asked (span_in options) conf) options (drop 1 contents) ≡ Ok upsets) same strikes;
            shows = shows (onward_run upsets machine ticks (cores_in options) saves) _
                (onward_shows upsets machine ticks (cores_in options) saves (are_onward laws.onward upsets machine ticks counted) inside)
                (subst (λ (scripts : List PartFile). Did (outcome_of_run upsets ticks (cores_in options) (map (script_output upsets machine.system ticks) scripts ++ saves) machine)) (unscripted file named) ran);
          }

  -- by what it begins with
  begun_by : (system : Loaded) → unpacked (content 0 contents) ≡ Ok system → (inputs : List (List ℕ)) → inputs_for (length system.conf.parts) options (drop 1 contents) ≡ Ok inputs
      → Did (ran_from container options (content 0 contents) (drop 1 contents) (beginning_of options (content 0 contents) (drop 1 contents) system inputs)) → RunAlone (from_in options) Shows contents container options before after
  unfolding beginning_of
  begun_by system unpacks inputs reads is = at (from_in options) refl is
    where
      place : ℕ
      place = length (inputs_in options) + length (name_if_any (upsets_in options))

      saved_by : (file : List ℕ) → from_in options ≡ Some file
          → (read : Result SavedMachine SavedFault) → (saved_format system.conf (loaded_of (with_inputs system [])) (stored_digest (content 0 contents))).read (content place (drop 1 contents)) ≡ read
          → Did (ran_from container options (content 0 contents) (drop 1 contents) (machine_or file system read)) → OnwardAlone Shows contents container options before after
      saved_by file named (Ok saved) read done =
          let begins : beginning_named (from_in options) (content 0 contents) system [] (content place (drop 1 contents)) ≡ Ok (machine_saved (with_inputs system []) saved) =
          ap (λ (o : Option (List ℕ)). beginning_named o (content 0 contents) system [] (content place (drop 1 contents))) named ∙ ap (machine_or file system) read in
          onward_by file named system unpacks inputs reads (machine_saved (with_inputs system []) saved) begins (saved_conf (with_inputs system []) saved)
          (saved_counted (with_inputs system []) (stored_digest (content 0 contents)) (content place (drop 1 contents)) saved read) done
      saved_by file named (Err fault) read done = absurd (never _ done)

      at : (named : Option (List ℕ)) → from_in options ≡ named
          → Did (ran_from container options (content 0 contents) (drop 1 contents) (beginning_named named (content 0 contents) system inputs (content place (drop 1 contents)))) → RunAlone named Shows contents container options before after
      at None named done = booted_by system unpacks inputs reads done
      at (Some file) named done = saved_by file named ((saved_format system.conf (loaded_of (with_inputs system [])) (stored_digest (content 0 contents))).read (content place (drop 1 contents))) refl done

  -- a container that was run
  container_by : Did (run_outcome container options (content 0 contents) (drop 1 contents)) → RunAlone (from_in options) Shows contents container options before after
  unfolding run_outcome
  container_by is = at (unpacked (content 0 contents)) refl is
    where
      given : (system : Loaded) → unpacked (content 0 contents) ≡ Ok system → (read : Result (List (List ℕ)) Denial) → inputs_for (length system.conf.parts) options (drop 1 contents) ≡ read
          → Did (ran_with container options (content 0 contents) (drop 1 contents) system read) → RunAlone (from_in options) Shows contents container options before after
      given system unpacks (Ok inputs) reads done = begun_by system unpacks inputs reads done
      given system unpacks (Err refusal) reads done = absurd (never _ done)

      at : (read : Result Loaded BoxFault) → unpacked (content 0 contents) ≡ read → Did (run_by container options (content 0 contents) (drop 1 contents) read) → RunAlone (from_in options) Shows contents container options before after
      at (Ok system) unpacks done = given system unpacks (inputs_for (length system.conf.parts) options (drop 1 contents)) refl done
      at (Err fault) unpacks done = absurd (never _ done)

-- what a command shows
command_by : ShowsAloneLaws → (Did : Outcome → Type 0) (Shows : Shown) (command : Command) (contents : List (List ℕ)) (before after : Outside)
    → AreContents before.files command contents → CommandReceives command before.files → HasNoScripts command → ((denial : Denial) → Did (refused_by denial) → ⊥) → RunShows Did Shows before after → Did (outcome_of_contents command contents)
    → CommandAlone Shows contents command before after
command_by laws Did Shows (Bare image ticks) contents before after are receives unscripted never shows is =
    let booted : System = with_inputs (bare_system (content 0 contents)) (no_inputs 1) in
    record {
      are = are;
      shows = bare_by Did image ticks (content 0 contents) never (shows (booted_run [] booted ticks [] [] []) _ (booted_shows laws.boots laws.lines laws.core [] booted ticks [] [] [] tt)) is;
    }
command_by laws Did Shows (Parse description output) contents before after are receives unscripted never shows is = tt
command_by laws Did Shows (Upgrade configuration output) contents before after are receives unscripted never shows is = tt
command_by laws Did Shows (BuildImage program output) contents before after are receives unscripted never shows is = tt
command_by laws Did Shows (ReadImage image) contents before after are receives unscripted never shows is = tt
command_by laws Did Shows (Pack configuration output images) contents before after are receives unscripted never shows is = tt
command_by laws Did Shows (ListContainer container) contents before after are receives unscripted never shows is = tt
command_by laws Did Shows (CheckContainer container) contents before after are receives unscripted never shows is = tt
command_by laws Did Shows (MakePlan description) contents before after are receives unscripted never shows is = tt
command_by laws Did Shows (CheckPlan description) contents before after are receives unscripted never shows is = tt
command_by laws Did Shows (ListGroups description) contents before after are receives unscripted never shows is = tt
command_by laws Did Shows (ListSteerers description) contents before after are receives unscripted never shows is = tt
command_by laws Did Shows (Generate number) contents before after are receives unscripted never shows is = tt
command_by laws Did Shows (Replay container part script options) contents before after are receives unscripted never shows is = tt
command_by laws Did Shows (Run container options) contents before after are receives unscripted never shows is =
    container_by laws Did Shows container options contents before after are receives unscripted never shows is

outcome_by : ShowsAloneLaws → (Did : Outcome → Type 0) (Shows : Shown) (command : Command) (contents : List (List ℕ)) (before after : Outside)
    → ReadsFiles before.files (inputs_of command) contents → CommandReceives command before.files → HasNoScripts command → ((denial : Denial) → Did (refused_by denial) → ⊥) → RunShows Did Shows before after → Did (outcome_of command contents)
    → CommandAlone Shows contents command before after
outcome_by laws Did Shows command contents before after read receives unscripted never shows is =
    worked_by Did command contents never (λ short. command_by laws Did Shows command contents before after (whole_contents before.files command contents read short) receives unscripted never shows) is

-- Where the command was carried out.

carried_alone : ShowsAloneLaws → (command : Command) (contents : List (List ℕ)) (before after : Outside) → CommandReceives command before.files → HasNoScripts command → IsCarriedOut None contents command before after → CommandAlone ShowsAlone contents command before after
carried_alone laws command contents before after receives unscripted w =
    let read_from = called_for (inputs_of command) before in
    let files : read_from.files ≡ before.files = ap (λ (x : Outside). x.files) (called_for-is (inputs_of command) before) in
    let got : read_from.got ≡ before.got = ap (λ (x : Outside). x.got) (called_for-is (inputs_of command) before) in
    outcome_by laws (IsAllOf read_from after) ShowsAlone command contents before after w.read receives unscripted (never_all read_from after)
    (λ run outcome is done. shows_run run outcome before read_from after is files got done)
    (w.denied, w.outside)

-- what holds of a command, where there is one
abbrev pub OfCommand : (Command → Type 0) → Option Command → Type 0
OfCommand Holds None = Unit {0}
OfCommand Holds (Some command) = Holds command

pub are_alone : ShowsAloneLaws → (e : Ending) (contents : List (List ℕ)) (command : Option Command) (before after : Outside) → (HasScripts e → WordsReceive command before.files) → OfCommand HasNoScripts command → Works e contents command before after
    → IsCompleteStatus (status_of e) → AreShownAlone ShowsAlone contents command before after
are_alone laws e contents None before after receives unscripted w complete = tt
are_alone laws e contents (Some command) before after receives unscripted w complete =
    let carried : IsCarriedOut None contents command before after =
    ⊎_elim (λ done. subst (λ (e : Ending). Does e contents command before after) (done_is_finished e done) w) (λ fault. unheard_finished e contents command before after fault w) complete in
    carried_alone laws command contents before after (receives (complete_made e complete)) unscripted carried

-- Where its report or one of its files was not written.

front_alone : ShowsAloneLaws → (command : Command) (contents : List (List ℕ)) (before after : Outside) → CommandReceives command before.files → HasNoScripts command → IsUnwritten contents command before after → CommandAlone ShowsPart contents command before after
front_alone laws command contents before after receives unscripted w =
    let files : (called_for (inputs_of command) before).files ≡ before.files = ap (λ (x : Outside). x.files) (called_for-is (inputs_of command) before) in
    outcome_by laws (IsFrontOf before after) ShowsPart command contents before after w.read receives unscripted (never_front before after)
    (λ run outcome is done. inl (shows_front run outcome before after is done))
    (w.front, ap (λ (x : Outside). x.files) w.outside ∙ wrote-from (outcome_of command contents).output (called_for (inputs_of command) before) before files)

some_alone : ShowsAloneLaws → (command : Command) (contents : List (List ℕ)) (before after : Outside) → CommandReceives command before.files → HasNoScripts command → ReadsFiles before.files (inputs_of command) contents
    → IsSomeOf before after (outcome_of command contents) → CommandAlone ShowsPart contents command before after
some_alone laws command contents before after receives unscripted read some =
    outcome_by laws (IsSomeOf before after) ShowsPart command contents before after read receives unscripted (never_some before after)
    (λ run outcome is done. inr (shows_some run outcome before after is done)) some

-- a command that writes a file before its report runs nothing
lost_alone : (command : Command) (contents : List (List ℕ)) (before after : Outside) → IsNotWritten command before after → CommandAlone ShowsPart contents command before after
lost_alone (Bare image ticks) contents before after w = absurd (let some : IsSome {T = List ℕ} None = w.output in cc)
lost_alone (Parse description output) contents before after w = tt
lost_alone (Upgrade configuration output) contents before after w = tt
lost_alone (BuildImage program output) contents before after w = tt
lost_alone (ReadImage image) contents before after w = tt
lost_alone (Pack configuration output images) contents before after w = tt
lost_alone (ListContainer container) contents before after w = tt
lost_alone (CheckContainer container) contents before after w = tt
lost_alone (MakePlan description) contents before after w = tt
lost_alone (CheckPlan description) contents before after w = tt
lost_alone (ListGroups description) contents before after w = tt
lost_alone (ListSteerers description) contents before after w = tt
lost_alone (Generate number) contents before after w = tt
lost_alone (Replay container part script options) contents before after w = tt
lost_alone (Run container options) contents before after w = absurd (let some : IsSome {T = List ℕ} None = w.output in cc)

unsaved_alone : ShowsAloneLaws → (file : List ℕ) (command : Command) (contents : List (List ℕ)) (before after : Outside) → CommandReceives command before.files → HasNoScripts command → IsUnsaved file contents command before after
    → CommandAlone ShowsPart contents command before after
unsaved_alone laws file command contents before after receives unscripted w = ⊎_elim
    (λ first. lost_alone command contents before after (lost_first command contents file before after first))
    (λ later. some_alone laws command contents before after receives unscripted w.read (lost_some command (outcome_of command contents) file before after later))
    w.lost

pub are_part : ShowsAloneLaws → (e : Ending) (contents : List (List ℕ)) (command : Option Command) (before after : Outside) → (HasScripts e → WordsReceive command before.files) → OfCommand HasNoScripts command → Works e contents command before after
    → status_of e ≡ WriteFault → AreShownAlone ShowsPart contents command before after
are_part laws e contents None before after receives unscripted w fault = tt
are_part laws Done contents (Some command) before after receives unscripted w fault = absurd (cc)
are_part laws Usage contents (Some command) before after receives unscripted w fault = absurd w
are_part laws (ReadFault file) contents (Some command) before after receives unscripted w fault = absurd (cc)
are_part laws (Refused file text) contents (Some command) before after receives unscripted w fault = absurd (cc)
are_part laws WriteFaultReport contents (Some command) before after receives unscripted w fault = front_alone laws command contents before after (receives tt) unscripted w
are_part laws (WriteFaultFile file) contents (Some command) before after receives unscripted w fault = unsaved_alone laws file command contents before after (receives tt) unscripted w
are_part laws (UartFault place) contents (Some command) before after receives unscripted w fault = absurd (cc)
are_part laws NoMemory contents (Some command) before after receives unscripted w fault = absurd (cc)
