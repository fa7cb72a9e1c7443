-- A run from the saved machine of a run of the same container goes on as the run in one piece.
use Rattle.std.proofs.Common.{if◌then◌else◌, ◌≡◌, ◌≢◌, ℕ, zero, suc, ◌+◌, ◌^◌, ◌<◌, ◌≤◌, ⊎_elim, Bool, true, false, nat_lt, List, [], ◌∷◌, ◌++◌, length, map, drop, Option, Some, None, Ok, refl, sym, ap, ◌∙◌, subst, arith, length-append}
use Rattle.std.specs.Prelude.{IsSome, slice_get, slice_index_or}
use Rattle.std.proofs.lemmas.Bool.Decides.{nat_tests}
use Rattle.std.proofs.lemmas.List.{append_assoc, length-map}
use Rattle.xm_base.specs.declared.limits.TheConstants.{FILE_BYTES, TICKS}
use Rattle.xm_outside.specs.Files.{Files}
use Rattle.xm_outside.specs.Growth.{grown}
use Rattle.xm_report.specs.Report.{ReportLine, SystemLine, texts}
use Rattle.uart_board.specs.Heard.{IsHeard}
use Rattle.uart_board.specs.Views.{BoardView, without_marks}
use Rattle.loaded_system.specs.System.{System as Loaded}
use Rattle.xm_container.specs.Reading.{unpacked}
use Rattle.xm_conf.specs.Configuration.{Conf}
use Rattle.xm_conf.specs.Description.{described}
use Rattle.xm_conf.specs.Fits.{Fits}
use Rattle.xm_conf.specs.Laws.{IsBrokenUnlessFits}
use Rattle.guest_bus.specs.Memory.{Memory}
use Rattle.machine_model.specs.Facts.{begun}
use Rattle.machine_model.specs.Lines.{end_lines}
use Rattle.machine_model.specs.Machine.{Machine, start}
use Rattle.machine_model.specs.Partition.{PartitionState, areas_of, loaded_memory}
use Rattle.machine_model.specs.View.{System, view_of}
use Rattle.system_state.specs.State.{with_inputs}
use Rattle.continuation_laws.specs.Continued.{continued_run}
use Rattle.continuation_laws.specs.Given.{with_left}
use Rattle.continuation_laws.specs.Joined.{AreBefore, AreFrom}
use Rattle.continuation_laws.specs.Onward.{GoesOnAfter, RunsGoOn, after_ticks, coming, console_from, report_from}
use Rattle.saved_machines.specs.Laws.{ConfigurationsAreSaved, RestoresWhatWasSaved, SavableMachinesReadBack}
use Rattle.saved_machines.specs.Restorable.{HasAllFacts}
use Rattle.saved_machines.specs.Savable.{IsSavable, IsSavedConf}
use Rattle.saved_machines.specs.SavedFormat.{saved_format}
use Rattle.saved_machines.specs.Saving.{loaded_of, machine_saved, saved_file, saved_of, saved_part, stored_digest}
use Rattle.upset_files.specs.Fits.{AllFit, FitsRun}
use Rattle.upset_files.specs.Laws.{ReadUpsetsAreSpelled}
use Rattle.upset_laws.specs.ReportLaws.{SameUpsetCoreFile}
use Rattle.upset_model.specs.Places.{due, schedule_of}
use Rattle.upset_model.specs.Reports.{after_run, reported, upset_console, upset_report}
use Rattle.upset_model.specs.declared.upset_line.UpsetLine.{UpsetLine}
use Rattle.command_line.specs.Words.{Command, PartFile, RunOption, Bare, Parse, Upgrade, BuildImage, ReadImage, Pack, ListContainer, CheckContainer, MakePlan, CheckPlan, ListGroups, ListSteerers, Generate, Run, Replay, cores_in, from_in, inputs_in, save_in, scripts_in, span_in, upsets_in}
use Rattle.run_commands.specs.Boards.{LeavesBoard, Plays}
use Rattle.run_commands.specs.Contents.{read_all}
use Rattle.run_commands.specs.lemmas.Cores.{AreForPartitions}
use Rattle.run_commands.specs.lemmas.InputLemmas.{rest_short}
use Rattle.file_commands.specs.Denial.{Denial}
use Rattle.file_commands.specs.Ending.{Ending, Done, Usage, ReadFault, Refused, WriteFaultReport, WriteFaultFile, UartFault, NoMemory, status_of}
use Rattle.file_commands.specs.Inputs.{inputs_for}
use Rattle.file_commands.specs.Outcome.{Output, Outcome, Running, Together, beginning_named, beginning_of, content, core_output, core_outputs, first_long, inputs_of, machine_or, made_after, made_both, name_if_any, outcome_of, outcome_of_run, run_inputs, save_for, script_output, scripts_for, ticks_asked, upsets_for}
use Rattle.file_commands.specs.Packing.{file_names}
use Rattle.file_commands.specs.Work.{Outside, IsCarriedOut, Works, called_for, did, reported_all, wrote, wrote_all}
use Rattle.file_commands.specs.lemmas.OutputLemmas.{called_for-is}
use Rattle.file_commands.specs.lemmas.UpsetLemmas.{upsets_are_read}
use Rattle.file_commands.specs.declared.status.Status.TheVariants as status
use Rattle.xm_commands.specs.Continued.{FirstRun, GoesOnAs, GoesOnFromSave, HasNoOtherFault, IsOfSave, RunGoesOn, ShowsRest, from_bytes}
use Rattle.xm_commands.specs.Separation.{save_output, save_outputs}
use Rattle.xm_commands.specs.Top.{IsCompleteStatus, IsRefusedIn}
use Rattle.xm_commands.specs.World.{World}
use Rattle.xm_commands.proofs.ConfLemmas.{system_fits}
use Rattle.xm_commands.proofs.MadeLemmas.{made_are}
use Rattle.xm_commands.proofs.OutsideLemmas.{known_outcome}
use Rattle.xm_commands.proofs.RanLemmas.{WasRan, asked_of, made_of, ran_outcome, same_ok, was_ran}
use Rattle.xm_commands.proofs.ReplayedLemmas.{same_contents}
use Rattle.xm_commands.proofs.SavedLemmas.{digest_long}
use Rattle.xm_commands.proofs.SeparationLemmas.{HasNoScripts, OfCommand, core_there, given_inside}
use Rattle.xm_commands.proofs.TopLemmas.{done_is_finished, has_causes, unheard_finished}
use Rattle.xm_commands.proofs.UpsetRunLemmas.{KeepAllFacts, run_all, run_counts, run_system, start_all, start_fits}
use Rattle.xm_commands.proofs.WrittenLemmas.{did-got, wrote_all-from}

-- the laws by which a run goes on
pub record ContinuedLaws : Type 0 where
  pub keep : KeepAllFacts
  pub rules : IsBrokenUnlessFits
  pub reads_back : SavableMachinesReadBack
  pub restores : RestoresWhatWasSaved
  pub conf : ConfigurationsAreSaved
  pub spelled : ReadUpsetsAreSpelled
  pub goes_on : RunsGoOn
  pub core : SameUpsetCoreFile

-- the first run, by its parts
abbrev pub first_run : Loaded → List (List ℕ) → List UpsetLine → ℕ → FirstRun
first_run system inputs first done = record { system = system; inputs = inputs; upsets = first; ticks = done }

-- The machine that was saved.

start_system : (system : System) → (start system).system ≡ system
unfolding start
start_system system = refl

start_ticks : (system : System) → (start system).ticks ≡ 0
unfolding start
start_ticks system = refl

start_begun : (system : System) → begun (start system) ≡ 0
unfolding start
start_begun system = refl

view_inputs : (system : System) (p : ℕ) → (view_of system p).inputs ≡ slice_index_or system.inputs p []
unfolding view_of
view_inputs system p = refl

few_ticks : (ticks : ℕ) → ticks ≤ TICKS → ticks ≤ 4000000000
few_ticks ticks few = few

few_bytes : (count : ℕ) → count ≤ FILE_BYTES → count ≤ 16777216
few_bytes count few = few

-- what is loaded does not depend on input words
loaded_same : (system : System) (inputs : List (List ℕ)) (p : ℕ) → loaded_of (record system { inputs = inputs }) p ≡ loaded_of system p
unfolding areas_of loaded_memory view_of
loaded_same system inputs p = refl

loaded_alike : (system : System) (inputs : List (List ℕ)) → loaded_of (record system { inputs = inputs }) ≡ loaded_of system
loaded_alike system inputs = λ i p. loaded_same system inputs p i

-- nor does what is saved of a machine
saved_left : (container : List ℕ) (g : Machine) → saved_of container (with_left g) ≡ saved_of container g
unfolding areas_of loaded_memory saved_of saved_part view_of
saved_left container g = refl

saved_file_left : (container : List ℕ) (g : Machine) → saved_file container (with_left g) ≡ saved_file container g
unfolding saved_file
saved_file_left container g =
    ap (λ (loaded : ℕ → Memory). (saved_format g.system.conf loaded container).spell (saved_of container (with_left g))) (loaded_alike g.system (map (λ ps. ps.inputs) g.parts))
    ∙ ap ((saved_format g.system.conf (loaded_of g.system) container).spell) (saved_left container g)

module _ (laws : ContinuedLaws) (box bytes : List ℕ) (system : Loaded) (inputs : List (List ℕ)) (first : List UpsetLine) (done : ℕ) (is : IsOfSave box bytes (first_run system inputs first done)) (short : length bytes ≤ FILE_BYTES) where
  abbrev booted : System
  booted = with_inputs system inputs

  abbrev last_of : Machine
  last_of = after_run first booted done

  abbrev digest : List ℕ
  digest = stored_digest box

  fits : Fits (described system.conf)
  fits = system_fits laws.rules box system is.unpacks

  system_is : last_of.system ≡ booted
  system_is = run_system laws.keep.numbers done (schedule_of first) (start booted) ∙ start_system booted

  all_facts : HasAllFacts last_of
  all_facts = run_all laws.keep done (due first) (start booted) (start_fits booted fits) (start_all laws.keep booted fits)

  ticks_few : begun last_of ≤ 4000000000
  ticks_few =
      let within : begun last_of ≤ begun (start booted) + done = (run_counts done (schedule_of first) (start booted)).within in
      let none : begun (start booted) ≡ 0 = start_begun booted in
      let few : done ≤ 4000000000 = few_ticks done is.most in
      omega (arith, within, none, few)

  inputs_few : (p : ℕ) (ps : PartitionState) → slice_get last_of.parts p ≡ Some ps → length ps.inputs < 2 ^ 32
  inputs_few p ps there =
      let left = (all_facts.facts p ps there).inputs in
      let count : length left.used + length ps.inputs ≡ length (slice_index_or inputs p []) =
      sym (length-append left.used ps.inputs) ∙ ap length left.is ∙ ap length (view_inputs last_of.system p) ∙ ap (λ (s : System). length (slice_index_or s.inputs p [])) system_is in
      let few : length (slice_index_or inputs p []) ≤ 16777216 = few_bytes (length (slice_index_or inputs p [])) (is.few p) in
      omega (arith, count, few)

  savable : IsSavable digest last_of
  savable = record {
    digest = digest_long box system is.unpacks;
    conf = subst (λ (s : System). IsSavedConf s.conf) (sym system_is) (laws.conf system.conf fits);
    ticks = ticks_few;
    timed = all_facts.timed;
    clocked = all_facts.clocked;
    complete = all_facts.complete;
    shapes = all_facts.shapes;
    facts = all_facts.facts;
    stored = is.numbers;
    parts = λ p ps there. record { inputs = inputs_few p ps there };
    short = few_bytes (length (saved_file digest last_of)) (subst (λ (b : List ℕ). length b ≤ FILE_BYTES) is.saved short);
  }

  -- its file is read
  read_is : (saved_format system.conf (loaded_of (with_inputs system [])) digest).read bytes ≡ Ok (saved_of digest last_of)
  read_is =
      ap (λ (b : List ℕ). (saved_format system.conf (loaded_of (with_inputs system [])) digest).read b) is.saved
      ∙ ap (λ (loaded : ℕ → Memory). (saved_format system.conf loaded digest).read (saved_file digest last_of)) (sym (loaded_alike (with_inputs system []) inputs))
      ∙ subst (λ (s : System). (saved_format s.conf (loaded_of s) digest).read (saved_file digest last_of) ≡ Ok (saved_of digest last_of)) system_is (laws.reads_back digest last_of savable)

  -- and gives the machine back
  restored : machine_saved (with_inputs system []) (saved_of digest last_of) ≡ continued_run first booted done
  restored = laws.restores digest (with_inputs system []) last_of (ap (λ (s : System). s.conf) (sym system_is)) (ap (λ (s : System). s.images) (sym system_is)) savable

  begins_so : (file : List ℕ) → machine_or file system ((saved_format system.conf (loaded_of (with_inputs system [])) digest).read bytes) ≡ Ok (continued_run first booted done)
  begins_so file = ap (machine_or file system) read_is ∙ ap Ok restored

  conf_is : (continued_run first booted done).system.conf ≡ system.conf
  conf_is = ap (λ (s : System). s.conf) system_is

-- Upsets.

-- those that fit a run are before its end
fit_before : (conf : Conf) (ticks before : ℕ) (lines : List UpsetLine) → AllFit conf ticks before lines → AreBefore ticks lines
fit_before conf ticks before [] fit = tt
fit_before conf ticks before (line ∷ lines) fit = (fit.0.reached, fit_before conf ticks line.tick lines fit.1)

-- and from its beginning on
fit_from : (conf : Conf) (ticks before tick : ℕ) (lines : List UpsetLine) → tick ≤ before → AllFit conf ticks before lines → AreFrom tick lines
fit_from conf ticks before tick [] early fit = tt
fit_from conf ticks before tick (line ∷ lines) early fit =
    let one : FitsRun conf ticks before line = fit.0 in
    let order : before ≤ line.tick = one.order in
    let later : tick ≤ line.tick = omega (arith, early, order) in
    (later, fit_from conf ticks line.tick tick lines later fit.1)

read_from : ReadUpsetsAreSpelled → (conf : Conf) (begun ticks : ℕ) (options : List RunOption) (contents : List (List ℕ)) (last : List UpsetLine) → upsets_for conf begun ticks options contents ≡ Ok last → AreFrom begun last
read_from spelled conf begun ticks options contents last read =
    fit_from conf (begun + ticks) begun begun last (omega arith) (spelled conf begun (begun + ticks) _ last (upsets_are_read options conf begun ticks contents last read)).fit

-- a machine that has not halted has counted all of its ticks, so they are from there on
reached : (first last : List UpsetLine) (system : System) (done : ℕ) → AreFrom (after_run first system done).ticks last → ((after_run first system done).halted ≡ true → AreFrom done last) → AreFrom done last
reached first last system done from halts = at (after_run first system done).halted refl
  where
    at : (b : Bool) → (after_run first system done).halted ≡ b → AreFrom done last
    at true halted = halts halted
    at false runs =
        let counted : (after_run first system done).ticks ≡ (start system).ticks + done = ((run_counts done (schedule_of first) (start system)).runs runs).1 in
        let none : (start system).ticks ≡ 0 = start_ticks system in
        let all : (after_run first system done).ticks ≡ done = omega (arith, counted, none) in
        subst (λ (tick : ℕ). AreFrom tick last) all from

-- The files that a run reads.

-- each of them is short
nth_short : (names contents : List (List ℕ)) (n : ℕ) → n < length names → first_long names contents ≡ None → length (content n contents) ≤ FILE_BYTES
nth_short [] contents n below short = absurd (omega (arith, below))
nth_short (name ∷ names) [] n below short = (let none : length (content n []) ≡ 0 = nothing n in omega (arith, none))
  where
    nothing : (n : ℕ) → length (content n []) ≡ 0
    nothing zero = refl
    nothing (suc n) = refl
nth_short (name ∷ names) (bytes ∷ contents) zero below short = at (nat_lt FILE_BYTES (length bytes)) refl short
  where
    at : (t : Bool) → nat_lt FILE_BYTES (length bytes) ≡ t → (if t then Some name else first_long names contents) ≡ None → length bytes ≤ FILE_BYTES
    at true over e = absurd (cc)
    at false within e = grind (arith, nat_tests)
nth_short (name ∷ names) (bytes ∷ contents) (suc n) below short = at (nat_lt FILE_BYTES (length bytes)) short (λ rest. nth_short names contents n (omega (arith, below)) rest)
  where
    at : (t : Bool) → (if t then Some name else first_long names contents) ≡ None → (first_long names contents ≡ None → length (content n contents) ≤ FILE_BYTES) → length (content n contents) ≤ FILE_BYTES
    at true e rest = absurd (cc)
    at false e rest = rest e

-- so is the saved machine, which is the last of them
from_short : (container : List ℕ) (options : List RunOption) (file : List ℕ) (contents : List (List ℕ)) → from_in options ≡ Some file → first_long (container ∷ run_inputs options) contents ≡ None → length (from_bytes options contents) ≤ FILE_BYTES
from_short container options file contents named short =
    let inputs : length (file_names (inputs_in options)) ≡ length (inputs_in options) = length-map (inputs_in options) (λ named. named.file) in
    let last : length (name_if_any (from_in options)) ≡ 1 = ap (λ (o : Option (List ℕ)). length (name_if_any o)) named in
    let front : length (file_names (inputs_in options) ++ name_if_any (upsets_in options)) ≡ length (file_names (inputs_in options)) + length (name_if_any (upsets_in options)) =
    length-append (file_names (inputs_in options)) (name_if_any (upsets_in options)) in
    let all : length (run_inputs options) ≡ length (file_names (inputs_in options) ++ name_if_any (upsets_in options)) + length (name_if_any (from_in options)) =
    length-append (file_names (inputs_in options) ++ name_if_any (upsets_in options)) (name_if_any (from_in options)) in
    nth_short (run_inputs options) (drop 1 contents) (length (inputs_in options) + length (name_if_any (upsets_in options))) (omega (arith, inputs, last, front, all)) (rest_short container (run_inputs options) contents short)

-- the machine that the run begins with
begins_with : (options : List RunOption) (file : List ℕ) (contents : List (List ℕ)) (system : Loaded) (inputs : List (List ℕ)) (machine : Machine) → from_in options ≡ Some file
    → machine_or file system ((saved_format system.conf (loaded_of (with_inputs system [])) (stored_digest (content 0 contents))).read (from_bytes options contents)) ≡ Ok machine
    → beginning_of options (content 0 contents) (drop 1 contents) system inputs ≡ Ok machine
unfolding beginning_of
begins_with options file contents system inputs machine named is =
    ap (λ (o : Option (List ℕ)). beginning_named o (content 0 contents) system inputs (from_bytes options contents)) named ∙ is

-- a saved machine that is not too long is made
short_made : (file box : List ℕ) (g : Machine) → length (saved_file (stored_digest box) g) ≤ FILE_BYTES → save_for (Some file) box g ≡ Ok (save_output box g file ∷ [])
short_made file box g few =
    let test : nat_lt FILE_BYTES (length (saved_file (stored_digest box) g)) ≡ false = grind (arith, nat_tests) in
    rw test refl

save_made : (named : Option (List ℕ)) (box : List ℕ) (g : Machine) → ((file : List ℕ) → named ≡ Some file → length (saved_file (stored_digest box) g) ≤ FILE_BYTES) → (outputs : List Output) × (save_for named box g ≡ Ok outputs)
save_made None box g short = ([], refl)
save_made (Some file) box g short = (save_output box g file ∷ [], short_made file box g (short file refl))

-- A run that was done from a machine that is known.

record RanFrom (container : List ℕ) (options : List RunOption) (contents : List (List ℕ)) (system : Loaded) (machine : Machine) (upsets : List UpsetLine) : Type 0 where
  given : List (List ℕ)
  inputs : inputs_for (length system.conf.parts) options (drop 1 contents) ≡ Ok given
  outputs : List Output
  made : made_of upsets options (content 0 contents) machine ≡ Ok outputs
  is : outcome_of (Run container options) contents ≡ outcome_of_run upsets (asked_of options machine) (cores_in options) outputs machine

ran_from_it : (container : List ℕ) (options : List RunOption) (contents : List (List ℕ)) (system : Loaded) (machine : Machine) (upsets : List UpsetLine) → WasRan container options contents → unpacked (content 0 contents) ≡ Ok system
    → ((inputs : List (List ℕ)) → beginning_of options (content 0 contents) (drop 1 contents) system inputs ≡ Ok machine)
    → upsets_for machine.system.conf machine.ticks (asked_of options machine) options (drop 1 contents) ≡ Ok upsets → RanFrom container options contents system machine upsets
ran_from_it container options contents system machine upsets ran unpacks begins strikes =
    let systems : ran.system ≡ system = same_ok ran.system system (unpacked (content 0 contents)) ran.unpacks unpacks in
    let machines : ran.machine ≡ machine =
    same_ok ran.machine machine (beginning_of options (content 0 contents) (drop 1 contents) system ran.inputs)
    (subst (λ (s : Loaded). beginning_of options (content 0 contents) (drop 1 contents) s ran.inputs ≡ Ok ran.machine) systems ran.begins) (begins ran.inputs) in
    let lines : ran.upsets ≡ upsets =
    same_ok ran.upsets upsets (upsets_for machine.system.conf machine.ticks (asked_of options machine) options (drop 1 contents))
    (subst (λ (m : Machine). upsets_for m.system.conf m.ticks (asked_of options m) options (drop 1 contents) ≡ Ok ran.upsets) machines ran.strikes) strikes in
    record {
      given = ran.inputs;
      inputs = subst (λ (s : Loaded). inputs_for (length s.conf.parts) options (drop 1 contents) ≡ Ok ran.inputs) systems ran.given;
      outputs = ran.outputs;
      made = subst (λ (u : List UpsetLine). made_of u options (content 0 contents) machine ≡ Ok ran.outputs) lines
          (subst (λ (m : Machine). made_of ran.upsets options (content 0 contents) m ≡ Ok ran.outputs) machines ran.made);
      is = ran.is ∙ ap (λ (m : Machine). outcome_of_run ran.upsets (asked_of options m) (cores_in options) ran.outputs m) machines
          ∙ ap (λ (u : List UpsetLine). outcome_of_run u (asked_of options machine) (cores_in options) ran.outputs machine) lines;
    }

-- What the run in one piece leaves.

-- core files
cores_same : SameUpsetCoreFile → (first last : List UpsetLine) (system : System) (done count : ℕ) (cores : List PartFile) → GoesOnAfter first last system done count → AreForPartitions (length system.conf.parts) cores
    → core_outputs (after_ticks last (continued_run first system done) count) cores ≡ core_outputs (after_run (first ++ last) system (done + count)) cores
unfolding core_outputs
cores_same law first last system done count [] goes inside = refl
cores_same law first last system done count (named ∷ cores) goes inside =
    let onward : Machine = after_ticks last (continued_run first system done) count in
    let whole : Machine = after_run (first ++ last) system (done + count) in
    let there = law (first ++ last) system named.part (done + count) inside.0 in
    let one : core_output onward named ≡ core_output whole named =
    ap (λ (bytes : List ℕ). record { file = named.file; bytes = bytes })
    (core_there onward named.part _ (sym (goes.core_file named.part) ∙ there) ∙ sym (core_there whole named.part _ there)) in
    ap (λ (o : Output). o ∷ map (core_output onward) cores) one
    ∙ ap (λ (os : List Output). core_output whole named ∷ os) (cores_same law first last system done count cores goes inside.1)

-- the saved machine
saves_same : (box : List ℕ) (named : Option (List ℕ)) (one other : Machine) → with_left one ≡ with_left other → save_outputs box one named ≡ save_outputs box other named
saves_same box None one other same = refl
saves_same box (Some file) one other same =
    ap (λ (bytes : List ℕ). record { file = file; bytes = bytes } ∷ [])
    (sym (saved_file_left (stored_digest box) one) ∙ ap (saved_file (stored_digest box)) same ∙ saved_file_left (stored_digest box) other)

-- the report
report_is : (last : List UpsetLine) (g : Machine) (conf : Conf) (count : ℕ) → g.system.conf ≡ conf
    → report_from last g count ≡ SystemLine (length conf.parts) (length conf.plans) (g.ticks + count) ∷ reported (coming last g) g count ++ end_lines (after_ticks last g count)
unfolding report_from
report_is last g conf count same =
    ap (λ (c : Conf). SystemLine (length c.parts) (length c.plans) (g.ticks + count) ∷ reported (coming last g) g count ++ end_lines (after_ticks last g count)) same

-- what was done and heard of a run
run_report : (upsets : List UpsetLine) (ticks : ℕ) (cores : List PartFile) (made : List Output) (g : Machine) → (outcome_of_run upsets ticks cores made g).report ≡ texts (report_from upsets g ticks)
unfolding outcome_of_run
run_report upsets ticks cores made g = refl

run_later : (upsets : List UpsetLine) (ticks : ℕ) (cores : List PartFile) (made : List Output) (g : Machine) → (outcome_of_run upsets ticks cores made g).later ≡ core_outputs (after_ticks upsets g ticks) cores ++ made
unfolding outcome_of_run
run_later upsets ticks cores made g = refl

run_output : (upsets : List UpsetLine) (ticks : ℕ) (cores : List PartFile) (made : List Output) (g : Machine) → (outcome_of_run upsets ticks cores made g).output ≡ None
unfolding outcome_of_run
run_output upsets ticks cores made g = refl

run_run : (upsets : List UpsetLine) (ticks : ℕ) (cores : List PartFile) (made : List Output) (g : Machine) → (outcome_of_run upsets ticks cores made g).run ≡ Some (Together g upsets ticks)
unfolding outcome_of_run
run_run upsets ticks cores made g = refl

run_granted : (upsets : List UpsetLine) (ticks : ℕ) (cores : List PartFile) (made : List Output) (g : Machine) → (outcome_of_run upsets ticks cores made g).denial ≡ None
unfolding outcome_of_run
run_granted upsets ticks cores made g = refl

-- The continuation.

-- the outcome of a run from a saved machine: what comes after its first line is what the run in one piece has after the lines of the first ticks, and its
-- files are those after the run in one piece
pub record HasRest (container : List ℕ) (options : List RunOption) (contents : List (List ℕ)) (system : System) (first : List UpsetLine) (done : ℕ) (last : List UpsetLine) (count : ℕ) : Type 0 where
  pub lines : List ReportLine
  pub whole : upset_report (first ++ last) system (done + count)
      ≡ SystemLine (length system.conf.parts) (length system.conf.plans) (done + count) ∷ reported (due first) (start system) done ++ lines
  pub report : (outcome_of (Run container options) contents).report
      ≡ texts (SystemLine (length system.conf.parts) (length system.conf.plans) ((after_run first system done).ticks + count) ∷ lines)
  pub output : (outcome_of (Run container options) contents).output ≡ None
  pub later : (outcome_of (Run container options) contents).later
      ≡ core_outputs (after_run (first ++ last) system (done + count)) (cores_in options) ++ save_outputs (content 0 contents) (after_run (first ++ last) system (done + count)) (save_in options)
  pub run : (outcome_of (Run container options) contents).run ≡ Some (Together (continued_run first system done) last count)
  pub console : (uart : ℕ) → upset_console (schedule_of (first ++ last)) (start system) (done + count) uart
      ≡ upset_console (schedule_of first) (start system) done uart ++ console_from last (continued_run first system done) count uart

module _ (laws : ContinuedLaws) (container : List ℕ) (options : List RunOption) (file : List ℕ) (named : from_in options ≡ Some file) (unscripted : HasNoScripts (Run container options))
    (contents : List (List ℕ)) (short : first_long (container ∷ run_inputs options) contents ≡ None)
    (system : Loaded) (inputs : List (List ℕ)) (first : List UpsetLine) (done : ℕ) (is : IsOfSave (content 0 contents) (from_bytes options contents) (first_run system inputs first done)) where
  abbrev command : Command
  command = Run container options

  abbrev box : List ℕ
  box = content 0 contents

  abbrev boots : System
  boots = with_inputs system inputs

  abbrev machine : Machine
  machine = continued_run first boots done

  abbrev count : ℕ
  count = ticks_asked (span_in options) system.conf

  bytes_short : length (from_bytes options contents) ≤ FILE_BYTES
  bytes_short = from_short container options file contents named short

  begins : (given : List (List ℕ)) → beginning_of options box (drop 1 contents) system given ≡ Ok machine
  begins given = begins_with options file contents system given machine named (begins_so laws box (from_bytes options contents) system inputs first done is bytes_short file)

  same_conf : machine.system.conf ≡ system.conf
  same_conf = conf_is laws box (from_bytes options contents) system inputs first done is bytes_short

  same_count : asked_of options machine ≡ count
  same_count = ap (ticks_asked (span_in options)) same_conf

  strikes_so : (last : List UpsetLine) → upsets_for system.conf machine.ticks count options (drop 1 contents) ≡ Ok last → upsets_for machine.system.conf machine.ticks (asked_of options machine) options (drop 1 contents) ≡ Ok last
  strikes_so last strikes = subst (λ (conf : Conf). upsets_for conf machine.ticks (ticks_asked (span_in options) conf) options (drop 1 contents) ≡ Ok last) (sym same_conf) strikes

  -- it is not refused
  granted_so : (given : List (List ℕ)) (last : List UpsetLine) → inputs_for (length system.conf.parts) options (drop 1 contents) ≡ Ok given → upsets_for system.conf machine.ticks count options (drop 1 contents) ≡ Ok last
      → machine.ticks + count ≤ TICKS → ((saved : List ℕ) → save_in options ≡ Some saved → length (saved_file (stored_digest box) (after_ticks last machine count)) ≤ FILE_BYTES) → (outcome_of command contents).denial ≡ None
  granted_so given last gives strikes most saves_short =
      let within : machine.ticks + asked_of options machine ≤ TICKS = subst (λ (n : ℕ). machine.ticks + n ≤ TICKS) (sym same_count) most in
      let reached : Machine = after_ticks last machine (asked_of options machine) in
      let save = save_made (save_in options) box reached
      (λ saved is_named. subst (λ (n : ℕ). length (saved_file (stored_digest box) (after_ticks last machine n)) ≤ FILE_BYTES) (sym same_count) (saves_short saved is_named)) in
      let made : made_of last options box machine ≡ Ok save.0 =
      ap (λ (scripts : List PartFile). made_both (scripts_for last machine.system (asked_of options machine) scripts) (save_for (save_in options) box reached)) (unscripted file named)
      ∙ ap (made_after []) save.1 in
      ap (λ (o : Outcome). o.denial) (ran_outcome container options contents short system is.unpacks given gives machine (begins given) within last (strikes_so last strikes) save.0 made)
      ∙ run_granted last (asked_of options machine) (cores_in options) save.0 machine

  module _ (last : List UpsetLine) (strikes : upsets_for system.conf machine.ticks count options (drop 1 contents) ≡ Ok last) (halts : (after_run first boots done).halted ≡ true → AreFrom done last)
      (granted : (outcome_of command contents).denial ≡ None) where
    ran : RanFrom container options contents system machine last
    ran = ran_from_it container options contents system machine last (was_ran container options contents granted) is.unpacks begins (strikes_so last strikes)

    abbrev saves : List Output
    saves = save_outputs box (after_ticks last machine count) (save_in options)

    outputs_are : ran.outputs ≡ saves
    outputs_are =
        made_are last machine.system (asked_of options machine) (scripts_in options) (save_in options) box (after_ticks last machine (asked_of options machine)) ran.outputs ran.made
        ∙ ap (λ (scripts : List PartFile). map (script_output last machine.system (asked_of options machine)) scripts ++ save_outputs box (after_ticks last machine (asked_of options machine)) (save_in options)) (unscripted file named)
        ∙ ap (λ (n : ℕ). save_outputs box (after_ticks last machine n) (save_in options)) same_count

    outcome_is : outcome_of command contents ≡ outcome_of_run last count (cores_in options) saves machine
    outcome_is =
        ran.is
        ∙ ap (λ (os : List Output). outcome_of_run last (asked_of options machine) (cores_in options) os machine) outputs_are
        ∙ ap (λ (n : ℕ). outcome_of_run last n (cores_in options) saves machine) same_count

    goes : GoesOnAfter first last boots done count
    goes =
        laws.goes_on first last boots done count (fit_before system.conf done 0 first is.strikes)
        (reached first last boots done (read_from laws.spelled system.conf machine.ticks count options (drop 1 contents) last strikes) halts)

    abbrev whole_run : Machine
    whole_run = after_run (first ++ last) boots (done + count)

    inside : AreForPartitions (length system.conf.parts) (cores_in options)
    inside = given_inside (length system.conf.parts) options (drop 1 contents) ran.given ran.inputs

    has_rest : HasRest container options contents boots first done last count
    has_rest = record {
      lines = reported (coming last machine) machine count ++ end_lines (after_ticks last machine count);
      whole = goes.report
          ∙ ap (λ (ls : List ReportLine). SystemLine (length boots.conf.parts) (length boots.conf.plans) (done + count) ∷ ls)
          (append_assoc (reported (due first) (start boots) done) (reported (coming last machine) machine count) (end_lines (after_ticks last machine count)));
      report = ap (λ (o : Outcome). o.report) outcome_is ∙ run_report last count (cores_in options) saves machine ∙ ap texts (report_is last machine system.conf count same_conf);
      output = ap (λ (o : Outcome). o.output) outcome_is ∙ run_output last count (cores_in options) saves machine;
      later = ap (λ (o : Outcome). o.later) outcome_is ∙ run_later last count (cores_in options) saves machine
          ∙ ap (λ (os : List Output). os ++ saves) (cores_same laws.core first last boots done count (cores_in options) goes inside)
          ∙ ap (λ (os : List Output). core_outputs whole_run (cores_in options) ++ os) (saves_same box (save_in options) (after_ticks last machine count) whole_run (sym goes.again));
      run = ap (λ (o : Outcome). o.run) outcome_is ∙ run_run last count (cores_in options) saves machine;
      console = goes.console;
    }

-- the machine that it begins with
pub begins_saved : ContinuedLaws → (container : List ℕ) (options : List RunOption) (file : List ℕ) → from_in options ≡ Some file → HasNoScripts (Run container options) → (contents : List (List ℕ)) → first_long (container ∷ run_inputs options) contents ≡ None
    → (system : Loaded) (inputs : List (List ℕ)) (first : List UpsetLine) (done : ℕ) → IsOfSave (content 0 contents) (from_bytes options contents) (first_run system inputs first done)
    → (given : List (List ℕ)) → beginning_of options (content 0 contents) (drop 1 contents) system given ≡ Ok (continued_run first (with_inputs system inputs) done)
begins_saved laws container options file named unscripted contents short system inputs first done is given = begins laws container options file named unscripted contents short system inputs first done is given

pub conf_saved : ContinuedLaws → (container : List ℕ) (options : List RunOption) (file : List ℕ) → from_in options ≡ Some file → HasNoScripts (Run container options) → (contents : List (List ℕ)) → first_long (container ∷ run_inputs options) contents ≡ None
    → (system : Loaded) (inputs : List (List ℕ)) (first : List UpsetLine) (done : ℕ) → IsOfSave (content 0 contents) (from_bytes options contents) (first_run system inputs first done)
    → (continued_run first (with_inputs system inputs) done).system.conf ≡ system.conf
conf_saved laws container options file named unscripted contents short system inputs first done is = same_conf laws container options file named unscripted contents short system inputs first done is

pub rest_of : ContinuedLaws → (container : List ℕ) (options : List RunOption) (file : List ℕ) → from_in options ≡ Some file → HasNoScripts (Run container options) → (contents : List (List ℕ)) → first_long (container ∷ run_inputs options) contents ≡ None
    → (system : Loaded) (inputs : List (List ℕ)) (first : List UpsetLine) (done : ℕ) → IsOfSave (content 0 contents) (from_bytes options contents) (first_run system inputs first done)
    → (last : List UpsetLine) → upsets_for system.conf (after_run first (with_inputs system inputs) done).ticks (ticks_asked (span_in options) system.conf) options (drop 1 contents) ≡ Ok last
    → ((after_run first (with_inputs system inputs) done).halted ≡ true → AreFrom done last) → (outcome_of (Run container options) contents).denial ≡ None
    → HasRest container options contents (with_inputs system inputs) first done last (ticks_asked (span_in options) system.conf)
rest_of laws container options file named unscripted contents short system inputs first done is last strikes halts granted =
    has_rest laws container options file named unscripted contents short system inputs first done is last strikes halts granted

-- As a command.

-- a run that was carried out has given each UART its bytes
run_heard : (e : Ending) (run : Option Running) (g : Machine) (upsets : List UpsetLine) (ticks : ℕ) (had got : Option (List ℕ)) (board left : BoardView)
    → IsCompleteStatus (status_of e) → LeavesBoard e run had got board left → run ≡ Some (Together g upsets ticks) → IsHeard (console_from upsets g ticks) (without_marks board) left
run_heard e run g upsets ticks had got board left complete leaves runs = by e complete (subst (λ (r : Option Running). LeavesBoard e r had got board left) runs leaves)
  where
    by : (e : Ending) → IsCompleteStatus (status_of e) → LeavesBoard e (Some (Together g upsets ticks)) had got board left → IsHeard (console_from upsets g ticks) (without_marks board) left
    by Done complete leaves = leaves.heard
    by Usage complete leaves = absurd (⊎_elim (λ h. cc) (λ h. cc) complete)
    by (ReadFault file) complete leaves = absurd (⊎_elim (λ h. cc) (λ h. cc) complete)
    by (Refused file text) complete leaves = absurd (⊎_elim (λ h. cc) (λ h. cc) complete)
    by WriteFaultReport complete leaves = absurd (⊎_elim (λ h. cc) (λ h. cc) complete)
    by (WriteFaultFile file) complete leaves = absurd (⊎_elim (λ h. cc) (λ h. cc) complete)
    by (UartFault place) complete leaves = leaves.heard
    by NoMemory complete leaves = absurd (⊎_elim (λ h. cc) (λ h. cc) complete)

module _ (laws : ContinuedLaws) (e : Ending) (read : List (List ℕ)) (container : List ℕ) (options : List RunOption) (file : List ℕ) (before after : World) (named : from_in options ≡ Some file) (unscripted : HasNoScripts (Run container options))
    (w : Works e read (Some (Run container options)) before.disk after.disk) (plays : Plays e read (Some (Run container options)) before.disk.got after.disk.got before.board after.board)
    (files : Files) (known : before.disk.files ≡ Some files) (contents : List (List ℕ)) (all : read_all files (container ∷ run_inputs options) ≡ Ok contents) (short : first_long (container ∷ run_inputs options) contents ≡ None)
    (system : Loaded) (inputs : List (List ℕ)) (first : List UpsetLine) (done : ℕ) (is : IsOfSave (content 0 contents) (from_bytes options contents) (first_run system inputs first done)) where
  abbrev ran_command : Command
  ran_command = Run container options

  abbrev began : System
  began = with_inputs system inputs

  abbrev asked : ℕ
  asked = ticks_asked (span_in options) system.conf

  never_refused : HasNoOtherFault options contents (first_run system inputs first done) → status_of e ≢ status.Refused
  never_refused none refused =
      let because : IsRefusedIn ran_command before.disk after.disk = (has_causes e read (Some ran_command) before.disk after.disk w).refused refused in
      let same : because.contents ≡ contents = same_contents files before.disk.files ran_command contents because.contents known all because.are in
      let some : IsSome (outcome_of ran_command contents).denial = subst (λ (cs : List (List ℕ)). IsSome (outcome_of ran_command cs).denial) same because.refused in
      let wrong : IsSome {T = Denial} None = subst IsSome (granted_so laws container options file named unscripted contents short system inputs first done is none.inputs none.last none.named none.struck none.within none.short) some in
      absurd (cc)

  shows_rest : (last : List UpsetLine) → upsets_for system.conf (after_run first began done).ticks asked options (drop 1 contents) ≡ Ok last
      → ((after_run first began done).halted ≡ true → AreFrom done last) → IsCompleteStatus (status_of e) → ShowsRest (first_run system inputs first done) last asked (content 0 contents) (cores_in options) (save_in options) before after
  shows_rest last strikes halts complete =
      let carried : IsCarriedOut None read ran_command before.disk after.disk =
      ⊎_elim (λ ended. subst (λ (one : Ending). Works one read (Some ran_command) before.disk after.disk) (done_is_finished e ended) w) (λ fault. unheard_finished e read ran_command before.disk after.disk fault w) complete in
      let held = known_outcome before.disk.files ran_command read carried.read in
      let same : outcome_of ran_command read ≡ outcome_of ran_command contents = held.outcome ∙ ap (outcome_of ran_command) (same_contents files before.disk.files ran_command contents held.contents known all held.are) in
      let rest = rest_of laws container options file named unscripted contents short system inputs first done is last strikes halts (ap (λ (o : Outcome). o.denial) (sym same) ∙ carried.denied) in
      let outcome : Outcome = outcome_of ran_command contents in
      let read_from : Outside = called_for (inputs_of ran_command) before.disk in
      let outside_is = called_for-is (inputs_of ran_command) before.disk in
      let did_so : after.disk ≡ did outcome read_from = carried.outside ∙ ap (λ (o : Outcome). did o read_from) same in
      let whole_run : Machine = after_run (first ++ last) began (done + asked) in
      record {
        lines = rest.lines;
        whole = rest.whole;
        printed = ap (λ (x : Outside). x.got) did_so ∙ did-got outcome read_from
            ∙ ap (λ (g : Option (List ℕ)). grown g outcome.report) (ap (λ (x : Outside). x.got) outside_is) ∙ ap (grown before.disk.got) rest.report;
        written = ap (λ (x : Outside). x.files) did_so
            ∙ ap (λ (os : List Output). (wrote_all os (reported_all outcome read_from)).files) rest.later
            ∙ wrote_all-from (core_outputs whole_run (cores_in options) ++ save_outputs (content 0 contents) whole_run (save_in options)) (reported_all outcome read_from) before.disk
            (ap (λ (o : Option Output). (wrote o read_from).files) rest.output ∙ ap (λ (x : Outside). x.files) outside_is);
        heard = console_from last (continued_run first began done) asked;
        console = rest.console;
        said = run_heard e (outcome_of ran_command read).run (continued_run first began done) last asked before.disk.got after.disk.got before.board after.board complete plays
            (ap (λ (o : Outcome). o.run) same ∙ rest.run);
      }

  goes_on_as : GoesOnAs (status_of e) options contents (first_run system inputs first done) before after
  goes_on_as = record {
    begins = begins_saved laws container options file named unscripted contents short system inputs first done is [];
    granted = never_refused;
    shows = shows_rest;
  }

pub go_on : ContinuedLaws → (e : Ending) (read : List (List ℕ)) (command : Option Command) (before after : World) → OfCommand HasNoScripts command → Works e read command before.disk after.disk
    → Plays e read command before.disk.got after.disk.got before.board after.board → GoesOnFromSave (status_of e) command before after
go_on laws e read None before after unscripted w plays = tt
go_on laws e read (Some (Bare image ticks)) before after unscripted w plays = tt
go_on laws e read (Some (Parse description output)) before after unscripted w plays = tt
go_on laws e read (Some (Upgrade configuration output)) before after unscripted w plays = tt
go_on laws e read (Some (BuildImage program output)) before after unscripted w plays = tt
go_on laws e read (Some (ReadImage image)) before after unscripted w plays = tt
go_on laws e read (Some (Pack configuration output images)) before after unscripted w plays = tt
go_on laws e read (Some (ListContainer container)) before after unscripted w plays = tt
go_on laws e read (Some (CheckContainer container)) before after unscripted w plays = tt
go_on laws e read (Some (MakePlan description)) before after unscripted w plays = tt
go_on laws e read (Some (CheckPlan description)) before after unscripted w plays = tt
go_on laws e read (Some (ListGroups description)) before after unscripted w plays = tt
go_on laws e read (Some (ListSteerers description)) before after unscripted w plays = tt
go_on laws e read (Some (Generate number)) before after unscripted w plays = tt
go_on laws e read (Some (Replay container part script options)) before after unscripted w plays = tt
go_on laws e read (Some (Run container options)) before after unscripted w plays = at (from_in options) refl
  where
    at : (named : Option (List ℕ)) → from_in options ≡ named → RunGoesOn named (status_of e) container options before after
    at None named = tt
    at (Some file) named = λ files known contents all short run is.
        goes_on_as laws e read container options file before after named unscripted w plays files known contents all short run.system run.inputs run.upsets run.ticks is
