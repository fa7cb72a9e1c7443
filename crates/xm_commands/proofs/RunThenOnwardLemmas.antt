-- What a run and the run that goes on from it answer.
use Rattle.std.proofs.Common.{◌≡◌, ℕ, zero, suc, ◌+◌, ◌%◌, ◌≤◌, Bool, true, false, nat_eq, nat_lt, if◌then◌else◌, List, [], ◌∷◌, ◌++◌, length, drop, Option, Some, None, Result, Ok, Err, refl, sym, ap, ◌∙◌, subst, arith, length-append}
use Rattle.std.specs.Prelude.{slice_get, slice_index_or, slice_set}
use Rattle.std.specs.FinMap.{get}
use Rattle.std.proofs.lemmas.Bool.Decides.{nat_tests}
use Rattle.std.proofs.lemmas.List.{append_assoc, length-map}
use Rattle.std.proofs.lemmas.Option.{same_Some}
use Rattle.xm_base.specs.Bytes.{AreBytes}
use Rattle.xm_base.specs.declared.limits.TheConstants.{FILE_BYTES}
use Rattle.xm_outside.specs.Files.{Files}
use Rattle.continuation_laws.specs.Continued.{continued_run}
use Rattle.continuation_laws.specs.Joined.{AreFrom}
use Rattle.continuation_laws.specs.Onward.{BootsAreBeginnings, after_ticks}
use Rattle.loaded_system.specs.System.{System as Loaded}
use Rattle.machine_model.specs.Machine.{Machine, start}
use Rattle.machine_model.specs.View.{System}
use Rattle.saved_machines.specs.Savable.{IsSavedMachine}
use Rattle.saved_machines.specs.Saving.{saved_file, stored_digest}
use Rattle.system_state.specs.Inputs.{words_in}
use Rattle.system_state.specs.State.{with_inputs}
use Rattle.upset_files.specs.Fits.{AllFit}
use Rattle.upset_model.specs.Reports.{after_run}
use Rattle.xm_conf.specs.Configuration.{Conf}
use Rattle.xm_container.specs.Reading.{unpacked}
use Rattle.command_line.specs.Grammar.{CommandsAreSpelled}
use Rattle.command_line.specs.Words.{PartFile, RunOption, Run, cores_in, from_in, inputs_in, save_in, span_in, upsets_in}
use Rattle.file_commands.specs.Ending.{input_text}
use Rattle.file_commands.specs.Inputs.{first_beyond, inputs_for, inputs_with, no_inputs, unless_beyond}
use Rattle.file_commands.specs.lemmas.UpsetLemmas.{upsets_are_read}
use Rattle.file_commands.specs.Outcome.{Output, Outcome, beginning_of, content, core_outputs, first_long, name_if_any, outcome_of, run_inputs, ticks_asked, upsets_for}
use Rattle.file_commands.specs.Packing.{denial, file_names}
use Rattle.run_commands.specs.Contents.{read_all, read_before}
use Rattle.run_commands.specs.Numbers.{IsStored, StoresOf}
use Rattle.run_commands.specs.lemmas.InputLemmas.{rest_short}
use Rattle.xm_commands.specs.Answer.{Answer, answer, files_saved, saved_all}
use Rattle.xm_commands.specs.Continued.{IsOfSave, from_bytes}
use Rattle.xm_commands.specs.RunThenAlone.{HoldsBytes}
use Rattle.xm_commands.specs.RunThenOnward.{AnswersInOne, AnswersRest, FollowsRun, RunsThenGoOn}
use Rattle.xm_commands.specs.Separation.{save_output, save_outputs}
use Rattle.xm_commands.proofs.ContinuedLemmas.{ContinuedLaws, begins_saved, conf_saved, first_run, rest_of}
use Rattle.xm_commands.proofs.RanLemmas.{WasRan, asked_of, same_ok, was_ran}
use Rattle.xm_commands.proofs.ReplayLemmas.{content_next}
use Rattle.xm_commands.proofs.RunAnswerLemmas.{HasRead, HasRun, has_read, has_run, saved_has}
use Rattle.xm_commands.proofs.ScriptLemmas.{run_unscripted}
use Rattle.xm_commands.proofs.SeparationLemmas.{HasNoScripts}

-- The contents of files.

-- the content of each
nth_there : (files : Files) (names contents : List (List ℕ)) (n : ℕ) (name : List ℕ) → read_all files names ≡ Ok contents → slice_get names n ≡ Some name → get files name ≡ Some (content n contents)
nth_there files [] contents n name read there = absurd cc
nth_there files (one ∷ names) contents n name read there = at (get files one) refl (read_all files names) refl read n there (λ rest k reads further. nth_there files names rest k name reads further)
  where
    at : (o : Option (List ℕ)) → get files one ≡ o → (r : Result (List (List ℕ)) (List ℕ)) → read_all files names ≡ r → read_before one o r ≡ Ok contents → (n : ℕ) → slice_get (one ∷ names) n ≡ Some name
        → ((rest : List (List ℕ)) (k : ℕ) → read_all files names ≡ Ok rest → slice_get names k ≡ Some name → get files name ≡ Some (content k rest)) → get files name ≡ Some (content n contents)
    at None is r reads e n there rec = absurd (cc)
    at (Some bytes) is (Err absent) reads e n there rec = absurd (cc)
    at (Some bytes) is (Ok rest) reads e zero there rec =
        let all : bytes ∷ rest ≡ contents = cc in
        let same : one ≡ name = same_Some one name there in
        subst (λ (file : List ℕ). get files file ≡ Some (content 0 contents)) same (is ∙ ap (λ (c : List (List ℕ)). Some (content 0 c)) all)
    at (Some bytes) is (Ok rest) reads e (suc n) there rec =
        let all : bytes ∷ rest ≡ contents = cc in
        rec rest n reads there ∙ ap (λ (c : List (List ℕ)). Some (content (suc n) c)) all

after_names : (names : List (List ℕ)) (file : List ℕ) → slice_get (names ++ file ∷ []) (length names) ≡ Some file
after_names [] file = refl
after_names (name ∷ names) file = after_names names file

-- Input words.

-- there are no more words than bytes
words_few : (bytes : List ℕ) → length (words_in bytes) ≤ length bytes
words_few [] = omega arith
words_few (a ∷ []) = omega arith
words_few (a ∷ b ∷ []) = omega arith
words_few (a ∷ b ∷ c ∷ []) = omega arith
words_few (a ∷ b ∷ c ∷ d ∷ rest) = (let few : length (words_in rest) ≤ length rest = words_few rest in omega (arith, few))

-- no partition has more words than a file has bytes
abbrev AreFew : List (List ℕ) → Type 0
AreFew inputs = (p : ℕ) → length (slice_index_or inputs p []) ≤ FILE_BYTES

set_few : (inputs : List (List ℕ)) (part : ℕ) (words : List ℕ) → length words ≤ FILE_BYTES → AreFew inputs → AreFew (slice_set inputs part words)
set_few [] part words few all p = all p
set_few (one ∷ inputs) zero words few all zero = few
set_few (one ∷ inputs) zero words few all (suc p) = all (suc p)
set_few (one ∷ inputs) (suc part) words few all zero = all zero
set_few (one ∷ inputs) (suc part) words few all (suc p) = set_few inputs part words few (λ q. all (suc q)) p

none_few : (parts : ℕ) → AreFew (no_inputs parts)
none_few zero p = omega arith
none_few (suc parts) zero = omega arith
none_few (suc parts) (suc p) = none_few parts p

with_few : (named : List PartFile) (more contents inputs result : List (List ℕ)) → first_long (file_names named ++ more) contents ≡ None → inputs_with inputs named contents ≡ Ok result → AreFew inputs → AreFew result
with_few [] more contents inputs result short gives few = (let same : inputs ≡ result = cc in subst AreFew same few)
with_few (one ∷ others) more [] inputs result short gives few = (let same : inputs ≡ result = cc in subst AreFew same few)
with_few (one ∷ others) more (bytes ∷ contents) inputs result short gives few =
    at (nat_lt FILE_BYTES (length bytes)) refl (nat_eq (length bytes % 4) 0) short gives (λ given rest gives_rest few_rest. with_few others more contents given result rest gives_rest few_rest)
  where
    at : (t : Bool) → nat_lt FILE_BYTES (length bytes) ≡ t → (u : Bool) → (if t then Some one.file else first_long (file_names others ++ more) contents) ≡ None
        → (if u then inputs_with (slice_set inputs one.part (words_in bytes)) others contents else Err (denial one.file (input_text (length bytes)))) ≡ Ok result
        → ((given : List (List ℕ)) → first_long (file_names others ++ more) contents ≡ None → inputs_with given others contents ≡ Ok result → AreFew given → AreFew result) → AreFew result
    at true over u e g rec = absurd (cc)
    at false within false e g rec = absurd (cc)
    at false within true e g rec =
        let small : length bytes ≤ FILE_BYTES = grind (arith, nat_tests) in
        let words : length (words_in bytes) ≤ length bytes = words_few bytes in
        rec (slice_set inputs one.part (words_in bytes)) e g (set_few inputs one.part (words_in bytes) (omega (arith, small, words)) few)

given_few : (parts : ℕ) (options : List RunOption) (more contents inputs : List (List ℕ)) → first_long (file_names (inputs_in options) ++ more) contents ≡ None → inputs_for parts options contents ≡ Ok inputs → AreFew inputs
unfolding inputs_for
given_few parts options more contents inputs short given = at (first_beyond parts options) given
  where
    at : (o : Option PartFile) → unless_beyond o (inputs_with (no_inputs parts) (inputs_in options) contents) ≡ Ok inputs → AreFew inputs
    at None e = with_few (inputs_in options) more contents (no_inputs parts) inputs short e (none_few parts)
    at (Some named) e = absurd (cc)

-- Both runs.

module _ (laws : ContinuedLaws) (boots : BootsAreBeginnings) (words others : List (List ℕ)) (files : Files) (container : List ℕ) (options further : List RunOption) (file : List ℕ)
    (unscripted : HasNoScripts (Run container further)) (follows : FollowsRun container options further file) (holds : HoldsBytes files container) (stores : StoresOf container options (Some files))
    (run : HasRun (answer words files) files container options) (more : HasRead (answer others (answer words files).files) (answer words files).files (Run container further)) where
  abbrev after : Files
  after = (answer words files).files

  abbrev contents : List (List ℕ)
  contents = run.contents

  abbrev next_contents : List (List ℕ)
  next_contents = more.contents

  abbrev system : Loaded
  system = run.ran.system

  abbrev booted : System
  booted = with_inputs system run.ran.inputs

  abbrev ticks : ℕ
  ticks = ticks_asked (span_in options) system.conf

  abbrev last_machine : Machine
  last_machine = after_run run.ran.upsets booted ticks

  -- the second run
  next : WasRan container further next_contents
  next = was_ran container further next_contents more.granted

  -- both have the same container
  same_box : content 0 next_contents ≡ content 0 contents
  same_box =
      let one = nth_there files (container ∷ run_inputs options) contents 0 container run.read refl in
      let other = nth_there after (container ∷ run_inputs further) next_contents 0 container more.read refl in
      same_Some (content 0 next_contents) (content 0 contents) (sym other ∙ run.kept container follows.unwritten ∙ one)

  contained : AreBytes (content 0 next_contents)
  contained = subst AreBytes (sym same_box) (holds (content 0 contents) (nth_there files (container ∷ run_inputs options) contents 0 container run.read refl))

  -- the saved machine is the last file of the first run
  saves_so : run.ran.saves ≡ save_output (content 0 contents) last_machine file ∷ []
  saves_so =
      run.ran.saved ∙ ap (save_outputs (content 0 contents) (after_ticks run.ran.upsets (start booted) ticks)) follows.saved
      ∙ ap (λ (g : Machine). save_output (content 0 contents) g file ∷ []) (boots run.ran.upsets booted ticks).after

  saved_there : get after file ≡ Some (saved_file (stored_digest (content 0 contents)) last_machine)
  saved_there =
      let cores : List Output = core_outputs last_machine (cores_in options) in
      ap (λ (f : Files). get f file) (run.written
      ∙ ap (λ (os : List Output). saved_all (cores ++ (run.ran.scripts ++ os)) files) saves_so
      ∙ ap (λ (os : List Output). saved_all os files) (sym (append_assoc cores run.ran.scripts (save_output (content 0 contents) last_machine file ∷ []))))
      ∙ saved_has (cores ++ run.ran.scripts) (save_output (content 0 contents) last_machine file) [] files tt

  -- and the last file that the second one reads
  abbrev place : ℕ
  place = length (inputs_in further) + length (name_if_any (upsets_in further))

  abbrev fronts : List (List ℕ)
  fronts = file_names (inputs_in further) ++ name_if_any (upsets_in further)

  last_named : slice_get (run_inputs further) place ≡ Some file
  last_named =
      let inputs : length (file_names (inputs_in further)) ≡ length (inputs_in further) = length-map (inputs_in further) (λ named. named.file) in
      let count : length fronts ≡ place = length-append (file_names (inputs_in further)) (name_if_any (upsets_in further)) ∙ ap (λ (n : ℕ). n + length (name_if_any (upsets_in further))) inputs in
      ap (λ (o : Option (List ℕ)). slice_get (fronts ++ name_if_any o) place) follows.from
      ∙ ap (λ (n : ℕ). slice_get (fronts ++ file ∷ []) n) (sym count) ∙ after_names fronts file

  bytes_are : from_bytes further next_contents ≡ saved_file (stored_digest (content 0 contents)) last_machine
  bytes_are =
      let there = nth_there after (container ∷ run_inputs further) next_contents (suc place) file more.read last_named in
      sym (content_next place next_contents) ∙ same_Some (content (suc place) next_contents) (saved_file (stored_digest (content 0 contents)) last_machine) (sym there ∙ saved_there)

  -- so the second one is from the saved machine of the first one
  fit : AllFit system.conf ticks 0 run.ran.upsets
  fit =
      let all : 0 + ticks ≡ ticks = omega arith in
      subst (λ (n : ℕ). AllFit system.conf n 0 run.ran.upsets) all (laws.spelled system.conf 0 (0 + ticks) _ run.ran.upsets (upsets_are_read options system.conf 0 ticks (drop 1 contents) run.ran.upsets run.ran.strikes)).fit

  numbers : IsSavedMachine last_machine
  numbers =
      let stored : IsStored (save_in options) (after_ticks run.ran.upsets (start booted) ticks) = run.ran.stores (stores files refl contents run.read) in
      subst (λ (g : Machine). IsSavedMachine g) (boots run.ran.upsets booted ticks).after (subst (λ (o : Option (List ℕ)). IsStored o (after_ticks run.ran.upsets (start booted) ticks)) follows.saved stored)

  is_save : IsOfSave (content 0 next_contents) (from_bytes further next_contents) (first_run system run.ran.inputs run.ran.upsets ticks)
  is_save = record {
    contained = contained;
    unpacks = ap unpacked same_box ∙ run.ran.unpacks;
    few = given_few (length system.conf.parts) options (name_if_any (upsets_in options) ++ name_if_any (from_in options)) (drop 1 contents) run.ran.inputs
        (subst (λ (names : List (List ℕ)). first_long names (drop 1 contents) ≡ None) (append_assoc (file_names (inputs_in options)) (name_if_any (upsets_in options)) (name_if_any (from_in options)))
        (rest_short container (run_inputs options) contents run.ran.short)) run.ran.given;
    strikes = fit;
    most = run.ran.most;
    saved = bytes_are ∙ ap (λ (box : List ℕ). saved_file (stored_digest box) last_machine) (sym same_box);
    numbers = numbers;
  }

  -- what it begins with, and its upsets
  abbrev machine : Machine
  machine = continued_run run.ran.upsets booted ticks

  abbrev count : ℕ
  count = ticks_asked (span_in further) system.conf

  begins : (given : List (List ℕ)) → beginning_of further (content 0 next_contents) (drop 1 next_contents) system given ≡ Ok machine
  begins given = begins_saved laws container further file follows.from unscripted next_contents next.short system run.ran.inputs run.ran.upsets ticks is_save given

  same_system : next.system ≡ system
  same_system = same_ok next.system system (unpacked (content 0 next_contents)) next.unpacks (ap unpacked same_box ∙ run.ran.unpacks)

  same_machine : next.machine ≡ machine
  same_machine =
      same_ok next.machine machine (beginning_of further (content 0 next_contents) (drop 1 next_contents) system next.inputs)
      (subst (λ (s : Loaded). beginning_of further (content 0 next_contents) (drop 1 next_contents) s next.inputs ≡ Ok next.machine) same_system next.begins) (begins next.inputs)

  strikes : upsets_for system.conf last_machine.ticks count further (drop 1 next_contents) ≡ Ok next.upsets
  strikes =
      let here : upsets_for machine.system.conf machine.ticks (asked_of further machine) further (drop 1 next_contents) ≡ Ok next.upsets =
      subst (λ (m : Machine). upsets_for m.system.conf m.ticks (asked_of further m) further (drop 1 next_contents) ≡ Ok next.upsets) same_machine next.strikes in
      subst (λ (conf : Conf). upsets_for conf machine.ticks (ticks_asked (span_in further) conf) further (drop 1 next_contents) ≡ Ok next.upsets)
      (conf_saved laws container further file follows.from unscripted next_contents next.short system run.ran.inputs run.ran.upsets ticks is_save) here

  -- and its answer
  rest_so : (last_machine.halted ≡ true → AreFrom ticks next.upsets)
      → AnswersRest (answer words files) (answer others after) run.ran.upsets next.upsets booted ticks count (content 0 next_contents) (cores_in further) (save_in further)
  rest_so halts =
      let rest = rest_of laws container further file follows.from unscripted next_contents next.short system run.ran.inputs run.ran.upsets ticks is_save next.upsets strikes halts more.granted in
      let outcome : Outcome = outcome_of (Run container further) next_contents in
      record {
        lines = rest.lines;
        whole = rest.whole;
        printed = ap (λ (a : Answer). a.out) more.is ∙ rest.report;
        written = ap (λ (a : Answer). a.files) more.is
            ∙ ap (λ (os : List Output). saved_all os (files_saved outcome.output after)) rest.later
            ∙ ap (λ (o : Option Output). saved_all (core_outputs (after_run (run.ran.upsets ++ next.upsets) booted (ticks + count)) (cores_in further)
            ++ save_outputs (content 0 next_contents) (after_run (run.ran.upsets ++ next.upsets) booted (ticks + count)) (save_in further)) (files_saved o after)) rest.output;
      }

  in_one : AnswersInOne (answer words files) (answer others after) (cores_in further) (save_in further)
  in_one = record {
    system = booted;
    first = run.ran.upsets;
    last = next.upsets;
    done = ticks;
    count = count;
    box = content 0 next_contents;
    printed = run.printed;
    rest = rest_so;
  }

pub run_then_on : ContinuedLaws → BootsAreBeginnings → CommandsAreSpelled → RunsThenGoOn
run_then_on laws boots grammar words others files container options further file is_run is_more done also follows holds stores =
    in_one laws boots words others files container options further file (run_unscripted grammar others container further is_more) follows holds stores
    (has_run boots words files container options is_run done follows.begun) (has_read others (answer words files).files (Run container further) is_more also)
