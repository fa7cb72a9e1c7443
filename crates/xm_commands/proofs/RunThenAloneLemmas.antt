-- What a run and the replay after it answer.
use Rattle.std.proofs.Common.{if◌then◌else◌, ◌≡◌, ◌≢◌, ℕ, zero, suc, ◌+◌, ◌%◌, ◌<◌, ◌≤◌, ◌==◌, Bool, true, false, nat_eq, nat_lt, List, [], ◌∷◌, ◌++◌, length, map, drop, Option, Some, None, Result, Ok, Err, refl, sym, ap, ◌∙◌, subst, arith, length-append}
use Rattle.std.specs.Prelude.{slice_index_or, slice_set}
use Rattle.std.specs.FinMap.{get}
use Rattle.std.proofs.lemmas.Bool.{eqb-true}
use Rattle.std.proofs.lemmas.Bool.Decides.{nat_tests}
use Rattle.std.proofs.lemmas.List.{append-nil, append_assoc, get_or-set_other, get_or-set_same, length-replicate, length-set, map-append}
use Rattle.xm_base.specs.declared.limits.TheConstants.{FILE_BYTES}
use Rattle.xm_outside.specs.Files.{Files}
use Rattle.xm_report.specs.Report.{texts}
use Rattle.replay_setup.specs.OfRun.{IsOfRun, RunIsReplayed}
use Rattle.continuation_laws.specs.Onward.{BootsAreBeginnings}
use Rattle.upset_files.specs.Reading.{upsets_from}
use Rattle.upset_model.specs.Reports.{after_run}
use Rattle.upset_model.specs.declared.upset_line.UpsetLine.{UpsetLine}
use Rattle.machine_model.specs.View.{System, view_of}
use Rattle.recording_model.specs.Replayed.{replay_lines}
use Rattle.builders.specs.Ready.{Replay as Readied, replay_of}
use Rattle.system_state.specs.Inputs.{words_in}
use Rattle.system_state.specs.State.{with_inputs}
use Rattle.xm_container.specs.Reading.{unpacked}
use Rattle.command_line.specs.Words.{PartFile, ReplayFile, RunOption, Run, Replay, command_of, cores_in, from_in, inputs_in, replay_core, replay_input, replay_upsets, save_in, scripts_in, span_in, upsets_in}
use Rattle.command_line.specs.Grammar.{CommandsAreSpelled}
use Rattle.file_commands.specs.Denial.{Denial}
use Rattle.file_commands.specs.Ending.{input_text}
use Rattle.file_commands.specs.Inputs.{first_beyond, inputs_for, inputs_with, no_inputs, unless_beyond}
use Rattle.file_commands.specs.lemmas.LaterLemmas.{output_names}
use Rattle.file_commands.specs.lemmas.UpsetLemmas.{upsets_are_read}
use Rattle.file_commands.specs.Outcome.{Output, Outcome, bytes_if_any, content, core_outputs, first_long, name_if_any, played, replay_input_bytes, replay_inputs, replay_output, replay_upset_bytes, run_inputs, script_bytes, script_denial, script_before, script_output, scripts_for, ticks_asked, unless_denied}
use Rattle.file_commands.specs.Packing.{denial, file_names}
use Rattle.file_commands.specs.declared.status.Status.TheVariants.{Done}
use Rattle.run_commands.specs.Contents.{read_all, read_before}
use Rattle.run_commands.specs.lemmas.CoreLemmas.{scripts_inside}
use Rattle.run_commands.specs.lemmas.Cores.{AreForPartitions}
use Rattle.run_commands.specs.lemmas.InputLemmas.{rest_short}
use Rattle.xm_commands.specs.Answer.{Answer, answer, outcome_answer, saved_all}
use Rattle.xm_commands.specs.RunThenAlone.{AnswersAsRun, BelongsTo, HoldsBytes, IsUntouched, RunsThenAlone, input_of, input_or}
use Rattle.xm_commands.specs.Top.{IsNoneOf, writes_of}
use Rattle.xm_commands.proofs.MadeLemmas.{scripts_are}
use Rattle.xm_commands.proofs.ReplayLemmas.{content_next, head_short}
use Rattle.xm_commands.proofs.ReplayedLemmas.{begun_outcome, own_cores}
use Rattle.xm_commands.proofs.RunAnswerLemmas.{HasRun, IsReadFirst, RanBooted, answer_by, has_run, made_names, none_apart, none_both, none_saved, read_first, saved_has}
use Rattle.xm_commands.proofs.ScriptLemmas.{run_unscripted}

-- a script that was made is short enough for a file
script_short : (upsets : List UpsetLine) (system : System) (ticks : ℕ) (earlier : List PartFile) (named : PartFile) (later : List PartFile) (outputs : List Output) → scripts_for upsets system ticks (earlier ++ named ∷ later) ≡ Ok outputs
    → length (script_bytes upsets system ticks named.part) ≤ FILE_BYTES
script_short upsets system ticks [] named later outputs made = at _ (nat_lt FILE_BYTES (length (script_bytes upsets system ticks named.part))) refl made
  where
    at : (r : Denial) (t : Bool) → nat_lt FILE_BYTES (length (script_bytes upsets system ticks named.part)) ≡ t
        → unless_denied (if t then Some r else None) (script_before (script_output upsets system ticks named) (scripts_for upsets system ticks later)) ≡ Ok outputs → length (script_bytes upsets system ticks named.part) ≤ FILE_BYTES
    at r true over e = absurd (cc)
    at r false within e = grind (arith, nat_tests)
script_short upsets system ticks (one ∷ earlier) named later outputs made =
    at (script_denial upsets system ticks one) (scripts_for upsets system ticks (earlier ++ named ∷ later)) refl (λ others rest. script_short upsets system ticks earlier named later others rest) made
  where
    at : (refusal : Option Denial) (others : Result (List Output) Denial) → scripts_for upsets system ticks (earlier ++ named ∷ later) ≡ others
        → ((outs : List Output) → scripts_for upsets system ticks (earlier ++ named ∷ later) ≡ Ok outs → length (script_bytes upsets system ticks named.part) ≤ FILE_BYTES)
        → unless_denied refusal (script_before (script_output upsets system ticks one) others) ≡ Ok outputs → length (script_bytes upsets system ticks named.part) ≤ FILE_BYTES
    at (Some refusal) others is rest e = absurd (cc)
    at None (Err refusal) is rest e = absurd (cc)
    at None (Ok outs) is rest e = rest outs is

-- The partition's input words.

-- a file gives these words
record IsGiven (files : Files) (file words : List ℕ) : Type 0 where
  bytes : List ℕ
  there : get files file ≡ Some bytes
  short : length bytes ≤ FILE_BYTES
  whole : length bytes % 4 ≡ 0
  words_are : words ≡ words_in bytes

-- a partition has the words that its file gives it, or those that it had
abbrev GivenBy : Files → Option (List ℕ) → List ℕ → List ℕ → Type 0
GivenBy files None had words = words ≡ had
GivenBy files (Some file) had words = IsGiven files file words

-- one file more, before the others
given_more : (files : Files) (part : ℕ) (named : PartFile) (bytes : List ℕ) (inputs : List (List ℕ)) (words : List ℕ) (o : Option (List ℕ)) → get files named.file ≡ Some bytes → length bytes ≤ FILE_BYTES → length bytes % 4 ≡ 0
    → part < length inputs → GivenBy files o (slice_index_or (slice_set inputs named.part (words_in bytes)) part []) words
    → GivenBy files (input_or o (if named.part == part then Some named.file else None)) (slice_index_or inputs part []) words
given_more files part named bytes inputs words (Some file) there short whole below given = given
given_more files part named bytes inputs words None there short whole below given = at (named.part == part) refl
  where
    at : (t : Bool) → (named.part == part) ≡ t → GivenBy files (if t then Some named.file else None) (slice_index_or inputs part []) words
    at true same =
        let is : named.part ≡ part = eqb-true named.part part same in
        record {
          bytes = bytes;
          there = there;
          short = short;
          whole = whole;
          words_are = given ∙ ap (λ (p : ℕ). slice_index_or (slice_set inputs p (words_in bytes)) part []) is ∙ get_or-set_same inputs part (words_in bytes) [] below;
        }
    at false other = (let differs : part ≢ named.part = grind (arith, nat_tests) in given ∙ get_or-set_other inputs named.part part (words_in bytes) [] differs)

-- the words after all files, before more files
given_for : (files : Files) (part : ℕ) (named : List PartFile) (more contents inputs result : List (List ℕ)) → read_all files (file_names named ++ more) ≡ Ok contents → first_long (file_names named ++ more) contents ≡ None
    → inputs_with inputs named contents ≡ Ok result → part < length inputs → GivenBy files (input_of part named) (slice_index_or inputs part []) (slice_index_or result part [])
given_for files part [] more contents inputs result read short gives below = (let same : inputs ≡ result = cc in ap (λ (i : List (List ℕ)). slice_index_or i part []) (sym same))
given_for files part (one ∷ others) more contents inputs result read short gives below =
    found (get files one.file) refl (read_all files (file_names others ++ more)) refl read
    (λ rest given reads_rest short_rest gives_rest below_rest. given_for files part others more rest given result reads_rest short_rest gives_rest below_rest)
  where
    fits : (bytes : List ℕ) (rest : List (List ℕ)) → get files one.file ≡ Some bytes → read_all files (file_names others ++ more) ≡ Ok rest
        → (t : Bool) → nat_lt FILE_BYTES (length bytes) ≡ t → (if t then Some one.file else first_long (file_names others ++ more) rest) ≡ None
        → (u : Bool) → nat_eq (length bytes % 4) 0 ≡ u → (if u then inputs_with (slice_set inputs one.part (words_in bytes)) others rest else Err (denial one.file (input_text (length bytes)))) ≡ Ok result
        → ((rest given : List (List ℕ)) → read_all files (file_names others ++ more) ≡ Ok rest → first_long (file_names others ++ more) rest ≡ None → inputs_with given others rest ≡ Ok result → part < length given
        → GivenBy files (input_of part others) (slice_index_or given part []) (slice_index_or result part []))
        → GivenBy files (input_of part (one ∷ others)) (slice_index_or inputs part []) (slice_index_or result part [])
    fits bytes rest there reads true over e u whole g rec = absurd (cc)
    fits bytes rest there reads false within e false odd g rec = absurd (cc)
    fits bytes rest there reads false within e true whole g rec =
        let long : length (slice_set inputs one.part (words_in bytes)) ≡ length inputs = length-set inputs one.part (words_in bytes) in
        given_more files part one bytes inputs (slice_index_or result part []) (input_of part others) there (grind (arith, nat_tests)) (grind (arith, nat_tests)) below
        (rec rest (slice_set inputs one.part (words_in bytes)) reads e g (omega (arith, long, below)))

    found : (o : Option (List ℕ)) → get files one.file ≡ o → (r : Result (List (List ℕ)) (List ℕ)) → read_all files (file_names others ++ more) ≡ r → read_before one.file o r ≡ Ok contents
        → ((rest given : List (List ℕ)) → read_all files (file_names others ++ more) ≡ Ok rest → first_long (file_names others ++ more) rest ≡ None → inputs_with given others rest ≡ Ok result → part < length given
        → GivenBy files (input_of part others) (slice_index_or given part []) (slice_index_or result part []))
        → GivenBy files (input_of part (one ∷ others)) (slice_index_or inputs part []) (slice_index_or result part [])
    found None there r reads e rec = absurd (cc)
    found (Some bytes) there (Err absent) reads e rec = absurd (cc)
    found (Some bytes) there (Ok rest) reads e rec =
        let all : bytes ∷ rest ≡ contents = cc in
        fits bytes rest there reads (nat_lt FILE_BYTES (length bytes)) refl (subst (λ (c : List (List ℕ)). first_long (file_names (one ∷ others) ++ more) c ≡ None) (sym all) short)
        (nat_eq (length bytes % 4) 0) refl (subst (λ (c : List (List ℕ)). inputs_with inputs (one ∷ others) c ≡ Ok result) (sym all) gives) rec

-- The upsets of a run.

-- the content of the file after some, where all of them were read
last_there : (files : Files) (others : List PartFile) (file : List ℕ) (contents : List (List ℕ)) → read_all files (file_names others ++ file ∷ []) ≡ Ok contents → get files file ≡ Some (content (length others) contents)
last_there files [] file contents read = at (get files file) refl read
  where
    at : (o : Option (List ℕ)) → get files file ≡ o → read_before file o (Ok []) ≡ Ok contents → get files file ≡ Some (content 0 contents)
    at None there e = absurd (cc)
    at (Some bytes) there e = (let all : bytes ∷ [] ≡ contents = cc in there ∙ ap (λ (c : List (List ℕ)). Some (content 0 c)) all)
last_there files (one ∷ others) file contents read =
    at (get files one.file) (read_all files (file_names others ++ file ∷ [])) read (λ rest reads. last_there files others file rest reads)
  where
    at : (o : Option (List ℕ)) (r : Result (List (List ℕ)) (List ℕ)) → read_before one.file o r ≡ Ok contents
        → ((rest : List (List ℕ)) → r ≡ Ok rest → get files file ≡ Some (content (length others) rest)) → get files file ≡ Some (content (suc (length others)) contents)
    at None r e rec = absurd (cc)
    at (Some bytes) (Err absent) e rec = absurd (cc)
    at (Some bytes) (Ok rest) e rec = (let all : bytes ∷ rest ≡ contents = cc in rec rest refl ∙ ap (λ (c : List (List ℕ)). Some (content (suc (length others)) c)) all)

-- and it is short, where all of them are
last_short : (others : List PartFile) (file : List ℕ) (contents : List (List ℕ)) → first_long (file_names others ++ file ∷ []) contents ≡ None → length (content (length others) contents) ≤ FILE_BYTES
last_short [] file contents short = head_short file [] contents short
last_short (one ∷ others) file contents short =
    rw (content_next (length others) contents) (last_short others file (drop 1 contents) (rest_short one.file (file_names others ++ file ∷ []) contents short))

-- Partitions and inputs of a run.

-- no option is for a partition beyond those that there are, and the inputs are given one after another
given_parts : (parts : ℕ) (options : List RunOption) (contents inputs : List (List ℕ)) → inputs_for parts options contents ≡ Ok inputs
    → (first_beyond parts options ≡ None) × (inputs_with (no_inputs parts) (inputs_in options) contents ≡ Ok inputs)
unfolding inputs_for
given_parts parts options contents inputs given = at (first_beyond parts options) refl given
  where
    at : (o : Option PartFile) → first_beyond parts options ≡ o → unless_beyond o (inputs_with (no_inputs parts) (inputs_in options) contents) ≡ Ok inputs
        → (first_beyond parts options ≡ None) × (inputs_with (no_inputs parts) (inputs_in options) contents ≡ Ok inputs)
    at None is e = (is, e)
    at (Some named) is e = absurd (cc)

-- one of files for partitions
inside_one : (parts : ℕ) (earlier : List PartFile) (named : PartFile) (later : List PartFile) → AreForPartitions parts (earlier ++ named ∷ later) → named.part < parts
inside_one parts [] named later inside = inside.0
inside_one parts (one ∷ earlier) named later inside = inside_one parts earlier named later inside.1

-- The replay after a run.

-- a first file that is not too long
first_short : (file : List ℕ) (names : List (List ℕ)) (bytes : List ℕ) (contents : List (List ℕ)) → first_long (file ∷ names) (bytes ∷ contents) ≡ None → nat_lt FILE_BYTES (length bytes) ≡ false
first_short file names bytes contents none = at (nat_lt FILE_BYTES (length bytes)) none
  where
    at : (t : Bool) → (if t then Some file else first_long names contents) ≡ None → t ≡ false
    at true e = absurd (cc)
    at false e = refl

-- what a replay that is played answers
played_done : (core : Option (List ℕ)) (replay : Readied) (files : Files) → (outcome_answer (played core replay) files).status ≡ Done
unfolding played
played_done core replay files = refl

played_out : (core : Option (List ℕ)) (replay : Readied) (files : Files) → (outcome_answer (played core replay) files).out ≡ texts (replay_lines replay.upsets (view_of replay.system replay.p) replay.cues)
unfolding played
played_out core replay files = refl

played_files : (core : Option (List ℕ)) (replay : Readied) (files : Files) → (outcome_answer (played core replay) files).files ≡ saved_all (map (replay_output replay) (name_if_any core)) files
unfolding played
played_files core replay files = refl

-- a file that may be named has these bytes, no more than a file may have; where it is not named there are none
abbrev HasFile : Files → Option (List ℕ) → List ℕ → Type 0
HasFile files None bytes = bytes ≡ []
HasFile files (Some file) bytes = (get files file ≡ Some bytes) × (length bytes ≤ FILE_BYTES)

-- so it is in other files that have the same of this name
has_kept : (before after : Files) (named : Option (List ℕ)) (bytes : List ℕ) → ((file : List ℕ) → named ≡ Some file → get after file ≡ get before file) → HasFile before named bytes → HasFile after named bytes
has_kept before after None bytes kept has = has
has_kept before after (Some file) bytes kept has = (kept file refl ∙ has.0, has.1)

-- the file of the upsets of a run
struck_there : (files : Files) (inputs : List PartFile) (named : Option (List ℕ)) (contents : List (List ℕ)) → read_all files (file_names inputs ++ name_if_any named) ≡ Ok contents
    → first_long (file_names inputs ++ name_if_any named) contents ≡ None → HasFile files named (bytes_if_any named (content (length inputs) contents))
struck_there files inputs None contents read short = refl
struck_there files inputs (Some file) contents read short = (last_there files inputs file contents read, last_short inputs file contents short)

-- the bytes of the input words and what the partition has of them
record HasInput (files : Files) (input : Option (List ℕ)) (words : List ℕ) : Type 0 where
  bytes : List ℕ
  file : HasFile files input bytes
  whole : length bytes % 4 ≡ 0
  given : words ≡ words_in bytes

has_input : (files : Files) (input : Option (List ℕ)) (words : List ℕ) → GivenBy files input [] words → HasInput files input words
has_input files None words given = record { bytes = []; file = refl; whole = refl; given = given }
has_input files (Some file) words given = record { bytes = given.bytes; file = (given.there, given.short); whole = given.whole; given = given.words_are }

-- the contents of two files that a replay may name, after those of its container and of its script
record HasBoth (files : Files) (input upsets : Option (List ℕ)) (box bytes words struck : List ℕ) : Type 0 where
  contents : List (List ℕ)
  read : read_all files (name_if_any input ++ name_if_any upsets) ≡ Ok contents
  short : first_long (name_if_any input ++ name_if_any upsets) contents ≡ None
  words_are : bytes_if_any input (content 2 (box ∷ bytes ∷ contents)) ≡ words
  struck_are : bytes_if_any upsets (content (2 + length (name_if_any input)) (box ∷ bytes ∷ contents)) ≡ struck

has_both : (files : Files) (input upsets : Option (List ℕ)) (box bytes words struck : List ℕ) → HasFile files input words → HasFile files upsets struck → HasBoth files input upsets box bytes words struck
has_both files None None box bytes words struck one other = record { contents = []; read = refl; short = refl; words_are = sym one; struck_are = sym other }
has_both files None (Some file) box bytes words struck one other =
    let test : nat_lt FILE_BYTES (length struck) ≡ false = (let few = other.1 in grind (arith, nat_tests)) in
    record { contents = struck ∷ []; read = rw other.0 refl; short = rw test refl; words_are = sym one; struck_are = refl }
has_both files (Some file) None box bytes words struck one other =
    let test : nat_lt FILE_BYTES (length words) ≡ false = (let few = one.1 in grind (arith, nat_tests)) in
    record { contents = words ∷ []; read = rw one.0 refl; short = rw test refl; words_are = refl; struck_are = sym other }
has_both files (Some file) (Some more) box bytes words struck one other =
    let test : nat_lt FILE_BYTES (length words) ≡ false = (let few = one.1 in grind (arith, nat_tests)) in
    let last : nat_lt FILE_BYTES (length struck) ≡ false = (let few = other.1 in grind (arith, nat_tests)) in
    record { contents = words ∷ struck ∷ []; read = rw (one.0, other.0) refl; short = rw (test, last) refl; words_are = refl; struck_are = refl }

-- partitions have no words before any are given
no_words : (parts part : ℕ) → slice_index_or (no_inputs parts) part [] ≡ []
no_words zero part = refl
no_words (suc parts) zero = refl
no_words (suc parts) (suc part) = no_words parts part

module _ (law : RunIsReplayed) (words others : List (List ℕ)) (files : Files) (container : List ℕ) (options : List RunOption) (part : ℕ) (script_name : List ℕ) (further : List ReplayFile)
    (is_replay : command_of others ≡ Some (Replay container part script_name further)) (belongs : BelongsTo container options part script_name further)
    (holds : HoldsBytes files container) (begun : from_in options ≡ None) (run : HasRun (answer words files) files container options) where
  abbrev contents : List (List ℕ)
  contents = run.contents

  abbrev ran : RanBooted container options contents
  ran = run.ran

  abbrev system : System
  system = with_inputs ran.system ran.inputs

  abbrev ticks : ℕ
  ticks = ticks_asked (span_in options) ran.system.conf

  abbrev named : PartFile
  named = record { part = part; file = script_name }

  abbrev cores : List Output
  cores = core_outputs (after_run ran.upsets system ticks) (cores_in options)

  abbrev after : Files
  after = (answer words files).files

  -- the scripts of the run
  scripts_so : ran.scripts ≡ map (script_output ran.upsets system ticks) belongs.earlier ++ script_output ran.upsets system ticks named ∷ map (script_output ran.upsets system ticks) belongs.later
  scripts_so = scripts_are ran.upsets system ticks (scripts_in options) ran.scripts ran.made ∙ ap (map (script_output ran.upsets system ticks)) belongs.named ∙ map-append (script_output ran.upsets system ticks) belongs.earlier (named ∷ belongs.later)

  -- what is written before the script and after it
  abbrev before_it : List Output
  before_it = cores ++ map (script_output ran.upsets system ticks) belongs.earlier

  abbrev after_it : List Output
  after_it = map (script_output ran.upsets system ticks) belongs.later ++ ran.saves

  written_so : cores ++ (ran.scripts ++ ran.saves) ≡ before_it ++ script_output ran.upsets system ticks named ∷ after_it
  written_so =
      ap (λ (os : List Output). cores ++ (os ++ ran.saves)) scripts_so
      ∙ ap (λ (os : List Output). cores ++ os)
      (append_assoc (map (script_output ran.upsets system ticks) belongs.earlier) (script_output ran.upsets system ticks named ∷ map (script_output ran.upsets system ticks) belongs.later) ran.saves)
      ∙ sym (append_assoc cores (map (script_output ran.upsets system ticks) belongs.earlier) (script_output ran.upsets system ticks named ∷ after_it))

  none_after : IsNoneOf (output_names after_it) script_name
  none_after =
      let apart = none_apart (file_names belongs.later) (name_if_any (save_in options)) script_name belongs.last in
      subst (λ (names : List (List ℕ)). IsNoneOf names script_name) (sym (map-append (λ (o : Output). o.file) (map (script_output ran.upsets system ticks) belongs.later) ran.saves))
      (none_both (output_names (map (script_output ran.upsets system ticks) belongs.later)) (output_names ran.saves) script_name
      (made_names (script_output ran.upsets system ticks) (λ n. refl) belongs.later script_name apart.0) (none_saved container options contents ran script_name apart.1))

  -- the script that the run wrote
  script_there : get after script_name ≡ Some (script_bytes ran.upsets system ticks part)
  script_there =
      ap (λ (f : Files). get f script_name) (run.written ∙ ap (λ (os : List Output). saved_all os files) written_so)
      ∙ saved_has before_it (script_output ran.upsets system ticks named) after_it files none_after

  -- the container's content, and those of the other files
  box : IsReadFirst files container (run_inputs options) contents
  box = read_first files container (run_inputs options) contents run.read

  parts : (first_beyond (length ran.system.conf.parts) options ≡ None) × (inputs_with (no_inputs (length ran.system.conf.parts)) (inputs_in options) (drop 1 contents) ≡ Ok ran.inputs)
  parts = given_parts (length ran.system.conf.parts) options (drop 1 contents) ran.inputs ran.given

  -- the partition is one
  below : part < length ran.system.conf.parts
  below =
      inside_one (length ran.system.conf.parts) belongs.earlier named belongs.later
      (subst (AreForPartitions (length ran.system.conf.parts)) belongs.named (scripts_inside (length ran.system.conf.parts) options parts.0))

  -- the files that it reads beside its container
  abbrev rest_names : List (List ℕ)
  rest_names = file_names (inputs_in options) ++ name_if_any (upsets_in options)

  rest_is : run_inputs options ≡ rest_names
  rest_is = ap (λ (o : Option (List ℕ)). rest_names ++ name_if_any o) begun ∙ append-nil rest_names

  -- their contents
  read_rest : read_all files rest_names ≡ Ok (drop 1 contents)
  read_rest = subst (λ (names : List (List ℕ)). read_all files names ≡ Ok (drop 1 contents)) rest_is (box.read ∙ ap Ok (sym (ap (drop 1) box.all)))

  short_rest : first_long rest_names (drop 1 contents) ≡ None
  short_rest = subst (λ (names : List (List ℕ)). first_long names (drop 1 contents) ≡ None) rest_is (rest_short container (run_inputs options) contents ran.short)

  -- its input words
  given_words : GivenBy files (replay_input further) [] (slice_index_or ran.inputs part [])
  given_words =
      let long : length (no_inputs (length ran.system.conf.parts)) ≡ length ran.system.conf.parts = length-replicate (length ran.system.conf.parts) [] in
      let room : part < length (no_inputs (length ran.system.conf.parts)) = (let inside = below in omega (arith, inside, long)) in
      let all = given_for files part (inputs_in options) (name_if_any (upsets_in options)) (drop 1 contents) (no_inputs (length ran.system.conf.parts)) ran.inputs read_rest short_rest parts.1 room in
      subst (λ (o : Option (List ℕ)). GivenBy files o [] (slice_index_or ran.inputs part [])) (sym belongs.input)
      (subst (λ (had : List ℕ). GivenBy files (input_of part (inputs_in options)) had (slice_index_or ran.inputs part [])) (no_words (length ran.system.conf.parts) part) all)

  input : HasInput files (replay_input further) (slice_index_or ran.inputs part [])
  input = has_input files (replay_input further) (slice_index_or ran.inputs part []) given_words

  -- its file after the run
  input_kept : HasFile after (replay_input further) input.bytes
  input_kept = has_kept files after (replay_input further) input.bytes (λ file is. run.kept file (subst (IsUntouched (writes_of (Run container options))) is belongs.given)) input.file

  -- the bytes of the upsets
  abbrev struck : List ℕ
  struck = bytes_if_any (upsets_in options) (content (length (inputs_in options)) (drop 1 contents))

  -- their file after the run
  struck_kept : HasFile after (replay_upsets further) struck
  struck_kept =
      has_kept files after (replay_upsets further) struck (λ file is. run.kept file (subst (IsUntouched (writes_of (Run container options))) is belongs.kept))
      (subst (λ (named : Option (List ℕ)). HasFile files named struck) (sym belongs.struck) (struck_there files (inputs_in options) (upsets_in options) (drop 1 contents) read_rest short_rest))

  -- what the replay reads
  both : HasBoth after (replay_input further) (replay_upsets further) box.bytes (script_bytes ran.upsets system ticks part) input.bytes struck
  both = has_both after (replay_input further) (replay_upsets further) box.bytes (script_bytes ran.upsets system ticks part) input.bytes struck input_kept struck_kept

  abbrev after_contents : List (List ℕ)
  after_contents = box.bytes ∷ script_bytes ran.upsets system ticks part ∷ both.contents

  read_after : read_all after (container ∷ script_name ∷ replay_inputs further) ≡ Ok after_contents
  read_after = (let there = run.kept container belongs.unwritten ∙ box.there in rw (there, script_there, both.read) refl)

  short_after : first_long (container ∷ script_name ∷ replay_inputs further) after_contents ≡ None
  short_after =
      let few = script_short ran.upsets system ticks belongs.earlier named belongs.later ran.scripts (ap (scripts_for ran.upsets system ticks) (sym belongs.named) ∙ ran.made) in
      let script_test : nat_lt FILE_BYTES (length (script_bytes ran.upsets system ticks part)) ≡ false = grind (arith, nat_tests) in
      let box_test = first_short container (run_inputs options) box.bytes box.others (subst (λ (c : List (List ℕ)). first_long (container ∷ run_inputs options) c ≡ None) box.all ran.short) in
      rw (box_test, script_test) both.short

  of_run : IsOfRun box.bytes part (script_bytes ran.upsets system ticks part) input.bytes struck ran.system ran.inputs ran.upsets ticks
  of_run = record {
    contained = holds box.bytes box.there;
    unpacks = ap unpacked (sym (ap (content 0) box.all)) ∙ ran.unpacks;
    there = below;
    words = input.whole;
    given = input.given;
    most = ran.most;
    strikes = (let all : 0 + ticks ≡ ticks = omega arith in
        subst (λ (n : ℕ). upsets_from ran.system.conf 0 n struck ≡ Ok ran.upsets) all (upsets_are_read options ran.system.conf 0 ticks (drop 1 contents) ran.upsets ran.strikes));
    received = refl;
  }

  -- the answer of the replay
  answers_so : AnswersAsRun (answer words files) (answer others after) part (replay_core further)
  answers_so =
      let shows = law box.bytes part (script_bytes ran.upsets system ticks part) input.bytes struck ran.system ran.inputs ran.upsets ticks of_run in
      let begins : replay_of box.bytes part (script_bytes ran.upsets system ticks part) (replay_input_bytes further after_contents) (replay_upset_bytes further after_contents) ≡ Ok shows.replay =
      rw (both.words_are, both.struck_are) shows.begins in
      let comes = begun_outcome container part script_name further after_contents shows.replay short_after begins in
      let replay_answer : answer others after ≡ outcome_answer (played (replay_core further) shows.replay) after =
      answer_by others (Replay container part script_name further) after after_contents is_replay read_after ∙ ap (λ (o : Outcome). outcome_answer o after) comes in
      record {
        system = system;
        upsets = ran.upsets;
        ticks = ticks;
        printed = run.printed;
        done = ap (λ (a : Answer). a.status) replay_answer ∙ played_done (replay_core further) shows.replay after;
        lines = ap (λ (a : Answer). a.out) replay_answer ∙ played_out (replay_core further) shows.replay after ∙ ap texts shows.lines;
        core_file = ap (λ (a : Answer). a.files) replay_answer ∙ played_files (replay_core further) shows.replay after
            ∙ ap (λ (os : List Output). saved_all os after) (own_cores ran.upsets system ticks part shows.replay (replay_core further) shows.core);
      }

-- a run that makes a script begins with the boot of its system
scripts_boot : CommandsAreSpelled → (words : List (List ℕ)) (container : List ℕ) (options : List RunOption) (earlier later : List PartFile) (named : PartFile) → command_of words ≡ Some (Run container options) → scripts_in options ≡ earlier ++ named ∷ later
    → from_in options ≡ None
scripts_boot grammar words container options earlier later named is scripts = at (from_in options) refl
  where
    at : (o : Option (List ℕ)) → from_in options ≡ o → o ≡ None
    at None from = refl
    at (Some file) from =
        let none : [] ≡ earlier ++ named ∷ later = sym (run_unscripted grammar words container options is file from) ∙ scripts in
        let count : 0 ≡ length earlier + length (named ∷ later) = ap length none ∙ length-append earlier (named ∷ later) in
        absurd (omega (arith, count))

pub run_then_alone : RunIsReplayed → BootsAreBeginnings → CommandsAreSpelled → RunsThenAlone
run_then_alone law boots grammar words others files container options part script_name further is_run is_replay done belongs holds =
    let begun = scripts_boot grammar words container options belongs.earlier belongs.later (record { part = part; file = script_name }) is_run belongs.named in
    answers_so law words others files container options part script_name further is_replay belongs holds begun (has_run boots words files container options is_run done begun)
