-- What partitions receive in a run has its numbers.
use Rattle.std.proofs.Common.{◌≡◌, ℕ, List, [], ◌∷◌, drop, Option, Some, Result, Ok, Err, IfOk, refl, sym, ap, ◌∙◌, subst}
use Rattle.std.specs.Prelude.{All}
use Rattle.std.proofs.lemmas.List.Elements.{All-head, All-tail}
use Rattle.xm_outside.specs.Files.{Files}
use Rattle.loaded_system.specs.System.{System}
use Rattle.xm_conf.specs.Configuration.{Conf}
use Rattle.machine_model.specs.Machine.{Machine, start}
use Rattle.machine_model.specs.View.{System as Booted}
use Rattle.system_state.specs.State.{with_inputs}
use Rattle.xm_container.specs.Reading.{unpacked}
use Rattle.builders.specs.declared.unmade.Unmade.{Unmade}
use Rattle.builders.specs.declared.unmade.Unmade.TheVariants as unmade
use Rattle.command_line.specs.Words.{PartFile, RunOption, save_in, scripts_in, span_in}
use Rattle.upset_model.specs.Places.{schedule_of}
use Rattle.upset_model.specs.declared.upset_line.UpsetLine.{UpsetLine}
use Rattle.file_commands.specs.Ending.{Ending, Done, Usage, ReadFault, Refused, WriteFaultReport, WriteFaultFile, UartFault, NoMemory}
use Rattle.file_commands.specs.Makes.{IsUnmadeOf}
use Rattle.run_commands.specs.Numbers.{ReceivesNumbers, AllReceiveNumbers, HasScripts, IsStored, ReceivesIn, ReceivesOf, StoresIn, StoresOf}
use Rattle.run_commands.specs.declared.recording.Recording.{Recording}
use Rattle.run_commands.specs.lemmas.NumbersTerms.{ReceivesShort, StoresShort}
use Rattle.run_commands.specs.declared.beginning.Beginning.{Beginning}
use Rattle.run_commands.specs.declared.beginning.Beginning.TheVariants.{Boot, Saved}
use Rattle.run_commands.specs.declared.readiness.ReadyRun.{ReadyRun}
use Rattle.run_commands.specs.lemmas.Beginnings.{IsNamed, MayHaveScripts, machine_of, machine_with}
use Rattle.run_commands.specs.lemmas.ReadyRuns.{IsReady, ReadyNumbers, ReadyStores}
use Rattle.run_commands.proofs.BeginLemmas.{machine_conf}
use Rattle.continuation_laws.specs.Onward.{after_ticks}
use Rattle.run_commands.specs.lemmas.Recordings.{IsRecorded, parts_of}
use Rattle.file_commands.specs.Outcome.{content, run_inputs, ticks_asked, upsets_for}
use Rattle.file_commands.specs.Work.{AreNotRead, Outside, ReadsFiles}
use Rattle.run_commands.specs.lemmas.ContentLemmas.{are_whole}
use Rattle.run_commands.proofs.ScriptLemmas.{next_recording, recorded_parts}

-- Endings.

-- a call that is refused, or that ran out of memory, made no scripts
pub never_unpacked : (e : Ending) (file : List ℕ) (why : Unmade) → IsUnmadeOf e file why → HasScripts e → ⊥
never_unpacked e file (unmade.Refused text) ends is = subst HasScripts ends is
never_unpacked e file unmade.Memory ends is = subst HasScripts ends is

-- and one whose files were not all read
pub unread_unmade : (e : Ending) (files : List (List ℕ)) (before after : Outside) → AreNotRead e files before after → HasScripts e → ⊥
unread_unmade Done files before after not_read is = not_read
unread_unmade Usage files before after not_read is = is
unread_unmade (ReadFault file) files before after not_read is = is
unread_unmade (Refused file text) files before after not_read is = is
unread_unmade WriteFaultReport files before after not_read is = not_read
unread_unmade (WriteFaultFile file) files before after not_read is = not_read
unread_unmade (UartFault place) files before after not_read is = not_read
unread_unmade NoMemory files before after not_read is = is

-- Recordings, one for each script.

-- what is recorded has its numbers, whether a script is made of it or not
pub recorded_numbers : {X E : Type 0} (made : Result X E) (upsets : List UpsetLine) (system : Booted) (ticks : ℕ) (recordings : List Recording) (names : List PartFile) → recorded_parts recordings ≡ parts_of names
    → All (IsRecorded (schedule_of upsets) (start system) ticks) recordings → IfOk made (λ _. AllReceiveNumbers upsets system ticks names)
recorded_numbers made upsets system ticks recordings names same have = for_made made (at recordings names same have)
  where
    for_made : {X E P : Type 0} (made : Result X E) → P → IfOk made (λ _. P)
    for_made (Ok scripts) holds = holds
    for_made (Err ending) holds = tt

    at : (recordings : List Recording) (names : List PartFile) → recorded_parts recordings ≡ parts_of names → All (IsRecorded (schedule_of upsets) (start system) ticks) recordings → AllReceiveNumbers upsets system ticks names
    at recordings [] same have = tt
    at [] (named ∷ names) same have = absurd cc
    at (one ∷ recordings) (named ∷ names) same have =
        let next = next_recording (one ∷ recordings) recordings one (named ∷ names) names named refl refl same in
        let first = All-head (IsRecorded (schedule_of upsets) (start system) ticks) one recordings have in
        (subst (ReceivesNumbers upsets system ticks) next.0 first.numbers, at recordings names next.1 (All-tail (IsRecorded (schedule_of upsets) (start system) ticks) one recordings have))

-- A run, by the outcome of its files.

-- what was read is what is given
same_read : {X E : Type 0} (read : Result X E) (one other : X) → read ≡ Ok one → read ≡ Ok other → one ≡ other
same_read {X} {E} read one other is also = (let both : (let found : Result X E = Ok one in found ≡ Ok other) = sym is ∙ also in cc)

-- what partitions receive in a run that is ready has its numbers
pub ready_numbers : (options : List RunOption) (contents : List (List ℕ)) (system : System) (ready : ReadyRun) → IsReady options contents system ready → ReadyNumbers options contents system
unfolding start
ready_numbers options contents system ready is inputs upsets given struck =
    at ready.beginning ready.ticks ready.upsets.items is.named is.ticks is.struck is.scripts is.numbers
  where
    at : (b : Beginning) (ticks : ℕ) (found : List UpsetLine) → IsNamed options contents system b → ticks ≡ ticks_asked (span_in options) system.conf
        → upsets_for system.conf (machine_of system b).ticks ticks options (drop 1 contents) ≡ Ok found → MayHaveScripts b (scripts_in options)
        → AllReceiveNumbers found (machine_of system b).system ticks (scripts_in options) → AllReceiveNumbers upsets (with_inputs system inputs) (ticks_asked (span_in options) system.conf) (scripts_in options)
    at (Boot words) ticks found named asked read may numbers =
        let same_words : words ≡ inputs = same_read _ words inputs named.1 given in
        let same_lines : found ≡ upsets = same_read _ found upsets (ap (λ n. upsets_for system.conf 0 n options (drop 1 contents)) (sym asked) ∙ read) struck in
        subst (λ (lines : List UpsetLine). AllReceiveNumbers lines (with_inputs system inputs) (ticks_asked (span_in options) system.conf) (scripts_in options)) same_lines
        (subst (λ (w : List (List ℕ)). AllReceiveNumbers found (with_inputs system w) (ticks_asked (span_in options) system.conf) (scripts_in options)) same_words
        (subst (λ n. AllReceiveNumbers found (with_inputs system words) n (scripts_in options)) asked numbers))
    at (Saved saved) ticks found named asked read may numbers =
        subst (AllReceiveNumbers upsets (with_inputs system inputs) (ticks_asked (span_in options) system.conf)) (sym may) tt

-- so has the machine that it saves
pub ready_stores : (options : List RunOption) (contents : List (List ℕ)) (system : System) (ready : ReadyRun) → IsReady options contents system ready → ReadyStores options contents system
ready_stores options contents system ready is inputs g upsets given begins struck =
    let m = machine_of system ready.beginning in
    let same : m ≡ g = same_read _ m g (sym (ap (machine_with options contents system) given) ∙ is.first) begins in
    subst (λ (h : Machine). upsets_for h.system.conf h.ticks (ticks_asked (span_in options) h.system.conf) options (drop 1 contents) ≡ Ok upsets → IsStored (save_in options) (after_ticks upsets h (ticks_asked (span_in options) h.system.conf)))
    same (at m (machine_conf system ready.beginning) ready.ticks ready.upsets.items is.ticks is.struck is.stored) struck
  where
    at : (m : Machine) → m.system.conf ≡ system.conf → (ticks : ℕ) (found : List UpsetLine) → ticks ≡ ticks_asked (span_in options) system.conf → upsets_for system.conf m.ticks ticks options (drop 1 contents) ≡ Ok found
        → IsStored (save_in options) (after_ticks found m ticks)
        → upsets_for m.system.conf m.ticks (ticks_asked (span_in options) m.system.conf) options (drop 1 contents) ≡ Ok upsets → IsStored (save_in options) (after_ticks upsets m (ticks_asked (span_in options) m.system.conf))
    at m conf ticks found asked read stored other =
        let count : ticks ≡ ticks_asked (span_in options) m.system.conf = asked ∙ ap (ticks_asked (span_in options)) (sym conf) in
        let here : upsets_for m.system.conf m.ticks (ticks_asked (span_in options) m.system.conf) options (drop 1 contents) ≡ Ok found =
        ap (λ (c : Conf). upsets_for c m.ticks (ticks_asked (span_in options) m.system.conf) options (drop 1 contents)) conf
        ∙ ap (λ n. upsets_for system.conf m.ticks n options (drop 1 contents)) (sym count) ∙ read in
        let lines : found ≡ upsets = same_read _ found upsets here other in
        subst (λ n. IsStored (save_in options) (after_ticks upsets m n)) count (subst (λ (ls : List UpsetLine). IsStored (save_in options) (after_ticks ls m ticks)) lines stored)

-- the system of the container
pub received_system : (options : List RunOption) (contents : List (List ℕ)) (system : System) → unpacked (content 0 contents) ≡ Ok system → ReadyNumbers options contents system → ReceivesIn options contents
received_system options contents system is have other inputs upsets unpacks = subst (ReadyNumbers options contents) (same_read _ system other is unpacks) have inputs upsets

pub stored_system : (options : List RunOption) (contents : List (List ℕ)) (system : System) → unpacked (content 0 contents) ≡ Ok system → ReadyStores options contents system → StoresIn options contents
stored_system options contents system is have other inputs g upsets unpacks = subst (ReadyStores options contents) (same_read _ system other is unpacks) have inputs g upsets

-- what the contents of a run's files say
pub received_whole : (container : List ℕ) (options : List RunOption) (held : Option Files) (fronts : List (List ℕ)) → ReadsFiles held (container ∷ run_inputs options) fronts
    → ReceivesShort container options fronts → ReceivesOf container options held
received_whole container options held fronts read receives files known contents all =
    let reads : ReadsFiles (Some files) (container ∷ run_inputs options) fronts = subst (λ (o : Option Files). ReadsFiles o (container ∷ run_inputs options) fronts) known read in
    let is = are_whole files (container ∷ run_inputs options) fronts reads in
    let same : is.contents ≡ contents = (let both : Ok is.contents ≡ Ok contents = sym is.read ∙ all in cc) in
    let whole : fronts ≡ contents = is.whole (sym is.long ∙ receives.short) ∙ same in
    subst (ReceivesIn options) whole receives.received

pub stored_whole : (container : List ℕ) (options : List RunOption) (held : Option Files) (fronts : List (List ℕ)) → ReadsFiles held (container ∷ run_inputs options) fronts
    → StoresShort container options fronts → StoresOf container options held
stored_whole container options held fronts read stores files known contents all =
    let reads : ReadsFiles (Some files) (container ∷ run_inputs options) fronts = subst (λ (o : Option Files). ReadsFiles o (container ∷ run_inputs options) fronts) known read in
    let is = are_whole files (container ∷ run_inputs options) fronts reads in
    let same : is.contents ≡ contents = (let both : Ok is.contents ≡ Ok contents = sym is.read ∙ all in cc) in
    let whole : fronts ≡ contents = is.whole (sym is.long ∙ stores.short) ∙ same in
    subst (StoresIn options) whole stores.stored
