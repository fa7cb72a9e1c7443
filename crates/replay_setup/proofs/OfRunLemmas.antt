-- A replay by the script of a run may begin, and shows the partition's part of the run.
use Rattle.std.proofs.Common.{◌≡◌, ℕ, ◌%◌, ◌^◌, ◌<◌, ◌≤◌, Bool, true, false, nat_eq, nat_le, if◌then◌else◌, List, [], ◌∷◌, ◌++◌, length, replicate, slice_set, codes, IfOk, Option, Some, None, Result, Ok, Err, refl, sym, ap, ◌∙◌, subst, arith}
use Rattle.std.specs.Prelude.{slice_get, slice_index_or}
use Rattle.std.proofs.lemmas.Bool.Decides.{nat_tests}
use Rattle.std.proofs.lemmas.List.{get_or-set_same, length-replicate}
use Rattle.xm_base.specs.Cursor.{Place, cursor_start as begin}
use Rattle.xm_base.specs.Options.{on}
use Rattle.file_headers.specs.Fields.{field_bytes}
use Rattle.file_headers.specs.Heads.{unsealed}
use Rattle.file_headers.specs.Steps.{unless}
use Rattle.xm_conf.specs.Configuration.{Conf}
use Rattle.xm_conf.specs.Description.{described}
use Rattle.xm_conf.specs.lemmas.FitLemmas.{fits_within}
use Rattle.xm_conf.specs.Fits.{Fits}
use Rattle.xm_conf.specs.Laws.{IsBrokenUnlessFits}
use Rattle.xm_conf.specs.Rules.{first_broken}
use Rattle.xm_conf.specs.declared.item.Broken.{Broken}
use Rattle.bin_config.specs.lemmas.RangeLemmas.{parts_few}
use Rattle.bin_config.specs.Reading as bin
use Rattle.bin_config.specs.Version.{parts_in_version}
use Rattle.fault_messages.specs.declared.fault.XmcFault.{XmcFault}
use Rattle.bin_config.specs.declared.version.Version.{Version}
use Rattle.cue_scripts.specs.Laws.{WrittenScriptIsRead}
use Rattle.cue_scripts.specs.Reading.{script_read as read_script}
use Rattle.cue_scripts.specs.Script.{IsScript}
use Rattle.loaded_system.specs.System as loaded
use Rattle.machine_model.specs.Alone.{Alone, alone_start}
use Rattle.machine_model.specs.CoreFile.{core_file}
use Rattle.machine_model.specs.Cue.{Cue}
use Rattle.machine_model.specs.Laws.{BootsAlone, alone_part_at}
use Rattle.machine_model.specs.Laws as laws
use Rattle.machine_model.specs.Lines.{end_line}
use Rattle.machine_model.specs.Lists.{is_number}
use Rattle.machine_model.specs.Machine.{start}
use Rattle.machine_model.specs.Partition.{PartitionState}
use Rattle.machine_model.specs.View.{PartitionView, System, part_of, view_of}
use Rattle.system_state.specs.Inputs.{words_in}
use Rattle.system_state.specs.State.{with_inputs}
use Rattle.recording_model.specs.Replayed.{first_refused, replay_lines, replayed, strikes_in}
use Rattle.loaded_system.specs.Inside.{first_outside}
use Rattle.upset_files.specs.Fits.{AllFit, FitsRun}
use Rattle.upset_files.specs.Laws.{ReadUpsetsAreSpelled, UpsetsAreRead}
use Rattle.upset_files.specs.Reading.{upsets_read}
use Rattle.upset_laws.specs.ReplayLaws.{ReceivesUpsetScripts, UpsetScriptIsTaken}
use Rattle.upset_laws.specs.ReportLaws.{OwnReports, SameUpsetCoreFile, alone_after}
use Rattle.upset_laws.specs.UpsetLaws.{AllUpsetTicks}
use Rattle.upset_model.specs.Places.{schedule_of}
use Rattle.upset_model.specs.Reports.{alone_reported, own_due, received_in}
use Rattle.upset_model.specs.Upsets.{Strike, alone_upset_from, alone_upset_said, own_strikes, upset_said}
use Rattle.upset_model.specs.declared.upset_line.UpsetLine.{UpsetLine}
use Rattle.xm_base.specs.declared.limits.TheConstants.{TICKS}
use Rattle.xm_container.specs.Entries.{Entries}
use Rattle.xm_container.specs.Numbers.{extra, missing}
use Rattle.xm_container.specs.Reading.{as_config, assigned, box_faults, box_short, conf_at, container_fields, length_at, system_in, image_table_at, unless_some, unpacked, version_in}
use Rattle.fault_messages.specs.declared.fault.BoxFault.{BoxFault}
use Rattle.replay_setup.proofs.RangeLemmas.{last_has, system_in_range, then_has}
use Rattle.replay_setup.specs.OfRun.{RunIsReplayed}
use Rattle.builders.specs.Ready.{NoPartition, fitting, inputs_given, replay_of, with_container, with_input, with_script, with_system, with_upsets}

-- What is unpacked meets the rules.

-- what meets the rules
abbrev Meets : Conf → Type 0
Meets conf = Fits (described conf)

unbroken_meets : IsBrokenUnlessFits → (v : Version) (conf : Conf) (o : Option Broken) → first_broken (parts_in_version v) (described conf) ≡ o → IfOk (bin.unbroken conf o) Meets
unbroken_meets law v conf None none = fits_within (parts_in_version v) (described conf) (parts_few v) ((law (parts_in_version v) (described conf)).0 none)
unbroken_meets law v conf (Some broken) some = tt

read_meets : IsBrokenUnlessFits → (want : Option Version) (bytes : List ℕ) → IfOk (bin.read_within want bytes) Meets
unfolding bin.read_within
read_meets law want bytes =
    last_has Meets (bin.head_at want (begin bytes)) _ (λ head. last_has Meets (bin.fields_at head.0 head.1) _ (λ conf.
    unbroken_meets law head.0 conf (first_broken (parts_in_version head.0) (described conf)) refl))

as_config_meets : (r : Result Conf XmcFault) → IfOk r Meets → IfOk (as_config r) Meets
as_config_meets (Ok conf) meets = meets
as_config_meets (Err fault) meets = tt

-- the configuration of a value that was read, and its configuration and images
abbrev ConfMeets : {T : Type 0} → Conf × T → Type 0
ConfMeets read = Meets read.0

conf_meets : IsBrokenUnlessFits → (v : Version) (place : Place) → IfOk (conf_at v place) ConfMeets
unfolding conf_at
conf_meets law v place =
    last_has ConfMeets (length_at place) _ (λ count. last_has ConfMeets (field_bytes box_short count.0 count.1) _ (λ bytes.
    then_has Meets ConfMeets (as_config (bin.read_as v bytes.0)) _ (as_config_meets (bin.read_as v bytes.0) (read_meets law (Some v) bytes.0)) (λ conf meets. meets)))

unless_meets : {T : Type 0} (test : Bool) (fault : BoxFault) (value : Conf × T) → Meets value.0 → IfOk (unless test fault value) ConfMeets
unless_meets true fault value meets = meets
unless_meets false fault value meets = tt

fields_meet : IsBrokenUnlessFits → (v : Version) (bytes : List ℕ) → IfOk (container_fields v bytes) ConfMeets
unfolding container_fields
fields_meet law v bytes =
    then_has ConfMeets ConfMeets (conf_at v (begin bytes)) _ (conf_meets law v (begin bytes)) (λ conf meets. last_has ConfMeets (image_table_at conf.1) _ (λ entries. unless_meets _ _ (conf.0, entries.0) meets))

-- of a system that was read
abbrev SystemMeets : loaded.System → Type 0
SystemMeets system = Meets system.conf

granted_meets : {X : Type 0} (refusal : X → BoxFault) (o : Option X) (later : Result loaded.System BoxFault) → IfOk later SystemMeets → IfOk (unless_some refusal o later) SystemMeets
granted_meets refusal None later meets = meets
granted_meets refusal (Some x) later meets = tt

assigned_meets : (conf : Conf) (entries : Entries) → Meets conf → IfOk (assigned conf entries) SystemMeets
unfolding assigned
assigned_meets conf entries meets =
    granted_meets _ (extra (length conf.parts) entries.ids) _ (granted_meets _ (missing (length conf.parts) entries.ids) _ (granted_meets _ (first_outside conf.parts entries.images) _ meets))

unpacked_meets : IsBrokenUnlessFits → (bytes : List ℕ) → IfOk (unpacked bytes) SystemMeets
unfolding unpacked system_in
unpacked_meets law bytes =
    last_has SystemMeets (unsealed box_faults (codes "XMPK") 2 bytes) system_in (λ front. last_has SystemMeets (version_in front) _ (λ v.
    then_has ConfMeets SystemMeets (container_fields v front) _ (fields_meet law v front) (λ fields meets. assigned_meets fields.0 fields.1 meets)))

system_fits : IsBrokenUnlessFits → (bytes : List ℕ) (system : loaded.System) → unpacked bytes ≡ Ok system → Fits (described system.conf)
system_fits law bytes system unpacks = subst (λ (r : Result loaded.System BoxFault). IfOk r SystemMeets) unpacks (unpacked_meets law bytes)

-- so it has few partitions
few_parts : (conf : Conf) → Fits (described conf) → length conf.parts ≤ 32
unfolding described
few_parts conf fits = fits.counts.parts.few

-- The input words of the partition.

-- this many partitions without words
abbrev no_words : ℕ → List (List ℕ)
no_words parts = replicate parts []

-- this many partitions, of which one has the words that bytes spell
abbrev lone_inputs : ℕ → ℕ → List ℕ → List (List ℕ)
lone_inputs parts p input = slice_set (no_words parts) p (words_in input)

are_given : (parts p : ℕ) (input : List ℕ) → length input % 4 ≡ 0 → inputs_given parts p input ≡ Ok (lone_inputs parts p input)
unfolding inputs_given
are_given parts p input words = (let test : nat_eq (length input % 4) 0 ≡ true = grind (arith, nat_tests, words) in rw test refl)

-- what the partition has of its own is the same as in the run
same_view : (system : loaded.System) (inputs : List (List ℕ)) (p : ℕ) (input : List ℕ) → p < length system.conf.parts → slice_index_or inputs p [] ≡ words_in input
    → view_of (with_inputs system (lone_inputs (length system.conf.parts) p input)) p ≡ view_of (with_inputs system inputs) p
unfolding view_of
same_view system inputs p input there is =
    let counted : length (no_words (length system.conf.parts)) ≡ length system.conf.parts = length-replicate (length system.conf.parts) [] in
    let words : slice_index_or (lone_inputs (length system.conf.parts) p input) p [] ≡ slice_index_or inputs p [] =
    get_or-set_same (no_words (length system.conf.parts)) p (words_in input) [] (omega (arith, there, counted)) ∙ sym is in
    ap (λ (own_words : List ℕ). record (view_of (with_inputs system inputs) p) { inputs = own_words }) words

-- The upsets.

-- those that fit a run fit a longer one
fit_longer : (conf : Conf) (ticks most before : ℕ) (lines : List UpsetLine) → ticks ≤ most → AllFit conf ticks before lines → AllFit conf most before lines
fit_longer conf ticks most before [] long fit = tt
fit_longer conf ticks most before (line ∷ lines) long fit =
    let one : FitsRun conf ticks before line = fit.0 in
    let reached : line.tick < ticks = one.reached in (
      record { partition = one.partition; place = one.place; address = one.address; bit = one.bit; order = one.order; reached = omega (arith, reached, long) },
      fit_longer conf ticks most line.tick lines long fit.1,
    )

-- so the text of those of a run has them for a longer one, too
read_longer : ReadUpsetsAreSpelled → UpsetsAreRead → (conf : Conf) (ticks most : ℕ) (text : List ℕ) (lines : List UpsetLine) → length conf.parts ≤ 2 ^ 64 → ticks ≤ most → most ≤ 2 ^ 64
    → upsets_read conf ticks text ≡ Ok lines → upsets_read conf most text ≡ Ok lines
read_longer spelled read conf ticks most text lines few long bounded is =
    let are = spelled conf 0 ticks text lines is in
    read conf 0 most text lines few bounded (record { spelled = are.spelled; few = are.few; fit = fit_longer conf ticks most 0 lines long are.fit })

-- The replay.

-- the outcome of the parts of a replay
begins_so : (system : loaded.System) (p : ℕ) (bytes input struck : List ℕ) (cues : List Cue) (upsets : List UpsetLine) → p < length system.conf.parts → length input % 4 ≡ 0
    → read_script system.conf p bytes ≡ Ok cues → upsets_read system.conf TICKS struck ≡ Ok upsets
    → first_refused upsets (view_of (with_inputs system (lone_inputs (length system.conf.parts) p input)) p) cues ≡ None
    → with_system p bytes input struck system ≡ Ok (record { system = with_inputs system (lone_inputs (length system.conf.parts) p input); p = p; cues = cues; upsets = upsets })
begins_so system p bytes input struck cues upsets there words reads strikes takes =
    let test : nat_le (length system.conf.parts) p ≡ false = grind (arith, nat_tests, there) in
    ap (λ (t : Bool). if t then Err NoPartition else with_script system p input struck (read_script system.conf p bytes)) test
    ∙ ap (with_script system p input struck) reads
    ∙ ap (with_input system p cues struck) (are_given (length system.conf.parts) p input words)
    ∙ ap (with_upsets system p cues (lone_inputs (length system.conf.parts) p input)) strikes
    ∙ ap (fitting (with_inputs system (lone_inputs (length system.conf.parts) p input)) p cues upsets) takes

replays_by : (container : List ℕ) (p : ℕ) (bytes input struck : List ℕ) (system : loaded.System) → unpacked container ≡ Ok system
    → replay_of container p bytes input struck ≡ with_system p bytes input struck system
unfolding replay_of
replays_by container p bytes input struck system unpacks = ap (with_container p bytes input struck) unpacks

-- the line of the end names the partition, and the upsets are those of its number
own_end : (upsets : List UpsetLine) (system : System) (p : ℕ) (cues : List Cue)
    → replay_lines upsets (view_of system p) cues
    ≡ alone_reported (view_of system p) (own_due p upsets) (alone_start (view_of system p)) cues
    ++ end_line p (alone_upset_from (view_of system p) (own_strikes p (schedule_of upsets)) (alone_start (view_of system p)) cues).state ∷ []
unfolding view_of
own_end upsets system p cues = refl

own_left : (upsets : List UpsetLine) (system : System) (p ticks : ℕ) → replayed upsets (view_of system p) (received_in upsets system p ticks) ≡ alone_after upsets system p ticks
unfolding view_of
own_left upsets system p ticks = refl

own_strike : (upsets : List UpsetLine) (system : System) (p : ℕ) → strikes_in upsets (view_of system p) ≡ own_strikes p (schedule_of upsets)
unfolding view_of
own_strike upsets system p = refl

-- a machine that boots runs its system
started_view : (system : System) (p : ℕ) → view_of (start system).system p ≡ view_of system p
unfolding start
started_view system p = refl

-- what is there is one thing
some_is : (a b : Alone) → Some a ≡ Some b → a ≡ b
some_is a b same = cc

part_none : (system : System) (p : ℕ) (a : Alone) → slice_get (start system).parts p ≡ None → alone_part_at (start system) p ≡ Some a → ⊥
unfolding alone_part_at
part_none system p a none is = (let both : None ≡ Some a = sym (ap (on (laws.part (start system) p)) none) ∙ is in cc)

part_some : (system : System) (p : ℕ) (ps : PartitionState) (a : Alone) → slice_get (start system).parts p ≡ Some ps → alone_part_at (start system) p ≡ Some a → laws.part (start system) p ps ≡ a
unfolding alone_part_at
part_some system p ps a some is = some_is (laws.part (start system) p ps) a (sym (ap (on (laws.part (start system) p)) some) ∙ is)

-- what a partition says in a run is what it says alone
said_alone : AllUpsetTicks → BootsAlone → (upsets : List UpsetLine) (system : System) (p ticks : ℕ) → p < length system.conf.parts
    → upset_said (schedule_of upsets) (start system) ticks p
    ≡ alone_upset_said (view_of system p) (own_strikes p (schedule_of upsets)) (alone_start (view_of system p)) (received_in upsets system p ticks)
said_alone all boots upsets system p ticks there = at (slice_get (start system).parts p) refl
  where
    at : (o : Option PartitionState) → slice_get (start system).parts p ≡ o
        → upset_said (schedule_of upsets) (start system) ticks p
        ≡ alone_upset_said (view_of system p) (own_strikes p (schedule_of upsets)) (alone_start (view_of system p)) (received_in upsets system p ticks)
    at None none = absurd (part_none system p (alone_start (view_of system p)) none (boots system p there))
    at (Some ps) some =
        let is = all ticks (schedule_of upsets) (start system) p ps some in
        let cues : List Cue = received_in upsets system p ticks in
        is.said ∙ ap (λ (v : PartitionView). alone_upset_said v (own_strikes p (schedule_of upsets)) (laws.part (start system) p ps) cues) (started_view system p)
        ∙ ap (λ (a : Alone). alone_upset_said (view_of system p) (own_strikes p (schedule_of upsets)) a cues)
        (part_some system p ps (alone_start (view_of system p)) some (boots system p there))

pub runs_replayed : AllUpsetTicks → BootsAlone → IsBrokenUnlessFits → OwnReports → SameUpsetCoreFile → UpsetScriptIsTaken → ReceivesUpsetScripts → ReadUpsetsAreSpelled → UpsetsAreRead → WrittenScriptIsRead
    → RunIsReplayed
runs_replayed all boots law lines_law core_law takes receives spelled read_law reads container p bytes input struck system inputs upsets ticks is =
    let booted = with_inputs system inputs in
    let lone = with_inputs system (lone_inputs (length system.conf.parts) p input) in
    let cues = received_in upsets booted p ticks in
    let fits : Fits (described system.conf) = system_fits law container system is.unpacks in
    let parts : length system.conf.parts ≤ 32 = few_parts system.conf fits in
    let view : view_of lone p ≡ view_of booted p = same_view system inputs p input is.there is.given in
    let most : ticks ≤ TICKS = is.most in
    let fit : AllFit system.conf ticks 0 upsets = (spelled system.conf 0 ticks struck upsets is.strikes).fit in
    let own_script : IsScript system.conf p cues = receives upsets booted p ticks fits (system_in_range container system inputs is.contained is.unpacks) fit (omega (arith, most)) in
    let few : p < 256 = omega (arith, is.there, parts) in
    let read : read_script system.conf p bytes ≡ Ok cues = ap (read_script system.conf p) is.received ∙ reads system.conf p cues few own_script in
    let strikes : upsets_read system.conf TICKS struck ≡ Ok upsets = read_longer spelled read_law system.conf ticks TICKS struck upsets (omega (arith, parts)) most (omega arith) is.strikes in
    let taken : first_refused upsets (view_of lone p) cues ≡ None = ap (λ (v : PartitionView). first_refused upsets v cues) view ∙ takes upsets booted p ticks fits is.there in
    let left : replayed upsets (view_of lone p) cues ≡ alone_after upsets booted p ticks = ap (λ (v : PartitionView). replayed upsets v cues) view ∙ own_left upsets booted p ticks in
    record {
      replay = record { system = lone; p = p; cues = cues; upsets = upsets };
      begins = replays_by container p bytes input struck system is.unpacks ∙ begins_so system p bytes input struck cues upsets is.there is.words read strikes taken;
      lines = ap (λ (v : PartitionView). replay_lines upsets v cues) view ∙ own_end upsets booted p cues ∙ sym (lines_law upsets booted p ticks is.there);
      core = core_law upsets booted p ticks is.there ∙ ap (λ (v : PartitionView). Some (core_file v (alone_after upsets booted p ticks).state)) (sym view)
          ∙ ap (λ (a : Alone). Some (core_file (view_of lone p) a.state)) (sym left);
      said = λ uart. ap (λ (bytes : List ℕ). if is_number (part_of system.conf p).console uart then bytes else [])
          (ap (λ (v : PartitionView). alone_upset_said v (strikes_in upsets v) (alone_start v) cues) view
          ∙ ap (λ (own : ℕ → List Strike). alone_upset_said (view_of booted p) own (alone_start (view_of booted p)) cues) (own_strike upsets booted p)
          ∙ sym (said_alone all boots upsets booted p ticks is.there));
    }
