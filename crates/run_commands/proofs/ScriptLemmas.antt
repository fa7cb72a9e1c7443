-- Files that are made before a run, and written after its core files.
use Rattle.std.proofs.Common.{◌≡◌, ℕ, ◌+◌, ◌<◌, ◌≤◌, ◌⊎◌, inl, inr, true, false, nat_lt, List, [], ◌∷◌, ◌++◌, length, map, drop, Option, Some, None, Result, Ok, Err, get_or, refl, sym, ap, ◌∙◌, subst, arith, append_assoc}
use Rattle.std.proofs.Math.Nat.{zero-add}
use Rattle.std.specs.Prelude.{All}
use Rattle.std.specs.List.{AllByRecursion}
use Rattle.std.proofs.lemmas.Bool.Decides.{nat_tests}
use Rattle.std.proofs.lemmas.List.{append-nil, at_drop_more, length-map, map-append}
use Rattle.std.proofs.lemmas.List.Elements.{All-from_recursion, All-head, All-nil, All-tail}
use Rattle.xm_base.specs.declared.limits.TheConstants.{FILE_BYTES}
use Rattle.xm_outside.specs.Causes.{Rose}
use Rattle.xm_outside.specs.Files.{OthersStay}
use Rattle.machine_model.specs.Machine.{Machine, start}
use Rattle.machine_model.specs.View.{System as Booted}
use Rattle.command_line.specs.Words.{PartFile}
use Rattle.std.specs.String.{string_bytes}
use Rattle.fault_messages.specs.Texts.{script_fault_text}
use Rattle.cue_scripts.specs.Written.{IsScriptFile}
use Rattle.fault_messages.specs.declared.fault.ScriptFault.{ScriptFault}
use Rattle.fault_messages.specs.declared.fault.ScriptFault.TheVariants as fault
use Rattle.builders.specs.Makes.{IsRefusalText}
use Rattle.builders.specs.declared.unmade.Unmade.{Unmade}
use Rattle.builders.specs.declared.unmade.Unmade.TheVariants as unmade
use Rattle.file_commands.specs.Makes.{IsUnmadeOf}
use Rattle.file_commands.specs.Denial.{Denial}
use Rattle.file_commands.specs.Ending.{Ending, Done, Usage, ReadFault, Refused, WriteFaultReport, WriteFaultFile, UartFault, NoMemory}
use Rattle.continuation_laws.specs.Onward.{coming}
use Rattle.upset_model.specs.Places.{due, schedule_of, upset_of, upsets_of}
use Rattle.upset_model.specs.Upsets.{Schedule}
use Rattle.upset_model.specs.declared.upset_line.UpsetLine.{UpsetLine}
use Rattle.file_commands.specs.Outcome.{Output, script_before, script_bytes, script_denial, script_output, scripts_for, unless_denied}
use Rattle.run_commands.specs.declared.recording.Recording.{Recording}
use Rattle.run_commands.specs.lemmas.Cores.{AreForPartitions}
use Rattle.run_commands.specs.lemmas.Recordings.{IsRecorded, parts_of}
use Rattle.run_commands.specs.lemmas.Made.{made_or}
use Rattle.file_commands.specs.EndingValues.{AreSaved, ending_of}
use Rattle.file_commands.specs.lemmas.EndingValuesTerms.{IsDenied}
use Rattle.file_commands.specs.declared.ending.Ending as code
use Rattle.file_commands.specs.Work.{Outside, AreNotSaved, IsLostOf, SavesAll, after_store_call, with_files, wrote}
use Rattle.run_commands.specs.lemmas.CoreLemmas.{saves_after}

-- One script.

-- one that is not too long
pub script_made : (upsets : List UpsetLine) (system : Booted) (ticks part : ℕ) (file bytes : List ℕ) → bytes ≡ script_bytes upsets system ticks part → length (script_bytes upsets system ticks part) ≤ FILE_BYTES
    → made_or (script_denial upsets system ticks (record { part = part; file = file })) (script_output upsets system ticks (record { part = part; file = file })) ≡ Ok (record { file = file; bytes = bytes })
script_made upsets system ticks part file bytes is few =
    let test : nat_lt FILE_BYTES (length (script_bytes upsets system ticks part)) ≡ false = grind (arith, nat_tests, few) in
    rw test (ap (λ (b : List ℕ). Ok (record { file = file; bytes = b })) (sym is))

-- one that is
pub script_long : (upsets : List UpsetLine) (system : Booted) (ticks part : ℕ) (file : List ℕ) (found : ℕ) → found ≡ length (script_bytes upsets system ticks part) → FILE_BYTES < length (script_bytes upsets system ticks part)
    → made_or (script_denial upsets system ticks (record { part = part; file = file })) (script_output upsets system ticks (record { part = part; file = file })) ≡ Err (record { file = file; text = script_fault_text (fault.Length found) })
script_long upsets system ticks part file found is long =
    let test : nat_lt FILE_BYTES (length (script_bytes upsets system ticks part)) ≡ true = grind (arith, nat_tests, long) in
    rw test (ap (λ (n : ℕ). Err (record { file = file; text = script_fault_text (fault.Length n) })) (sym is))

-- one that was not made
pub script_unmade : {X : Type 0} (view : X → List ℕ) (upsets : List UpsetLine) (system : Booted) (ticks part : ℕ) (file : List ℕ) (why : ScriptFault) (said : Unmade) (e : Ending)
    → IsScriptFile view (script_bytes upsets system ticks part) (Err why) → IsRefusalText said (script_fault_text why) → (why ≡ fault.Memory → said ≡ unmade.Memory) → IsUnmadeOf e file said
    → IsDenied e (made_or (script_denial upsets system ticks (record { part = part; file = file })) (script_output upsets system ticks (record { part = part; file = file })))
script_unmade view upsets system ticks part file (fault.Length found) (unmade.Refused words) e is stated memory ends =
    let text_is : string_bytes words ≡ script_fault_text (fault.Length found) = stated in
    rw (ends, text_is) (script_long upsets system ticks part file found is.0 is.1)
script_unmade view upsets system ticks part file (fault.Length found) unmade.Memory e is stated memory ends = rw ends tt
script_unmade view upsets system ticks part file fault.Memory said e is stated memory ends =
    let starved : said ≡ unmade.Memory = memory refl in
    let ended : e ≡ NoMemory = subst (IsUnmadeOf e file) starved ends in
    rw ended tt
script_unmade view upsets system ticks part file fault.Magic said e is stated memory ends = absurd is
script_unmade view upsets system ticks part file (fault.Version found) said e is stated memory ends = absurd is
script_unmade view upsets system ticks part file (fault.Short at) said e is stated memory ends = absurd is
script_unmade view upsets system ticks part file (fault.Trailing at) said e is stated memory ends = absurd is
script_unmade view upsets system ticks part file (fault.Field at) said e is stated memory ends = absurd is
script_unmade view upsets system ticks part file (fault.Cue tick) said e is stated memory ends = absurd is

-- Recordings, one for each script.

-- their partitions, in their order
abbrev pub recorded_parts : List Recording → List ℕ
recorded_parts recordings = map (λ (recording : Recording). recording.p) recordings

-- before the first there is none
pub none_begun : (recordings : List Recording) (all : List PartFile) → recordings ≡ [] → recorded_parts recordings ++ parts_of all ≡ parts_of all
none_begun recordings all none = ap (λ (rs : List Recording). recorded_parts rs ++ parts_of all) none

-- one more, for the next of the scripts that are left
pub one_begun : (recordings more : List Recording) (one : Recording) (all rest others : List PartFile) (named : PartFile) → rest ≡ named ∷ others → one.p ≡ named.part → more ≡ recordings ++ one ∷ []
    → recorded_parts recordings ++ parts_of rest ≡ parts_of all → recorded_parts more ++ parts_of others ≡ parts_of all
one_begun recordings more one all rest others named is part added goes =
    ap (λ (rs : List Recording). recorded_parts rs ++ parts_of others) added
    ∙ ap (λ (ps : List ℕ). ps ++ parts_of others) (map-append (λ (recording : Recording). recording.p) recordings (one ∷ []))
    ∙ append_assoc (recorded_parts recordings) (one.p ∷ []) (parts_of others)
    ∙ ap (λ (p : ℕ). recorded_parts recordings ++ p ∷ parts_of others) part
    ∙ ap (λ (names : List PartFile). recorded_parts recordings ++ parts_of names) (sym is)
    ∙ goes

-- all have one
pub all_begun : (recordings : List Recording) (all rest : List PartFile) → rest ≡ [] → recorded_parts recordings ++ parts_of rest ≡ parts_of all → recorded_parts recordings ≡ parts_of all
all_begun recordings all rest none goes =
    sym (append-nil (recorded_parts recordings)) ∙ ap (λ (names : List PartFile). recorded_parts recordings ++ parts_of names) (sym none) ∙ goes

-- the first is for the first of the scripts, and the others are for the others
pub next_recording : (more recordings : List Recording) (one : Recording) (rest others : List PartFile) (named : PartFile) → more ≡ one ∷ recordings → rest ≡ named ∷ others → recorded_parts more ≡ parts_of rest
    → (one.p ≡ named.part) × (recorded_parts recordings ≡ parts_of others)
next_recording more recordings one rest others named taken is same =
    let both : one.p ∷ recorded_parts recordings ≡ named.part ∷ parts_of others = ap recorded_parts (sym taken) ∙ same ∙ ap parts_of is in
    (cc, cc)

-- where there is none, there is no script
pub no_recording : (recordings : List Recording) (names : List PartFile) → length recordings ≡ 0 → recorded_parts recordings ≡ parts_of names → names ≡ []
no_recording [] [] none same = refl
no_recording [] (named ∷ names) none same = absurd cc
no_recording (one ∷ recordings) names none same = absurd cc

-- their partitions are some of these
pub all_inside : (parts : ℕ) (recordings : List Recording) (names : List PartFile) → recorded_parts recordings ≡ parts_of names → AreForPartitions parts names
    → All (λ (recording : Recording). recording.p < parts) recordings
all_inside parts recordings names same inside = All-from_recursion (λ (recording : Recording). recording.p < parts) recordings (at recordings names same inside)
  where
    at : (recordings : List Recording) (names : List PartFile) → recorded_parts recordings ≡ parts_of names → AreForPartitions parts names
        → AllByRecursion (λ (recording : Recording). recording.p < parts) recordings
    at [] names same inside = tt
    at (one ∷ recordings) [] same inside = absurd cc
    at (one ∷ recordings) (named ∷ names) same inside =
        let next = next_recording (one ∷ recordings) recordings one (named ∷ names) names named refl refl same in
        (omega (arith, next.0, inside.0), at recordings names next.1 inside.1)

-- there are as many as there were
pub as_many : (old new : List Recording) → recorded_parts new ≡ recorded_parts old → length new ≡ length old
as_many old new same =
    sym (length-map new (λ (recording : Recording). recording.p)) ∙ ap length same ∙ length-map old (λ (recording : Recording). recording.p)

-- what is recorded of the first, and of the others
pub first_recorded : (s : Schedule) (g : Machine) (ticks : ℕ) (more recordings : List Recording) (one : Recording) → more ≡ one ∷ recordings → All (IsRecorded s g ticks) more
    → IsRecorded s g ticks one × All (IsRecorded s g ticks) recordings
first_recorded s g ticks more recordings one is all =
    let both = subst (All (IsRecorded s g ticks)) is all in
    (All-head (IsRecorded s g ticks) one recordings both, All-tail (IsRecorded s g ticks) one recordings both)

-- what is recorded of a machine that boots is what its system receives; and where there are no scripts there is nothing
pub recorded_boot : (upsets : List UpsetLine) (g : Machine) (ticks : ℕ) (recordings : List Recording) (names : List PartFile) → recorded_parts recordings ≡ parts_of names → (names ≡ []) ⊎ (g ≡ start g.system)
    → All (IsRecorded (upsets_of (coming upsets g)) g ticks) recordings → All (IsRecorded (schedule_of upsets) (start g.system) ticks) recordings
unfolding start
recorded_boot upsets g ticks recordings names same (inl none) have = at recordings (same ∙ ap parts_of none)
  where
    at : (recordings : List Recording) → recorded_parts recordings ≡ [] → All (IsRecorded (schedule_of upsets) (start g.system) ticks) recordings
    at [] none = All-nil (IsRecorded (schedule_of upsets) (start g.system) ticks)
    at (one ∷ others) none = absurd cc
recorded_boot upsets g ticks recordings names same (inr boots) have =
    subst (λ (s : Schedule). All (IsRecorded s (start g.system) ticks) recordings) (booted_schedule upsets g.system)
    (subst (λ (m : Machine). All (IsRecorded (upsets_of (coming upsets m)) m ticks) recordings) boots have)
  where
    booted_schedule : (upsets : List UpsetLine) (system : Booted) → upsets_of (coming upsets (start system)) ≡ schedule_of upsets
    booted_schedule upsets system = λ i k. map upset_of (due upsets (zero-add k i))

-- Scripts, one after another.

-- scripts before others
abbrev pub scripts_before : List Output → Result (List Output) Denial → Result (List Output) Denial
scripts_before first (Ok outputs) = Ok (first ++ outputs)
scripts_before first (Err refusal) = Err refusal

-- before the first there is none
none_before : (made : Result (List Output) Denial) → made ≡ scripts_before [] made
none_before (Ok outputs) = refl
none_before (Err refusal) = refl

-- so it begins
pub scripts_begun : (upsets : List UpsetLine) (system : Booted) (ticks : ℕ) (all rest : List PartFile) (first : List Output) → rest ≡ all → first ≡ []
    → scripts_for upsets system ticks all ≡ scripts_before first (scripts_for upsets system ticks rest)
scripts_begun upsets system ticks all rest first same none =
    none_before (scripts_for upsets system ticks all) ∙ ap (λ (outputs : List Output). scripts_before outputs (scripts_for upsets system ticks all)) (sym none)
    ∙ ap (λ (names : List PartFile). scripts_before first (scripts_for upsets system ticks names)) (sym same)

-- one before others, after the first
one_before : (first : List Output) (output : Output) (made : Result (List Output) Denial) → scripts_before first (script_before output made) ≡ scripts_before (first ++ output ∷ []) made
one_before first output (Ok outputs) = ap Ok (sym (append_assoc first (output ∷ []) outputs))
one_before first output (Err refusal) = refl

-- the next one was made
pub next_made : (upsets : List UpsetLine) (system : Booted) (ticks : ℕ) (all rest others : List PartFile) (named : PartFile) (first next : List Output) (output : Output)
    → rest ≡ named ∷ others → made_or (script_denial upsets system ticks named) (script_output upsets system ticks named) ≡ Ok output → next ≡ first ++ output ∷ []
    → scripts_for upsets system ticks all ≡ scripts_before first (scripts_for upsets system ticks rest)
    → scripts_for upsets system ticks all ≡ scripts_before next (scripts_for upsets system ticks others)
next_made upsets system ticks all rest others named first next output is made more goes =
    at (script_denial upsets system ticks named) made (goes ∙ ap (λ (names : List PartFile). scripts_before first (scripts_for upsets system ticks names)) is)
    ∙ ap (λ (outputs : List Output). scripts_before outputs (scripts_for upsets system ticks others)) (sym more)
  where
    at : (refusal : Option Denial) → made_or refusal (script_output upsets system ticks named) ≡ Ok output
        → scripts_for upsets system ticks all ≡ scripts_before first (unless_denied refusal (script_before (script_output upsets system ticks named) (scripts_for upsets system ticks others)))
        → scripts_for upsets system ticks all ≡ scripts_before (first ++ output ∷ []) (scripts_for upsets system ticks others)
    at None made goes =
        let same : script_output upsets system ticks named ≡ output = cc in
        goes ∙ one_before first (script_output upsets system ticks named) (scripts_for upsets system ticks others)
        ∙ ap (λ (o : Output). scripts_before (first ++ o ∷ []) (scripts_for upsets system ticks others)) same
    at (Some refusal) made goes = absurd (cc)

-- the next one is refused, or memory ran out for it
pub next_denied : (upsets : List UpsetLine) (system : Booted) (ticks : ℕ) (all rest others : List PartFile) (named : PartFile) (first : List Output) (e : Ending)
    → rest ≡ named ∷ others → IsDenied e (made_or (script_denial upsets system ticks named) (script_output upsets system ticks named))
    → scripts_for upsets system ticks all ≡ scripts_before first (scripts_for upsets system ticks rest)
    → IsDenied e (scripts_for upsets system ticks all)
next_denied upsets system ticks all rest others named first Done is denied goes = absurd denied
next_denied upsets system ticks all rest others named first Usage is denied goes = absurd denied
next_denied upsets system ticks all rest others named first (ReadFault file) is denied goes = absurd denied
next_denied upsets system ticks all rest others named first (Refused file text) is denied goes =
    at (script_denial upsets system ticks named) denied (goes ∙ ap (λ (names : List PartFile). scripts_before first (scripts_for upsets system ticks names)) is)
  where
    at : (refusal : Option Denial) → made_or refusal (script_output upsets system ticks named) ≡ Err (record { file = file; text = text })
        → scripts_for upsets system ticks all ≡ scripts_before first (unless_denied refusal (script_before (script_output upsets system ticks named) (scripts_for upsets system ticks others)))
        → scripts_for upsets system ticks all ≡ Err (record { file = file; text = text })
    at None denied goes = absurd (cc)
    at (Some refusal) denied goes = (let same : refusal ≡ record { file = file; text = text } = cc in goes ∙ ap Err same)
next_denied upsets system ticks all rest others named first WriteFaultReport is denied goes = absurd denied
next_denied upsets system ticks all rest others named first (WriteFaultFile file) is denied goes = absurd denied
next_denied upsets system ticks all rest others named first (UartFault place) is denied goes = absurd denied
next_denied upsets system ticks all rest others named first NoMemory is denied goes = tt

-- all were made
pub all_made : (upsets : List UpsetLine) (system : Booted) (ticks : ℕ) (all rest : List PartFile) (first : List Output) → rest ≡ [] → scripts_for upsets system ticks all ≡ scripts_before first (scripts_for upsets system ticks rest)
    → scripts_for upsets system ticks all ≡ Ok first
all_made upsets system ticks all rest first none goes =
    goes ∙ ap (λ (names : List PartFile). scripts_before first (scripts_for upsets system ticks names)) none ∙ ap Ok (append-nil first)

-- Files that are written.

-- the next one of those that are left
pub next_left : {X : Type 0} (f : X → Output) (xs : List X) (n : ℕ) (d x : X) → n < length xs → x ≡ get_or xs n d → map f (drop n xs) ≡ f x ∷ map f (drop (n + 1) xs)
next_left f xs n d x below is = at_drop_more (map f) xs n d below ∙ ap (λ y. f y ∷ map f (drop (n + 1) xs)) (sym is)

-- the next file was written, and the others were or were not
pub file_saved : (lost : Option (List ℕ)) (rest others : List Output) (output : Output) (before mid after : Outside) → rest ≡ output ∷ others → mid ≡ wrote (Some output) before
    → SavesAll lost others mid after → SavesAll lost rest before after
file_saved lost rest others output before mid after is one saves =
    subst (λ (outputs : List Output). SavesAll lost outputs before after) (sym is)
    (saves_after lost output others before after (subst (λ (x : Outside). SavesAll lost others x after) one saves))

-- it was not
pub file_lost : (rest others : List Output) (output : Output) (before after : Outside) → rest ≡ output ∷ others → Rose before.write_faults after.write_faults → OthersStay before.files output.file after.files
    → after ≡ with_files after.files after.write_faults (after_store_call before) → SavesAll (Some output.file) rest before after
file_lost rest others output before after is rose stay outside =
    subst (λ (outputs : List Output). SavesAll (Some output.file) outputs before after) (sym is)
    (record { first = []; output = output; rest = others; split = refl; named = refl; cause = rose; others = stay; outside = outside })

-- there was none left
pub no_file_left : (rest : List Output) (before : Outside) → rest ≡ [] → SavesAll None rest before before
no_file_left rest before none = subst (λ (outputs : List Output). SavesAll None outputs before before) (sym none) refl

-- files after files that all were
pub saves_both : (lost : Option (List ℕ)) (first later : List Output) (before mid after : Outside) → SavesAll None first before mid → SavesAll lost later mid after → SavesAll lost (first ++ later) before after
saves_both lost [] later before mid after one two = subst (λ (x : Outside). SavesAll lost later x after) one two
saves_both lost (output ∷ first) later before mid after one two = saves_after lost output (first ++ later) before after (saves_both lost first later (wrote (Some output) before) mid after one two)

-- files before others, of which one was not
lost_before : (file : List ℕ) (first later : List Output) (before after : Outside) → IsLostOf file first before after → IsLostOf file (first ++ later) before after
lost_before file first later before after lost = record {
  first = lost.first;
  output = lost.output;
  rest = lost.rest ++ later;
  split = ap (λ (outputs : List Output). outputs ++ later) lost.split ∙ append_assoc lost.first (lost.output ∷ lost.rest) later;
  named = lost.named;
  cause = lost.cause;
  others = lost.others;
  outside = lost.outside;
}

pub not_saved_before : (e : Ending) (first later : List Output) (before after : Outside) → AreNotSaved e first before after → AreNotSaved e (first ++ later) before after
not_saved_before Done first later before after lost = absurd lost
not_saved_before Usage first later before after lost = absurd lost
not_saved_before (ReadFault file) first later before after lost = absurd lost
not_saved_before (Refused file text) first later before after lost = absurd lost
not_saved_before WriteFaultReport first later before after lost = absurd lost
not_saved_before (WriteFaultFile file) first later before after lost = lost_before file first later before after lost
not_saved_before (UartFault place) first later before after lost = absurd lost
not_saved_before NoMemory first later before after lost = absurd lost

not_saved_after : (e : Ending) (first later : List Output) (before mid after : Outside) → SavesAll None first before mid → AreNotSaved e later mid after → AreNotSaved e (first ++ later) before after
not_saved_after Done first later before mid after saved lost = absurd lost
not_saved_after Usage first later before mid after saved lost = absurd lost
not_saved_after (ReadFault file) first later before mid after saved lost = absurd lost
not_saved_after (Refused file text) first later before mid after saved lost = absurd lost
not_saved_after WriteFaultReport first later before mid after saved lost = absurd lost
not_saved_after (WriteFaultFile file) first later before mid after saved lost = saves_both (Some file) first later before mid after saved lost
not_saved_after (UartFault place) first later before mid after saved lost = absurd lost
not_saved_after NoMemory first later before mid after saved lost = absurd lost

-- files after files that all were, by how that ended
pub saved_after : {T : Type 0} (result : Result T code.Ending) (first later : List Output) (before mid after : Outside) → SavesAll None first before mid → AreSaved result later mid after → AreSaved result (first ++ later) before after
saved_after (Ok done) first later before mid after saved more = saves_both None first later before mid after saved more
saved_after (Err ending) first later before mid after saved lost = not_saved_after (ending_of ending) first later before mid after saved lost
