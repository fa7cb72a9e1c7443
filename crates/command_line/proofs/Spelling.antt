-- What is to be typed for each command.
use Rattle.std.proofs.Common.{◌≡◌, ℕ, Bool, true, false, ◌&&◌, if◌then◌else◌, subst, List, [], ◌∷◌, codes, decimal, Option, Some, None, arith, refl, ap, ◌∙◌, ◌⊎◌, ⊎_elim, inl, inr}
use Rattle.std.specs.Str.{bytes_eq}
use Rattle.std.proofs.lemmas.Bool.{and_parts}
use Rattle.command_line.specs.Grammar.{CommandsAreSpelled, IsFileName, IsRight, words_of}
use Rattle.command_line.specs.Words.{Command, PartFile, ReplayFile, RunOption, Bare, Parse, Upgrade, BuildImage, ReadImage, Pack, ListContainer, CheckContainer, MakePlan, CheckPlan, ListGroups, ListSteerers, Generate, Run, Replay, are_part_files, are_replay_options, are_run_options, asked, bare_of, by_verb, command_by_count, command_of, command_of_more, command_of_one, command_of_three, command_of_two, flows_command, format_command, generate_for, is_file, of_file, of_files, pack_command, part_files, part_number, plan_command, replay_by, replay_command, replay_options, run_of, run_options, seed_of, ticks_of}
use Rattle.command_line.proofs.OptionLemmas.{reads_run_options, run_options_typed}
use Rattle.command_line.proofs.PartFileLemmas.{files_named, files_typed_right}
use Rattle.command_line.proofs.ReplayLemmas.{reads_replay_options, replay_options_typed}
use Rattle.command_line.proofs.WordLemmas.{file_is, is_of_file, named, number_text, seed_text, text_number, text_seed, text_ticks, ticks_text}

-- words are what is typed for a command, and what they name is right
pub record Typed (words : List (List ℕ)) (command : Command) : Type 0 where
  pub text : words ≡ words_of command
  pub right : IsRight command

-- so it is with a command that is the same
typed_as : (words : List (List ℕ)) (made command : Command) → Typed words made → Some made ≡ Some command → Typed words command
typed_as words made command typed e = (let same : made ≡ command = cc in subst (Typed words) same typed)

-- a command that is asked for by a test passed it
asked_parts : (t : Bool) (made command : Command) → asked t made ≡ Some command → (t ≡ true) × (Some made ≡ Some command)
asked_parts true made command e = (refl, e)
asked_parts false made command e = cc

-- a choice whose test fails
other : (t : Bool) (x y : Option Command) (command : Command) → (if t then x else y) ≡ Some command → (t ≡ true × (x ≡ Some command)) ⊎ (y ≡ Some command)
other true x y command e = inl (refl, e)
other false x y command e = inr e

-- a run of an image
bare_typed : (name first second : List ℕ) (command : Command) → name ≡ codes "bare" → bare_of (is_file first) first (ticks_of second) ≡ Some command → Typed (name ∷ first ∷ second ∷ []) command
bare_typed name first second command is e = at (is_file first) (ticks_of second) refl refl e
  where
    at : (t : Bool) (ticks : Option ℕ) → is_file first ≡ t → ticks_of second ≡ ticks → bare_of t first ticks ≡ Some command → Typed (name ∷ first ∷ second ∷ []) command
    at true (Some n) file count e =
        let text = ticks_text second n count in
        let word : second ≡ decimal n = text.1 in
        typed_as _ (Bare first n) command (record { text = cc; right = (file_is first file, text.0) }) e
    at true None file count e = absurd (let no : ⊥ = cc in no)
    at false ticks file count e = absurd (let no : ⊥ = cc in no)

-- a command of two files
files_typed : (words : List (List ℕ)) (make : List ℕ → List ℕ → Command) (first second : List ℕ) (command : Command) → (IsFileName first × IsFileName second → Typed words (make first second)) → of_files make first second ≡ Some command → Typed words command
files_typed words make first second command typed e =
    let parts = asked_parts (is_file first && is_file second) (make first second) command e in
    let files = and_parts (is_file first) (is_file second) parts.0 in
    typed_as words (make first second) command (typed (file_is first files.0, file_is second files.1)) parts.1

-- a command of one file
file_typed : (words : List (List ℕ)) (make : List ℕ → Command) (file : List ℕ) (command : Command) → (IsFileName file → Typed words (make file)) → of_file make file ≡ Some command → Typed words command
file_typed words make file command typed e =
    let parts = asked_parts (is_file file) (make file) command e in
    typed_as words (make file) command (typed (file_is file parts.0)) parts.1

-- what `xmeformat` is asked for
format_typed : (name verb file : List ℕ) (command : Command) → name ≡ codes "xmeformat" → format_command verb file ≡ Some command → Typed (name ∷ verb ∷ file ∷ []) command
unfolding format_command
format_typed name verb file command is e = ⊎_elim read none (other (bytes_eq verb (codes "read")) (of_file ReadImage file) None command e)
  where
    read : ((bytes_eq verb (codes "read") ≡ true) × (of_file ReadImage file ≡ Some command)) → Typed (name ∷ verb ∷ file ∷ []) command
    read h = (let verb_is = named verb (codes "read") h.0 in file_typed _ ReadImage file command (λ right. record { text = cc; right = right }) h.1)

    none : None ≡ Some command → Typed (name ∷ verb ∷ file ∷ []) command
    none h = absurd (let no : ⊥ = cc in no)

-- a command of a file that one of two verbs asks for
verb_typed : (words : List (List ℕ)) (verb file one two : List ℕ) (first second : List ℕ → Command) (command : Command)
    → (verb ≡ one → IsFileName file → Typed words (first file)) → (verb ≡ two → IsFileName file → Typed words (second file))
    → by_verb (is_file file) verb one (first file) two (second file) ≡ Some command → Typed words command
unfolding by_verb
verb_typed words verb file one two first second command typed_first typed_second e =
    ⊎_elim (λ h. file_typed words first file command (typed_first (named verb one h.0)) h.1)
    (λ h. ⊎_elim (λ h. file_typed words second file command (typed_second (named verb two h.0)) h.1) none (other (bytes_eq verb two) (of_file second file) None command h))
    (other (bytes_eq verb one) (of_file first file) (if bytes_eq verb two then of_file second file else None) command e)
  where
    none : None ≡ Some command → Typed words command
    none h = absurd (let no : ⊥ = cc in no)

-- what `xmpack` is asked for
pack_typed : (name verb file : List ℕ) (command : Command) → name ≡ codes "xmpack" → pack_command verb file ≡ Some command → Typed (name ∷ verb ∷ file ∷ []) command
pack_typed name verb file command is e =
    verb_typed _ verb file (codes "list") (codes "check") ListContainer CheckContainer command
    (λ verb_is right. record { text = cc; right = right }) (λ verb_is right. record { text = cc; right = right }) e

-- what `plan` is asked for
plan_typed : (name verb file : List ℕ) (command : Command) → name ≡ codes "plan" → plan_command verb file ≡ Some command → Typed (name ∷ verb ∷ file ∷ []) command
plan_typed name verb file command is e =
    verb_typed _ verb file (codes "make") (codes "check") MakePlan CheckPlan command
    (λ verb_is right. record { text = cc; right = right }) (λ verb_is right. record { text = cc; right = right }) e

-- what `flows` is asked for besides groups
flows_typed : (name option file : List ℕ) (command : Command) → name ≡ codes "flows" → flows_command option file ≡ Some command → Typed (name ∷ option ∷ file ∷ []) command
unfolding flows_command
flows_typed name option file command is e = ⊎_elim steering none (other (bytes_eq option (codes "--steering")) (of_file ListSteerers file) None command e)
  where
    steering : ((bytes_eq option (codes "--steering") ≡ true) × (of_file ListSteerers file ≡ Some command)) → Typed (name ∷ option ∷ file ∷ []) command
    steering h = (let option_is = named option (codes "--steering") h.0 in file_typed _ ListSteerers file command (λ right. record { text = cc; right = right }) h.1)

    none : None ≡ Some command → Typed (name ∷ option ∷ file ∷ []) command
    none h = absurd (let no : ⊥ = cc in no)

-- a system that is generated
seed_typed : (name word : List ℕ) (command : Command) → name ≡ codes "gen" → generate_for (seed_of word) ≡ Some command → Typed (name ∷ word ∷ []) command
seed_typed name word command is e = at (seed_of word) refl e
  where
    at : (seed : Option ℕ) → seed_of word ≡ seed → generate_for seed ≡ Some command → Typed (name ∷ word ∷ []) command
    at (Some n) count e =
        let text = seed_text word n count in
        let word_is : word ≡ decimal n = text.1 in
        typed_as _ (Generate n) command (record { text = cc; right = text.0 }) e
    at None count e = absurd (let no : ⊥ = cc in no)

-- what a name and one word ask for
one_typed : (name first : List ℕ) (command : Command) → command_of_one name first ≡ Some command → Typed (name ∷ first ∷ []) command
unfolding command_of_one
one_typed name first command e =
    ⊎_elim flows (λ h. ⊎_elim seed none (other (bytes_eq name (codes "gen")) (generate_for (seed_of first)) None command h))
    (other (bytes_eq name (codes "flows")) (of_file ListGroups first) (if bytes_eq name (codes "gen") then generate_for (seed_of first) else None) command e)
  where
    flows : ((bytes_eq name (codes "flows") ≡ true) × (of_file ListGroups first ≡ Some command)) → Typed (name ∷ first ∷ []) command
    flows h = (let name_is = named name (codes "flows") h.0 in file_typed _ ListGroups first command (λ right. record { text = cc; right = right }) h.1)

    seed : ((bytes_eq name (codes "gen") ≡ true) × (generate_for (seed_of first) ≡ Some command)) → Typed (name ∷ first ∷ []) command
    seed h = seed_typed name first command (named name (codes "gen") h.0) h.1

    none : None ≡ Some command → Typed (name ∷ first ∷ []) command
    none h = absurd (let no : ⊥ = cc in no)

-- what a name and two words ask for
two_typed : (name first second : List ℕ) (command : Command) → command_of_two name first second ≡ Some command → Typed (name ∷ first ∷ second ∷ []) command
unfolding command_of_two
two_typed name first second command e =
    ⊎_elim bare (λ h. ⊎_elim parse (λ h. ⊎_elim format (λ h. ⊎_elim pack (λ h. ⊎_elim plan (λ h. ⊎_elim flows none
    (other (bytes_eq name (codes "flows")) (flows_command first second) None command h))
    (other (bytes_eq name (codes "plan")) (plan_command first second) else_flows command h))
    (other (bytes_eq name (codes "xmpack")) (pack_command first second) else_plan command h))
    (other (bytes_eq name (codes "xmeformat")) (format_command first second) else_pack command h))
    (other (bytes_eq name (codes "xmcparser")) (of_files Parse first second) else_format command h))
    (other (bytes_eq name (codes "bare")) (bare_of (is_file first) first (ticks_of second)) else_parse command e)
  where
    else_flows : Option Command
    else_flows = if bytes_eq name (codes "flows") then flows_command first second else None

    else_plan : Option Command
    else_plan = if bytes_eq name (codes "plan") then plan_command first second else else_flows

    else_pack : Option Command
    else_pack = if bytes_eq name (codes "xmpack") then pack_command first second else else_plan

    else_format : Option Command
    else_format = if bytes_eq name (codes "xmeformat") then format_command first second else else_pack

    else_parse : Option Command
    else_parse = if bytes_eq name (codes "xmcparser") then of_files Parse first second else else_format

    bare : ((bytes_eq name (codes "bare") ≡ true) × (bare_of (is_file first) first (ticks_of second) ≡ Some command)) → Typed (name ∷ first ∷ second ∷ []) command
    bare h = bare_typed name first second command (named name (codes "bare") h.0) h.1

    parse : ((bytes_eq name (codes "xmcparser") ≡ true) × (of_files Parse first second ≡ Some command)) → Typed (name ∷ first ∷ second ∷ []) command
    parse h = (let name_is = named name (codes "xmcparser") h.0 in files_typed _ Parse first second command (λ right. record { text = cc; right = right }) h.1)

    format : ((bytes_eq name (codes "xmeformat") ≡ true) × (format_command first second ≡ Some command)) → Typed (name ∷ first ∷ second ∷ []) command
    format h = format_typed name first second command (named name (codes "xmeformat") h.0) h.1

    pack : ((bytes_eq name (codes "xmpack") ≡ true) × (pack_command first second ≡ Some command)) → Typed (name ∷ first ∷ second ∷ []) command
    pack h = pack_typed name first second command (named name (codes "xmpack") h.0) h.1

    plan : ((bytes_eq name (codes "plan") ≡ true) × (plan_command first second ≡ Some command)) → Typed (name ∷ first ∷ second ∷ []) command
    plan h = plan_typed name first second command (named name (codes "plan") h.0) h.1

    flows : ((bytes_eq name (codes "flows") ≡ true) × (flows_command first second ≡ Some command)) → Typed (name ∷ first ∷ second ∷ []) command
    flows h = flows_typed name first second command (named name (codes "flows") h.0) h.1

    none : None ≡ Some command → Typed (name ∷ first ∷ second ∷ []) command
    none h = absurd (let no : ⊥ = cc in no)

-- a run of a container
run_typed : (name container : List ℕ) (options : List (List ℕ)) (command : Command) → name ≡ codes "run" → run_of container options ≡ Some command → Typed (name ∷ container ∷ options) command
run_typed name container options command is e =
    let parts = asked_parts (is_file container && are_run_options options) (Run container (run_options options)) command e in
    let tests = and_parts (is_file container) (are_run_options options) parts.0 in
    let right = run_options_typed options tests.1 in
    typed_as _ (Run container (run_options options)) command
    (record { text = ap (λ front. front ∷ container ∷ options) is ∙ ap (λ words. codes "run" ∷ container ∷ words) right.0; right = (file_is container tests.0, right.1) })
    parts.1

-- a replay of a container's partition
replay_typed : (name container : List ℕ) (rest : List (List ℕ)) (command : Command) → name ≡ codes "alone" → replay_command container rest ≡ Some command → Typed (name ∷ container ∷ rest) command
replay_typed name container [] command is e = absurd (let no : ⊥ = cc in no)
replay_typed name container (word ∷ []) command is e = absurd (let no : ⊥ = cc in no)
replay_typed name container (word ∷ script ∷ options) command is e = at (is_file container && is_file script) (part_number word) refl refl e
  where
    at : (files : Bool) (part : Option ℕ) → (is_file container && is_file script) ≡ files → part_number word ≡ part
        → replay_by files container part script options ≡ Some command → Typed (name ∷ container ∷ word ∷ script ∷ options) command
    at true (Some p) are found e =
        let parts = asked_parts (are_replay_options options) (Replay container p script (replay_options options)) command e in
        let files = and_parts (is_file container) (is_file script) are in
        let text = number_text 31 word p (omega arith) found in
        let typed = replay_options_typed options parts.0 in
        typed_as _ (Replay container p script (replay_options options)) command (record {
          text = ap (λ front. front ∷ container ∷ word ∷ script ∷ options) is ∙ ap (λ second. codes "alone" ∷ container ∷ second ∷ script ∷ options) text.1 ∙ ap (λ others. codes "alone" ∷ container ∷ decimal p ∷ script ∷ others) typed.0;
          right = (file_is container files.0, text.0, file_is script files.1, typed.1);
        }) parts.1
    at true None are found e = absurd (let no : ⊥ = cc in no)
    at false part are found e = absurd (let no : ⊥ = cc in no)

-- what a name and three words ask for
three_typed : (name first second third : List ℕ) (command : Command) → command_of_three name first second third ≡ Some command → Typed (name ∷ first ∷ second ∷ third ∷ []) command
unfolding command_of_three
three_typed name first second third command e =
    ⊎_elim build (λ later. ⊎_elim upgrade none (other (bytes_eq name (codes "xmcparser") && bytes_eq first (codes "upgrade")) (of_files Upgrade second third) None command later))
    (other (bytes_eq name (codes "xmeformat") && bytes_eq first (codes "build")) (of_files BuildImage second third)
    (if bytes_eq name (codes "xmcparser") && bytes_eq first (codes "upgrade") then of_files Upgrade second third else None) command e)
  where
    upgrade : ((bytes_eq name (codes "xmcparser") && bytes_eq first (codes "upgrade")) ≡ true × (of_files Upgrade second third ≡ Some command)) → Typed (name ∷ first ∷ second ∷ third ∷ []) command
    upgrade h =
        let tests = and_parts (bytes_eq name (codes "xmcparser")) (bytes_eq first (codes "upgrade")) h.0 in
        let name_is = named name (codes "xmcparser") tests.0 in
        let verb_is = named first (codes "upgrade") tests.1 in
        files_typed _ Upgrade second third command (λ right. record { text = cc; right = right }) h.1

    build : ((bytes_eq name (codes "xmeformat") && bytes_eq first (codes "build")) ≡ true × (of_files BuildImage second third ≡ Some command)) → Typed (name ∷ first ∷ second ∷ third ∷ []) command
    build h =
        let tests = and_parts (bytes_eq name (codes "xmeformat")) (bytes_eq first (codes "build")) h.0 in
        let name_is = named name (codes "xmeformat") tests.0 in
        let verb_is = named first (codes "build") tests.1 in
        files_typed _ BuildImage second third command (λ right. record { text = cc; right = right }) h.1

    none : None ≡ Some command → Typed (name ∷ first ∷ second ∷ third ∷ []) command
    none h = absurd (let no : ⊥ = cc in no)

-- what a name and four words or more ask for
more_typed : (name verb configuration output : List ℕ) (images : List (List ℕ)) (command : Command) → command_of_more name verb configuration output images ≡ Some command → Typed (name ∷ verb ∷ configuration ∷ output ∷ images) command
unfolding command_of_more
more_typed name verb configuration output images command e =
    ⊎_elim pack none (other (bytes_eq name (codes "xmpack") && bytes_eq verb (codes "build")) (asked (is_file configuration && is_file output && are_part_files images) (Pack configuration output (part_files images))) None command e)
  where
    pack : ((bytes_eq name (codes "xmpack") && bytes_eq verb (codes "build")) ≡ true) × (asked (is_file configuration && is_file output && are_part_files images) (Pack configuration output (part_files images)) ≡ Some command) → Typed (name ∷ verb ∷ configuration ∷ output ∷ images) command
    pack h =
        let tests = and_parts (bytes_eq name (codes "xmpack")) (bytes_eq verb (codes "build")) h.0 in
        let name_is = named name (codes "xmpack") tests.0 in
        let verb_is = named verb (codes "build") tests.1 in
        let parts = asked_parts (is_file configuration && is_file output && are_part_files images) (Pack configuration output (part_files images)) command h.1 in
        let words = and_parts (is_file configuration && is_file output) (are_part_files images) parts.0 in
        let files = and_parts (is_file configuration) (is_file output) words.0 in
        let right = files_named images words.1 in
        typed_as _ (Pack configuration output (part_files images)) command
        (record { text = ap (λ front. front ∷ verb ∷ configuration ∷ output ∷ images) name_is ∙ ap (λ second. codes "xmpack" ∷ second ∷ configuration ∷ output ∷ images) verb_is ∙ ap (λ images. codes "xmpack" ∷ codes "build" ∷ configuration ∷ output ∷ images) right.0; right = (file_is configuration files.0, file_is output files.1, right.1) })
        parts.1

    none : None ≡ Some command → Typed (name ∷ verb ∷ configuration ∷ output ∷ images) command
    none h = absurd (let no : ⊥ = cc in no)

-- what a name and words whose number is fixed ask for, or those of images
counted_typed : (name first : List ℕ) (rest : List (List ℕ)) (command : Command) → command_by_count name first rest ≡ Some command → Typed (name ∷ first ∷ rest) command
unfolding command_by_count
counted_typed name first [] command e = one_typed name first command e
counted_typed name first (second ∷ []) command e = two_typed name first second command e
counted_typed name first (second ∷ third ∷ []) command e = three_typed name first second third command e
counted_typed name first (second ∷ third ∷ fourth ∷ rest) command e = more_typed name first second third (fourth ∷ rest) command e

-- what words ask for is typed so
typed : (words : List (List ℕ)) (command : Command) → command_of words ≡ Some command → Typed words command
unfolding command_of
typed [] command e = absurd (let no : ⊥ = cc in no)
typed (name ∷ []) command e = absurd (let no : ⊥ = cc in no)
typed (name ∷ first ∷ rest) command e =
    ⊎_elim (λ h. run_typed name first rest command (named name (codes "run") h.0) h.1)
    (λ h. ⊎_elim (λ h. replay_typed name first rest command (named name (codes "alone") h.0) h.1) (λ h. counted_typed name first rest command h)
    (other (bytes_eq name (codes "alone")) (replay_command first rest) (command_by_count name first rest) command h))
    (other (bytes_eq name (codes "run")) (run_of first rest) (if bytes_eq name (codes "alone") then replay_command first rest else command_by_count name first rest) command e)

-- what is typed for a container asks for it
reads_pack : (configuration output : List ℕ) (images : List PartFile) → IsRight (Pack configuration output images) → command_of (words_of (Pack configuration output images)) ≡ Some (Pack configuration output images)
unfolding command_of command_by_count command_of_more
reads_pack configuration output [] right = absurd (omega (arith, right.2.some))
reads_pack configuration output (image ∷ images) right =
    let typed = files_typed_right (image ∷ images) right.2 in
    rw (is_of_file configuration right.0, is_of_file output right.1, typed.0, typed.1) refl

-- what is typed for a run asks for it
reads_run : (container : List ℕ) (options : List RunOption) → IsRight (Run container options) → command_of (words_of (Run container options)) ≡ Some (Run container options)
unfolding command_of
reads_run container options right =
    let read = reads_run_options options right.1 in
    rw (is_of_file container right.0, read.0, read.1) refl

-- what is typed for a replay asks for it
reads_replay : (container : List ℕ) (part : ℕ) (script : List ℕ) (options : List ReplayFile) → IsRight (Replay container part script options) → command_of (words_of (Replay container part script options)) ≡ Some (Replay container part script options)
unfolding command_of
reads_replay container part script options right =
    let read = reads_replay_options options right.3 in
    rw (is_of_file container right.0, text_number 31 (decimal part) part (omega arith) right.1 refl, is_of_file script right.2, read.0, read.1) refl

-- what is typed for a command asks for it
reads : (command : Command) → IsRight command → command_of (words_of command) ≡ Some command
unfolding command_of command_by_count command_of_one command_of_two command_of_three flows_command format_command by_verb
reads (Bare image ticks) right = rw (is_of_file image right.0, text_ticks (decimal ticks) ticks right.1 refl)
reads (Parse description output) right = rw (is_of_file description right.0, is_of_file output right.1)
reads (Upgrade configuration output) right = rw (is_of_file configuration right.0, is_of_file output right.1)
reads (BuildImage program output) right = rw (is_of_file program right.0, is_of_file output right.1)
reads (ReadImage image) right = rw (is_of_file image right)
reads (Pack configuration output images) right = reads_pack configuration output images right
reads (ListContainer container) right = rw (is_of_file container right)
reads (CheckContainer container) right = rw (is_of_file container right)
reads (MakePlan description) right = rw (is_of_file description right)
reads (CheckPlan description) right = rw (is_of_file description right)
reads (ListGroups description) right = rw (is_of_file description right)
reads (ListSteerers description) right = rw (is_of_file description right)
reads (Generate number) right = rw (text_seed (decimal number) number right refl) refl
reads (Run container options) right = reads_run container options right
reads (Replay container part script options) right = reads_replay container part script options right

-- words are a command exactly where they are what is typed for it
pub commands_spelled : CommandsAreSpelled
commands_spelled words command =
    (λ e. (let is = typed words command e in (is.text, is.right)), λ spells. ap command_of spells.0 ∙ reads command spells.1)
