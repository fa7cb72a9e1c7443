-- What is to be typed for the options of a run.
use Rattle.std.proofs.Common.{◌≡◌, ◌⊎◌, ℕ, ◌≤◌, Bool, true, false, ◌&&◌, ◌||◌, nat_eq, if◌then◌else◌, subst, List, [], ◌∷◌, ◌++◌, length, codes, decimal, Option, Some, None, refl, ap, ◌∙◌, inl, inr, arith}
use Rattle.std.specs.List.{flat_map}
use Rattle.std.specs.Prelude.{All}
use Rattle.std.specs.Str.{bytes_eq}
use Rattle.std.proofs.lemmas.Bool.{and_parts, and_from, eqb-true, eq-eqb, leb-true, le-leb}
use Rattle.xm_base.specs.declared.limits.TheConstants.{TICKS}
use Rattle.command_line.specs.declared.commands.Span.{Span}
use Rattle.command_line.specs.declared.commands.Span.TheVariants.{Frames, Ticks}
use Rattle.command_line.specs.declared.run_options.FileKind.{FileKind}
use Rattle.command_line.specs.declared.run_options.FileKind.TheVariants.{Core, Input, Script}
use Rattle.command_line.specs.declared.run_options.RunKind.{RunKind}
use Rattle.command_line.specs.declared.run_options.RunKind.TheVariants as whole
use Rattle.command_line.specs.Grammar.{HaveOneFileEach, AreRunOptions, IsFileName, IsRunOption, count_of, file_option_of, option_of, option_words, part_word, run_file_option}
use Rattle.command_line.specs.Words.{PartFile, RunOption, Length, ForRun, ForPart, asked, are_apart, are_kinds_apart, are_options, are_run_options, are_single, begins_once, cores_in, files_in, inputs_in, scripts_in, is_file, is_single, kind_of, option_by, option_for, option_or, option_whole, part_file_of, run_files_in, run_kind_of, run_option_of, run_options, span_of, spanned, spans_in, ticks_of}
use Rattle.command_line.proofs.PartFileLemmas.{apart_pairs, named_word, pairs_apart, word_named}
use Rattle.command_line.proofs.WordPairLemmas.{pairs_typed, reads_pairs}
use Rattle.command_line.proofs.WordLemmas.{file_is, is_of_file, named, text_ticks, ticks_text}

-- words are an option and its number, and that is not above the limit
record TypedSpan (option number : List ℕ) (span : Span) : Type 0 where
  pub option_is : option ≡ option_of span
  pub number_is : number ≡ decimal (count_of span)
  pub small : count_of span ≤ TICKS

-- so it is with a length that is the same
span_as : (option number : List ℕ) (made span : Span) → TypedSpan option number made → Some made ≡ Some span → TypedSpan option number span
span_as option number made span typed e = (let same : made ≡ span = cc in subst (TypedSpan option number) same typed)

-- how long a run is
span_typed : (option number : List ℕ) (span : Span) → span_of option number ≡ Some span → TypedSpan option number span
unfolding span_of
span_typed option number span e = at (bytes_eq option (codes "--frames")) (bytes_eq option (codes "--ticks")) (ticks_of number) refl refl refl e
  where
    at : (frames ticks : Bool) (count : Option ℕ) → bytes_eq option (codes "--frames") ≡ frames → bytes_eq option (codes "--ticks") ≡ ticks → ticks_of number ≡ count
        → (if frames then spanned Frames count else if ticks then spanned Ticks count else None) ≡ Some span → TypedSpan option number span
    at true ticks (Some n) is asked count e =
        let text = ticks_text number n count in
        span_as option number (Frames n) span (record { option_is = named option (codes "--frames") is; number_is = text.1; small = text.0 }) e
    at true ticks None is asked count e = absurd (let no : ⊥ = cc in no)
    at false true (Some n) is asked count e =
        let text = ticks_text number n count in
        span_as option number (Ticks n) span (record { option_is = named option (codes "--ticks") asked; number_is = text.1; small = text.0 }) e
    at false true None is asked count e = absurd (let no : ⊥ = cc in no)
    at false false count is asked counted e = absurd (let no : ⊥ = cc in no)

-- so it is with a kind that is the same
kind_as : (option : List ℕ) (made kind : FileKind) → option ≡ file_option_of made → Some made ≡ Some kind → option ≡ file_option_of kind
kind_as option made kind typed e = (let same : made ≡ kind = cc in subst (λ (k : FileKind). option ≡ file_option_of k) same typed)

-- the option in front of a file
kind_typed : (option : List ℕ) (kind : FileKind) → kind_of option ≡ Some kind → option ≡ file_option_of kind
unfolding kind_of
kind_typed option kind e = at (bytes_eq option (codes "--input")) (bytes_eq option (codes "--core")) (bytes_eq option (codes "--script")) refl refl refl e
  where
    at : (input core script : Bool) → bytes_eq option (codes "--input") ≡ input → bytes_eq option (codes "--core") ≡ core → bytes_eq option (codes "--script") ≡ script
        → (if input then Some Input else if core then Some Core else if script then Some Script else None) ≡ Some kind → option ≡ file_option_of kind
    at true core script is other last e = kind_as option Input kind (named option (codes "--input") is) e
    at false true script is other last e = kind_as option Core kind (named option (codes "--core") other) e
    at false false true is other last e = kind_as option Script kind (named option (codes "--script") last) e
    at false false false is other last e = absurd (let no : ⊥ = cc in no)

-- two words are what is typed for an option, and that is right
record TypedOption (option word : List ℕ) (made : RunOption) : Type 0 where
  pub words : (option ∷ word ∷ []) ≡ option_words made
  pub right : IsRunOption made

-- so it is with an option that is the same
option_as : (option word : List ℕ) (made other : RunOption) → TypedOption option word made → Some made ≡ Some other → TypedOption option word other
option_as option word made other typed e = (let same : made ≡ other = cc in subst (TypedOption option word) same typed)

-- so it is with a kind of file for the whole run that is the same
run_kind_as : (option : List ℕ) (made kind : RunKind) → option ≡ run_file_option made → Some made ≡ Some kind → option ≡ run_file_option kind
run_kind_as option made kind typed e = (let same : made ≡ kind = cc in subst (λ (k : RunKind). option ≡ run_file_option k) same typed)

-- the option in front of a file for the whole run
run_kind_typed : (option : List ℕ) (kind : RunKind) → run_kind_of option ≡ Some kind → option ≡ run_file_option kind
unfolding run_kind_of
run_kind_typed option kind e = at (bytes_eq option (codes "--upset")) (bytes_eq option (codes "--from")) (bytes_eq option (codes "--save")) refl refl refl e
  where
    at : (upset from save : Bool) → bytes_eq option (codes "--upset") ≡ upset → bytes_eq option (codes "--from") ≡ from → bytes_eq option (codes "--save") ≡ save
        → (if upset then Some whole.Upsets else if from then Some whole.From else if save then Some whole.Save else None) ≡ Some kind → option ≡ run_file_option kind
    at true from save is other last e = run_kind_as option whole.Upsets kind (named option (codes "--upset") is) e
    at false true save is other last e = run_kind_as option whole.From kind (named option (codes "--from") other) e
    at false false true is other last e = run_kind_as option whole.Save kind (named option (codes "--save") last) e
    at false false false is other last e = absurd (let no : ⊥ = cc in no)

-- the option of a kind, by whether the word names a file
abbrev option_named : Option RunKind → Bool → List ℕ → Option RunOption
option_named None there file = None
option_named (Some kind) there file = asked there (ForRun kind file)

-- which it is
named_whole : (kind : Option RunKind) (word : List ℕ) → option_named kind (is_file word) word ≡ option_whole kind word
named_whole None word = refl
named_whole (Some kind) word = refl

-- an option with a file for the whole run
whole_typed : (option word : List ℕ) (made : RunOption) → option_whole (run_kind_of option) word ≡ Some made → TypedOption option word made
whole_typed option word made e = at (run_kind_of option) (is_file word) refl refl (named_whole (run_kind_of option) word ∙ e)
  where
    at : (kind : Option RunKind) (there : Bool) → run_kind_of option ≡ kind → is_file word ≡ there → option_named kind there word ≡ Some made → TypedOption option word made
    at (Some kind) true is stands e =
        let option_is : option ≡ run_file_option kind = run_kind_typed option kind is in
        option_as option word (ForRun kind word) made (record { words = cc; right = file_is word stands }) e
    at (Some kind) false is stands e = absurd (let no : ⊥ = cc in no)
    at None there is stands e = absurd (let no : ⊥ = cc in no)

-- an option of a run
option_typed : (option word : List ℕ) (made : RunOption) → run_option_of option word ≡ Some made → TypedOption option word made
unfolding run_option_of
option_typed option word made e = at (span_of option word) (option_whole (run_kind_of option) word) (kind_of option) (part_file_of word) refl refl refl refl e
  where
    at : (span : Option Span) (for_run : Option RunOption) (kind : Option FileKind) (file : Option PartFile)
        → span_of option word ≡ span → option_whole (run_kind_of option) word ≡ for_run → kind_of option ≡ kind → part_file_of word ≡ file
        → option_by span (option_or for_run (option_for kind file)) ≡ Some made → TypedOption option word made
    at (Some span) for_run kind file measured named is found e =
        let typed = span_typed option word span measured in
        let option_is : option ≡ option_of span = typed.option_is in
        let number_is : word ≡ decimal (count_of span) = typed.number_is in
        option_as option word (Length span) made (record { words = cc; right = typed.small }) e
    at None (Some for_run) kind file measured named is found e = option_as option word for_run made (whole_typed option word for_run named) e
    at None None (Some kind) (Some file) measured named is found e =
        let typed = word_named word file found in
        let option_is : option ≡ file_option_of kind = kind_typed option kind is in
        let word_is : word ≡ part_word file = typed.1 in
        option_as option word (ForPart kind file) made (record { words = cc; right = typed.0 }) e
    at None None (Some kind) None measured named is found e = absurd (let no : ⊥ = cc in no)
    at None None None file measured named is found e = absurd (let no : ⊥ = cc in no)

-- words that are options are typed so
options_typed : (words : List (List ℕ)) → are_options words ≡ true → (words ≡ flat_map option_words (run_options words)) × All IsRunOption (run_options words)
options_typed words are = pairs_typed run_option_of option_words IsRunOption (λ option word made e. (let typed = option_typed option word made e in (typed.words, typed.right))) words are

-- options whose files are apart, kind by kind
kinds_apart : (options : List RunOption) → are_kinds_apart options ≡ true → (kind : FileKind) → HaveOneFileEach (files_in kind options)
kinds_apart options apart kind =
    let all = and_parts (are_apart (inputs_in options) && are_apart (cores_in options)) (are_apart (scripts_in options)) apart in
    let two = and_parts (are_apart (inputs_in options)) (are_apart (cores_in options)) all.0 in
    of two.0 two.1 all.1 kind
  where
    of : are_apart (inputs_in options) ≡ true → are_apart (cores_in options) ≡ true → are_apart (scripts_in options) ≡ true → (kind : FileKind) → HaveOneFileEach (files_in kind options)
    of inputs cores scripts Input = apart_pairs (inputs_in options) inputs
    of inputs cores scripts Core = apart_pairs (cores_in options) cores
    of inputs cores scripts Script = apart_pairs (scripts_in options) scripts

-- and the test of such options
apart_kinds : (options : List RunOption) → ((kind : FileKind) → HaveOneFileEach (files_in kind options)) → are_kinds_apart options ≡ true
apart_kinds options apart =
    and_from (are_apart (inputs_in options) && are_apart (cores_in options)) (are_apart (scripts_in options))
    (and_from (are_apart (inputs_in options)) (are_apart (cores_in options)) (pairs_apart (inputs_in options) (apart Input)) (pairs_apart (cores_in options) (apart Core)))
    (pairs_apart (scripts_in options) (apart Script))

-- options that name one file of each kind for the whole run at most
single_each : (options : List RunOption) → are_single options ≡ true → (kind : RunKind) → length (run_files_in kind options) ≤ 1
single_each options single kind =
    let all = and_parts (is_single whole.Upsets options && is_single whole.From options) (is_single whole.Save options) single in
    let two = and_parts (is_single whole.Upsets options) (is_single whole.From options) all.0 in
    of two.0 two.1 all.1 kind
  where
    of : is_single whole.Upsets options ≡ true → is_single whole.From options ≡ true → is_single whole.Save options ≡ true → (kind : RunKind) → length (run_files_in kind options) ≤ 1
    of upsets from save whole.Upsets = leb-true _ 1 upsets
    of upsets from save whole.From = leb-true _ 1 from
    of upsets from save whole.Save = leb-true _ 1 save

-- and the test of such options
each_single : (options : List RunOption) → ((kind : RunKind) → length (run_files_in kind options) ≤ 1) → are_single options ≡ true
each_single options single =
    and_from (is_single whole.Upsets options && is_single whole.From options) (is_single whole.Save options)
    (and_from (is_single whole.Upsets options) (is_single whole.From options) (le-leb _ 1 (single whole.Upsets)) (le-leb _ 1 (single whole.From)))
    (le-leb _ 1 (single whole.Save))

-- a list without an element is empty
none_in : {X : Type 0} (xs : List X) → nat_eq (length xs) 0 ≡ true → xs ≡ []
none_in [] none = refl
none_in (x ∷ xs) none = (let zero = eqb-true (length (x ∷ xs)) 0 none in absurd (omega (arith, zero)))

-- what one of two tests is enough for
either_true : (t : Bool) → (t || true) ≡ true
either_true true = refl
either_true false = refl

-- a run that begins in one way, by its files
once : {X Y Z : Type 0} (from : List X) (inputs : List Y) (scripts : List Z) → (nat_eq (length from) 0 || (nat_eq (length inputs) 0 && nat_eq (length scripts) 0)) ≡ true
    → (from ≡ []) ⊎ ((inputs ≡ []) × (scripts ≡ []))
once from inputs scripts test = at (nat_eq (length from) 0) refl test
  where
    at : (t : Bool) → nat_eq (length from) 0 ≡ t → (t || (nat_eq (length inputs) 0 && nat_eq (length scripts) 0)) ≡ true → (from ≡ []) ⊎ ((inputs ≡ []) × (scripts ≡ []))
    at true none test = inl (none_in from none)
    at false some test = (let both = and_parts (nat_eq (length inputs) 0) (nat_eq (length scripts) 0) test in inr (none_in inputs both.0, none_in scripts both.1))

-- and its test
once_tested : {X Y Z : Type 0} (from : List X) (inputs : List Y) (scripts : List Z) → (from ≡ []) ⊎ ((inputs ≡ []) × (scripts ≡ []))
    → (nat_eq (length from) 0 || (nat_eq (length inputs) 0 && nat_eq (length scripts) 0)) ≡ true
once_tested from inputs scripts (inl none) = rw (eq-eqb (length from) 0 (ap length none)) refl
once_tested from inputs scripts (inr both) =
    rw (and_from (nat_eq (length inputs) 0) (nat_eq (length scripts) 0) (eq-eqb (length inputs) 0 (ap length both.0)) (eq-eqb (length scripts) 0 (ap length both.1)))
    (either_true (nat_eq (length from) 0))

-- a run that begins in one way
begun_once : (options : List RunOption) → begins_once options ≡ true → (run_files_in whole.From options ≡ []) ⊎ ((inputs_in options ≡ []) × (scripts_in options ≡ []))
begun_once options test = once (run_files_in whole.From options) (inputs_in options) (scripts_in options) test

-- words that are the options of a run are typed so
pub run_options_typed : (words : List (List ℕ)) → are_run_options words ≡ true → (words ≡ flat_map option_words (run_options words)) × AreRunOptions (run_options words)
unfolding are_run_options
run_options_typed words are =
    let begun = and_parts (are_options words && nat_eq (length (spans_in (run_options words))) 1 && are_single (run_options words) && are_kinds_apart (run_options words)) (begins_once (run_options words)) are in
    let apart = and_parts (are_options words && nat_eq (length (spans_in (run_options words))) 1 && are_single (run_options words)) (are_kinds_apart (run_options words)) begun.0 in
    let single = and_parts (are_options words && nat_eq (length (spans_in (run_options words))) 1) (are_single (run_options words)) apart.0 in
    let front = and_parts (are_options words) (nat_eq (length (spans_in (run_options words))) 1) single.0 in
    let each = options_typed words front.0 in (
      each.0,
      record {
        each = each.1;
        spanned = eqb-true _ 1 front.1;
        single = single_each (run_options words) single.1;
        apart = kinds_apart (run_options words) apart.1;
        begun = begun_once (run_options words) begun.1;
      },
    )

-- what is typed for the length of a run determines it
reads_span : (span : Span) → count_of span ≤ TICKS → span_of (option_of span) (decimal (count_of span)) ≡ Some span
unfolding span_of
reads_span (Frames count) small = rw (text_ticks (decimal count) count small refl) refl
reads_span (Ticks count) small = rw (text_ticks (decimal count) count small refl) refl

-- what is typed for a file for a partition is so read
reads_file : (kind : FileKind) (file : PartFile) → IsRunOption (ForPart kind file) → run_option_of (file_option_of kind) (part_word file) ≡ Some (ForPart kind file)
unfolding run_option_of span_of run_kind_of kind_of
reads_file Input file right = rw (named_word file right) refl
reads_file Core file right = rw (named_word file right) refl
reads_file Script file right = rw (named_word file right) refl

-- what is typed for a file for the whole run is so read
reads_whole : (kind : RunKind) (file : List ℕ) → IsFileName file → run_option_of (run_file_option kind) file ≡ Some (ForRun kind file)
unfolding run_option_of span_of run_kind_of
reads_whole whole.Upsets file right = rw (is_of_file file right) refl
reads_whole whole.From file right = rw (is_of_file file right) refl
reads_whole whole.Save file right = rw (is_of_file file right) refl

-- what is typed for a length is so read
reads_length : (span : Span) → count_of span ≤ TICKS → run_option_of (option_of span) (decimal (count_of span)) ≡ Some (Length span)
unfolding run_option_of
reads_length span small = rw (reads_span span small) refl

-- what is typed for an option is so read, before other words
reads_option : (made : RunOption) (words : List (List ℕ)) → IsRunOption made → (run_options (option_words made ++ words) ≡ made ∷ run_options words) × (are_options (option_words made ++ words) ≡ are_options words)
reads_option (Length span) words right = rw (reads_length span right) (refl, refl)
reads_option (ForRun kind file) words right = rw (reads_whole kind file right) (refl, refl)
reads_option (ForPart kind file) words right = rw (reads_file kind file right) (refl, refl)

-- what is typed for options is so read
reads_options : (options : List RunOption) → All IsRunOption options → (run_options (flat_map option_words options) ≡ options) × (are_options (flat_map option_words options) ≡ true)
reads_options options right = reads_pairs run_option_of option_words IsRunOption reads_option options right

-- words that are read as options that are right pass the test of such words
are_tested : (words : List (List ℕ)) (options : List RunOption) → run_options words ≡ options → are_options words ≡ true → AreRunOptions options → are_run_options words ≡ true
unfolding are_run_options
are_tested words options read are right =
    and_from (are_options words && nat_eq (length (spans_in (run_options words))) 1 && are_single (run_options words) && are_kinds_apart (run_options words)) (begins_once (run_options words))
    (and_from (are_options words && nat_eq (length (spans_in (run_options words))) 1 && are_single (run_options words)) (are_kinds_apart (run_options words))
    (and_from (are_options words && nat_eq (length (spans_in (run_options words))) 1) (are_single (run_options words))
    (and_from (are_options words) (nat_eq (length (spans_in (run_options words))) 1) are (eq-eqb (length (spans_in (run_options words))) 1 (ap (λ made. length (spans_in made)) read ∙ right.spanned)))
    (ap are_single read ∙ each_single options right.single))
    (ap are_kinds_apart read ∙ apart_kinds options right.apart))
    (ap begins_once read ∙ once_tested (run_files_in whole.From options) (inputs_in options) (scripts_in options) right.begun)

-- what is typed for the options of a run is so read
pub reads_run_options : (options : List RunOption) → AreRunOptions options → (run_options (flat_map option_words options) ≡ options) × (are_run_options (flat_map option_words options) ≡ true)
reads_run_options options right =
    let read = reads_options options right.each in
    (read.0, are_tested (flat_map option_words options) options read.0 read.1 right)
