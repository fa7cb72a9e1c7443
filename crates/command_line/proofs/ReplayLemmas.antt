-- What is to be typed for the options of a replay.
use Rattle.std.proofs.Common.{◌≡◌, ℕ, ◌≤◌, Bool, true, false, ◌&&◌, if◌then◌else◌, List, [], ◌∷◌, ◌++◌, length, codes, Option, Some, None, refl, subst, ap, ◌∙◌}
use Rattle.std.specs.List.{flat_map}
use Rattle.std.specs.Str.{bytes_eq}
use Rattle.std.proofs.lemmas.Bool.{and_parts, and_from, leb-true, le-leb}
use Rattle.command_line.specs.declared.replay_options.ReplayKind.{ReplayKind}
use Rattle.command_line.specs.declared.replay_options.ReplayKind.TheVariants.{Core, Input, Upsets}
use Rattle.command_line.specs.Grammar.{AreReplayOptions, IsReplayOption, replay_option, replay_words}
use Rattle.command_line.specs.Words.{ReplayFile, are_few, are_few_each, are_options_by, are_replay_options, is_file, replay_file_for, replay_files_in, replay_kind_of, replay_option_of, replay_options}
use Rattle.command_line.proofs.WordLemmas.{file_is, is_of_file, named}
use Rattle.command_line.proofs.WordPairLemmas.{pairs_typed, reads_pairs}

-- so it is with a kind that is the same
kind_as : (option : List ℕ) (made kind : ReplayKind) → option ≡ replay_option made → Some made ≡ Some kind → option ≡ replay_option kind
kind_as option made kind typed e = (let same : made ≡ kind = cc in subst (λ (k : ReplayKind). option ≡ replay_option k) same typed)

-- the option in front of a file
kind_typed : (option : List ℕ) (kind : ReplayKind) → replay_kind_of option ≡ Some kind → option ≡ replay_option kind
unfolding replay_kind_of
kind_typed option kind e = at (bytes_eq option (codes "--input")) (bytes_eq option (codes "--core")) (bytes_eq option (codes "--upset")) refl refl refl e
  where
    at : (input core upset : Bool) → bytes_eq option (codes "--input") ≡ input → bytes_eq option (codes "--core") ≡ core → bytes_eq option (codes "--upset") ≡ upset
        → (if input then Some Input else if core then Some Core else if upset then Some Upsets else None) ≡ Some kind → option ≡ replay_option kind
    at true core upset is other last e = kind_as option Input kind (named option (codes "--input") is) e
    at false true upset is other last e = kind_as option Core kind (named option (codes "--core") other) e
    at false false true is other last e = kind_as option Upsets kind (named option (codes "--upset") last) e
    at false false false is other last e = absurd (let no : ⊥ = cc in no)

-- two words are what is typed for an option, and it names a file
record TypedFile (option word : List ℕ) (made : ReplayFile) : Type 0 where
  pub words : (option ∷ word ∷ []) ≡ replay_words made
  pub right : IsReplayOption made

-- so it is with an option that is the same
file_as : (option word : List ℕ) (made other : ReplayFile) → TypedFile option word made → Some made ≡ Some other → TypedFile option word other
file_as option word made other typed e = (let same : made ≡ other = cc in subst (TypedFile option word) same typed)

-- an option of a replay
file_typed : (option word : List ℕ) (made : ReplayFile) → replay_option_of option word ≡ Some made → TypedFile option word made
file_typed option word made e = at (replay_kind_of option) (is_file word) refl refl e
  where
    at : (kind : Option ReplayKind) (there : Bool) → replay_kind_of option ≡ kind → is_file word ≡ there
        → replay_file_for kind there word ≡ Some made → TypedFile option word made
    at (Some kind) true is stands e =
        let option_is : option ≡ replay_option kind = kind_typed option kind is in
        file_as option word (record { kind = kind; file = word }) made (record { words = cc; right = file_is word stands }) e
    at (Some kind) false is stands e = absurd (let no : ⊥ = cc in no)
    at None there is stands e = absurd (let no : ⊥ = cc in no)

-- options that name one file of each kind at most
few_each : (options : List ReplayFile) → are_few_each options ≡ true → (kind : ReplayKind) → length (replay_files_in kind options) ≤ 1
few_each options few kind =
    let all = and_parts (are_few Input options && are_few Core options) (are_few Upsets options) few in
    let two = and_parts (are_few Input options) (are_few Core options) all.0 in
    of two.0 two.1 all.1 kind
  where
    of : are_few Input options ≡ true → are_few Core options ≡ true → are_few Upsets options ≡ true → (kind : ReplayKind) → length (replay_files_in kind options) ≤ 1
    of inputs cores upsets Input = leb-true _ 1 inputs
    of inputs cores upsets Core = leb-true _ 1 cores
    of inputs cores upsets Upsets = leb-true _ 1 upsets

-- words that are the options of a replay are typed so
pub replay_options_typed : (words : List (List ℕ)) → are_replay_options words ≡ true → (words ≡ flat_map replay_words (replay_options words)) × AreReplayOptions (replay_options words)
unfolding are_replay_options
replay_options_typed words are =
    let tests = and_parts (are_options_by replay_option_of words) (are_few_each (replay_options words)) are in
    let each = pairs_typed replay_option_of replay_words IsReplayOption (λ option word made e. (let typed = file_typed option word made e in (typed.words, typed.right))) words tests.0 in
    (each.0, record { each = each.1; few = few_each (replay_options words) tests.1 })

-- what is typed for an option is so read, before other words
reads_option : (made : ReplayFile) (words : List (List ℕ)) → IsReplayOption made → (replay_options (replay_words made ++ words) ≡ made ∷ replay_options words) × (are_options_by replay_option_of (replay_words made ++ words) ≡ are_options_by replay_option_of words)
unfolding replay_kind_of
reads_option made words right = by made.kind refl
  where
    by : (kind : ReplayKind) → made.kind ≡ kind → (replay_options (replay_words made ++ words) ≡ made ∷ replay_options words) × (are_options_by replay_option_of (replay_words made ++ words) ≡ are_options_by replay_option_of words)
    by Input is = rw (is, is_of_file made.file right) (refl, refl)
    by Core is = rw (is, is_of_file made.file right) (refl, refl)
    by Upsets is = rw (is, is_of_file made.file right) (refl, refl)

-- what is typed for the options of a replay is so read
pub reads_replay_options : (options : List ReplayFile) → AreReplayOptions options → (replay_options (flat_map replay_words options) ≡ options) × (are_replay_options (flat_map replay_words options) ≡ true)
unfolding are_replay_options
reads_replay_options options right =
    let read = reads_pairs replay_option_of replay_words IsReplayOption reads_option options right.each in (
      read.0,
      and_from (are_options_by replay_option_of (flat_map replay_words options)) (are_few_each (replay_options (flat_map replay_words options))) read.1
          (ap are_few_each read.0 ∙ and_from (are_few Input options && are_few Core options) (are_few Upsets options)
          (and_from (are_few Input options) (are_few Core options) (le-leb _ 1 (right.few Input)) (le-leb _ 1 (right.few Core)))
          (le-leb _ 1 (right.few Upsets))),
    )
