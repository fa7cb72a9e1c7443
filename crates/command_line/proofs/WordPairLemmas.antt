-- What is to be typed for options of two words each.
use Rattle.std.proofs.Common.{◌≡◌, ℕ, ◌<◌, true, nat_eq, List, [], ◌∷◌, ◌++◌, length, Option, Some, None, is_some, refl, ap, ◌∙◌, arith, String}
use Rattle.std.specs.List.{flat_map}
use Rattle.std.specs.Prelude.{All}
use Rattle.std.proofs.lemmas.Bool.{and_parts}
use Rattle.std.proofs.lemmas.List.Elements.{All-cons, All-head, All-nil, All-tail}
use Rattle.command_line.specs.Texts.{texts_of}
use Rattle.command_line.specs.Words.{are_options_by, before_others, options_by}

-- words that are options are typed so, where two words that spell one are
pub pairs_typed : {X : Type 0} (read : List ℕ → List ℕ → Option X) (text : X → List (List ℕ)) (IsOption : X → Type 0)
    → ((option word : List ℕ) (made : X) → read option word ≡ Some made → ((option ∷ word ∷ []) ≡ text made) × IsOption made)
    → (words : List (List ℕ)) → are_options_by read words ≡ true → (words ≡ flat_map text (options_by read words)) × All IsOption (options_by read words)
pairs_typed read text IsOption typed [] are = (refl, All-nil IsOption)
pairs_typed read text IsOption typed (option ∷ []) are = absurd (let no : ⊥ = cc in no)
pairs_typed {X = X} read text IsOption typed (option ∷ word ∷ words) are =
    let tests = and_parts (is_some (read option word)) (are_options_by read words) are in
    at (read option word) refl tests.0 (pairs_typed read text IsOption typed words tests.1)
  where
    at : (found : Option X) → read option word ≡ found → is_some (read option word) ≡ true
        → (words ≡ flat_map text (options_by read words)) × All IsOption (options_by read words)
        → (option ∷ word ∷ words ≡ flat_map text (before_others (read option word) (options_by read words))) × All IsOption (before_others (read option word) (options_by read words))
    at None none test rest = absurd (let no : ⊥ = cc in no)
    at (Some made) found test rest =
        let first = typed option word made found in
        rw found (ap (λ front. front ++ words) first.0 ∙ ap (λ ws. text made ++ ws) rest.0, All-cons IsOption made (options_by read words) first.1 rest.1)

-- a single word is no option
pub few_options : {X : Type 0} (read : List ℕ → List ℕ → Option X) {A : Type 0} (words : List (String A)) → length words < 2 → are_options_by read (texts_of words) ≡ nat_eq (length words) 0
few_options read [] few = refl
few_options read (option ∷ []) few = refl
few_options read (option ∷ word ∷ words) few = absurd (omega arith)

-- what is typed for options is so read, where it is for each before other words
pub reads_pairs : {X : Type 0} (read : List ℕ → List ℕ → Option X) (text : X → List (List ℕ)) (IsOption : X → Type 0)
    → ((made : X) (words : List (List ℕ)) → IsOption made → (options_by read (text made ++ words) ≡ made ∷ options_by read words) × (are_options_by read (text made ++ words) ≡ are_options_by read words))
    → (options : List X) → All IsOption options → (options_by read (flat_map text options) ≡ options) × (are_options_by read (flat_map text options) ≡ true)
reads_pairs read text IsOption reads [] right = (refl, refl)
reads_pairs read text IsOption reads (option ∷ options) right =
    let first = reads option (flat_map text options) (All-head IsOption option options right) in
    let rest = reads_pairs read text IsOption reads options (All-tail IsOption option options right) in
    (first.0 ∙ ap (λ others. option ∷ others) rest.0, first.1 ∙ rest.1)
