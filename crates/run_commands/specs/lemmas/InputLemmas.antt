-- The files of a run's inputs, one after another.
use Rattle.std.proofs.Common.{◌≡◌, ◌≢◌, ◌↔◌, ℕ, ◌%◌, Bool, true, false, nat_lt, if◌then◌else◌, List, [], ◌∷◌, ◌++◌, length, drop, Option, Some, None, Ok, Err, refl, sym, ap, ◌∙◌, arith}
use Rattle.std.proofs.lemmas.Bool.Decides.{nat_tests}
use Rattle.std.specs.Prelude.{nat_eq, slice_set}
use Rattle.xm_base.specs.declared.limits.TheConstants.{FILE_BYTES}
use Rattle.command_line.specs.Words.{PartFile, RunOption, from_in, inputs_in, upsets_in}
use Rattle.system_state.specs.Inputs.{words_in}
use Rattle.file_commands.specs.Ending.{input_text}
use Rattle.file_commands.specs.Inputs.{inputs_with}
use Rattle.file_commands.specs.Outcome.{first_long, name_if_any, run_inputs}
use Rattle.file_commands.specs.Packing.{denial, file_names}
use Rattle.file_commands.specs.lemmas.CommandLemmas.{none_long}

-- where no file is too long, none of those after the first is
pub rest_short : (file : List ℕ) (files contents : List (List ℕ)) → first_long (file ∷ files) contents ≡ None → first_long files (drop 1 contents) ≡ None
rest_short file files [] none = sym (none_long files [] refl)
rest_short file files (bytes ∷ contents) none = at (nat_lt FILE_BYTES (length bytes)) none
  where
    at : (t : Bool) → (if t then Some file else first_long files contents) ≡ None → first_long files contents ≡ None
    at true e = absurd (cc)
    at false e = e

-- nor is any of those in front
pub front_short : (files later contents : List (List ℕ)) → first_long (files ++ later) contents ≡ None → first_long files contents ≡ None
front_short [] later contents none = refl
front_short (file ∷ files) later [] none = refl
front_short (file ∷ files) later (bytes ∷ contents) none = at (nat_lt FILE_BYTES (length bytes)) none (λ e. front_short files later contents e)
  where
    at : (t : Bool) → (if t then Some file else first_long (files ++ later) contents) ≡ None → (first_long (files ++ later) contents ≡ None → first_long files contents ≡ None)
        → (if t then Some file else first_long files contents) ≡ None
    at true e rest = absurd (cc)
    at false e rest = rest e

-- so none of the inputs of a run is too long
pub inputs_short : (options : List RunOption) (contents : List (List ℕ)) → first_long (run_inputs options) contents ≡ None → first_long (file_names (inputs_in options)) contents ≡ None
inputs_short options contents none =
    front_short (file_names (inputs_in options)) (name_if_any (upsets_in options)) contents
    (front_short (file_names (inputs_in options) ++ name_if_any (upsets_in options)) (name_if_any (from_in options)) contents none)

-- the first file of a run that is too long, where its files are known by other words
pub long_of_run : (options : List RunOption) (found : Option (List ℕ)) (container : List ℕ) (inputs : List PartFile) (upsets from : Option (List ℕ)) (contents : List (List ℕ)) → inputs ≡ inputs_in options → upsets ≡ upsets_in options
    → from ≡ from_in options → found ≡ first_long (container ∷ file_names inputs ++ name_if_any upsets ++ name_if_any from) contents → found ≡ first_long (container ∷ run_inputs options) contents
long_of_run options found container inputs upsets from contents same struck begun is =
    is ∙ ap (λ (files : List PartFile). first_long (container ∷ file_names files ++ name_if_any upsets ++ name_if_any from) contents) same
    ∙ ap (λ (file : Option (List ℕ)). first_long (container ∷ file_names (inputs_in options) ++ name_if_any file ++ name_if_any from) contents) struck
    ∙ ap (λ (file : Option (List ℕ)). first_long (container ∷ file_names (inputs_in options) ++ name_if_any (upsets_in options) ++ name_if_any file) contents) begun

-- without contents no more inputs are read
pub no_more_inputs : (inputs : List (List ℕ)) (files : List PartFile) (contents : List (List ℕ)) → contents ≡ [] → inputs_with inputs files contents ≡ Ok inputs
no_more_inputs inputs [] contents none = refl
no_more_inputs inputs (named ∷ files) contents none = ap (inputs_with inputs (named ∷ files)) none

-- bytes whose length is not refused are whole words
whole_words : {T E : Type 0} (count : ℕ) (x : T) (e : E) → (Ok x ≡ Err e) ↔ (count % 4 ≢ 0) → nat_eq (count % 4) 0 ≡ true
whole_words count x e law = at (nat_eq (count % 4) 0) refl
  where
    at : (t : Bool) → nat_eq (count % 4) 0 ≡ t → nat_eq (count % 4) 0 ≡ true
    at true is = is
    at false is =
        let differs : count % 4 ≢ 0 = grind (arith, nat_tests) in
        let refused : Ok x ≡ Err e = law.1 differs in
        absurd (cc)

-- a partition is given its words
pub words_given : {T E : Type 0} (inputs new : List (List ℕ)) (named : PartFile) (bytes : List ℕ) (x : T) (e : E) → (Ok x ≡ Err e) ↔ (length bytes % 4 ≢ 0) → new ≡ slice_set inputs named.part (words_in bytes)
    → inputs_with inputs (named ∷ []) (bytes ∷ []) ≡ Ok new
words_given inputs new named bytes x e law new_is =
    ap (λ t. if t then Ok (slice_set inputs named.part (words_in bytes)) else Err (denial named.file (input_text (length bytes)))) (whole_words (length bytes) x e law)
    ∙ ap Ok (sym new_is)
