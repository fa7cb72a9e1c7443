-- Prefixes of files that were read, and the whole contents.
use Rattle.std.proofs.Common.{◌≡◌, ℕ, ◌+◌, ◌<◌, ◌≤◌, min, ⊎_elim, Bool, true, false, nat_lt, if◌then◌else◌, List, [], ◌∷◌, length, take, Option, Some, None, Ok, refl, sym, ap, ◌∙◌, arith}
use Rattle.std.proofs.lemmas.Bool.{cases_lt}
use Rattle.std.proofs.lemmas.Bool.Decides.{nat_tests}
use Rattle.std.proofs.lemmas.List.{length-take, take_all}
use Rattle.std.specs.FinMap.{get}
use Rattle.xm_base.specs.Options.{on}
use Rattle.xm_base.specs.declared.limits.TheConstants.{FILE_BYTES}
use Rattle.xm_outside.specs.Files.{Files}
use Rattle.run_commands.specs.Contents.{read_all}
use Rattle.file_commands.specs.Outcome.{first_long}
use Rattle.file_commands.specs.Work.{ReadsFiles}

-- a prefix is too long exactly where its whole is
front_long : (whole bytes : List ℕ) → take (FILE_BYTES + 1) whole ≡ bytes → nat_lt FILE_BYTES (length bytes) ≡ nat_lt FILE_BYTES (length whole)
front_long whole bytes front = ⊎_elim long short (cases_lt FILE_BYTES (length whole))
  where
    min_left : FILE_BYTES < length whole → min (FILE_BYTES + 1) (length whole) ≡ FILE_BYTES + 1
    min_left h = omega arith

    long : FILE_BYTES < length whole → nat_lt FILE_BYTES (length bytes) ≡ nat_lt FILE_BYTES (length whole)
    long h = (let count : length bytes ≡ FILE_BYTES + 1 = ap length (sym front) ∙ length-take (FILE_BYTES + 1) whole ∙ min_left h in grind (arith, nat_tests))

    short : length whole ≤ FILE_BYTES → nat_lt FILE_BYTES (length bytes) ≡ nat_lt FILE_BYTES (length whole)
    short h = ap (λ (b : List ℕ). nat_lt FILE_BYTES (length b)) (sym front ∙ take_all (FILE_BYTES + 1) whole (omega arith))

-- a prefix that is not too long is the whole
front_whole : (whole bytes : List ℕ) → take (FILE_BYTES + 1) whole ≡ bytes → nat_lt FILE_BYTES (length whole) ≡ false → bytes ≡ whole
front_whole whole bytes front test = (let short : length whole ≤ FILE_BYTES = grind (arith, nat_tests) in sym front ∙ take_all (FILE_BYTES + 1) whole (omega arith))

-- the contents of files whose prefixes were read
pub record AreWhole (files : Files) (names fronts : List (List ℕ)) : Type 0 where
  pub contents : List (List ℕ)
  pub read : read_all files names ≡ Ok contents
  pub long : first_long names fronts ≡ first_long names contents
  pub whole : first_long names contents ≡ None → fronts ≡ contents

-- the prefixes that were read are those of the files' contents
pub are_whole : (files : Files) (names fronts : List (List ℕ)) → ReadsFiles (Some files) names fronts → AreWhole files names fronts
are_whole files [] [] read = record { contents = []; read = refl; long = refl; whole = λ _. refl }
are_whole files [] (bytes ∷ fronts) read = absurd read
are_whole files (name ∷ names) [] read = absurd read
are_whole files (name ∷ names) (bytes ∷ fronts) read = at (get files name) refl read.0 (are_whole files names fronts read.1)
  where
    none_long : (whole : List ℕ) (contents : List (List ℕ)) (t : Bool) → nat_lt FILE_BYTES (length whole) ≡ t → take (FILE_BYTES + 1) whole ≡ bytes → (first_long names contents ≡ None → fronts ≡ contents) → (if t then Some name else first_long names contents) ≡ None → bytes ∷ fronts ≡ whole ∷ contents
    none_long whole contents true test front rest none = absurd (cc)
    none_long whole contents false test front rest none =
        let first : bytes ≡ whole = front_whole whole bytes front test in
        let others : fronts ≡ contents = rest none in
        cc

    at : (o : Option (List ℕ)) → get files name ≡ o → on (take (FILE_BYTES + 1)) o ≡ Some bytes → AreWhole files names fronts → AreWhole files (name ∷ names) (bytes ∷ fronts)
    at None is front rest = absurd (cc)
    at (Some whole) is front rest =
        let cut : take (FILE_BYTES + 1) whole ≡ bytes = cc in
        record {
          contents = whole ∷ rest.contents;
          read = rw (is, rest.read) refl;
          long = ap (λ (t : Bool). if t then Some name else first_long names fronts) (front_long whole bytes cut)
              ∙ ap (λ (o : Option (List ℕ)). if nat_lt FILE_BYTES (length whole) then Some name else o) rest.long;
          whole = none_long whole rest.contents (nat_lt FILE_BYTES (length whole)) refl cut rest.whole;
        }
