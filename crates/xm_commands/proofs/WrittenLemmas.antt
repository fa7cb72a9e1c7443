-- What the files change that a command writes, and which files they are.
use Rattle.std.proofs.Common.{◌≡◌, ◌≢◌, ℕ, zero, suc, ◌+◌, ◌≤◌, ⊎_elim, List, [], ◌∷◌, ◌++◌, length, Option, Some, None, refl, sym, ap, ◌∙◌, subst, arith, length-append}
use Rattle.std.proofs.lemmas.List.{map-append}
use Rattle.std.specs.FinMap.{insert}
use Rattle.xm_outside.specs.Causes.{Rose, counted}
use Rattle.xm_outside.specs.Files.{Files, OthersStay, stored}
use Rattle.xm_outside.specs.Growth.{grown}
use Rattle.command_line.specs.Words.{Command}
use Rattle.xm_commands.specs.Answer.{files_saved, saved_all}
use Rattle.file_commands.specs.Outcome.{Output, Outcome, inputs_of, later_of, name_if_any, outcome_of, output_of}
use Rattle.xm_commands.specs.Top.{FilesStay, HasCalls, IsNoneOf, StayWhere, writes_of}
use Rattle.file_commands.specs.Work.{counted_by, Outside, IsLostOf, IsNotSaved, did, file_in, reported_all, wrote, wrote_all}
use Rattle.xm_commands.proofs.OutsideLemmas.{counted-counted_by, others_stored, wrote-faults, wrote-files, wrote-got, wrote-read_faults, wrote-write_faults}
use Rattle.file_commands.specs.lemmas.LaterLemmas.{output_names, AreNamed, named_few, later-named, first-named}

-- Files that are written one after another.

-- they leave the report's sink as it was
pub wrote_all-got : (outputs : List Output) (x : Outside) → (wrote_all outputs x).got ≡ x.got
wrote_all-got [] x = refl
wrote_all-got (output ∷ outputs) x = wrote_all-got outputs (wrote (Some output) x)

-- and its count of faults
wrote_all-faults : (outputs : List Output) (x : Outside) → (wrote_all outputs x).faults ≡ x.faults
wrote_all-faults [] x = refl
wrote_all-faults (output ∷ outputs) x = wrote_all-faults outputs (wrote (Some output) x)

-- and the count of failed reads
wrote_all-read_faults : (outputs : List Output) (x : Outside) → (wrote_all outputs x).read_faults ≡ x.read_faults
wrote_all-read_faults [] x = refl
wrote_all-read_faults (output ∷ outputs) x = wrote_all-read_faults outputs (wrote (Some output) x)

-- and the count of failed writes
wrote_all-write_faults : (outputs : List Output) (x : Outside) → (wrote_all outputs x).write_faults ≡ x.write_faults
wrote_all-write_faults [] x = refl
wrote_all-write_faults (output ∷ outputs) x = wrote_all-write_faults outputs (wrote (Some output) x)

-- each is one call
wrote_all-calls : (outputs : List Output) (x : Outside) → (wrote_all outputs x).calls ≡ counted_by (length outputs) x.calls
wrote_all-calls [] x = refl
wrote_all-calls (output ∷ outputs) x = wrote_all-calls outputs (wrote (Some output) x)

-- the files that are known, once they are written
wrote_all-files : (outputs : List Output) (x : Outside) (files : Files) → x.files ≡ Some files → (wrote_all outputs x).files ≡ Some (saved_all outputs files)
wrote_all-files [] x files known = known
wrote_all-files (output ∷ outputs) x files known = wrote_all-files outputs (wrote (Some output) x) (insert files output.file output.bytes) (wrote-files (Some output) x files known)

-- which depend on the files before alone
pub wrote-from : (o : Option Output) (x y : Outside) → x.files ≡ y.files → (wrote o x).files ≡ (wrote o y).files
wrote-from None x y same = same
wrote-from (Some output) x y same = ap (λ (f : Option Files). stored f output.file output.bytes) same

pub wrote_all-from : (outputs : List Output) (x y : Outside) → x.files ≡ y.files → (wrote_all outputs x).files ≡ (wrote_all outputs y).files
wrote_all-from [] x y same = same
wrote_all-from (output ∷ outputs) x y same = wrote_all-from outputs (wrote (Some output) x) (wrote (Some output) y) (wrote-from (Some output) x y same)

-- one file, or none
wrote-listed : (o : Option Output) (x : Outside) → wrote o x ≡ wrote_all (file_in o) x
wrote-listed None x = refl
wrote-listed (Some output) x = refl

wrote-calls : (o : Option Output) (x : Outside) → (wrote o x).calls ≡ counted_by (length (file_in o)) x.calls
wrote-calls None x = refl
wrote-calls (Some output) x = refl

-- All that an outcome has.

pub did-got : (outcome : Outcome) (x : Outside) → (did outcome x).got ≡ grown x.got outcome.report
did-got outcome x = wrote_all-got outcome.later (reported_all outcome x) ∙ ap (λ (g : Option (List ℕ)). grown g outcome.report) (wrote-got outcome.output x)

pub did-faults : (outcome : Outcome) (x : Outside) → (did outcome x).faults ≡ x.faults
did-faults outcome x = wrote_all-faults outcome.later (reported_all outcome x) ∙ wrote-faults outcome.output x

pub did-read_faults : (outcome : Outcome) (x : Outside) → (did outcome x).read_faults ≡ x.read_faults
did-read_faults outcome x = wrote_all-read_faults outcome.later (reported_all outcome x) ∙ wrote-read_faults outcome.output x

pub did-write_faults : (outcome : Outcome) (x : Outside) → (did outcome x).write_faults ≡ x.write_faults
did-write_faults outcome x = wrote_all-write_faults outcome.later (reported_all outcome x) ∙ wrote-write_faults outcome.output x

pub did-files : (outcome : Outcome) (x : Outside) (files : Files) → x.files ≡ Some files → (did outcome x).files ≡ Some (saved_all outcome.later (files_saved outcome.output files))
did-files outcome x files known = wrote_all-files outcome.later (reported_all outcome x) (files_saved outcome.output files) (wrote-files outcome.output x files known)

-- calls after calls
counted_by-more : (more few n : ℕ) → counted_by more (counted_by few n) ≡ counted_by (few + more) n
counted_by-more more zero n = (let none : more ≡ 0 + more = omega arith in ap (λ (k : ℕ). counted_by k n) none)
counted_by-more more (suc few) n = (let one : suc (few + more) ≡ suc few + more = omega arith in counted_by-more more few (counted n) ∙ ap (λ (k : ℕ). counted_by k n) one)

did-calls : (outcome : Outcome) (x : Outside) → (did outcome x).calls ≡ counted_by (length (file_in outcome.output) + length outcome.later) x.calls
did-calls outcome x =
    wrote_all-calls outcome.later (reported_all outcome x)
    ∙ ap (counted_by (length outcome.later)) (wrote-calls outcome.output x)
    ∙ counted_by-more (length outcome.later) (length (file_in outcome.output)) x.calls

-- A file that was not written.

-- there is one
pub never_lost : (file : List ℕ) (outputs : List Output) (x after : Outside) → outputs ≡ [] → IsLostOf file outputs x after → ⊥
never_lost file outputs x after none lost =
    let count : 0 ≡ length lost.first + length (lost.output ∷ lost.rest) = ap length (sym none ∙ lost.split) ∙ length-append lost.first (lost.output ∷ lost.rest) in
    absurd (omega (arith, count))

-- those up to it are no more than all
lost_few : (file : List ℕ) (outputs : List Output) (x after : Outside) (lost : IsLostOf file outputs x after) → suc (length lost.first) ≤ length outputs
lost_few file outputs x after lost =
    let count : length outputs ≡ length lost.first + length (lost.output ∷ lost.rest) = ap length lost.split ∙ length-append lost.first (lost.output ∷ lost.rest) in
    omega (arith, count)

-- each of those up to it is a call
lost_calls : (file : List ℕ) (outputs : List Output) (x after : Outside) (lost : IsLostOf file outputs x after) → after.calls ≡ counted_by (suc (length lost.first)) x.calls
lost_calls file outputs x after lost =
    ap (λ (y : Outside). y.calls) lost.outside ∙ ap counted (wrote_all-calls lost.first x) ∙ counted-counted_by (length lost.first) x.calls

-- the count of failed writes rose
pub lost_rose : (file : List ℕ) (outcome : Outcome) (x after : Outside) → IsNotSaved file outcome x after → Rose x.write_faults after.write_faults
lost_rose file outcome x after lost =
    ⊎_elim (λ before. before.cause) (λ later. subst (λ (n : ℕ). Rose n after.write_faults) (wrote-write_faults outcome.output x) later.cause) lost

-- what is none of the names is none of the files
none_named : (names : List (List ℕ)) (outputs : List Output) (other : List ℕ) → AreNamed names outputs → IsNoneOf names other → IsNoneOf (output_names outputs) other
none_named names outputs other are none = ⊎_elim
    (λ same. subst (λ (files : List (List ℕ)). IsNoneOf files other) (sym same) none)
    (λ empty. subst (λ (outs : List Output). IsNoneOf (output_names outs) other) (sym empty) tt)
    are

-- what is none of two lists' names is none of either's
none_parts : (names more : List (List ℕ)) (other : List ℕ) → IsNoneOf (names ++ more) other → IsNoneOf names other × IsNoneOf more other
none_parts [] more other none = (tt, none)
none_parts (name ∷ names) more other none = (let rest = none_parts names more other none.1 in ((none.0, rest.0), rest.1))

-- What stays.

module _ (Stays : List ℕ → Type 0) where
  stay_same : (known : Option Files) → StayWhere Stays known known
  stay_same None = tt
  stay_same (Some files) = λ other stays. refl

  stay_then : (a b c : Option Files) → StayWhere Stays a b → StayWhere Stays b c → StayWhere Stays a c
  stay_then None None None first second = tt
  stay_then None None (Some c) first second = absurd second
  stay_then None (Some b) c first second = absurd first
  stay_then (Some a) None c first second = absurd first
  stay_then (Some a) (Some b) None first second = absurd second
  stay_then (Some a) (Some b) (Some c) first second = λ other stays. second other stays ∙ first other stays

  stay_others : (file : List ℕ) (a b : Option Files) → ((other : List ℕ) → Stays other → other ≢ file) → OthersStay a file b → StayWhere Stays a b
  stay_others file None None differs others = tt
  stay_others file None (Some b) differs others = absurd others
  stay_others file (Some a) None differs others = absurd others
  stay_others file (Some a) (Some b) differs others = λ other stays. others other (differs other stays)

  stay_wrote_all : (outputs : List Output) (x : Outside) → ((other : List ℕ) → Stays other → IsNoneOf (output_names outputs) other) → StayWhere Stays x.files (wrote_all outputs x).files
  stay_wrote_all [] x none = stay_same x.files
  stay_wrote_all (output ∷ outputs) x none =
      stay_then x.files (stored x.files output.file output.bytes) (wrote_all outputs (wrote (Some output) x)).files
      (stay_others output.file x.files (stored x.files output.file output.bytes) (λ other stays. (none other stays).0) (others_stored x.files output.file output.bytes))
      (stay_wrote_all outputs (wrote (Some output) x) (λ other stays. (none other stays).1))

  stay_lost : (file : List ℕ) (outputs : List Output) (x after : Outside) → IsLostOf file outputs x after → ((other : List ℕ) → Stays other → IsNoneOf (output_names outputs) other) → StayWhere Stays x.files after.files
  stay_lost file outputs x after lost none =
      let split : output_names outputs ≡ output_names lost.first ++ output_names (lost.output ∷ lost.rest) = ap output_names lost.split ∙ map-append (λ (output : Output). output.file) lost.first (lost.output ∷ lost.rest) in
      let parts : (other : List ℕ) → Stays other → IsNoneOf (output_names lost.first) other × IsNoneOf (output_names (lost.output ∷ lost.rest)) other =
      λ other stays. none_parts (output_names lost.first) (output_names (lost.output ∷ lost.rest)) other (subst (λ (files : List (List ℕ)). IsNoneOf files other) split (none other stays)) in
      stay_then x.files (wrote_all lost.first x).files after.files
      (stay_wrote_all lost.first x (λ other stays. (parts other stays).0))
      (stay_others file (wrote_all lost.first x).files after.files (λ other stays. subst (λ (f : List ℕ). other ≢ f) (sym lost.named) (parts other stays).1.0) lost.others)

-- where no file is named all are as before
stays_by : (names : List (List ℕ)) (before after : Option Files) → (names ≡ [] → after ≡ before) → StayWhere (IsNoneOf names) before after → FilesStay names before after
stays_by [] before after same others = same refl
stays_by (name ∷ names) before after same others = others

-- where nothing is written the files stay, whatever may be written
pub files_same : (names : List (List ℕ)) (known : Option Files) → FilesStay names known known
files_same names known = stays_by names known known (λ none. refl) (stay_same (IsNoneOf names) known)

-- no file
no_file : (outputs : List Output) (count : ℕ) → length outputs ≤ count → count ≡ 0 → outputs ≡ []
no_file [] count few none = refl
no_file (output ∷ outputs) count few none = absurd (omega (arith, few, none))

module _ (command : Command) (contents : List (List ℕ)) where
  -- the files before and after the report are as many as the words name, at most
  first_few : length (file_in (outcome_of command contents).output) ≤ length (name_if_any (output_of command))
  first_few = named_few (name_if_any (output_of command)) (file_in (outcome_of command contents).output) (first-named command contents)

  later_few : length (outcome_of command contents).later ≤ length (later_of command)
  later_few = named_few (later_of command) (outcome_of command contents).later (later-named command contents)

  written : length (writes_of command) ≡ length (name_if_any (output_of command)) + length (later_of command)
  written = length-append (name_if_any (output_of command)) (later_of command)

  -- where the words name none there is none
  no_first : writes_of command ≡ [] → file_in (outcome_of command contents).output ≡ []
  no_first none = (let zero : length (writes_of command) ≡ 0 = ap length none in no_file (file_in (outcome_of command contents).output) (length (name_if_any (output_of command))) first_few (omega (arith, written, zero)))

  no_later : writes_of command ≡ [] → (outcome_of command contents).later ≡ []
  no_later none = (let zero : length (writes_of command) ≡ 0 = ap length none in no_file (outcome_of command contents).later (length (later_of command)) later_few (omega (arith, written, zero)))

  -- what is none of the names in the words is none of the files
  none_first : (other : List ℕ) → IsNoneOf (writes_of command) other → IsNoneOf (output_names (file_in (outcome_of command contents).output)) other
  none_first other none =
      none_named (name_if_any (output_of command)) (file_in (outcome_of command contents).output) other (first-named command contents) (none_parts (name_if_any (output_of command)) (later_of command) other none).0

  none_later : (other : List ℕ) → IsNoneOf (writes_of command) other → IsNoneOf (output_names (outcome_of command contents).later) other
  none_later other none =
      none_named (later_of command) (outcome_of command contents).later other (later-named command contents) (none_parts (name_if_any (output_of command)) (later_of command) other none).1

  -- the files as the report leaves them
  reported_same : (x : Outside) → writes_of command ≡ [] → (reported_all (outcome_of command contents) x).files ≡ x.files
  reported_same x none = ap (λ (y : Outside). y.files) (wrote-listed (outcome_of command contents).output x) ∙ ap (λ (outputs : List Output). (wrote_all outputs x).files) (no_first none)

  reported_where : (x : Outside) → StayWhere (IsNoneOf (writes_of command)) x.files (reported_all (outcome_of command contents) x).files
  reported_where x =
      subst (λ (f : Option Files). StayWhere (IsNoneOf (writes_of command)) x.files f) (sym (ap (λ (y : Outside). y.files) (wrote-listed (outcome_of command contents).output x)))
      (stay_wrote_all (IsNoneOf (writes_of command)) (file_in (outcome_of command contents).output) x none_first)

  pub reported_stays : (x : Outside) → FilesStay (writes_of command) x.files (reported_all (outcome_of command contents) x).files
  reported_stays x = stays_by (writes_of command) x.files _ (reported_same x) (reported_where x)

  -- the files as all that is done leaves them
  pub did_stays : (x : Outside) → FilesStay (writes_of command) x.files (did (outcome_of command contents) x).files
  did_stays x =
      stays_by (writes_of command) x.files _
      (λ none. ap (λ (outputs : List Output). (wrote_all outputs (reported_all (outcome_of command contents) x)).files) (no_later none) ∙ reported_same x none)
      (stay_then (IsNoneOf (writes_of command)) x.files (reported_all (outcome_of command contents) x).files _ (reported_where x)
      (stay_wrote_all (IsNoneOf (writes_of command)) (outcome_of command contents).later (reported_all (outcome_of command contents) x) none_later))

  -- the files as a fault of a write leaves them
  pub lost_stays : (file : List ℕ) (x after : Outside) → IsNotSaved file (outcome_of command contents) x after → FilesStay (writes_of command) x.files after.files
  lost_stays file x after lost = ⊎_elim
      (λ first. stays_by (writes_of command) x.files after.files
      (λ none. absurd (never_lost file _ x after (no_first none) first))
      (stay_lost (IsNoneOf (writes_of command)) file _ x after first none_first))
      (λ later. stays_by (writes_of command) x.files after.files
      (λ none. absurd (never_lost file _ (reported_all (outcome_of command contents) x) after (no_later none) later))
      (stay_then (IsNoneOf (writes_of command)) x.files (reported_all (outcome_of command contents) x).files after.files (reported_where x)
      (stay_lost (IsNoneOf (writes_of command)) file _ (reported_all (outcome_of command contents) x) after later none_later)))
      lost

  -- this many calls after those for the files that are read
  calls_by : (k n : ℕ) (x : Outside) (after : ℕ) → k ≤ length (writes_of command) → x.calls ≡ counted_by (length (inputs_of command)) n → after ≡ counted_by k x.calls → HasCalls command n after
  calls_by k n x after few calls is = record {
    count = length (inputs_of command) + k;
    few = omega (arith, few);
    calls = is ∙ ap (counted_by k) calls ∙ counted_by-more k (length (inputs_of command)) n;
  }

  pub reported_calls : (n : ℕ) (x : Outside) → x.calls ≡ counted_by (length (inputs_of command)) n → HasCalls command n (reported_all (outcome_of command contents) x).calls
  reported_calls n x calls = calls_by (length (file_in (outcome_of command contents).output)) n x _ (omega (arith, first_few, written)) calls (wrote-calls (outcome_of command contents).output x)

  pub did_calls : (n : ℕ) (x : Outside) → x.calls ≡ counted_by (length (inputs_of command)) n → HasCalls command n (did (outcome_of command contents) x).calls
  did_calls n x calls =
      calls_by (length (file_in (outcome_of command contents).output) + length (outcome_of command contents).later) n x _
      (omega (arith, first_few, later_few, written)) calls (did-calls (outcome_of command contents) x)

  pub lost_count : (n : ℕ) (file : List ℕ) (x after : Outside) → IsNotSaved file (outcome_of command contents) x after → x.calls ≡ counted_by (length (inputs_of command)) n → HasCalls command n after.calls
  lost_count n file x after lost calls = ⊎_elim
      (λ first. calls_by (suc (length first.first)) n x after.calls (omega (arith, lost_few file _ x after first, first_few, written)) calls (lost_calls file _ x after first))
      (λ later. calls_by (length (file_in (outcome_of command contents).output) + suc (length later.first)) n x after.calls
      (omega (arith, lost_few file _ (reported_all (outcome_of command contents) x) after later, first_few, later_few, written))
      calls
      (lost_calls file _ (reported_all (outcome_of command contents) x) after later
      ∙ ap (counted_by (suc (length later.first))) (wrote-calls (outcome_of command contents).output x)
      ∙ counted_by-more (suc (length later.first)) (length (file_in (outcome_of command contents).output)) x.calls))
      lost
