-- What partitions say of health events in the order of a text, as it is gathered in the order of the events.
use Rattle.std.proofs.Common.{◌≡◌, ℕ, ◌+◌, ◌<◌, ◌≤◌, if◌then◌else◌, Bool, true, false, List, [], ◌∷◌, ◌++◌, length, map, sum_by, Option, Some, None, is_some, refl, sym, ap, ◌∙◌, arith}
use Rattle.std.specs.Prelude.{◌==◌, ◌^◌, ◌||◌, filter, filter_map, flat_map}
use Rattle.std.specs.List.{find, list_any, cons_option}
use Rattle.std.proofs.lemmas.List.{map-append}
use Rattle.std.proofs.lemmas.List.Sums.{sum_by-cons}
use Rattle.std.proofs.lemmas.Bool.Decides.{nat_tests}
use Rattle.xm_base.specs.Options.{on}
use Rattle.xm_conf.specs.Along.{each_from}
use Rattle.xm_conf.specs.Description.{HealthAnswer}
use Rattle.xm_conf.specs.Health.{event_row, events}
use Rattle.xm_conf.specs.declared.health.Event.{Event}
use Rattle.xm_conf.specs.declared.health.Event.TheVariants as event
use Rattle.xmcf_check.specs.lemmas.Judged.{action_for, action_or_default}
use Rattle.xmcf_check.specs.lemmas.Reported.{first_there}
use Rattle.xmcf_check.proofs.ListLemmas.{both}

-- whether an answer is to an event
abbrev pub is_answer : Event → HealthAnswer → Bool
is_answer e answer = (event_row answer.event).number == (event_row e).number

-- the answers that elements give to an event
abbrev pub given_for : {G : Type 0} → (G → HealthAnswer) → List G → Event → List HealthAnswer
given_for answer given e = map answer (filter (λ g. is_answer e (answer g)) given)

-- what is found in one list after another
find-append : {X : Type 0} (p : X → Bool) (xs ys : List X) → find p (xs ++ ys) ≡ first_there (find p xs) (find p ys)
find-append p [] ys = refl
find-append p (x ∷ xs) ys = at (p x) (find-append p xs ys)
  where
    at : (t : Bool) → find p (xs ++ ys) ≡ first_there (find p xs) (find p ys)
        → (if t then Some x else find p (xs ++ ys)) ≡ first_there (if t then Some x else find p xs) (find p ys)
    at true rest = refl
    at false rest = rest

-- the first answer to an event among those that are given to it
find-same : {G : Type 0} (answer : G → HealthAnswer) (e x : Event) → (event_row e).number ≡ (event_row x).number → (given : List G)
    → find (is_answer x) (given_for answer given e) ≡ on answer (find (λ g. is_answer x (answer g)) given)
find-same answer e x same [] = refl
find-same answer e x same (g ∷ given) =
    ap (λ n. find (is_answer x) (map answer (if (event_row (answer g).event).number == n then g ∷ filter (λ g. is_answer e (answer g)) given else filter (λ g. is_answer e (answer g)) given))) same
    ∙ at (is_answer x (answer g)) refl (find-same answer e x same given)
  where
    at : (t : Bool) → is_answer x (answer g) ≡ t → find (is_answer x) (given_for answer given e) ≡ on answer (find (λ g. is_answer x (answer g)) given)
        → find (is_answer x) (map answer (if t then g ∷ filter (λ g. is_answer e (answer g)) given else filter (λ g. is_answer e (answer g)) given))
        ≡ on answer (if t then Some g else find (λ g. is_answer x (answer g)) given)
    at true is rest = rw is refl
    at false is rest = rest

-- no answer to an event is among those that are given to another
find-other : {G : Type 0} (answer : G → HealthAnswer) (e x : Event) → ((event_row e).number == (event_row x).number) ≡ false → (given : List G)
    → find (is_answer x) (given_for answer given e) ≡ None
find-other answer e x other [] = refl
find-other answer e x other (g ∷ given) = at (is_answer e (answer g)) refl (find-other answer e x other given)
  where
    at : (t : Bool) → is_answer e (answer g) ≡ t → find (is_answer x) (given_for answer given e) ≡ None
        → find (is_answer x) (map answer (if t then g ∷ filter (λ g. is_answer e (answer g)) given else filter (λ g. is_answer e (answer g)) given)) ≡ None
    at true is rest =
        let no : is_answer x (answer g) ≡ false = grind (arith, nat_tests) in
        rw no rest
    at false is rest = rest

-- the first answer to an event, where those to it are among the answers to some events
find-given : {G : Type 0} (answer : G → HealthAnswer) (x : Event) (given : List G) (es : List Event)
    → find (is_answer x) (flat_map (given_for answer given) es)
    ≡ (if list_any (λ e. (event_row e).number == (event_row x).number) es then on answer (find (λ g. is_answer x (answer g)) given) else None)
find-given answer x given [] = refl
find-given answer x given (e ∷ es) =
    find-append (is_answer x) (given_for answer given e) (flat_map (given_for answer given) es)
    ∙ at ((event_row e).number == (event_row x).number) refl (list_any (λ e. (event_row e).number == (event_row x).number) es) (find-given answer x given es)
  where
    found : Option HealthAnswer
    found = on answer (find (λ g. is_answer x (answer g)) given)

    twice : (o : Option HealthAnswer) (t : Bool) → first_there o (if t then o else None) ≡ o
    twice None true = refl
    twice None false = refl
    twice (Some a) t = refl

    at : (t : Bool) → ((event_row e).number == (event_row x).number) ≡ t → (later : Bool) → find (is_answer x) (flat_map (given_for answer given) es) ≡ (if later then found else None)
        → first_there (find (is_answer x) (given_for answer given e)) (find (is_answer x) (flat_map (given_for answer given) es)) ≡ (if t || later then found else None)
    at true is later rest =
        let same : (event_row e).number ≡ (event_row x).number = grind (arith, nat_tests) in
        ap (λ o. first_there o (find (is_answer x) (flat_map (given_for answer given) es))) (find-same answer e x same given)
        ∙ ap (λ o. first_there found o) rest ∙ twice found later
    at false is later rest =
        ap (λ o. first_there o (find (is_answer x) (flat_map (given_for answer given) es))) (find-other answer e x is given) ∙ rest

-- each event is one of all
any-event : (x : Event) → list_any (λ e. (event_row e).number == (event_row x).number) events ≡ true
any-event event.PartitionError = refl
any-event event.MemProtection = refl
any-event event.UnexpectedTrap = refl
any-event event.SparcIllegalInstruction = refl
any-event event.SparcPrivilegedInstruction = refl
any-event event.SparcFpDisabled = refl
any-event event.SparcCpDisabled = refl
any-event event.SparcAddressNotAligned = refl
any-event event.SparcTagOverflow = refl
any-event event.SparcDivideException = refl
any-event event.SparcInstrAccess = refl
any-event event.SparcDataAccess = refl

-- the action for an event is that of the first that is given to it
pub action_for-given : {G : Type 0} (answer : G → HealthAnswer) (given : List G) (x : Event)
    → action_for (flat_map (given_for answer given) events) x ≡ action_or_default x (on answer (find (λ g. is_answer x (answer g)) given))
unfolding action_for
action_for-given answer given x =
    ap (action_or_default x)
    (find-given answer x given events
    ∙ ap (λ t. if t then on answer (find (λ g. is_answer x (answer g)) given) else None) (any-event x))

-- a sum of smaller numbers is smaller
sum_by-least : {X : Type 0} (f h : X → ℕ) → ((x : X) → f x ≤ h x) → (xs : List X) → sum_by f xs ≤ sum_by h xs
sum_by-least f h less [] = omega arith
sum_by-least f h less (x ∷ xs) = omega (arith, less x, sum_by-least f h less xs, sum_by-cons f x xs, sum_by-cons h x xs)

-- a bit, or none
flag-least : (t : Bool) (n : ℕ) → (if t then n else 0) ≤ n
flag-least true n = omega arith
flag-least false n = omega arith

-- the bits of some of the events are below bit 12
pub flags-below : (t : Event → Bool) → sum_by (λ e. if t e then 2 ^ (event_row e).number else 0) events < 4096
flags-below t =
    let all : sum_by (λ e. 2 ^ (event_row e).number) events ≡ 4095 = refl in
    omega (arith, all, sum_by-least (λ e. if t e then 2 ^ (event_row e).number else 0) (λ e. 2 ^ (event_row e).number) (λ e. flag-least (t e) (2 ^ (event_row e).number)) events)

-- two functions that answer together pick as many
pub length-filter_map : {X A B : Type 0} (f : X → Option A) (h : X → Option B) → ((x : X) → is_some (f x) ≡ is_some (h x)) → (xs : List X)
    → length (filter_map f xs) ≡ length (filter_map h xs)
length-filter_map f h same [] = refl
length-filter_map {A = A} {B = B} f h same (x ∷ xs) = at (f x) (h x) (same x) (length-filter_map f h same xs)
  where
    at : (a : Option A) (b : Option B) → is_some a ≡ is_some b → length (filter_map f xs) ≡ length (filter_map h xs)
        → length (cons_option a (filter_map f xs)) ≡ length (cons_option b (filter_map h xs))
    at None None is rest = rest
    at None (Some y) is rest = absurd (let no : ⊥ = cc in no)
    at (Some y) None is rest = absurd (let no : ⊥ = cc in no)
    at (Some y) (Some z) is rest = omega (arith, rest)

-- what elements add, seen by two functions as the same
pub map-each : {X A B C : Type 0} (a : A → C) (b : B → C) (f : ℕ → X → List A) (h : ℕ → X → List B) → ((n : ℕ) (x : X) → map a (f n x) ≡ map b (h n x))
    → (n : ℕ) (xs : List X) → map a (each_from f n xs) ≡ map b (each_from h n xs)
map-each a b f h same n [] = refl
map-each a b f h same n (x ∷ xs) =
    map-append a (f n x) (each_from f (n + 1) xs)
    ∙ both (same n x) (map-each a b f h same (n + 1) xs)
    ∙ sym (map-append b (h n x) (each_from h (n + 1) xs))
