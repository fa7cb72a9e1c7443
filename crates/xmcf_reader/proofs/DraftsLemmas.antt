-- Lemmas on drafts.
use Rattle.std.proofs.Common.{◌≡◌, ℕ, zero, suc, ◌<◌, ◌==◌, Bool, true, false, cond, List, [], ◌∷◌, map, filter, length, Some, refl, sym, arith, subst, ◌∙◌, ◌+◌, ◌≤◌, ap}
use Rattle.std.specs.List.{slice_get, count_by, AllByRecursion}
use Rattle.std.proofs.lemmas.List.Sums.{sum_by-cons}
use Rattle.std.proofs.lemmas.Bool.Decides.{nat_tests}
use Rattle.std.proofs.lemmas.Option.{slice_get_within}
use Rattle.xmcf_reader.specs.Draft.{is_among}
use Rattle.xmcf_reader.specs.Drafts.{word_of, StandsAt, child_words, children_of, IsDraft}
use Rattle.xmcf_reader.specs.Words.{is_word, word_number}
use Rattle.xmcf_reader.specs.declared.draft.Entry.{Entry}
use Rattle.xmcf_reader.specs.declared.word.Word.{Word}
use Rattle.xmcf_reader.specs.declared.word.Word.TheVariants as word

-- what holds of the names of all children holds of each entry with that parent
each_child : (P : Word → Type 0) (number : ℕ) (entries : List Entry) (k : ℕ) (entry : Entry) → AllByRecursion P (map (λ entry. word_of entry.what) (filter (λ entry. entry.parent == number) entries))
    → slice_get entries k ≡ Some entry → entry.parent ≡ number → P (word_of entry.what)
each_child P number [] k entry all got here = cc
each_child P number (first ∷ entries) zero entry all got here =
    let same : first ≡ entry = cc in
    let parent : first.parent ≡ number = subst (λ (e : Entry). e.parent ≡ number) (sym same) here in
    let test : (first.parent == number) ≡ true = grind (arith, nat_tests) in
    subst (λ (e : Entry). P (word_of e.what)) same (at (first.parent == number) test all)
  where
    at : (test : Bool) → test ≡ true → AllByRecursion P (map (λ entry. word_of entry.what) (cond test (first ∷ filter (λ entry. entry.parent == number) entries) (filter (λ entry. entry.parent == number) entries)))
        → P (word_of first.what)
    at true e all = all.0
    at false e all = cc
each_child P number (first ∷ entries) (suc k) entry all got here = each_child P number entries k entry (rest (first.parent == number) all) got here
  where
    rest : (test : Bool) → AllByRecursion P (map (λ entry. word_of entry.what) (cond test (first ∷ filter (λ entry. entry.parent == number) entries) (filter (λ entry. entry.parent == number) entries)))
        → AllByRecursion P (map (λ entry. word_of entry.what) (filter (λ entry. entry.parent == number) entries))
    rest true all = all.1
    rest false all = all

-- the parent of an entry, of whose element the table has it as a child
pub record HasParent (entries : List Entry) (entry : Entry) : Type 0 where
  pub parent : Entry
  pub stands : StandsAt entries entry.parent parent
  pub allowed : is_among (word_of entry.what) (child_words (word_of parent.what)) ≡ true

-- each entry but the first has a parent, of whose element the table has it as a child
pub has_parent : (entries : List Entry) (number : ℕ) (entry : Entry) → IsDraft entries → StandsAt entries number entry → 0 < number → HasParent entries entry
unfolding children_of
has_parent entries zero entry draft got past = absurd (omega arith)
has_parent [] (suc k) entry draft got past = cc
has_parent (first ∷ entries) (suc k) entry draft got past =
    let before : entry.parent < suc k = draft.before (suc k) entry got past in
    let inside : k < length entries = slice_get_within entries k entry got in
    at (stands_below (first ∷ entries) entry.parent (omega arith))
  where
    stands_below : (all : List Entry) (number : ℕ) → number < length all → (other : Entry) × (slice_get all number ≡ Some other)
    stands_below [] number below = absurd (omega arith)
    stands_below (one ∷ all) zero below = (one, refl)
    stands_below (one ∷ all) (suc number) below = stands_below all number (omega arith)

    at : ((other : Entry) × (slice_get (first ∷ entries) entry.parent ≡ Some other)) → HasParent (first ∷ entries) entry
    at found = record {
      parent = found.0;
      stands = found.1;
      allowed = each_child (λ name. is_among name (child_words (word_of found.0.what)) ≡ true) entry.parent entries k entry (draft.children entry.parent found.0 found.1).allowed got refl;
    }

-- all names, in the order of their numbers
abbrev pub all_words : List Word
all_words =
    word.SystemDescription ∷ word.HwDescription ∷ word.MemoryLayout ∷ word.Region ∷ word.ProcessorTable ∷ word.Processor ∷ word.CyclicPlanTable ∷
    word.Plan ∷ word.Slot ∷ word.Devices ∷ word.Uart ∷ word.XmHypervisor ∷ word.PhysicalMemoryArea ∷ word.PartitionTable ∷ word.Partition ∷
    word.PhysicalMemoryAreas ∷ word.Area ∷ word.TemporalRequirements ∷ word.HealthMonitor ∷ word.Event ∷ word.Trace ∷ word.PortTable ∷ word.Port ∷
    word.Channels ∷ word.SamplingChannel ∷ word.QueuingChannel ∷ word.Source ∷ word.Destination ∷ word.Ipvi ∷ word.Version ∷ word.Name ∷ word.Xmlns ∷
    word.Kind ∷ word.Start ∷ word.Size ∷ word.Id ∷ word.Frequency ∷ word.MajorFrame ∷ word.Duration ∷ word.PartitionId ∷ word.BaudRate ∷
    word.Console ∷ word.Flags ∷ word.Period ∷ word.Action ∷ word.Log ∷ word.Bitmask ∷ word.Device ∷ word.Direction ∷ word.MaxMessageLength ∷
    word.RefreshPeriod ∷ word.MaxNoMessages ∷ word.PortName ∷ word.SourceId ∷ word.DestinationId ∷ []

-- each name stands at its number
numbered : (one : Word) → slice_get all_words (word_number one) ≡ Some one
numbered word.SystemDescription = refl
numbered other = refl

-- names that are the same are equal
pub same_word : (one other : Word) → is_word one other ≡ true → one ≡ other
same_word one other e =
    let number : word_number one ≡ word_number other = grind (arith, nat_tests) in
    some_same (sym (numbered one) ∙ ap (λ (n : ℕ). slice_get all_words n) number ∙ numbered other)
  where
    some_same : Some one ≡ Some other → one ≡ other
    some_same f = cc

-- a first name is counted where it is the name
count_first : (word other : Word) (names : List Word) → count_by (is_word word) (other ∷ names) ≡ cond (is_word word other) 1 0 + count_by (is_word word) names
count_first word other names = sum_by-cons (λ name. cond (is_word word name) 1 0) other names

-- the names of the entries with a parent
abbrev pub names_under : ℕ → List Entry → List Word
names_under parent entries = map (λ entry. word_of entry.what) (filter (λ entry. entry.parent == parent) entries)

-- the entry at this place has this parent and this name
pub record IsUnder (entries : List Entry) (parent : ℕ) (word : Word) (place : ℕ) : Type 0 where
  pub entry : Entry
  pub stands : slice_get entries place ≡ Some entry
  pub parent_is : entry.parent ≡ parent
  pub word_is : word_of entry.what ≡ word

-- one place on, with one more in front
under_after : (first : Entry) (entries : List Entry) (parent : ℕ) (word : Word) (place : ℕ) → IsUnder entries parent word place → IsUnder (first ∷ entries) parent word (suc place)
under_after first entries parent word place under = record { entry = under.entry; stands = under.stands; parent_is = under.parent_is; word_is = under.word_is }

-- where a name is counted, it stands
counted_stands : (parent : ℕ) (word : Word) (entries : List Entry) → 1 ≤ count_by (is_word word) (names_under parent entries) → (place : ℕ) × IsUnder entries parent word place
counted_stands parent word [] some = absurd (omega arith)
counted_stands parent word (first ∷ entries) some = at (first.parent == parent) refl some (counted_stands parent word entries)
  where
    following : (place : ℕ) × IsUnder entries parent word place → (place : ℕ) × IsUnder (first ∷ entries) parent word place
    following found = (suc found.0, under_after first entries parent word found.0 found.1)

    by : (is : Bool) → is_word word (word_of first.what) ≡ is → first.parent ≡ parent → 1 ≤ cond is 1 0 + count_by (is_word word) (names_under parent entries)
        → (1 ≤ count_by (is_word word) (names_under parent entries) → (place : ℕ) × IsUnder entries parent word place) → (place : ℕ) × IsUnder (first ∷ entries) parent word place
    by true is here some more = (0, record { entry = first; stands = refl; parent_is = here; word_is = sym (same_word word (word_of first.what) is) })
    by false is here some more = following (more (omega (arith, some)))

    at : (here : Bool) → (first.parent == parent) ≡ here
        → 1 ≤ count_by (is_word word) (map (λ entry. word_of entry.what) (cond here (first ∷ filter (λ entry. entry.parent == parent) entries) (filter (λ entry. entry.parent == parent) entries)))
        → (1 ≤ count_by (is_word word) (names_under parent entries) → (place : ℕ) × IsUnder entries parent word place) → (place : ℕ) × IsUnder (first ∷ entries) parent word place
    at false e some more = following (more some)
    at true e some more =
        let here : first.parent ≡ parent = grind (arith, nat_tests) in
        by (is_word word (word_of first.what)) refl here (subst (λ (n : ℕ). 1 ≤ n) (count_first word (word_of first.what) (names_under parent entries)) some) more

-- the names under a parent, with one more in front
count_under : (parent : ℕ) (word : Word) (first : Entry) (entries : List Entry)
    → count_by (is_word word) (names_under parent (first ∷ entries)) ≡ cond (first.parent == parent) (cond (is_word word (word_of first.what)) 1 0) 0 + count_by (is_word word) (names_under parent entries)
count_under parent word first entries = at (first.parent == parent)
  where
    at : (here : Bool) → count_by (is_word word) (map (λ entry. word_of entry.what) (cond here (first ∷ filter (λ entry. entry.parent == parent) entries) (filter (λ entry. entry.parent == parent) entries)))
        ≡ cond here (cond (is_word word (word_of first.what)) 1 0) 0 + count_by (is_word word) (names_under parent entries)
    at true = count_first word (word_of first.what) (names_under parent entries)
    at false = omega arith

-- the first entry is counted where it has the parent and the name
first_counted : (parent : ℕ) (word : Word) (first : Entry) (entries : List Entry) → first.parent ≡ parent → word_of first.what ≡ word
    → count_by (is_word word) (names_under parent (first ∷ entries)) ≡ 1 + count_by (is_word word) (names_under parent entries)
first_counted parent word first entries here is =
    let test : (first.parent == parent) ≡ true = grind (arith, nat_tests) in
    let same : word_number word ≡ word_number (word_of first.what) = ap word_number (sym is) in
    let named : is_word word (word_of first.what) ≡ true = grind (arith, nat_tests) in
    count_under parent word first entries ∙ ap (λ (n : ℕ). n + count_by (is_word word) (names_under parent entries)) (both (first.parent == parent) (is_word word (word_of first.what)) test named)
  where
    both : (a b : Bool) → a ≡ true → b ≡ true → cond {A = ℕ} a (cond {A = ℕ} b 1 0) 0 ≡ 1
    both true true e f = refl
    both true false e f = cc
    both false b e f = cc

-- what stands is counted
stands_counted : (parent : ℕ) (word : Word) (entries : List Entry) (place : ℕ) → IsUnder entries parent word place → 1 ≤ count_by (is_word word) (names_under parent entries)
stands_counted parent word [] place under = absurd (never place under.stands)
  where
    never : (place : ℕ) → slice_get [] place ≡ Some under.entry → ⊥
    never place e = cc
stands_counted parent word (first ∷ entries) zero under =
    let same : first ≡ under.entry = some_same under.stands in
    omega (arith, first_counted parent word first entries (ap (λ (e : Entry). e.parent) same ∙ under.parent_is) (ap (λ (e : Entry). word_of e.what) same ∙ under.word_is))
  where
    some_same : Some first ≡ Some under.entry → first ≡ under.entry
    some_same f = cc
stands_counted parent word (first ∷ entries) (suc place) under =
    let following : 1 ≤ count_by (is_word word) (names_under parent entries) = stands_counted parent word entries place (record { entry = under.entry; stands = under.stands; parent_is = under.parent_is; word_is = under.word_is }) in
    omega (arith, count_under parent word first entries)

-- the first and a later one are counted twice
two_stand : (parent : ℕ) (word : Word) (first : Entry) (entries : List Entry) (place : ℕ) → count_by (is_word word) (names_under parent (first ∷ entries)) ≤ 1
    → IsUnder (first ∷ entries) parent word 0 → IsUnder (first ∷ entries) parent word (suc place) → ⊥
two_stand parent word first entries place most under also =
    let same : first ≡ under.entry = some_same under.stands in
    let following : 1 ≤ count_by (is_word word) (names_under parent entries) = stands_counted parent word entries place (record { entry = also.entry; stands = also.stands; parent_is = also.parent_is; word_is = also.word_is }) in
    omega (arith, first_counted parent word first entries (ap (λ (e : Entry). e.parent) same ∙ under.parent_is) (ap (λ (e : Entry). word_of e.what) same ∙ under.word_is))
  where
    some_same : Some first ≡ Some under.entry → first ≡ under.entry
    some_same f = cc

-- what is counted once at most stands at one place
one_place : (parent : ℕ) (word : Word) (entries : List Entry) (one other : ℕ) → count_by (is_word word) (names_under parent entries) ≤ 1 → IsUnder entries parent word one → IsUnder entries parent word other → one ≡ other
one_place parent word [] one other most under also = absurd (never one under.stands)
  where
    never : (place : ℕ) → slice_get [] place ≡ Some under.entry → ⊥
    never place e = cc
one_place parent word (first ∷ entries) zero zero most under also = refl
one_place parent word (first ∷ entries) zero (suc other) most under also = absurd (two_stand parent word first entries other most under also)
one_place parent word (first ∷ entries) (suc one) zero most under also = absurd (two_stand parent word first entries one most also under)
one_place parent word (first ∷ entries) (suc one) (suc other) most under also =
    ap suc (one_place parent word entries one other (omega (arith, count_under parent word first entries))
    (record { entry = under.entry; stands = under.stands; parent_is = under.parent_is; word_is = under.word_is })
    (record { entry = also.entry; stands = also.stands; parent_is = also.parent_is; word_is = also.word_is }))

-- the entry with this number is a child, of this name, of the entry with that number
pub record IsChildAt (entries : List Entry) (parent : ℕ) (word : Word) (number : ℕ) : Type 0 where
  pub entry : Entry
  pub stands : StandsAt entries number entry
  pub later : 0 < number
  pub parent_is : entry.parent ≡ parent
  pub word_is : word_of entry.what ≡ word

-- where a child of a name is counted, one stands
pub has_child : (entries : List Entry) (parent : ℕ) (word : Word) → 1 ≤ count_by (is_word word) (children_of parent entries) → (number : ℕ) × IsChildAt entries parent word number
unfolding children_of
has_child [] parent word some = absurd (omega arith)
has_child (root ∷ entries) parent word some =
    let found = counted_stands parent word entries some in
    (suc found.0, record { entry = found.1.entry; stands = found.1.stands; later = omega arith; parent_is = found.1.parent_is; word_is = found.1.word_is })

-- where children of a name are counted once at most, one stands at most
pub one_child : (entries : List Entry) (parent : ℕ) (word : Word) (one other : ℕ) → count_by (is_word word) (children_of parent entries) ≤ 1 → IsChildAt entries parent word one → IsChildAt entries parent word other → one ≡ other
unfolding children_of
one_child [] parent word one other most child also = absurd (never one child.stands)
  where
    never : (place : ℕ) → slice_get [] place ≡ Some child.entry → ⊥
    never place e = cc
one_child (root ∷ entries) parent word zero other most child also = absurd (omega (arith, child.later))
one_child (root ∷ entries) parent word (suc one) zero most child also = absurd (omega (arith, also.later))
one_child (root ∷ entries) parent word (suc one) (suc other) most child also =
    ap suc (one_place parent word entries one other most
    (record { entry = child.entry; stands = child.stands; parent_is = child.parent_is; word_is = child.word_is })
    (record { entry = also.entry; stands = also.stands; parent_is = also.parent_is; word_is = also.word_is }))
