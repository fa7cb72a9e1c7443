-- The entries and the open elements, from one start tag or end tag to the next.
use Rattle.std.proofs.Common.{◌≡◌, ℕ, zero, suc, ◌<◌, ◌≤◌, ◌==◌, Bool, true, false, cond, List, [], ◌∷◌, ◌++◌, map, filter, length, Some, ◌⊎◌, inl, inr, refl, sym, ap, ◌∙◌, arith, subst, append-nil}
use Rattle.std.specs.List.{slice_get, AllByRecursion}
use Rattle.std.proofs.lemmas.Bool.Decides.{nat_tests}
use Rattle.std.proofs.lemmas.Option.{slice_get_within}
use Rattle.std.proofs.lemmas.List.{map-append}
use Rattle.std.proofs.lemmas.List.Elements.{filter-append}
use Rattle.xmcf_reader.specs.Draft.{Open, may_stand, may_be_child, child_noted, parent_number}
use Rattle.xmcf_reader.specs.Drafts.{word_of, StandsAt, children_of, HasChildren, IsRoot, IsDraft}
use Rattle.xmcf_reader.specs.Faults.{is_done, missing_children}
use Rattle.xmcf_reader.specs.Words.{is_word}
use Rattle.xmcf_reader.specs.declared.draft.Entry.{Entry}
use Rattle.xmcf_reader.specs.declared.draft.Element.{Element}
use Rattle.xmcf_reader.specs.declared.draft.Element.TheVariants as element
use Rattle.xmcf_reader.specs.declared.word.Word.{Word}
use Rattle.xmcf_reader.specs.declared.word.Word.TheVariants as word
use Rattle.xmcf_reader.proofs.Counts.{Partly, partly_none, partly_more, complete}

-- what stands at a number still does when one more is after
pub got_before : {X : Type 0} (xs : List X) (y x : X) (k : ℕ) → slice_get xs k ≡ Some x → slice_get (xs ++ y ∷ []) k ≡ Some x
got_before [] y x k e = cc
got_before (z ∷ xs) y x zero e = e
got_before (z ∷ xs) y x (suc k) e = got_before xs y x k e

-- what stands at a number stood there, or is the one after
got_of : {X : Type 0} (xs : List X) (y x : X) (k : ℕ) → slice_get (xs ++ y ∷ []) k ≡ Some x → (slice_get xs k ≡ Some x) ⊎ ((k ≡ length xs) × (y ≡ x))
got_of [] y x zero e = inr (refl, cc)
got_of [] y x (suc k) e = cc
got_of (z ∷ xs) y x zero e = inl e
got_of (z ∷ xs) y x (suc k) e = by (got_of xs y x k e)
  where
    by : (slice_get xs k ≡ Some x) ⊎ ((k ≡ length xs) × (y ≡ x)) → (slice_get xs k ≡ Some x) ⊎ ((suc k ≡ suc (length xs)) × (y ≡ x))
    by (inl got) = inl got
    by (inr last) = inr (ap suc last.0, last.1)

-- the one after stands at the length
got_last : {X : Type 0} (xs : List X) (y : X) → slice_get (xs ++ y ∷ []) (length xs) ≡ Some y
got_last [] y = refl
got_last (z ∷ xs) y = got_last xs y

-- one thing stands at a number
same_got : {X : Type 0} (xs : List X) (k : ℕ) (x y : X) → slice_get xs k ≡ Some x → slice_get xs k ≡ Some y → x ≡ y
same_got xs k x y e f = cc

-- the name of an entry's element
abbrev pub word_at : Entry → Word
word_at entry = word_of entry.what

-- the name of one more child, or none
abbrev pub child_more : Entry → ℕ → List Word
child_more entry number = cond (entry.parent == number) (word_at entry ∷ []) []

-- one more entry is one more child of its parent
later_child : (number : ℕ) (entries : List Entry) (entry : Entry) → 0 < length entries → children_of number (entries ++ entry ∷ []) ≡ children_of number entries ++ child_more entry number
unfolding children_of
later_child number [] entry some = absurd (omega arith)
later_child number (root ∷ entries) entry some =
    ap (map word_at) (filter-append (λ (other : Entry). other.parent == number) entries (entry ∷ []))
    ∙ map-append word_at (filter (λ other. other.parent == number) entries) (cond (entry.parent == number) (entry ∷ []) [])
    ∙ ap (λ more. map word_at (filter (λ other. other.parent == number) entries) ++ more) (at (entry.parent == number))
  where
    at : (test : Bool) → map word_at (cond test (entry ∷ []) []) ≡ cond test (word_at entry ∷ []) []
    at true = refl
    at false = refl

-- an entry is one more child of its parent
child_here : (number : ℕ) (entries : List Entry) (entry : Entry) → 0 < length entries → entry.parent ≡ number → children_of number (entries ++ entry ∷ []) ≡ children_of number entries ++ word_at entry ∷ []
child_here number entries entry some here =
    let test : (entry.parent == number) ≡ true = grind (arith, nat_tests) in
    later_child number entries entry some ∙ ap (λ b. children_of number entries ++ cond b (word_at entry ∷ []) []) test

-- an entry is no child of any other
child_elsewhere : (number : ℕ) (entries : List Entry) (entry : Entry) → 0 < length entries → (entry.parent ≡ number → ⊥) → children_of number (entries ++ entry ∷ []) ≡ children_of number entries
child_elsewhere number entries entry some elsewhere =
    let test : (entry.parent == number) ≡ false = grind (arith, nat_tests) in
    later_child number entries entry some ∙ ap (λ b. children_of number entries ++ cond b (word_at entry ∷ []) []) test ∙ append-nil (children_of number entries)

-- a number after all parents has no children
childless : (number : ℕ) (entries : List Entry) → ((k : ℕ) (entry : Entry) → slice_get entries k ≡ Some entry → entry.parent < number) → map word_at (filter (λ entry. entry.parent == number) entries) ≡ []
childless number [] below = refl
childless number (entry ∷ entries) below =
    let here : entry.parent < number = below 0 entry refl in
    let test : (entry.parent == number) ≡ false = grind (arith, nat_tests) in
    rw test (childless number entries (λ k. below (suc k)))

-- the first entry is nobody's child
alone : (entry : Entry) → children_of 0 (entry ∷ []) ≡ []
unfolding children_of
alone entry = refl

-- the number that comes next has no children
no_children : (entries : List Entry) → ((k : ℕ) (entry : Entry) → StandsAt entries k entry → 0 < k → entry.parent < k) → children_of (length entries) entries ≡ []
unfolding children_of
no_children [] before = refl
no_children (root ∷ entries) before =
    childless (suc (length entries)) entries (λ k entry got.
    (let parent : entry.parent < suc k = before (suc k) entry got (omega arith) in let inside : k < length entries = slice_get_within entries k entry got in omega arith))

-- a number is one of some
abbrev pub IsOneOf : ℕ → List ℕ → Type 0
IsOneOf number [] = ⊥
IsOneOf number (other ∷ others) = (number ≡ other) ⊎ IsOneOf number others

-- the numbers of the open elements
abbrev pub numbers : List Open → List ℕ
numbers open_elements = map (λ inner. inner.number) open_elements

-- an open element is an entry with the children that it has so far, and all that stands after it stands within it
pub record IsOpenEntry (entries : List Entry) (inner : Open) (outer : List Open) : Type 0 where
  pub entry : Entry
  pub stands : StandsAt entries inner.number entry
  pub word : word_at entry ≡ inner.word
  pub children : children_of inner.number entries ≡ inner.children
  pub partly : Partly inner.word inner.children
  pub inside : AllByRecursion (λ other. other.number < inner.number) outer
  pub following : (number : ℕ) (other : Entry) → StandsAt entries number other → inner.number < number → inner.number ≤ other.parent

-- each open element is
abbrev pub ArePath : List Entry → List Open → Type 0
ArePath entries [] = Unit {0}
ArePath entries (inner ∷ outer) = IsOpenEntry entries inner outer × ArePath entries outer

-- the first entry is the root
abbrev pub IsRooted : List Entry → Type 0
IsRooted [] = Unit {0}
IsRooted (first ∷ entries) = IsRoot first

-- the entries, of which all but some with these numbers have all their children
pub record Base (entries : List Entry) (pending : List ℕ) : Type 0 where
  pub root : IsRooted entries
  pub before : (number : ℕ) (entry : Entry) → StandsAt entries number entry → 0 < number → entry.parent < number
  pub within : (number between : ℕ) (entry other : Entry) → StandsAt entries number entry → StandsAt entries between other → entry.parent < between → between < number → entry.parent ≤ other.parent
  pub settled : (number : ℕ) (entry : Entry) → StandsAt entries number entry → IsOneOf number pending ⊎ HasChildren (word_at entry) (children_of number entries)

-- an element with the name of the system is the system
system_is : (what : Element) → is_word (word_of what) word.SystemDescription ≡ true → (name : List ℕ) × (what ≡ element.System name)
system_is (element.System name) e = (name, refl)
system_is other e = cc

-- the first start tag
first_entered : (entry : Entry) → is_word (word_at entry) word.SystemDescription ≡ true → entry.parent ≡ 0 → Base (entry ∷ []) (0 ∷ [])
first_entered entry is parent = record {
  root = (let system = system_is entry.what is in record { name = system.0; system = system.1; parent = parent });
  before = only_first;
  within = λ number between entry other got at past until. absurd (nothing number entry got (omega arith));
  settled = λ number entry got. inl (zero_only number entry got);
}
  where
    nothing : (number : ℕ) (other : Entry) → slice_get (entry ∷ []) number ≡ Some other → 0 < number → ⊥
    nothing zero other got past = omega arith
    nothing (suc k) other got past = cc

    only_first : (number : ℕ) (other : Entry) → slice_get (entry ∷ []) number ≡ Some other → 0 < number → other.parent < number
    only_first number other got past = absurd (nothing number other got past)

    zero_only : (number : ℕ) (other : Entry) → slice_get (entry ∷ []) number ≡ Some other → IsOneOf number (0 ∷ [])
    zero_only zero other got = inl refl
    zero_only (suc k) other got = cc

-- the elements around the innermost keep what they have when it gets a child
path_kept : (entries : List Entry) (entry : Entry) (outer : List Open) → 0 < length entries → AllByRecursion (λ other. other.number < entry.parent) outer → ArePath entries outer → ArePath (entries ++ entry ∷ []) outer
path_kept entries entry [] some above path = tt
path_kept entries entry (inner ∷ outer) some above path = (
  record {
    entry = path.0.entry;
    stands = got_before entries entry path.0.entry inner.number path.0.stands;
    word = path.0.word;
    children = child_elsewhere inner.number entries entry some (λ e. (let apart : inner.number < entry.parent = above.0 in omega arith)) ∙ path.0.children;
    partly = path.0.partly;
    inside = path.0.inside;
    following = λ number other got past. by number other (got_of entries entry other number got) past;
  },
  path_kept entries entry outer some above.1 path.1,
)
  where
    by : (number : ℕ) (other : Entry) → (slice_get entries number ≡ Some other) ⊎ ((number ≡ length entries) × (entry ≡ other)) → inner.number < number → inner.number ≤ other.parent
    by number other (inl got) past = path.0.following number other got past
    by number other (inr last) past = let apart : inner.number < entry.parent = above.0 in let same : entry.parent ≡ other.parent = ap (λ (e : Entry). e.parent) last.1 in omega arith

-- the innermost open element gets a child
path_more : (entries : List Entry) (entry : Entry) (inner : Open) (outer : List Open) → entry.parent ≡ inner.number → may_be_child (word_at entry) inner ≡ true → ArePath entries (inner ∷ outer)
    → ArePath (entries ++ entry ∷ []) (child_noted (word_at entry) (inner ∷ outer))
unfolding may_be_child
path_more entries entry inner outer parent may path =
    let some : 0 < length entries = (let inside : inner.number < length entries = slice_get_within entries inner.number path.0.entry path.0.stands in omega arith) in (
      record {
        entry = path.0.entry;
        stands = got_before entries entry path.0.entry inner.number path.0.stands;
        word = path.0.word;
        children = child_here inner.number entries entry some parent ∙ ap (λ names. names ++ word_at entry ∷ []) path.0.children;
        partly = partly_more inner.word inner.children (word_at entry) path.0.partly may;
        inside = path.0.inside;
        following = λ number other got past. by number other (got_of entries entry other number got) past;
      },
      path_kept entries entry outer some (subst (λ (number : ℕ). AllByRecursion (λ other. other.number < number) outer) (sym parent) path.0.inside) path.1,
    )
  where
    by : (number : ℕ) (other : Entry) → (slice_get entries number ≡ Some other) ⊎ ((number ≡ length entries) × (entry ≡ other)) → inner.number < number → inner.number ≤ other.parent
    by number other (inl got) past = path.0.following number other got past
    by number other (inr last) past = let same : entry.parent ≡ other.parent = ap (λ (e : Entry). e.parent) last.1 in omega arith

-- a later start tag
later_entered : (entries : List Entry) (entry : Entry) (inner : Open) (outer : List Open) → entry.parent ≡ inner.number → IsOpenEntry entries inner outer → Base entries (numbers (inner ∷ outer))
    → Base (entries ++ entry ∷ []) (length entries ∷ numbers (inner ∷ outer))
later_entered entries entry inner outer parent opened base =
    let inside : inner.number < length entries = slice_get_within entries inner.number opened.entry opened.stands in
    let some : 0 < length entries = omega arith in
    record {
      root = rooted entries base.root some;
      before = λ number other got past. earlier number other (got_of entries entry other number got) past;
      within = λ number between one other got at past until. nested number between one other (got_of entries entry one number got) (got_of entries entry other between at) past until;
      settled = λ number other got. settle number other (got_of entries entry other number got);
    }
  where
    rooted : (all : List Entry) → IsRooted all → 0 < length all → IsRooted (all ++ entry ∷ [])
    rooted [] root some = absurd (omega arith)
    rooted (first ∷ rest) root some = root

    earlier : (number : ℕ) (other : Entry) → (slice_get entries number ≡ Some other) ⊎ ((number ≡ length entries) × (entry ≡ other)) → 0 < number → other.parent < number
    earlier number other (inl got) past = base.before number other got past
    earlier number other (inr last) past =
        let same : entry.parent ≡ other.parent = ap (λ (e : Entry). e.parent) last.1 in
        let inside : inner.number < length entries = slice_get_within entries inner.number opened.entry opened.stands in
        let here : number ≡ length entries = last.0 in omega arith

    nested : (number between : ℕ) (one other : Entry) → (slice_get entries number ≡ Some one) ⊎ ((number ≡ length entries) × (entry ≡ one)) → (slice_get entries between ≡ Some other) ⊎ ((between ≡ length entries) × (entry ≡ other))
        → one.parent < between → between < number → one.parent ≤ other.parent
    nested number between one other (inl got) (inl at) past until = base.within number between one other got at past until
    nested number between one other (inl got) (inr last) past until =
        let short : number < length entries = slice_get_within entries number one got in let here : between ≡ length entries = last.0 in absurd (omega arith)
    nested number between one other (inr last) (inl at) past until =
        let same : entry.parent ≡ one.parent = ap (λ (e : Entry). e.parent) last.1 in
        let low : inner.number ≤ other.parent = opened.following between other at (omega arith) in omega arith
    nested number between one other (inr last) (inr also) past until = let here : number ≡ length entries = last.0 in let there : between ≡ length entries = also.0 in absurd (omega arith)

    settle_at : (number : ℕ) (other : Entry) → (test : Bool) → (number == inner.number) ≡ test → IsOneOf number (numbers (inner ∷ outer)) ⊎ HasChildren (word_at other) (children_of number entries)
        → IsOneOf number (length entries ∷ numbers (inner ∷ outer)) ⊎ HasChildren (word_at other) (children_of number (entries ++ entry ∷ []))
    settle_at number other test is (inl pending) = inl (inr pending)
    settle_at number other true is (inr whole) = let same : number ≡ inner.number = grind (arith, nat_tests) in inl (inr (inl same))
    settle_at number other false is (inr whole) =
        let inside : inner.number < length entries = slice_get_within entries inner.number opened.entry opened.stands in
        inr (subst (HasChildren (word_at other)) (sym (child_elsewhere number entries entry (omega arith) (λ e. apart e))) whole)
      where
        apart : entry.parent ≡ number → ⊥
        apart e = grind (arith, nat_tests)

    settle : (number : ℕ) (other : Entry) → (slice_get entries number ≡ Some other) ⊎ ((number ≡ length entries) × (entry ≡ other))
        → IsOneOf number (length entries ∷ numbers (inner ∷ outer)) ⊎ HasChildren (word_at other) (children_of number (entries ++ entry ∷ []))
    settle number other (inl got) = settle_at number other (number == inner.number) refl (base.settled number other got)
    settle number other (inr last) = inl (inl last.0)

-- the entries and the open elements
pub record Stands (entries : List Entry) (open_elements : List Open) : Type 0 where
  pub base : Base entries (numbers open_elements)
  pub path : ArePath entries open_elements

-- the entries after a start tag, whose element is to be opened or has no children
pub record Enters (entries : List Entry) (open_elements : List Open) (number : ℕ) (entry : Entry) : Type 0 where
  pub base : Base entries (number ∷ numbers open_elements)
  pub path : ArePath entries open_elements
  pub stands : StandsAt entries number entry
  pub last : (other : ℕ) (following : Entry) → StandsAt entries other following → other ≤ number
  pub childless : children_of number entries ≡ []
  pub inside : AllByRecursion (λ outer. outer.number < number) open_elements

-- the numbers of open elements are those of entries
path_inside : (entries : List Entry) (open_elements : List Open) → ArePath entries open_elements → AllByRecursion (λ outer. outer.number < length entries) open_elements
path_inside entries [] path = tt
path_inside entries (inner ∷ outer) path = (slice_get_within entries inner.number path.0.entry path.0.stands, path_inside entries outer path.1)

-- a start tag gives an entry
pub entered : (entries : List Entry) (open_elements : List Open) (entry : Entry) → Stands entries open_elements → may_stand (word_at entry) open_elements ≡ true → is_done open_elements entries ≡ false
    → entry.parent ≡ parent_number open_elements → Enters (entries ++ entry ∷ []) (child_noted (word_at entry) open_elements) (length entries) entry
entered [] [] entry stands may undone parent = record {
  base = first_entered entry may parent;
  path = tt;
  stands = refl;
  last = λ other following got. at other following got;
  childless = alone entry;
  inside = tt;
}
  where
    at : (other : ℕ) (following : Entry) → slice_get (entry ∷ []) other ≡ Some following → other ≤ 0
    at zero following got = omega arith
    at (suc k) following got = cc
entered (first ∷ entries) [] entry stands may undone parent = cc
entered entries (inner ∷ outer) entry stands may undone parent =
    let base = later_entered entries entry inner outer parent stands.path.0 stands.base in
    record {
      base = base;
      path = path_more entries entry inner outer parent may stands.path;
      stands = got_last entries entry;
      last = λ other following got. at other following (got_of entries entry following other got);
      childless = bare;
      inside = path_inside entries (inner ∷ outer) stands.path;
    }
  where
    at : (other : ℕ) (following : Entry) → (slice_get entries other ≡ Some following) ⊎ ((other ≡ length entries) × (entry ≡ following)) → other ≤ length entries
    at other following (inl got) = let inside : other < length entries = slice_get_within entries other following got in omega arith
    at other following (inr last) = omega (arith, last.0)

    bare : children_of (length entries) (entries ++ entry ∷ []) ≡ []
    bare =
        let inside : inner.number < length entries = slice_get_within entries inner.number stands.path.0.entry stands.path.0.stands in
        child_elsewhere (length entries) entries entry (omega arith) (λ e. (let apart : entry.parent ≡ inner.number = parent in omega arith)) ∙ no_children entries stands.base.before

-- an entry with all its children is settled
settled_more : (entries : List Entry) (number : ℕ) (pending : List ℕ) → Base entries (number ∷ pending) → ((entry : Entry) → StandsAt entries number entry → HasChildren (word_at entry) (children_of number entries)) → Base entries pending
settled_more entries number pending base whole = record {
  root = base.root;
  before = base.before;
  within = base.within;
  settled = λ other entry got. at other entry got (base.settled other entry got);
}
  where
    at : (other : ℕ) (entry : Entry) → StandsAt entries other entry → ((other ≡ number) ⊎ IsOneOf other pending) ⊎ HasChildren (word_at entry) (children_of other entries)
        → IsOneOf other pending ⊎ HasChildren (word_at entry) (children_of other entries)
    at other entry got (inr done) = inr done
    at other entry got (inl (inr pending)) = inl pending
    at other entry got (inl (inl same)) =
        inr (subst (λ (n : ℕ). HasChildren (word_at entry) (children_of n entries)) (sym same) (whole entry (subst (λ (n : ℕ). StandsAt entries n entry) same got)))

-- a start tag ends, and its element is open
pub opens : (entries : List Entry) (open_elements : List Open) (number : ℕ) (entry : Entry) → Enters entries open_elements number entry
    → Stands entries ((record { word = word_at entry; number = number; children = [] }) ∷ open_elements)
opens entries open_elements number entry enters = record {
  base = enters.base;
  path = (
    record {
      entry = entry;
      stands = enters.stands;
      word = refl;
      children = enters.childless;
      partly = partly_none (word_at entry);
      inside = enters.inside;
      following = λ other following got past. (let last : other ≤ number = enters.last other following got in absurd (omega arith));
    },
    enters.path,
  );
}

-- an empty tag ends
pub empties : (entries : List Entry) (open_elements : List Open) (number : ℕ) (entry : Entry) (place : ℕ) → Enters entries open_elements number entry → missing_children (word_at entry) [] place ≡ []
    → Stands entries open_elements
empties entries open_elements number entry place enters none = record {
  base = settled_more entries number (numbers open_elements) enters.base (λ other got.
      (let same : entry ≡ other = same_got entries number entry other enters.stands got in
      subst (λ (e : Entry). HasChildren (word_at e) (children_of number entries)) same
      (subst (HasChildren (word_at entry)) (sym enters.childless) (complete (word_at entry) [] place (partly_none (word_at entry)) none))));
  path = enters.path;
}

-- an element ends
pub closes : (entries : List Entry) (inner : Open) (outer : List Open) (place : ℕ) → Stands entries (inner ∷ outer) → missing_children inner.word inner.children place ≡ [] → Stands entries outer
closes entries inner outer place stands none = record {
  base = settled_more entries inner.number (numbers outer) stands.base (λ other got.
      (let same : stands.path.0.entry ≡ other = same_got entries inner.number stands.path.0.entry other stands.path.0.stands got in
      subst (λ (e : Entry). HasChildren (word_at e) (children_of inner.number entries)) same
      (subst (HasChildren (word_at stands.path.0.entry)) (sym stands.path.0.children)
      (subst (λ (word : Word). HasChildren word inner.children) (sym stands.path.0.word) (complete inner.word inner.children place stands.path.0.partly none)))));
  path = stands.path.1;
}

-- where no element is open, and there is an entry, the entries are a draft
pub drafted : (entries : List Entry) → Stands entries [] → is_done [] entries ≡ true → IsDraft entries
drafted [] stands done = cc
drafted (first ∷ entries) stands done = record {
  root = (first, refl, stands.base.root);
  before = stands.base.before;
  within = stands.base.within;
  children = λ number entry got. at number entry (stands.base.settled number entry got);
}
  where
    at : (number : ℕ) (entry : Entry) → ⊥ ⊎ HasChildren (word_at entry) (children_of number (first ∷ entries)) → HasChildren (word_at entry) (children_of number (first ∷ entries))
    at number entry (inl none) = absurd none
    at number entry (inr whole) = whole
