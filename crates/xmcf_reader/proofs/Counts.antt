-- The children of an open element, and when they are all that the table demands.
use Rattle.std.proofs.Common.{◌≡◌, ℕ, ◌+◌, ◌≤◌, Bool, true, false, cond, List, [], ◌∷◌, ◌++◌, map, Option, Some, None, refl, sym, ap, ◌∙◌, arith, subst}
use Rattle.std.specs.Prelude.{not, ◌&&◌, ◌||◌}
use Rattle.std.specs.List.{find, count_by, AllByRecursion}
use Rattle.std.proofs.lemmas.List.Sums.{sum_by-append, sum_by-cons}
use Rattle.xmcf_reader.specs.Draft.{is_among, is_needed, has_place, child_named, lacks_child}
use Rattle.xmcf_reader.specs.Drafts.{child_words, StandsOften, HasChildren}
use Rattle.xmcf_reader.specs.Faults.{missing_children}
use Rattle.xmcf_reader.specs.Table.{allowed_children, attributes}
use Rattle.xmcf_reader.specs.Words.{is_word, word_number}
use Rattle.xmcf_reader.specs.declared.table.Attribute.{Attribute}
use Rattle.xmcf_reader.specs.declared.table.Child.{Child}
use Rattle.xmcf_reader.specs.declared.table.Often.{Often}
use Rattle.xmcf_reader.specs.declared.table.Often.TheVariants as often
use Rattle.xmcf_reader.specs.declared.fault.ReadFault.TheVariants as fault
use Rattle.xmcf_reader.specs.declared.word.Word.{Word}
use Rattle.xmcf_reader.specs.declared.word.Word.TheVariants as word
use Rattle.xmcf_reader.proofs.Rows.{same_number, is_same, unlike, all_of, all_both, all_more, found_passes, none_of, distinct, same_row}

-- the name of a child's row
abbrev pub child_word : Child → Word
child_word child = child.word

-- the name of an attribute's row
abbrev pub attribute_word : Attribute → Word
attribute_word attribute = attribute.word

-- no element has a child twice in the table
pub children_distinct : (element : Word) → distinct child_word (allowed_children element) ≡ true
children_distinct word.SystemDescription = refl
children_distinct other = refl

-- no element has an attribute twice in the table
pub attributes_distinct : (element : Word) → distinct attribute_word (attributes element) ≡ true
attributes_distinct word.SystemDescription = refl
attributes_distinct other = refl

-- a child stands no more often than it may
abbrev pub AtMost : Often → ℕ → Type 0
AtMost often.One count = count ≤ 1
AtMost often.Maybe count = count ≤ 1
AtMost often.Some count = Unit {0}
AtMost often.Any count = Unit {0}

-- the children so far: the table has each of them, and each of the table's stands no more often than it may
pub record Partly (element : Word) (names : List Word) : Type 0 where
  pub allowed : AllByRecursion (λ name. is_among name (child_words element) ≡ true) names
  pub most : AllByRecursion (λ child. AtMost child.often (count_by (is_word child.word) names)) (allowed_children element)

-- a child that does not stand may stand
none_at_most : (often : Often) → AtMost often 0
none_at_most often.One = omega arith
none_at_most often.Maybe = omega arith
none_at_most often.Some = tt
none_at_most often.Any = tt

-- an element without children has none that the table forbids
pub partly_none : (element : Word) → Partly element []
partly_none element = record { allowed = tt; most = all_of _ (allowed_children element) (λ child. none_at_most child.often) }

-- a first name is counted where it is the name
count_first : (word other : Word) (names : List Word) → count_by (is_word word) (other ∷ names) ≡ cond (is_word word other) 1 0 + count_by (is_word word) names
count_first word other names = sum_by-cons (λ name. cond (is_word word name) 1 0) other names

-- one more name is counted where it is the name
count_more : (word : Word) (names : List Word) (other : Word) → count_by (is_word word) (names ++ other ∷ []) ≡ count_by (is_word word) names + cond (is_word word other) 1 0
count_more word names other = sum_by-append (λ name. cond (is_word word name) 1 0) names (other ∷ []) ∙ ap (λ n. count_by (is_word word) names + n) (omega arith)

-- a name that is not among names is counted 0 times
absent : (word other : Word) (names : List Word) → is_among other names ≡ false → word_number word ≡ word_number other → count_by (is_word word) names ≡ 0
unfolding is_among
absent word other [] e same = refl
absent word other (name ∷ names) e same = at (is_word name other) refl e (absent word other names)
  where
    at : (here : Bool) → is_word name other ≡ here → (here || is_among other names) ≡ false → (is_among other names ≡ false → word_number word ≡ word_number other → count_by (is_word word) names ≡ 0)
        → count_by (is_word word) (name ∷ names) ≡ 0
    at true is f more = cc
    at false is f more = count_first word name names ∙ by (is_word word name) refl (more f same)
      where
        by : (test : Bool) → is_word word name ≡ test → count_by (is_word word) names ≡ 0 → cond test 1 0 + count_by (is_word word) names ≡ 0
        by true passes none = absurd (unlike _ (is_same name other (sym (same_number word name passes) ∙ same)) is)
        by false passes none = omega (arith, none)

-- a name that is among names is counted
present : (word : Word) (names : List Word) → is_among word names ≡ true → 1 ≤ count_by (is_word word) names
unfolding is_among
present word [] e = cc
present word (name ∷ names) e = at (is_word name word) refl e (present word names)
  where
    at : (here : Bool) → is_word name word ≡ here → (here || is_among word names) ≡ true → (is_among word names ≡ true → 1 ≤ count_by (is_word word) names) → 1 ≤ count_by (is_word word) (name ∷ names)
    at true is f more = let passes : is_word word name ≡ true = is_same word name (sym (same_number name word is)) in subst (λ (n : ℕ). 1 ≤ n) (sym (count_first word name names)) (rw passes (omega arith))
    at false is f more = let following : 1 ≤ count_by (is_word word) names = more f in omega (arith, count_first word name names)

-- a child that has place is in the table
found_among : (word : Word) (rows : List Child) (row : Child) → find (λ child. is_word child.word word) rows ≡ Some row → is_among word (map child_word rows) ≡ true
unfolding is_among
found_among word [] row e = cc
found_among word (first ∷ rows) row e = at (is_word first.word word) e (found_among word rows row)
  where
    at : (here : Bool) → cond here (Some first) (find (λ child. is_word child.word word) rows) ≡ Some row → (find (λ child. is_word child.word word) rows ≡ Some row → is_among word (map child_word rows) ≡ true)
        → (here || is_among word (map child_word rows)) ≡ true
    at true f more = refl
    at false f more = more f

-- a child for which there is place may stand once more
once_more : (row : Child) (word : Word) (names : List Word) → word_number row.word ≡ word_number word → has_place (Some row) (is_among word names) ≡ true → AtMost row.often (count_by (is_word row.word) names + 1)
once_more row word names same place = at row.often (is_among word names) refl place
  where
    at : (often : Often) (stands : Bool) → is_among word names ≡ stands → has_place (Some (record { word = row.word; often = often })) stands ≡ true → AtMost often (count_by (is_word row.word) names + 1)
    at often.One true is place = cc
    at often.One false is place = let none : count_by (is_word row.word) names ≡ 0 = absent row.word word names is same in omega arith
    at often.Maybe true is place = cc
    at often.Maybe false is place = let none : count_by (is_word row.word) names ≡ 0 = absent row.word word names is same in omega arith
    at often.Some stands is place = tt
    at often.Any stands is place = tt

-- a child for which there is place stands once more
pub partly_more : (element : Word) (names : List Word) (word : Word) → Partly element names → has_place (child_named word element) (is_among word names) ≡ true → Partly element (names ++ word ∷ [])
unfolding child_named
partly_more element names word partly place = at (find (λ child. is_word child.word word) (allowed_children element)) refl place
  where
    at : (found : Option Child) → find (λ child. is_word child.word word) (allowed_children element) ≡ found → has_place found (is_among word names) ≡ true → Partly element (names ++ word ∷ [])
    at None is place = cc
    at (Some row) is place =
        let same : word_number row.word ≡ word_number word = same_number row.word word (found_passes (λ (child : Child). is_word child.word word) (allowed_children element) row is) in
        record {
          allowed = all_more _ names word partly.allowed (found_among word (allowed_children element) row is);
          most = all_both _ _ _ (allowed_children element) (one_more row same place) partly.most (same_row child_word (λ child. is_word child.word word) (allowed_children element) row (children_distinct element) is);
        }
      where
        one_more : (row : Child) → word_number row.word ≡ word_number word → has_place (Some row) (is_among word names) ≡ true
            → (child : Child) → AtMost child.often (count_by (is_word child.word) names) → (is_word child.word row.word ≡ true → child ≡ row) → AtMost child.often (count_by (is_word child.word) (names ++ word ∷ []))
        one_more row same place child most unique = subst (AtMost child.often) (sym (count_more child.word names word)) (by (is_word child.word word) refl)
          where
            by : (test : Bool) → is_word child.word word ≡ test → AtMost child.often (count_by (is_word child.word) names + cond test 1 0)
            by true passes =
                let is_row : child ≡ row = unique (is_same child.word row.word (same_number child.word word passes ∙ sym same)) in
                subst (λ (other : Child). AtMost other.often (count_by (is_word other.word) names + 1)) (sym is_row) (once_more row word names same place)
            by false passes = subst (AtMost child.often) (omega arith) most

-- a child that stands no more often than it may, and where it has to, stands as often as it has to
often_enough : (child : Child) (names : List Word) → AtMost child.often (count_by (is_word child.word) names) → lacks_child names child ≡ false → StandsOften child.often (count_by (is_word child.word) names)
often_enough child names most stands = at child.often (is_among child.word names) refl most stands
  where
    at : (often : Often) (among : Bool) → is_among child.word names ≡ among → AtMost often (count_by (is_word child.word) names) → (is_needed often && not among) ≡ false → StandsOften often (count_by (is_word child.word) names)
    at often.One true is most stands = let some : 1 ≤ count_by (is_word child.word) names = present child.word names is in omega arith
    at often.One false is most stands = cc
    at often.Maybe among is most stands = most
    at often.Some true is most stands = present child.word names is
    at often.Some false is most stands = cc
    at often.Any among is most stands = tt

-- where no child is missing, the children are those of the table
pub complete : (element : Word) (names : List Word) (place : ℕ) → Partly element names → missing_children element names place ≡ [] → HasChildren element names
unfolding missing_children
complete element names place partly none = record {
  allowed = partly.allowed;
  counted = all_both _ _ _ (allowed_children element) (λ child. often_enough child names) partly.most (none_of (lacks_child names) (λ child. fault.MissingChild place child.word) (allowed_children element) none);
}
