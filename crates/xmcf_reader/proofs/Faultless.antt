-- A text without a fault gives a draft.
use Rattle.std.proofs.Common.{◌≡◌, ℕ, ◌+◌, Bool, true, false, cond, List, [], ◌∷◌, ◌++◌, length, Option, Some, None, refl, sym, subst, ap}
use Rattle.std.specs.Prelude.{not, ◌&&◌, nat_lt}
use Rattle.std.specs.List.{slice_get, AllByRecursion}
use Rattle.std.specs.Str.{bytes_eq}
use Rattle.std.specs.Str.Lossy.{utf8_valid_len}
use Rattle.xmcf_reader.specs.Draft.{Context, Open, Tag, empty_draft, after_token, attribute_named, may_stand, lacks_attribute, tag_begun, named_as, valued, entry_added, tag_ended, opened, outer_of, child_noted, parent_number, blank_passed, equaled}
use Rattle.xmcf_reader.specs.Drafts.{IsDraft, word_of}
use Rattle.xmcf_reader.specs.Elements.{Pair, attribute_text, built}
use Rattle.xmcf_reader.specs.Faults.{Cut, Item, Rest, End, cut, draft_from, draft_of, faults_from, faults_of, xmcf_fault, when, is_between, is_spaced, may_end, is_done, element_faults, attribute_faults, value_faults, missing_attributes, missing_children, missing_of, closes, may_begin, lesser_fault, least, comes_before}
use Rattle.xmcf_reader.specs.Table.{attributes}
use Rattle.xmcf_reader.specs.Tokens.{Token, Blanks, Comment, Declaration, Opening, Name, Equals, Value, TagEnd, EmptyEnd, EndTag}
use Rattle.xmcf_reader.specs.Values.{has_form}
use Rattle.xmcf_reader.specs.Words.{element_named, elements, is_word, word_text}
use Rattle.xmcf_reader.specs.declared.draft.Entry.{Entry}
use Rattle.xmcf_reader.specs.declared.draft.Element.{Element}
use Rattle.xmcf_reader.specs.declared.fault.ReadFault.{ReadFault}
use Rattle.xmcf_reader.specs.declared.fault.ReadFault.TheVariants as fault
use Rattle.xmcf_reader.specs.declared.stage.Stage.{Stage}
use Rattle.xmcf_reader.specs.declared.stage.Stage.TheVariants.{Between, Bare, Spaced, Named, Equaled}
use Rattle.xmcf_reader.specs.declared.table.Attribute.{Attribute}
use Rattle.xmcf_reader.specs.declared.word.Word.{Word}
use Rattle.xmcf_reader.proofs.Built.{Suits, Fulfils, IsOf, is_element, built_is}
use Rattle.xmcf_reader.proofs.Counts.{attribute_word, attributes_distinct}
use Rattle.xmcf_reader.proofs.Rows.{all_of, all_both, found_all, none_of, same_row, same_number, is_same}
use Rattle.xmcf_reader.proofs.Stands as stands
use Rattle.xmcf_reader.proofs.Stands.{Stands, Enters, drafted}

-- of two lists that make none, neither has anything
pub no_first : {X : Type 0} (some more : List X) → some ++ more ≡ [] → some ≡ []
no_first [] more e = refl
no_first (x ∷ some) more e = cc

pub no_second : {X : Type 0} (some more : List X) → some ++ more ≡ [] → more ≡ []
no_second [] more e = e
no_second (x ∷ some) more e = cc

-- a fault that does not come
pub not_when : (comes : Bool) (one : ReadFault) → when comes one ≡ [] → comes ≡ false
not_when true one e = cc
not_when false one e = refl

pub is_so : (holds : Bool) → not holds ≡ false → holds ≡ true
is_so true e = refl
is_so false e = cc

pub is_not_so : (holds : Bool) → not holds ≡ true → holds ≡ false
is_not_so true e = cc
is_not_so false e = refl

pub both_left : (a b : Bool) → (a && b) ≡ true → a ≡ true
both_left true b e = refl
both_left false b e = cc

pub both_right : (a b : Bool) → (a && b) ≡ true → b ≡ true
both_right true b e = e
both_right false b e = cc

-- what stands where it has to
pub stands_here : (holds : Bool) (one : ReadFault) (more : List ReadFault) → when (not holds) one ++ more ≡ [] → holds ≡ true
stands_here holds one more e = is_so holds (not_when (not holds) one (no_first (when (not holds) one) more e))

-- the values of a tag have their forms
abbrev pub SuitAll : List Pair → Word → Type 0
SuitAll given word = AllByRecursion (λ attribute. Suits attribute.form (attribute_text attribute.word given)) (attributes word)

-- a start tag whose element may stand
pub record IsTag (tag : Tag) (open_elements : List Open) (entries : List Entry) : Type 0 where
  pub element : is_element tag.word ≡ true
  pub may : may_stand tag.word open_elements ≡ true
  pub undone : is_done open_elements entries ≡ false
  pub suit : SuitAll tag.given tag.word

-- an attribute of the table
abbrev pub IsRow : Attribute → Word → Type 0
IsRow attribute word = AllByRecursion (λ other. is_word other.word attribute.word ≡ true → other ≡ attribute) (attributes word)

-- where in a start tag the text is, its element may stand, and its values have their forms
abbrev pub TagStands : Stage → Tag → List Open → List Entry → Type 0
TagStands Between tag open_elements entries = Unit {0}
TagStands Bare tag open_elements entries = IsTag tag open_elements entries
TagStands Spaced tag open_elements entries = IsTag tag open_elements entries
TagStands (Named attribute) tag open_elements entries = IsTag tag open_elements entries × IsRow attribute tag.word
TagStands (Equaled attribute) tag open_elements entries = IsTag tag open_elements entries × IsRow attribute tag.word

-- what tokens without a fault give
pub record Sound (context : Context) : Type 0 where
  pub stands : Stands context.entries context.open_elements
  pub tag : TagStands context.stage context.tag context.open_elements context.entries

-- after blanks
sound_spaced : (stage : Stage) (tag : Tag) (open_elements : List Open) (entries : List Entry) → TagStands stage tag open_elements entries → TagStands (blank_passed stage) tag open_elements entries
sound_spaced Between tag open_elements entries h = tt
sound_spaced Bare tag open_elements entries h = h
sound_spaced Spaced tag open_elements entries h = h
sound_spaced (Named attribute) tag open_elements entries h = h
sound_spaced (Equaled attribute) tag open_elements entries h = h

-- after a `=`
sound_equaled : (stage : Stage) (tag : Tag) (open_elements : List Open) (entries : List Entry) → TagStands stage tag open_elements entries → TagStands (equaled stage) tag open_elements entries
sound_equaled Between tag open_elements entries h = tt
sound_equaled Bare tag open_elements entries h = h
sound_equaled Spaced tag open_elements entries h = h
sound_equaled (Named attribute) tag open_elements entries h = h
sound_equaled (Equaled attribute) tag open_elements entries h = h

-- the names of the table's elements are elements
all_elements : AllByRecursion (λ word. is_element word ≡ true) elements
all_elements = (refl, (refl, (refl, (refl, (refl, (refl, (refl, (refl, (refl, (refl, (refl, (refl, (refl, (refl, (refl, (refl, (refl, (refl, (refl, (refl, (refl, (refl, (refl, (refl, (refl, (refl, (refl, (refl, (refl, tt)))))))))))))))))))))))))))))

-- what bytes name is an element
pub named_element : (name : List ℕ) (word : Word) → element_named name ≡ Some word → is_element word ≡ true
unfolding element_named
named_element name word e = found_all (λ word. is_element word ≡ true) (λ element. bytes_eq (word_text element) name) elements word e all_elements

-- a tag without attributes
none_suit : (word : Word) → SuitAll [] word
none_suit word = all_of _ (attributes word) (λ attribute. tt)

-- a start tag begins
sound_opening : (context : Context) (element : Option Word) (at : ℕ) → (element ≡ None → ⊥) → ((word : Word) → element ≡ Some word → is_element word ≡ true) → Sound context
    → is_between context.stage ≡ true → is_done context.open_elements context.entries ≡ false → element_faults element context.open_elements at ≡ [] → Sound (tag_begun element at context)
sound_opening context None at some known sound between undone none = cc
sound_opening context (Some word) at some known sound between undone none = record {
  stands = sound.stands;
  tag = record {
    element = known word refl;
    may = is_so _ (not_when _ (fault.WrongChild at) none);
    undone = undone;
    suit = none_suit word;
  };
}

-- an attribute that the table has
named_row : (name : List ℕ) (element : Word) (attribute : Attribute) → attribute_named name element ≡ Some attribute → IsRow attribute element
unfolding attribute_named
named_row name element attribute e = same_row attribute_word (λ attribute. bytes_eq (word_text attribute.word) name) (attributes element) attribute (attributes_distinct element) e

-- in a start tag where an attribute may stand
spaced_tag : (stage : Stage) (tag : Tag) (open_elements : List Open) (entries : List Entry) → is_spaced stage ≡ true → TagStands stage tag open_elements entries → IsTag tag open_elements entries
spaced_tag Between tag open_elements entries e h = cc
spaced_tag Bare tag open_elements entries e h = cc
spaced_tag Spaced tag open_elements entries e h = h
spaced_tag (Named attribute) tag open_elements entries e h = cc
spaced_tag (Equaled attribute) tag open_elements entries e h = cc

-- in a start tag where it may end
ended_tag : (stage : Stage) (tag : Tag) (open_elements : List Open) (entries : List Entry) → may_end stage ≡ true → TagStands stage tag open_elements entries → IsTag tag open_elements entries
ended_tag Between tag open_elements entries e h = cc
ended_tag Bare tag open_elements entries e h = h
ended_tag Spaced tag open_elements entries e h = h
ended_tag (Named attribute) tag open_elements entries e h = cc
ended_tag (Equaled attribute) tag open_elements entries e h = cc

-- an attribute's name stands
sound_name : (context : Context) (attribute : Option Attribute) (at : ℕ) → ((row : Attribute) → attribute ≡ Some row → IsRow row context.tag.word) → Sound context → is_spaced context.stage ≡ true
    → attribute_faults attribute context.tag at ≡ [] → Sound (named_as attribute context)
sound_name context None at known sound spaced none = cc
sound_name context (Some attribute) at known sound spaced none = record {
  stands = sound.stands;
  tag = (spaced_tag context.stage context.tag context.open_elements context.entries spaced sound.tag, known attribute refl);
}

-- one more value, which has the form of its attribute
suit_more : (form_of : Attribute) (text : List ℕ) (given : List Pair) (other : Attribute) → has_form form_of.form text ≡ true → (is_word other.word form_of.word ≡ true → other ≡ form_of) → Suits other.form (attribute_text other.word given)
    → Suits other.form (attribute_text other.word (given ++ (record { word = form_of.word; text = text }) ∷ []))
suit_more row text [] other form same suits = at (is_word row.word other.word) refl
  where
    at : (test : Bool) → is_word row.word other.word ≡ test → Suits other.form (cond test (Some text) None)
    at true passes =
        let is_row : other ≡ row = same (is_same other.word row.word (sym (same_number row.word other.word passes))) in subst (λ (a : Attribute). has_form a.form text ≡ true) (sym is_row) form
    at false passes = tt
suit_more row text (pair ∷ given) other form same suits = at (is_word pair.word other.word) suits (suit_more row text given other form same)
  where
    at : (test : Bool) → Suits other.form (cond test (Some pair.text) (attribute_text other.word given))
        → (Suits other.form (attribute_text other.word given) → Suits other.form (attribute_text other.word (given ++ (record { word = row.word; text = text }) ∷ [])))
        → Suits other.form (cond test (Some pair.text) (attribute_text other.word (given ++ (record { word = row.word; text = text }) ∷ [])))
    at true suits more = suits
    at false suits more = more suits

-- a value stands
sound_value : (context : Context) (stage : Stage) (text : List ℕ) (at : ℕ) → Stands context.entries context.open_elements → TagStands stage context.tag context.open_elements context.entries → value_faults stage text at ≡ []
    → Sound (valued stage text context)
sound_value context Between text at stands tag none = cc
sound_value context Bare text at stands tag none = cc
sound_value context Spaced text at stands tag none = cc
sound_value context (Named attribute) text at stands tag none = cc
sound_value context (Equaled attribute) text at stands tag none = record {
  stands = stands;
  tag = record {
    element = tag.0.element;
    may = tag.0.may;
    undone = tag.0.undone;
    suit = all_both _ _ _ (attributes context.tag.word)
        (λ other. suit_more attribute text context.tag.given other (is_so _ (not_when _ (fault.BadValue (at + 1)) none))) tag.1 tag.0.suit;
  };
}

-- a start tag that lacks no attribute, whose values have their forms, gives its element
tag_built : (tag : Tag) (open_elements : List Open) (entries : List Entry) (at : ℕ) → IsTag tag open_elements entries → missing_attributes tag.word tag.given at ≡ [] → IsOf tag.word (built tag.word tag.given)
unfolding missing_attributes
tag_built tag open_elements entries at is none =
    built_is tag.word tag.given is.element
    (all_both _ _ (Fulfils tag.given) (attributes tag.word) (λ attribute suits stands. record { suits = suits; stands = stands }) is.suit
    (none_of (lacks_attribute tag.given) (λ attribute. fault.MissingAttribute at attribute.word) (attributes tag.word) none))

-- what a start tag without a fault leaves
pub record Ended (context : Context) : Type 0 where
  pub entry : Entry
  pub place : entry.at ≡ context.tag.at
  pub parent : entry.parent ≡ parent_number context.open_elements
  pub values : Some entry.what ≡ built context.tag.word context.tag.given
  pub word : word_of entry.what ≡ context.tag.word
  pub more : (tag_ended context).entries ≡ context.entries ++ entry ∷ []
  pub enters : Enters (tag_ended context).entries (tag_ended context).open_elements (length context.entries) entry

-- a start tag ends
ended : (context : Context) (what : Option Element) → what ≡ built context.tag.word context.tag.given → IsOf context.tag.word what → Sound context → IsTag context.tag context.open_elements context.entries → Ended context
unfolding tag_ended
ended context None is of sound tag = absurd of
ended context (Some what) is of sound tag =
    let entry : Entry = record { at = context.tag.at; parent = parent_number context.open_elements; what = what } in
    record {
      entry = entry;
      place = refl;
      parent = refl;
      values = is;
      word = of;
      more = ap (λ found. entry_added found context) (sym is);
      enters = subst (λ (found : Option Element). Enters (entry_added found context) (child_noted context.tag.word context.open_elements) (length context.entries) entry) is
          (subst (λ (word : Word). Enters (context.entries ++ entry ∷ []) (child_noted word context.open_elements) (length context.entries) entry) of
          (stands.entered context.entries context.open_elements entry sound.stands (subst (λ (word : Word). may_stand word context.open_elements ≡ true) (sym of) tag.may) tag.undone refl));
    }

-- a start tag that breaks nothing ends
pub tag_ends : (context : Context) (at : ℕ) → Sound context → may_end context.stage ≡ true → missing_attributes context.tag.word context.tag.given at ≡ [] → Ended context
tag_ends context at sound may none =
    let tag = ended_tag context.stage context.tag context.open_elements context.entries may sound.tag in
    ended context (built context.tag.word context.tag.given) refl (tag_built context.tag context.open_elements context.entries at tag none) sound tag

-- a start tag that breaks nothing, and its element is open
sound_open : (context : Context) → Ended context → Sound (opened (length context.entries) (tag_ended context))
unfolding tag_ended
sound_open context ended = record {
  stands = subst (λ (word : Word). Stands (tag_ended context).entries ((record { word = word; number = length context.entries; children = [] }) ∷ (tag_ended context).open_elements)) ended.word
      (stands.opens (tag_ended context).entries (tag_ended context).open_elements (length context.entries) ended.entry ended.enters);
  tag = tt;
}

-- an empty tag that breaks nothing
sound_empty : (context : Context) (at : ℕ) → Ended context → missing_children context.tag.word [] at ≡ [] → Sound (tag_ended context)
unfolding tag_ended
sound_empty context at ended none = record {
  stands = stands.empties (tag_ended context).entries (tag_ended context).open_elements (length context.entries) ended.entry at ended.enters
      (subst (λ (word : Word). missing_children word [] at ≡ []) (sym ended.word) none);
  tag = tt;
}

-- an end tag that breaks nothing
sound_end : (context : Context) (open_elements : List Open) (at : ℕ) → Stands context.entries open_elements → TagStands context.stage context.tag (outer_of open_elements) context.entries → missing_of open_elements at ≡ []
    → Sound (record context { open_elements = outer_of open_elements })
sound_end context [] at stood tag none = record { stands = stood; tag = tag }
sound_end context (inner ∷ outer) at stood tag none = record { stands = stands.closes context.entries inner outer at stood none; tag = tag }

-- between tags no tag is known
between_tag : (stage : Stage) (tag : Tag) (open_elements : List Open) (entries : List Entry) → is_between stage ≡ true → TagStands stage tag open_elements entries
between_tag Between tag open_elements entries e = tt
between_tag Bare tag open_elements entries e = cc
between_tag Spaced tag open_elements entries e = cc
between_tag (Named attribute) tag open_elements entries e = cc
between_tag (Equaled attribute) tag open_elements entries e = cc

-- an element that is not known is a fault
known_element : (element : Option Word) (open_elements : List Open) (at : ℕ) → element_faults element open_elements at ≡ [] → element ≡ None → ⊥
known_element None open_elements at none e = cc
known_element (Some word) open_elements at none e = cc

-- a token without a fault
pub sound_after : (context : Context) (token : Token) (at : ℕ) → Sound context → faults_of context token at ≡ [] → Sound (after_token context token at)
sound_after context Blanks at sound none = record { stands = sound.stands; tag = sound_spaced context.stage context.tag context.open_elements context.entries sound.tag }
sound_after context Comment at sound none = sound
sound_after context Declaration at sound none = sound
sound_after context (Opening name) at sound none =
    let here : (is_between context.stage && not (is_done context.open_elements context.entries)) ≡ true = stands_here _ (fault.BadItem at) (element_faults (element_named name) context.open_elements at) none in
    let rest : element_faults (element_named name) context.open_elements at ≡ [] = no_second (when (not (is_between context.stage && not (is_done context.open_elements context.entries))) (fault.BadItem at)) _ none in
    sound_opening context (element_named name) at (known_element (element_named name) context.open_elements at rest) (named_element name) sound (both_left _ _ here) (is_not_so _ (both_right (is_between context.stage) _ here)) rest
sound_after context (Name name) at sound none =
    sound_name context (attribute_named name context.tag.word) at (named_row name context.tag.word) sound
    (stands_here _ (fault.BadItem at) (attribute_faults (attribute_named name context.tag.word) context.tag at) none)
    (no_second (when (not (is_spaced context.stage)) (fault.BadItem at)) _ none)
sound_after context Equals at sound none = record { stands = sound.stands; tag = sound_equaled context.stage context.tag context.open_elements context.entries sound.tag }
sound_after context (Value text) at sound none = sound_value context context.stage text at sound.stands sound.tag none
sound_after context TagEnd at sound none =
    sound_open context (tag_ends context at sound (stands_here _ (fault.BadItem at) (missing_attributes context.tag.word context.tag.given at) none) (no_second (when (not (may_end context.stage)) (fault.BadItem at)) _ none))
sound_after context EmptyEnd at sound none =
    let rest : missing_attributes context.tag.word context.tag.given at ++ missing_children context.tag.word [] at ≡ [] = no_second (when (not (may_end context.stage)) (fault.BadItem at)) _ none in
    sound_empty context at
    (tag_ends context at sound (stands_here _ (fault.BadItem at) (missing_attributes context.tag.word context.tag.given at ++ missing_children context.tag.word [] at) none) (no_first (missing_attributes context.tag.word context.tag.given at) _ rest))
    (no_second (missing_attributes context.tag.word context.tag.given at) _ rest)
sound_after context (EndTag name) at sound none =
    let here : (is_between context.stage && closes name context.open_elements) ≡ true = stands_here _ (fault.BadItem at) (missing_of context.open_elements at) none in
    sound_end context context.open_elements at sound.stands (between_tag context.stage context.tag (outer_of context.open_elements) context.entries (both_left _ _ here))
    (no_second (when (not (is_between context.stage && closes name context.open_elements)) (fault.BadItem at)) _ none)

-- a text whose end breaks nothing gives a draft
end_drafted : (entries : List Entry) (open_elements : List Open) → Stands entries open_elements → is_done open_elements entries ≡ true → IsDraft entries
end_drafted entries [] stood done = drafted entries stood done
end_drafted entries (inner ∷ outer) stood done = cc

-- tokens without a fault give a draft
pub cut_drafted : (context : Context) (all : Cut) → Sound context → faults_from context all ≡ [] → IsDraft (draft_from context all)
cut_drafted context (Item token at more) sound none =
    cut_drafted (after_token context token at) more (sound_after context token at sound (no_first (faults_of context token at) _ none)) (no_second (faults_of context token at) _ none)
cut_drafted context (Rest at byte broken) sound none = absurd (never (no_second (when (not (may_begin context.stage byte)) (fault.BadItem at)) (broken ∷ []) none))
  where
    never : broken ∷ [] ≡ [] → ⊥
    never e = cc
cut_drafted context (End at) sound none =
    let here : (is_between context.stage && is_done context.open_elements context.entries) ≡ true = is_so _ (not_when _ (fault.Unclosed at) none) in
    end_drafted context.entries context.open_elements sound.stands (both_right (is_between context.stage) _ here)

-- before the first token
pub sound_start : Sound empty_draft
sound_start = record {
  stands = record {
    base = record { root = tt; before = λ number entry got past. absurd (never number entry got); within = λ number between entry other got at past until. absurd (never number entry got); settled = λ number entry got. absurd (never number entry got) };
    path = tt;
  };
  tag = tt;
}
  where
    never : (number : ℕ) (entry : Entry) → slice_get [] number ≡ Some entry → ⊥
    never number entry e = cc

-- the entries of a text whose tokens break nothing are a draft
pub entries_drafted : (text : List ℕ) (entries : List Entry) → faults_from empty_draft (cut 0 0 text) ≡ [] → entries ≡ draft_from empty_draft (cut 0 0 text) → IsDraft entries
entries_drafted text entries none same = subst IsDraft (sym same) (cut_drafted empty_draft (cut 0 0 text) sound_start none)

-- the lesser of two is one
some_least : (one : ReadFault) (other : Option ReadFault) → lesser_fault one other ≡ None → ⊥
some_least one None e = cc
some_least one (Some other) e = by (comes_before other one) e
  where
    by : (test : Bool) → cond test (Some other) (Some one) ≡ None → ⊥
    by true e = cc
    by false e = cc

-- where the least is none, there are none
pub none_least : (faults : List ReadFault) → least faults ≡ None → faults ≡ []
none_least [] e = refl
none_least (one ∷ others) e = absurd (some_least one (least others) e)

-- the tokens of a text without a fault break nothing
pub none_broken : (text : List ℕ) → xmcf_fault text ≡ None → faults_from empty_draft (cut 0 0 text) ≡ []
unfolding xmcf_fault
none_broken text none = none_least (faults_from empty_draft (cut 0 0 text)) (at (nat_lt (utf8_valid_len text) (length text)) none)
  where
    at : (short : Bool) → cond short (Some (fault.NotText (utf8_valid_len text))) (least (faults_from empty_draft (cut 0 0 text))) ≡ None → least (faults_from empty_draft (cut 0 0 text)) ≡ None
    at true e = cc
    at false e = e

-- a text without a fault gives a draft
pub text_drafted : (text : List ℕ) → xmcf_fault text ≡ None → IsDraft (draft_of text)
unfolding draft_of
text_drafted text none = cut_drafted empty_draft (cut 0 0 text) sound_start (none_broken text none)
