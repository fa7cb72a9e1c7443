-- The entries of a text without a fault are those of its start tags.
use Rattle.std.proofs.Common.{◌≡◌, ℕ, ◌+◌, Bool, true, false, List, [], ◌∷◌, ◌++◌, length, Option, Some, None, inl, inr, refl, sym, ap, ◌∙◌, arith, subst, append_assoc, append-nil}
use Rattle.std.specs.Prelude.{not, ◌&&◌}
use Rattle.std.specs.List.{zip, filter_map}
use Rattle.std.specs.Str.{bytes_eq}
use Rattle.std.proofs.lemmas.Slice.Eq.{bytes_eq-Decides}
use Rattle.xmcf_reader.specs.Draft.{Context, Open, Tag, empty_draft, after_token, attribute_named, tag_begun, named_as, valued, entry_added, tag_ended, opened, outer_of, parent_number, blank_passed, equaled}
use Rattle.xmcf_reader.specs.Drafts.{word_of, StandsAt}
use Rattle.xmcf_reader.specs.Elements.{Pair, built}
use Rattle.xmcf_reader.specs.Faults.{Cut, Item, Rest, End, cut, draft_from, draft_of, faults_from, faults_of, xmcf_fault, when, is_between, is_spaced, may_end, is_done, element_faults, attribute_faults, value_faults, missing_attributes, missing_children, missing_of, closes, may_begin}
use Rattle.xmcf_reader.specs.Tags as tags
use Rattle.xmcf_reader.specs.Tags.{Placed, tokens_of, IsParent, in_tag, names_in, values_in, pair_named, given_in, GivesEntry, EndsEntry, AreOfTags}
use Rattle.xmcf_reader.specs.Tokens.{Token, Blanks, Comment, Declaration, Opening, Name, Equals, Value, TagEnd, EmptyEnd, EndTag}
use Rattle.xmcf_reader.specs.Words.{element_named, elements, word_text}
use Rattle.xmcf_reader.specs.declared.draft.Entry.{Entry}
use Rattle.xmcf_reader.specs.declared.draft.Element.{Element}
use Rattle.xmcf_reader.specs.declared.fault.ReadFault.{ReadFault}
use Rattle.xmcf_reader.specs.declared.fault.ReadFault.TheVariants as fault
use Rattle.xmcf_reader.specs.declared.stage.Stage.{Stage}
use Rattle.xmcf_reader.specs.declared.stage.Stage.TheVariants.{Between, Bare, Spaced, Named, Equaled}
use Rattle.xmcf_reader.specs.declared.table.Attribute.{Attribute}
use Rattle.xmcf_reader.specs.declared.word.Word.{Word}
use Rattle.xmcf_reader.proofs.Faultless.{Sound, Ended, no_first, no_second, not_when, is_so, is_not_so, both_left, both_right, stands_here, tag_ends, sound_after, sound_start, none_broken}
use Rattle.xmcf_reader.proofs.Paths.{Accounted, InTag, Accounts, between_of, in_tag_of, accounts_plain, accounts_inside, accounts_opening, accounts_open, accounts_empty, accounts_end, accounts_start}
use Rattle.xmcf_reader.proofs.Rows.{found_passes, unlike}
use Rattle.xmcf_reader.proofs.Stands.{got_before, ArePath}

-- one more entry does not change which stand
entered_keeps : (what : Option Element) (context : Context) (number : ℕ) (entry : Entry) → StandsAt context.entries number entry → StandsAt (entry_added what context) number entry
entered_keeps None context number entry got = got
entered_keeps (Some what) context number entry got = got_before context.entries _ entry number got

-- the end of a start tag does not change which stand
ended_keeps : (context : Context) (number : ℕ) (entry : Entry) → StandsAt context.entries number entry → StandsAt (tag_ended context).entries number entry
unfolding tag_ended
ended_keeps context number entry got = entered_keeps (built context.tag.word context.tag.given) context number entry got

begun_keeps : (element : Option Word) (at : ℕ) (context : Context) (number : ℕ) (entry : Entry) → StandsAt context.entries number entry → StandsAt (tag_begun element at context).entries number entry
begun_keeps None at context number entry got = got
begun_keeps (Some word) at context number entry got = got

named_keeps : (attribute : Option Attribute) (context : Context) (number : ℕ) (entry : Entry) → StandsAt context.entries number entry → StandsAt (named_as attribute context).entries number entry
named_keeps None context number entry got = got
named_keeps (Some attribute) context number entry got = got

valued_keeps : (stage : Stage) (text : List ℕ) (context : Context) (number : ℕ) (entry : Entry) → StandsAt context.entries number entry → StandsAt (valued stage text context).entries number entry
valued_keeps Between text context number entry got = got
valued_keeps Bare text context number entry got = got
valued_keeps Spaced text context number entry got = got
valued_keeps (Named attribute) text context number entry got = got
valued_keeps (Equaled attribute) text context number entry got = got

-- no token changes which entries stand
after_keeps : (context : Context) (token : Token) (at : ℕ) (number : ℕ) (entry : Entry) → StandsAt context.entries number entry → StandsAt (after_token context token at).entries number entry
after_keeps context Blanks at number entry got = got
after_keeps context Comment at number entry got = got
after_keeps context Declaration at number entry got = got
after_keeps context (Opening name) at number entry got = begun_keeps (element_named name) at context number entry got
after_keeps context (Name name) at number entry got = named_keeps (attribute_named name context.tag.word) context number entry got
after_keeps context Equals at number entry got = got
after_keeps context (Value text) at number entry got = valued_keeps context.stage text context number entry got
after_keeps context TagEnd at number entry got = ended_keeps context number entry got
after_keeps context EmptyEnd at number entry got = ended_keeps context number entry got
after_keeps context (EndTag name) at number entry got = got

-- no tokens do
draft_keeps : (context : Context) (all : Cut) (number : ℕ) (entry : Entry) → StandsAt context.entries number entry → StandsAt (draft_from context all) number entry
draft_keeps context (Item token at more) number entry got = draft_keeps (after_token context token at) more number entry (after_keeps context token at number entry got)
draft_keeps context (Rest at byte broken) number entry got = got
draft_keeps context (End at) number entry got = got

-- the names that stand in the tag without a value yet
abbrev pub Pending : Stage → Word → List (List ℕ) → Type 0
Pending Between word names = names ≡ []
Pending Bare word names = names ≡ []
Pending Spaced word names = names ≡ []
Pending (Named attribute) word names = (name : List ℕ) × (names ≡ name ∷ []) × (attribute_named name word ≡ Some attribute)
Pending (Equaled attribute) word names = (name : List ℕ) × (names ≡ name ∷ []) × (attribute_named name word ≡ Some attribute)

-- the attributes of names and values
abbrev pub given_of : Word → List (List ℕ) → List (List ℕ) → List Pair
given_of word names values = filter_map (pair_named word) (zip names values)

-- in the start tag of an element
pub record InStart (context : Context) (before : List Placed) (name : List ℕ) (at : ℕ) (names : List (List ℕ)) : Type 0 where
  pub sound : Sound context
  pub inside : is_between context.stage ≡ false
  pub pending : Pending context.stage context.tag.word names
  pub place : context.tag.at ≡ at
  pub named : name ≡ word_text context.tag.word
  pub count : length context.entries ≡ tags.count_begun before
  pub parent : IsParent before (parent_number context.open_elements)

-- a start tag has its entry
pub record Tagged (entries : List Entry) (before : List Placed) (name : List ℕ) (at : ℕ) (word : Word) (given : List Pair) : Type 0 where
  pub entry : Entry
  pub stands : StandsAt entries (tags.count_begun before) entry
  pub place : entry.at ≡ at
  pub named : name ≡ word_text word
  pub word_is : word_of entry.what ≡ word
  pub values : Some entry.what ≡ built word given
  pub parent : IsParent before entry.parent

-- what must stand between tags does not stand in a start tag
not_inside : (stage : Stage) (one : ReadFault) → is_between stage ≡ false → when (not (is_between stage)) one ≡ [] → ⊥
not_inside stage one inside none = unlike _ (is_so _ (not_when _ one none)) inside

-- nor does what must stand between tags and more
not_inside_and : (stage : Stage) (other : Bool) (one : ReadFault) (more : List ReadFault) → is_between stage ≡ false → when (not (is_between stage && other)) one ++ more ≡ [] → ⊥
not_inside_and stage other one more inside none = unlike _ (both_left (is_between stage) other (stands_here (is_between stage && other) one more none)) inside

spaced_between : (stage : Stage) → is_between (blank_passed stage) ≡ is_between stage
spaced_between Between = refl
spaced_between Bare = refl
spaced_between Spaced = refl
spaced_between (Named attribute) = refl
spaced_between (Equaled attribute) = refl

equaled_between : (stage : Stage) → is_between (equaled stage) ≡ is_between stage
equaled_between Between = refl
equaled_between Bare = refl
equaled_between Spaced = refl
equaled_between (Named attribute) = refl
equaled_between (Equaled attribute) = refl

spaced_pending : (stage : Stage) (word : Word) (names : List (List ℕ)) → Pending stage word names → Pending (blank_passed stage) word names
spaced_pending Between word names pending = pending
spaced_pending Bare word names pending = pending
spaced_pending Spaced word names pending = pending
spaced_pending (Named attribute) word names pending = pending
spaced_pending (Equaled attribute) word names pending = pending

equaled_pending : (stage : Stage) (word : Word) (names : List (List ℕ)) → Pending stage word names → Pending (equaled stage) word names
equaled_pending Between word names pending = pending
equaled_pending Bare word names pending = pending
equaled_pending Spaced word names pending = pending
equaled_pending (Named attribute) word names pending = pending
equaled_pending (Equaled attribute) word names pending = pending

-- where a tag may end, no name waits for its value
none_pending : (stage : Stage) (word : Word) (names : List (List ℕ)) → may_end stage ≡ true → Pending stage word names → names ≡ []
none_pending Between word names may pending = cc
none_pending Bare word names may pending = pending
none_pending Spaced word names may pending = pending
none_pending (Named attribute) word names may pending = cc
none_pending (Equaled attribute) word names may pending = cc

-- where a name may stand, none waits for its value
none_spaced : (stage : Stage) (word : Word) (names : List (List ℕ)) → is_spaced stage ≡ true → Pending stage word names → names ≡ []
none_spaced Between word names may pending = cc
none_spaced Bare word names may pending = cc
none_spaced Spaced word names may pending = pending
none_spaced (Named attribute) word names may pending = cc
none_spaced (Equaled attribute) word names may pending = cc

-- an attribute that breaks nothing is in the table
known_attribute : (found : Option Attribute) (tag : Tag) (at : ℕ) → attribute_faults found tag at ≡ [] → (attribute : Attribute) × (found ≡ Some attribute)
known_attribute None tag at none = cc
known_attribute (Some attribute) tag at none = (attribute, refl)

-- an element that breaks nothing is in the table
known_element : (found : Option Word) (open_elements : List Open) (at : ℕ) → element_faults found open_elements at ≡ [] → (word : Word) × (found ≡ Some word)
known_element None open_elements at none = cc
known_element (Some word) open_elements at none = (word, refl)

-- a value that breaks nothing stands after a `=`
known_value : (stage : Stage) (text : List ℕ) (at : ℕ) → value_faults stage text at ≡ [] → (attribute : Attribute) × (stage ≡ Equaled attribute)
known_value Between text at none = cc
known_value Bare text at none = cc
known_value Spaced text at none = cc
known_value (Named attribute) text at none = cc
known_value (Equaled attribute) text at none = (attribute, refl)

-- where an element's name stands, it is its name
known_name : (name : List ℕ) (word : Word) → element_named name ≡ Some word → name ≡ word_text word
unfolding element_named
known_name name word e = sym ((bytes_eq-Decides (word_text word) name).0 (found_passes (λ element. bytes_eq (word_text element) name) elements word e))

-- a name waits for its value
start_name : (context : Context) (before : List Placed) (name : List ℕ) (at : ℕ) (other : List ℕ) (attribute : Attribute) → InStart context before name at [] → Sound (named_as (Some attribute) context) → attribute_named other context.tag.word ≡ Some attribute
    → InStart (named_as (Some attribute) context) before name at (other ∷ [])
start_name context before name at other attribute inside sound known = record {
  sound = sound;
  inside = refl;
  pending = (other, refl, known);
  place = inside.place;
  named = inside.named;
  count = inside.count;
  parent = inside.parent;
}

-- a name has its value
start_value : (context : Context) (before : List Placed) (name : List ℕ) (at : ℕ) (names : List (List ℕ)) (text : List ℕ) (attribute : Attribute) → InStart context before name at names → Sound (valued (Equaled attribute) text context)
    → InStart (valued (Equaled attribute) text context) before name at []
start_value context before name at names text attribute inside sound = record {
  sound = sound;
  inside = refl;
  pending = refl;
  place = inside.place;
  named = inside.named;
  count = inside.count;
  parent = inside.parent;
}

-- the attributes so far, with one more
given_more : (word : Word) (given : List Pair) (names values : List (List ℕ)) (pending : List (List ℕ)) (name text : List ℕ) (attribute : Attribute) → pending ≡ name ∷ [] → attribute_named name word ≡ Some attribute
    → (given ++ (record { word = attribute.word; text = text }) ∷ []) ++ given_of word names values ≡ given ++ given_of word (pending ++ names) (text ∷ values)
given_more word given names values pending name text attribute is known =
    rw is (rw known (append_assoc given ((record { word = attribute.word; text = text }) ∷ []) (given_of word names values)))

-- a start tag that ends has its entry
tag_end : (context next : Context) (more : Cut) (before : List Placed) (name : List ℕ) (at : ℕ) (names : List (List ℕ)) → Ended context → InStart context before name at names → may_end context.stage ≡ true
    → next.entries ≡ (tag_ended context).entries → Tagged (draft_from next more) before name at context.tag.word (context.tag.given ++ given_of context.tag.word (names ++ []) [])
tag_end context next more before name at names ended inside may same = record {
  entry = ended.entry;
  stands = draft_keeps next more (tags.count_begun before) ended.entry
      (subst (λ (number : ℕ). StandsAt next.entries number ended.entry) inside.count
      (subst (λ (entries : List Entry). StandsAt entries (length context.entries) ended.entry) (sym same) ended.enters.stands));
  place = ended.place ∙ inside.place;
  named = inside.named;
  word_is = ended.word;
  values = subst (λ (given : List Pair). Some ended.entry.what ≡ built context.tag.word given) (sym nothing_more) ended.values;
  parent = subst (IsParent before) (sym ended.parent) inside.parent;
}
  where
    nothing_more : context.tag.given ++ given_of context.tag.word (names ++ []) [] ≡ context.tag.given
    nothing_more = rw (none_pending context.stage context.tag.word names may inside.pending) (append-nil context.tag.given)

opened_entries : (context : Context) → (opened (length context.entries) (tag_ended context)).entries ≡ (tag_ended context).entries
opened_entries context = refl

-- a tag in which a name stands
named_tag : (found : Option Attribute) (context : Context) → (named_as found context).tag ≡ context.tag
named_tag None context = refl
named_tag (Some attribute) context = refl

-- a start tag that breaks nothing has its entry
tag_gives : (context : Context) (all : Cut) (before : List Placed) (name : List ℕ) (at : ℕ) (names : List (List ℕ)) → InStart context before name at names → faults_from context all ≡ []
    → Tagged (draft_from context all) before name at context.tag.word (context.tag.given ++ given_of context.tag.word (names ++ names_in (in_tag (tokens_of all))) (values_in (in_tag (tokens_of all))))
tag_gives context (Item Blanks place more) before name at names inside none =
    tag_gives (after_token context Blanks place) more before name at names (record {
      sound = sound_after context Blanks place inside.sound refl;
      inside = spaced_between context.stage ∙ inside.inside;
      pending = spaced_pending context.stage context.tag.word names inside.pending;
      place = inside.place;
      named = inside.named;
      count = inside.count;
      parent = inside.parent;
    }) none
tag_gives context (Item Comment place more) before name at names inside none = absurd (not_inside context.stage (fault.BadItem place) inside.inside (no_first (when (not (is_between context.stage)) (fault.BadItem place)) _ none))
tag_gives context (Item Declaration place more) before name at names inside none = absurd (not_inside context.stage (fault.BadItem place) inside.inside (no_first (when (not (is_between context.stage)) (fault.BadItem place)) _ none))
tag_gives context (Item (Opening other) place more) before name at names inside none =
    absurd (not_inside_and context.stage (not (is_done context.open_elements context.entries)) (fault.BadItem place) (element_faults (element_named other) context.open_elements place) inside.inside (no_first (faults_of context (Opening other) place) _ none))
tag_gives context (Item (Name other) place more) before name at (waiting ∷ names) inside none =
    absurd (waits (none_spaced context.stage context.tag.word (waiting ∷ names) (stands_here (is_spaced context.stage) (fault.BadItem place) (attribute_faults (attribute_named other context.tag.word) context.tag place) (no_first (faults_of context (Name other) place) _ none)) inside.pending))
  where
    waits : waiting ∷ names ≡ [] → ⊥
    waits e = cc
tag_gives context (Item (Name other) place more) before name at [] inside none =
    let here : faults_of context (Name other) place ≡ [] = no_first (faults_of context (Name other) place) _ none in
    let known = known_attribute (attribute_named other context.tag.word) context.tag place (no_second (when (not (is_spaced context.stage)) (fault.BadItem place)) _ here) in
    let next : Sound (named_as (attribute_named other context.tag.word) context) = sound_after context (Name other) place inside.sound here in
    let rest : faults_from (named_as (attribute_named other context.tag.word) context) more ≡ [] = no_second (faults_of context (Name other) place) _ none in
    subst (λ (found : Option Attribute). Tagged (draft_from (named_as found context) more) before name at context.tag.word (context.tag.given ++ given_of context.tag.word (other ∷ names_in (in_tag (tokens_of more))) (values_in (in_tag (tokens_of more))))) (sym known.1)
    (tag_gives (named_as (Some known.0) context) more before name at (other ∷ [])
    (start_name context before name at other known.0 inside (subst (λ (found : Option Attribute). Sound (named_as found context)) known.1 next) known.1)
    (subst (λ (found : Option Attribute). faults_from (named_as found context) more ≡ []) known.1 rest))
tag_gives context (Item Equals place more) before name at names inside none =
    tag_gives (after_token context Equals place) more before name at names (record {
      sound = sound_after context Equals place inside.sound (no_first (faults_of context Equals place) _ none);
      inside = equaled_between context.stage ∙ inside.inside;
      pending = equaled_pending context.stage context.tag.word names inside.pending;
      place = inside.place;
      named = inside.named;
      count = inside.count;
      parent = inside.parent;
    }) (no_second (faults_of context Equals place) _ none)
tag_gives context (Item (Value text) place more) before name at names inside none =
    let here : faults_of context (Value text) place ≡ [] = no_first (faults_of context (Value text) place) _ none in
    let known = known_value context.stage text place here in
    let next : Sound (valued context.stage text context) = sound_after context (Value text) place inside.sound here in
    let rest : faults_from (valued context.stage text context) more ≡ [] = no_second (faults_of context (Value text) place) _ none in
    let waiting : Pending (Equaled known.0) context.tag.word names = subst (λ (stage : Stage). Pending stage context.tag.word names) known.1 inside.pending in
    subst (λ (stage : Stage). Tagged (draft_from (valued stage text context) more) before name at context.tag.word (context.tag.given ++ given_of context.tag.word (names ++ names_in (in_tag (tokens_of more))) (text ∷ values_in (in_tag (tokens_of more))))) (sym known.1)
    (subst (λ (given : List Pair). Tagged (draft_from (valued (Equaled known.0) text context) more) before name at context.tag.word given)
    (given_more context.tag.word context.tag.given (names_in (in_tag (tokens_of more))) (values_in (in_tag (tokens_of more))) names waiting.0 text known.0 waiting.1 waiting.2)
    (tag_gives (valued (Equaled known.0) text context) more before name at []
    (start_value context before name at names text known.0 inside (subst (λ (stage : Stage). Sound (valued stage text context)) known.1 next))
    (subst (λ (stage : Stage). faults_from (valued stage text context) more ≡ []) known.1 rest)))
tag_gives context (Item TagEnd place more) before name at names inside none =
    let here : faults_of context TagEnd place ≡ [] = no_first (faults_of context TagEnd place) _ none in
    let may : may_end context.stage ≡ true = stands_here (may_end context.stage) (fault.BadItem place) (missing_attributes context.tag.word context.tag.given place) here in
    tag_end context (after_token context TagEnd place) more before name at names
    (tag_ends context place inside.sound may (no_second (when (not (may_end context.stage)) (fault.BadItem place)) _ here)) inside may (opened_entries context)
tag_gives context (Item EmptyEnd place more) before name at names inside none =
    let here : faults_of context EmptyEnd place ≡ [] = no_first (faults_of context EmptyEnd place) _ none in
    let may : may_end context.stage ≡ true = stands_here (may_end context.stage) (fault.BadItem place) (missing_attributes context.tag.word context.tag.given place ++ missing_children context.tag.word [] place) here in
    let rest : missing_attributes context.tag.word context.tag.given place ++ missing_children context.tag.word [] place ≡ [] = no_second (when (not (may_end context.stage)) (fault.BadItem place)) _ here in
    tag_end context (after_token context EmptyEnd place) more before name at names
    (tag_ends context place inside.sound may (no_first (missing_attributes context.tag.word context.tag.given place) _ rest)) inside may refl
tag_gives context (Item (EndTag other) place more) before name at names inside none =
    absurd (not_inside_and context.stage (closes other context.open_elements) (fault.BadItem place) (missing_of context.open_elements place) inside.inside (no_first (faults_of context (EndTag other) place) _ none))
tag_gives context (Rest place byte broken) before name at names inside none = absurd (never (no_second (when (not (may_begin context.stage byte)) (fault.BadItem place)) (broken ∷ []) none))
  where
    never : broken ∷ [] ≡ [] → ⊥
    never e = cc
tag_gives context (End place) before name at names inside none =
    absurd (unlike _ (both_left (is_between context.stage) _ (is_so _ (not_when _ (fault.Unclosed place) none))) inside.inside)

-- an element's start tag begins, and has its entry
opening_gives : (context : Context) (word : Word) (name : List ℕ) (at : ℕ) (more : Cut) (past : List Placed) → Sound (tag_begun (Some word) at context) → name ≡ word_text word → Accounted past context.entries context.open_elements
    → is_done context.open_elements context.entries ≡ false → faults_from (tag_begun (Some word) at context) more ≡ [] → GivesEntry past name at (tokens_of more) (draft_from (tag_begun (Some word) at context) more)
opening_gives context word name at more past sound named accounted undone none =
    gives (tag_gives (tag_begun (Some word) at context) more past name at [] (record {
      sound = sound;
      inside = refl;
      pending = refl;
      place = refl;
      named = named;
      count = accounted.count;
      parent = parent_of context.open_elements context.entries accounted undone;
    }) none)
  where
    parent_of : (open_elements : List Open) (entries : List Entry) → Accounted past entries open_elements → is_done open_elements entries ≡ false → IsParent past (parent_number open_elements)
    parent_of [] [] accounted undone = inl (sym accounted.count, refl)
    parent_of [] (entry ∷ entries) accounted undone = cc
    parent_of (inner ∷ outer) entries accounted undone = inr accounted.all.0

    gives : Tagged (draft_from (tag_begun (Some word) at context) more) past name at word (given_of word (names_in (in_tag (tokens_of more))) (values_in (in_tag (tokens_of more))))
        → GivesEntry past name at (tokens_of more) (draft_from (tag_begun (Some word) at context) more)
    gives tagged = record {
      entry = tagged.entry;
      stands = tagged.stands;
      is = record {
        place = tagged.place;
        named = named ∙ ap word_text (sym tagged.word_is);
        values = subst (λ (w : Word). Some tagged.entry.what ≡ built w (given_in w (in_tag (tokens_of more)))) (sym tagged.word_is) tagged.values;
        parent = tagged.parent;
      };
    }

-- a start tag that breaks nothing gives its entry
start_gives : (context : Context) (name : List ℕ) (at : ℕ) (more : Cut) (past : List Placed) → Sound context → Accounts (is_between context.stage) past context.entries context.open_elements
    → faults_from context (Item (Opening name) at more) ≡ [] → GivesEntry past name at (tokens_of more) (draft_from context (Item (Opening name) at more))
start_gives context name at more past sound accounts none =
    let here : faults_of context (Opening name) at ≡ [] = no_first (faults_of context (Opening name) at) _ none in
    let both : (is_between context.stage && not (is_done context.open_elements context.entries)) ≡ true = stands_here _ (fault.BadItem at) (element_faults (element_named name) context.open_elements at) here in
    let known = known_element (element_named name) context.open_elements at (no_second (when (not (is_between context.stage && not (is_done context.open_elements context.entries))) (fault.BadItem at)) _ here) in
    let next : Sound (tag_begun (element_named name) at context) = sound_after context (Opening name) at sound here in
    let rest : faults_from (tag_begun (element_named name) at context) more ≡ [] = no_second (faults_of context (Opening name) at) _ none in
    subst (λ (found : Option Word). GivesEntry past name at (tokens_of more) (draft_from (tag_begun found at context) more)) (sym known.1)
    (opening_gives context known.0 name at more past (subst (λ (found : Option Word). Sound (tag_begun found at context)) known.1 next) (known_name name known.0 known.1)
    (between_of (is_between context.stage) past context.entries context.open_elements (both_left _ _ both) accounts) (is_not_so _ (both_right (is_between context.stage) _ both))
    (subst (λ (found : Option Word). faults_from (tag_begun found at context) more ≡ []) known.1 rest))

-- an end tag that breaks nothing ends its entry
end_ends : (context : Context) (open_elements : List Open) (name : List ℕ) (past : List Placed) (entries : List Entry) → closes name open_elements ≡ true → Accounted past context.entries open_elements
    → ((inner : Open) (outer : List Open) → open_elements ≡ inner ∷ outer → (entry : Entry) × StandsAt entries inner.number entry × (word_of entry.what ≡ inner.word)) → EndsEntry past name entries
end_ends context [] name past entries closed accounted stood = cc
end_ends context (inner ∷ outer) name past entries closed accounted stood =
    let found = stood inner outer refl in
    record {
      number = inner.number;
      entry = found.0;
      innermost = accounted.all.0;
      stands = found.1;
      named = sym ((bytes_eq-Decides (word_text inner.word) name).0 closed) ∙ ap word_text (sym found.2);
    }

-- what the end of a start tag accounts for
open_accounts : (context : Context) (at : ℕ) (past : List Placed) → Ended context → InTag past context.entries context.open_elements
    → Accounted (past ++ (record { token = TagEnd; at = at }) ∷ []) (opened (length context.entries) (tag_ended context)).entries (opened (length context.entries) (tag_ended context)).open_elements
unfolding tag_ended
open_accounts context at past ended accounts =
    subst (λ (entries : List Entry). Accounted (past ++ (record { token = TagEnd; at = at }) ∷ []) entries (opened (length context.entries) (tag_ended context)).open_elements) (sym ended.more)
    (accounts_open past (record { token = TagEnd; at = at }) context.entries ended.entry context.tag.word context.open_elements accounts refl refl)

-- what the end of an empty tag accounts for
empty_accounts : (context : Context) (at : ℕ) (past : List Placed) → Ended context → InTag past context.entries context.open_elements
    → Accounted (past ++ (record { token = EmptyEnd; at = at }) ∷ []) (tag_ended context).entries (tag_ended context).open_elements
unfolding tag_ended
empty_accounts context at past ended accounts =
    subst (λ (entries : List Entry). Accounted (past ++ (record { token = EmptyEnd; at = at }) ∷ []) entries (tag_ended context).open_elements) (sym ended.more)
    (accounts_empty past (record { token = EmptyEnd; at = at }) context.entries ended.entry context.tag.word context.open_elements accounts refl refl)

-- after the end of a start tag the text is between tags
ended_between : (context : Context) → is_between (tag_ended context).stage ≡ true
unfolding tag_ended
ended_between context = refl

-- where no tag may end, the text is not between tags
end_inside : (stage : Stage) → may_end stage ≡ true → is_between stage ≡ false
end_inside Between e = cc
end_inside Bare e = refl
end_inside Spaced e = refl
end_inside (Named attribute) e = cc
end_inside (Equaled attribute) e = cc

spaced_inside : (stage : Stage) → is_spaced stage ≡ true → is_between stage ≡ false
spaced_inside Between e = cc
spaced_inside Bare e = cc
spaced_inside Spaced e = refl
spaced_inside (Named attribute) e = cc
spaced_inside (Equaled attribute) e = cc

-- what the end of an element leaves open
outer_accounts : (context : Context) (open_elements : List Open) (name : List ℕ) (at : ℕ) (past : List Placed) → closes name open_elements ≡ true → Accounted past context.entries open_elements
    → Accounted (past ++ (record { token = EndTag name; at = at }) ∷ []) context.entries (outer_of open_elements)
outer_accounts context [] name at past closed accounted = cc
outer_accounts context (inner ∷ outer) name at past closed accounted = accounts_end past (record { token = EndTag name; at = at }) context.entries inner outer accounted refl refl

-- what one more token accounts for
accounts_after : (context : Context) (token : Token) (at : ℕ) (past : List Placed) → Sound context → Accounts (is_between context.stage) past context.entries context.open_elements → faults_of context token at ≡ []
    → Accounts (is_between (after_token context token at).stage) (past ++ (record { token = token; at = at }) ∷ []) (after_token context token at).entries (after_token context token at).open_elements
accounts_after context Blanks at past sound accounts none =
    subst (λ (between : Bool). Accounts between (past ++ (record { token = Blanks; at = at }) ∷ []) context.entries context.open_elements) (sym (spaced_between context.stage))
    (accounts_plain (is_between context.stage) past (record { token = Blanks; at = at }) context.entries context.open_elements accounts refl refl)
accounts_after context Comment at past sound accounts none = accounts_plain (is_between context.stage) past (record { token = Comment; at = at }) context.entries context.open_elements accounts refl refl
accounts_after context Declaration at past sound accounts none = accounts_plain (is_between context.stage) past (record { token = Declaration; at = at }) context.entries context.open_elements accounts refl refl
accounts_after context (Opening name) at past sound accounts none =
    let both : (is_between context.stage && not (is_done context.open_elements context.entries)) ≡ true = stands_here _ (fault.BadItem at) (element_faults (element_named name) context.open_elements at) none in
    let known = known_element (element_named name) context.open_elements at (no_second (when (not (is_between context.stage && not (is_done context.open_elements context.entries))) (fault.BadItem at)) _ none) in
    subst (λ (found : Option Word). Accounts (is_between (tag_begun found at context).stage) (past ++ (record { token = Opening name; at = at }) ∷ []) (tag_begun found at context).entries (tag_begun found at context).open_elements) (sym known.1)
    (accounts_opening past (record { token = Opening name; at = at }) context.entries context.open_elements (between_of (is_between context.stage) past context.entries context.open_elements (both_left _ _ both) accounts) refl refl)
accounts_after context (Name name) at past sound accounts none =
    let may : is_spaced context.stage ≡ true = stands_here (is_spaced context.stage) (fault.BadItem at) (attribute_faults (attribute_named name context.tag.word) context.tag at) none in
    let known = known_attribute (attribute_named name context.tag.word) context.tag at (no_second (when (not (is_spaced context.stage)) (fault.BadItem at)) _ none) in
    subst (λ (found : Option Attribute). Accounts (is_between (named_as found context).stage) (past ++ (record { token = Name name; at = at }) ∷ []) (named_as found context).entries (named_as found context).open_elements) (sym known.1)
    (accounts_inside past (record { token = Name name; at = at }) context.entries context.open_elements (in_tag_of (is_between context.stage) past context.entries context.open_elements (spaced_inside context.stage may) accounts) refl refl)
accounts_after context Equals at past sound accounts none =
    subst (λ (between : Bool). Accounts between (past ++ (record { token = Equals; at = at }) ∷ []) context.entries context.open_elements) (sym (equaled_between context.stage))
    (accounts_plain (is_between context.stage) past (record { token = Equals; at = at }) context.entries context.open_elements accounts refl refl)
accounts_after context (Value text) at past sound accounts none =
    let known = known_value context.stage text at none in
    subst (λ (stage : Stage). Accounts (is_between (valued stage text context).stage) (past ++ (record { token = Value text; at = at }) ∷ []) (valued stage text context).entries (valued stage text context).open_elements) (sym known.1)
    (accounts_inside past (record { token = Value text; at = at }) context.entries context.open_elements
    (in_tag_of (is_between context.stage) past context.entries context.open_elements (ap is_between known.1) accounts) refl refl)
accounts_after context TagEnd at past sound accounts none =
    let may : may_end context.stage ≡ true = stands_here (may_end context.stage) (fault.BadItem at) (missing_attributes context.tag.word context.tag.given at) none in
    subst (λ (between : Bool). Accounts between (past ++ (record { token = TagEnd; at = at }) ∷ []) (opened (length context.entries) (tag_ended context)).entries (opened (length context.entries) (tag_ended context)).open_elements) (sym (ended_between context))
    (open_accounts context at past (tag_ends context at sound may (no_second (when (not (may_end context.stage)) (fault.BadItem at)) _ none))
    (in_tag_of (is_between context.stage) past context.entries context.open_elements (end_inside context.stage may) accounts))
accounts_after context EmptyEnd at past sound accounts none =
    let may : may_end context.stage ≡ true = stands_here (may_end context.stage) (fault.BadItem at) (missing_attributes context.tag.word context.tag.given at ++ missing_children context.tag.word [] at) none in
    let rest : missing_attributes context.tag.word context.tag.given at ++ missing_children context.tag.word [] at ≡ [] = no_second (when (not (may_end context.stage)) (fault.BadItem at)) _ none in
    subst (λ (between : Bool). Accounts between (past ++ (record { token = EmptyEnd; at = at }) ∷ []) (tag_ended context).entries (tag_ended context).open_elements) (sym (ended_between context))
    (empty_accounts context at past (tag_ends context at sound may (no_first (missing_attributes context.tag.word context.tag.given at) _ rest))
    (in_tag_of (is_between context.stage) past context.entries context.open_elements (end_inside context.stage may) accounts))
accounts_after context (EndTag name) at past sound accounts none =
    let both : (is_between context.stage && closes name context.open_elements) ≡ true = stands_here _ (fault.BadItem at) (missing_of context.open_elements at) none in
    subst (λ (between : Bool). Accounts between (past ++ (record { token = EndTag name; at = at }) ∷ []) context.entries (outer_of context.open_elements)) (sym (both_left _ _ both))
    (outer_accounts context context.open_elements name at past (both_right (is_between context.stage) _ both) (between_of (is_between context.stage) past context.entries context.open_elements (both_left _ _ both) accounts))

-- lists that begin with the same
same_first : {X : Type 0} (x y : X) (xs ys : List X) → x ∷ xs ≡ y ∷ ys → x ≡ y
same_first x y xs ys e = cc

same_rest : {X : Type 0} (x y : X) (xs ys : List X) → x ∷ xs ≡ y ∷ ys → xs ≡ ys
same_rest x y xs ys e = cc

-- each start tag gives its entry
each_start : (context : Context) (all : Cut) (past : List Placed) → Sound context → Accounts (is_between context.stage) past context.entries context.open_elements → faults_from context all ≡ []
    → (before following : List Placed) (name : List ℕ) (at : ℕ) → tokens_of all ≡ before ++ (record { token = Opening name; at = at }) ∷ following → GivesEntry (past ++ before) name at following (draft_from context all)
each_start context (Item token place more) past sound accounts none [] following name at e =
    let head : record { token = token; at = place } ≡ record { token = Opening name; at = at } = same_first (record { token = token; at = place }) (record { token = Opening name; at = at }) (tokens_of more) following e in
    subst (λ (some : List Placed). GivesEntry some name at following (draft_from context (Item token place more))) (sym (append-nil past))
    (subst (λ (rest : List Placed). GivesEntry past name at rest (draft_from context (Item token place more))) (same_rest (record { token = token; at = place }) (record { token = Opening name; at = at }) (tokens_of more) following e)
    (subst (λ (one : Placed). faults_from context (Item one.token one.at more) ≡ [] → GivesEntry past name at (tokens_of more) (draft_from context (Item one.token one.at more))) (sym head)
    (start_gives context name at more past sound accounts) none))
each_start context (Item token place more) past sound accounts none (one ∷ before) following name at e =
    let head : record { token = token; at = place } ≡ one = same_first (record { token = token; at = place }) one (tokens_of more) (before ++ (record { token = Opening name; at = at }) ∷ following) e in
    let here : faults_of context token place ≡ [] = no_first (faults_of context token place) _ none in
    subst (λ (some : List Placed). GivesEntry some name at following (draft_from context (Item token place more)))
    (append_assoc past ((record { token = token; at = place }) ∷ []) before ∙ ap (λ (first : Placed). past ++ first ∷ before) head)
    (each_start (after_token context token place) more (past ++ (record { token = token; at = place }) ∷ []) (sound_after context token place sound here) (accounts_after context token place past sound accounts here) (no_second (faults_of context token place) _ none)
    before following name at (same_rest (record { token = token; at = place }) one (tokens_of more) (before ++ (record { token = Opening name; at = at }) ∷ following) e))
each_start context (Rest place byte broken) past sound accounts none [] following name at e = cc
each_start context (Rest place byte broken) past sound accounts none (one ∷ before) following name at e = cc
each_start context (End place) past sound accounts none [] following name at e = cc
each_start context (End place) past sound accounts none (one ∷ before) following name at e = cc

-- an end tag ends its entry
end_tag_ends : (context : Context) (name : List ℕ) (at : ℕ) (more : Cut) (past : List Placed) → Sound context → Accounts (is_between context.stage) past context.entries context.open_elements
    → faults_from context (Item (EndTag name) at more) ≡ [] → EndsEntry past name (draft_from context (Item (EndTag name) at more))
end_tag_ends context name at more past sound accounts none =
    let here : faults_of context (EndTag name) at ≡ [] = no_first (faults_of context (EndTag name) at) _ none in
    let both : (is_between context.stage && closes name context.open_elements) ≡ true = stands_here _ (fault.BadItem at) (missing_of context.open_elements at) here in
    end_ends context context.open_elements name past (draft_from context (Item (EndTag name) at more)) (both_right (is_between context.stage) _ both)
    (between_of (is_between context.stage) past context.entries context.open_elements (both_left _ _ both) accounts)
    (λ inner outer e. stood inner outer (subst (ArePath context.entries) e sound.stands.path))
  where
    stood : (inner : Open) (outer : List Open) → ArePath context.entries (inner ∷ outer) → (entry : Entry) × StandsAt (draft_from context (Item (EndTag name) at more)) inner.number entry × (word_of entry.what ≡ inner.word)
    stood inner outer path = (path.0.entry, draft_keeps context (Item (EndTag name) at more) inner.number path.0.entry path.0.stands, path.0.word)

-- each end tag ends its entry
each_end : (context : Context) (all : Cut) (past : List Placed) → Sound context → Accounts (is_between context.stage) past context.entries context.open_elements → faults_from context all ≡ []
    → (before following : List Placed) (name : List ℕ) (at : ℕ) → tokens_of all ≡ before ++ (record { token = EndTag name; at = at }) ∷ following → EndsEntry (past ++ before) name (draft_from context all)
each_end context (Item token place more) past sound accounts none [] following name at e =
    let head : record { token = token; at = place } ≡ record { token = EndTag name; at = at } = same_first (record { token = token; at = place }) (record { token = EndTag name; at = at }) (tokens_of more) following e in
    subst (λ (some : List Placed). EndsEntry some name (draft_from context (Item token place more))) (sym (append-nil past))
    (subst (λ (one : Placed). faults_from context (Item one.token one.at more) ≡ [] → EndsEntry past name (draft_from context (Item one.token one.at more))) (sym head)
    (end_tag_ends context name at more past sound accounts) none)
each_end context (Item token place more) past sound accounts none (one ∷ before) following name at e =
    let head : record { token = token; at = place } ≡ one = same_first (record { token = token; at = place }) one (tokens_of more) (before ++ (record { token = EndTag name; at = at }) ∷ following) e in
    let here : faults_of context token place ≡ [] = no_first (faults_of context token place) _ none in
    subst (λ (some : List Placed). EndsEntry some name (draft_from context (Item token place more)))
    (append_assoc past ((record { token = token; at = place }) ∷ []) before ∙ ap (λ (first : Placed). past ++ first ∷ before) head)
    (each_end (after_token context token place) more (past ++ (record { token = token; at = place }) ∷ []) (sound_after context token place sound here) (accounts_after context token place past sound accounts here) (no_second (faults_of context token place) _ none)
    before following name at (same_rest (record { token = token; at = place }) one (tokens_of more) (before ++ (record { token = EndTag name; at = at }) ∷ following) e))
each_end context (Rest place byte broken) past sound accounts none [] following name at e = cc
each_end context (Rest place byte broken) past sound accounts none (one ∷ before) following name at e = cc
each_end context (End place) past sound accounts none [] following name at e = cc
each_end context (End place) past sound accounts none (one ∷ before) following name at e = cc

-- at the end of a text, as many entries as begin, and each ends
abbrev pub Counted : List Placed → List Entry → Type 0
Counted tokens entries = (length entries ≡ tags.count_begun tokens) × (tags.count_ended tokens ≡ tags.count_begun tokens)

-- where no element is open all is counted
done_counted : (tokens : List Placed) (entries : List Entry) (open_elements : List Open) → is_done open_elements entries ≡ true → Accounted tokens entries open_elements → Counted tokens entries
done_counted tokens entries [] done accounted = (accounted.count, (let balance : tags.count_begun tokens ≡ tags.count_ended tokens + 0 = accounted.balance in omega arith))
done_counted tokens entries (inner ∷ outer) done accounted = cc

-- a text without a fault has as many entries as start tags, and each ends
all_counted : (context : Context) (all : Cut) (past : List Placed) → Sound context → Accounts (is_between context.stage) past context.entries context.open_elements → faults_from context all ≡ []
    → Counted (past ++ tokens_of all) (draft_from context all)
all_counted context (Item token place more) past sound accounts none =
    let here : faults_of context token place ≡ [] = no_first (faults_of context token place) _ none in
    subst (λ (tokens : List Placed). Counted tokens (draft_from context (Item token place more))) (append_assoc past ((record { token = token; at = place }) ∷ []) (tokens_of more))
    (all_counted (after_token context token place) more (past ++ (record { token = token; at = place }) ∷ []) (sound_after context token place sound here) (accounts_after context token place past sound accounts here) (no_second (faults_of context token place) _ none))
all_counted context (Rest place byte broken) past sound accounts none = absurd (never (no_second (when (not (may_begin context.stage byte)) (fault.BadItem place)) (broken ∷ []) none))
  where
    never : broken ∷ [] ≡ [] → ⊥
    never e = cc
all_counted context (End place) past sound accounts none =
    let both : (is_between context.stage && is_done context.open_elements context.entries) ≡ true = is_so _ (not_when _ (fault.Unclosed place) none) in
    subst (λ (tokens : List Placed). Counted tokens context.entries) (sym (append-nil past))
    (done_counted past context.entries context.open_elements (both_right (is_between context.stage) _ both) (between_of (is_between context.stage) past context.entries context.open_elements (both_left _ _ both) accounts))

-- the entries of a text whose tokens break nothing are those of its start tags
of_tags : (all : Cut) → faults_from empty_draft all ≡ [] → AreOfTags (tokens_of all) (draft_from empty_draft all)
of_tags all none =
    let counted = all_counted empty_draft all [] sound_start accounts_start none in
    record {
      count = counted.0;
      closed = counted.1;
      starts = each_start empty_draft all [] sound_start accounts_start none;
      end_tags = each_end empty_draft all [] sound_start accounts_start none;
    }

-- the entries of a text without a fault are those of its start tags
pub text_of_tags : (text : List ℕ) → xmcf_fault text ≡ None → AreOfTags (tokens_of (cut 0 0 text)) (draft_of text)
unfolding draft_of
text_of_tags text none = of_tags (cut 0 0 text) (none_broken text none)
