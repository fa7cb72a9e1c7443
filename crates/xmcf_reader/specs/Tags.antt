-- What the tags of a text say of its entries: all by counting where elements begin and end.
use Rattle.std.specs.Prelude.{◌≡◌, ℕ, ◌+◌, ◌<◌, ◌≤◌, List, [], ◌∷◌, ◌++◌, length, Option, Some, None, ◌⊎◌}
use Rattle.std.specs.List.{zip, filter_map}
use Rattle.std.specs.Option.{option_map}
use Rattle.xmcf_reader.specs.Draft.{attribute_named}
use Rattle.xmcf_reader.specs.Drafts.{word_of, StandsAt}
use Rattle.xmcf_reader.specs.Elements.{Pair, built}
use Rattle.xmcf_reader.specs.Faults.{Cut, Item, Rest, End}
use Rattle.xmcf_reader.specs.Tokens.{Token, Opening, Name, Value, TagEnd, EmptyEnd, EndTag}
use Rattle.xmcf_reader.specs.Words.{word_text}
use Rattle.xmcf_reader.specs.declared.draft.Entry.{Entry}
use Rattle.xmcf_reader.specs.declared.word.Word.{Word}

-- a token at its place
pub record Placed : Type 0 where
  pub token : Token
  pub at : ℕ

-- the tokens of a text, with their places
abbrev pub tokens_of : Cut → List Placed
tokens_of (Item token at more) = record { token = token; at = at } ∷ tokens_of more
tokens_of (Rest at byte broken) = []
tokens_of (End at) = []

-- how many elements begin at a token
abbrev pub begins : Token → ℕ
begins (Opening name) = 1
begins other = 0

-- how many elements end at a token
abbrev pub ends : Token → ℕ
ends EmptyEnd = 1
ends (EndTag name) = 1
ends other = 0

-- how many elements begin in tokens
abbrev pub count_begun : List Placed → ℕ
count_begun [] = 0
count_begun (one ∷ more) = begins one.token + count_begun more

-- how many elements end in tokens
abbrev pub count_ended : List Placed → ℕ
count_ended [] = 0
count_ended (one ∷ more) = ends one.token + count_ended more

-- from no token on do more elements begin than end
abbrev pub AllClosed : List Placed → Type 0
AllClosed [] = Unit {0}
AllClosed (one ∷ more) = (count_begun (one ∷ more) ≤ count_ended (one ∷ more)) × AllClosed more

-- the innermost element that is open after tokens has this number: its start tag is the last token from which on more
-- elements begin than end
pub record IsInnermost (tokens : List Placed) (number : ℕ) : Type 0 where
  pub before : List Placed
  pub start : Placed
  pub following : List Placed
  pub is : tokens ≡ before ++ start ∷ following
  pub open_here : count_ended (start ∷ following) < count_begun (start ∷ following)
  pub closed : AllClosed following
  pub number_is : number ≡ count_begun before

-- an element that begins after tokens has the innermost open element as its parent; the parent of the first is 0
abbrev pub IsParent : List Placed → ℕ → Type 0
IsParent before number = ((count_begun before ≡ 0) × (number ≡ 0)) ⊎ IsInnermost before number

-- a token of a start tag and those after it; the end of the tag ends them
abbrev pub tag_token : Token → List Token → List Token
tag_token TagEnd more = []
tag_token EmptyEnd more = []
tag_token other more = other ∷ more

-- the tokens of a start tag after its name
abbrev pub in_tag : List Placed → List Token
in_tag [] = []
in_tag (one ∷ more) = tag_token one.token (in_tag more)

-- the name of an attribute, where a token is one
abbrev pub name_token : Token → Option (List ℕ)
name_token (Name name) = Some name
name_token other = None

-- the names of attributes in tokens
abbrev pub names_in : List Token → List (List ℕ)
names_in tokens = filter_map name_token tokens

-- the text of a value, where a token is one
abbrev pub value_token : Token → Option (List ℕ)
value_token (Value text) = Some text
value_token other = None

-- the values in tokens
abbrev pub values_in : List Token → List (List ℕ)
values_in tokens = filter_map value_token tokens

-- an attribute of the table with its value
abbrev pub pair_named : Word → List ℕ × List ℕ → Option Pair
pair_named element pair = option_map (λ attribute. record { word = attribute.word; text = pair.1 }) (attribute_named pair.0 element)

-- the attributes of an element's start tag: each name with the value of the same number
abbrev pub given_in : Word → List Token → List Pair
given_in element tokens = filter_map (pair_named element) (zip (names_in tokens) (values_in tokens))

-- the entry of the start tag with this name and place, after and before these tokens: its element, with the values of
-- the tag, and its parent
pub record IsEntryOf (before : List Placed) (name : List ℕ) (at : ℕ) (following : List Placed) (entry : Entry) : Type 0 where
  pub place : entry.at ≡ at
  pub named : name ≡ word_text (word_of entry.what)
  pub values : Some entry.what ≡ built (word_of entry.what) (given_in (word_of entry.what) (in_tag following))
  pub parent : IsParent before entry.parent

-- the start tag with this name and place gives its entry, whose number is that of the start tags before it
pub record GivesEntry (before : List Placed) (name : List ℕ) (at : ℕ) (following : List Placed) (entries : List Entry) : Type 0 where
  pub entry : Entry
  pub stands : StandsAt entries (count_begun before) entry
  pub is : IsEntryOf before name at following entry

-- the end tag with this name ends the innermost element that is open before it
pub record EndsEntry (before : List Placed) (name : List ℕ) (entries : List Entry) : Type 0 where
  pub number : ℕ
  pub entry : Entry
  pub innermost : IsInnermost before number
  pub stands : StandsAt entries number entry
  pub named : name ≡ word_text (word_of entry.what)

-- the entries are those of the start tags, and each element ends
pub record AreOfTags (tokens : List Placed) (entries : List Entry) : Type 0 where
  pub count : length entries ≡ count_begun tokens
  pub closed : count_ended tokens ≡ count_begun tokens
  pub starts : (before following : List Placed) (name : List ℕ) (at : ℕ) → tokens ≡ before ++ (record { token = Opening name; at = at }) ∷ following → GivesEntry before name at following entries
  pub end_tags : (before following : List Placed) (name : List ℕ) (at : ℕ) → tokens ≡ before ++ (record { token = EndTag name; at = at }) ∷ following → EndsEntry before name entries
