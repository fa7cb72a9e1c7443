-- The draft of a text: the tree of its tokens.
use Rattle.std.specs.Prelude.{ℕ, Bool, true, false, ◌&&◌, not, List, [], ◌∷◌, ◌++◌, length, Option, Some, None}
use Rattle.std.specs.List.{find, list_any}
use Rattle.std.specs.Str.{bytes_eq}
use Rattle.xmcf_reader.specs.Words.{is_word, word_text, element_named}
use Rattle.xmcf_reader.specs.Table.{attributes, allowed_children}
use Rattle.xmcf_reader.specs.Elements.{Pair, is_given, built}
use Rattle.xmcf_reader.specs.Tokens.{Token, Blanks, Comment, Declaration, Opening, Name, Equals, Value, TagEnd, EmptyEnd, EndTag}
use Rattle.xmcf_reader.specs.declared.word.Word.{Word}
use Rattle.xmcf_reader.specs.declared.word.Word.TheVariants as word
use Rattle.xmcf_reader.specs.declared.table.Attribute.{Attribute}
use Rattle.xmcf_reader.specs.declared.table.Child.{Child}
use Rattle.xmcf_reader.specs.declared.table.Often.{Often}
use Rattle.xmcf_reader.specs.declared.table.Often.TheVariants as often
use Rattle.xmcf_reader.specs.declared.draft.Entry.{Entry}
use Rattle.xmcf_reader.specs.declared.draft.Element.{Element}
use Rattle.xmcf_reader.specs.declared.stage.Stage.{Stage}
use Rattle.xmcf_reader.specs.declared.stage.Stage.TheVariants.{Between, Bare, Spaced, Named, Equaled}

-- a start tag: the place of its `<`, its element, and the attributes that stand in it so far
pub record Tag : Type 0 where
  pub at : ℕ
  pub word : Word
  pub given : List Pair

-- an element whose end is to come: its number in the draft, and the children that it has so far
pub record Open : Type 0 where
  pub word : Word
  pub number : ℕ
  pub children : List Word

-- what the tokens so far give: the entries, the open elements with the innermost first, where in a tag the text is, and
-- the last start tag
pub record Context : Type 0 where
  pub entries : List Entry
  pub open_elements : List Open
  pub stage : Stage
  pub tag : Tag

-- before the first token
abbrev pub empty_draft : Context
empty_draft = record { entries = []; open_elements = []; stage = Between; tag = record { at = 0; word = word.SystemDescription; given = [] } }

-- the attribute of the tag's element that bytes name
unfoldable pub attribute_named : List ℕ → Word → Option Attribute
attribute_named name element = find (λ attribute. bytes_eq (word_text attribute.word) name) (attributes element)

-- whether a child may stand again
abbrev pub is_many : Often → Bool
is_many often.One = false
is_many often.Maybe = false
is_many often.Some = true
is_many often.Any = true

-- whether a child has to stand
abbrev pub is_needed : Often → Bool
is_needed often.One = true
is_needed often.Maybe = false
is_needed often.Some = true
is_needed often.Any = false

-- whether a word is among words
unfoldable pub is_among : Word → List Word → Bool
is_among word words = list_any (λ other. is_word other word) words

-- whether there is place for a child that stands already or not
abbrev pub has_place : Option Child → Bool → Bool
has_place None stands = false
has_place (Some child) false = true
has_place (Some child) true = is_many child.often

-- the child of that name in the table
unfoldable pub child_named : Word → Word → Option Child
child_named word element = find (λ child. is_word child.word word) (allowed_children element)

-- whether an element may stand as the next child
unfoldable pub may_be_child : Word → Open → Bool
may_be_child word parent = has_place (child_named word parent.word) (is_among word parent.children)

-- whether an element may stand here: the root is the system's description
abbrev pub may_stand : Word → List Open → Bool
may_stand element [] = is_word element word.SystemDescription
may_stand element (parent ∷ outer) = may_be_child element parent

-- whether the table demands a child that does not stand
abbrev pub lacks_child : List Word → Child → Bool
lacks_child noted child = is_needed child.often && not (is_among child.word noted)

-- whether the table demands an attribute that does not stand
abbrev pub lacks_attribute : List Pair → Attribute → Bool
lacks_attribute given attribute = attribute.needed && not (is_given attribute.word given)

-- the number of the innermost open element; the root's parent is 0
abbrev pub parent_number : List Open → ℕ
parent_number [] = 0
parent_number (parent ∷ outer) = parent.number

-- the innermost open element has one more child
abbrev pub child_noted : Word → List Open → List Open
child_noted word [] = []
child_noted word (parent ∷ outer) = record parent { children = parent.children ++ word ∷ [] } ∷ outer

-- after blanks an attribute may stand
abbrev pub blank_passed : Stage → Stage
blank_passed Bare = Spaced
blank_passed other = other

-- a start tag begins
abbrev pub tag_begun : Option Word → ℕ → Context → Context
tag_begun None at context = context
tag_begun (Some word) at context = record context { stage = Bare; tag = record { at = at; word = word; given = [] } }

-- an attribute's name stands
abbrev pub named_as : Option Attribute → Context → Context
named_as None context = context
named_as (Some attribute) context = record context { stage = Named attribute }

-- an `=` stands
abbrev pub equaled : Stage → Stage
equaled (Named attribute) = Equaled attribute
equaled other = other

-- a value stands
abbrev pub valued : Stage → List ℕ → Context → Context
valued (Equaled attribute) text context =
    record context { stage = Bare; tag = record { at = context.tag.at; word = context.tag.word; given = context.tag.given ++ (record { word = attribute.word; text = text }) ∷ [] } }
valued other text context = context

-- the element of a start tag is an entry, after those before it
abbrev pub entry_added : Option Element → Context → List Entry
entry_added None context = context.entries
entry_added (Some what) context = context.entries ++ (record { at = context.tag.at; parent = parent_number context.open_elements; what = what }) ∷ []

-- a start tag ends: its element is an entry and a child, and has no children
unfoldable pub tag_ended : Context → Context
tag_ended context =
    record context { entries = entry_added (built context.tag.word context.tag.given) context; open_elements = child_noted context.tag.word context.open_elements; stage = Between }

-- the element of the tag is open
abbrev pub opened : ℕ → Context → Context
opened number context = record context { open_elements = (record { word = context.tag.word; number = number; children = [] }) ∷ context.open_elements }

-- what is left of open elements when the innermost ends
abbrev pub outer_of : List Open → List Open
outer_of [] = []
outer_of (inner ∷ outer) = outer

-- what one more token gives
abbrev pub after_token : Context → Token → ℕ → Context
after_token context Blanks at = record context { stage = blank_passed context.stage }
after_token context Comment at = context
after_token context Declaration at = context
after_token context (Opening name) at = tag_begun (element_named name) at context
after_token context (Name name) at = named_as (attribute_named name context.tag.word) context
after_token context Equals at = record context { stage = equaled context.stage }
after_token context (Value text) at = valued context.stage text context
after_token context TagEnd at = opened (length context.entries) (tag_ended context)
after_token context EmptyEnd at = tag_ended context
after_token context (EndTag name) at = record context { open_elements = outer_of context.open_elements }
