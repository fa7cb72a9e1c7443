-- The faults of a text: all that the tokens and the rest break, and the least of them.
use Rattle.std.specs.Prelude.{ℕ, suc, zero, ◌+◌, ◌-◌, ◌==◌, Bool, true, false, ◌&&◌, ◌||◌, not, nat_lt, nat_eq, if◌then◌else◌, List, [], ◌∷◌, ◌++◌, length, map, filter, Option, Some, None}
use Rattle.std.specs.Str.{bytes_eq}
use Rattle.std.specs.Str.Lossy.{utf8_valid_len}
use Rattle.xmcf_reader.specs.Bytes.{is_blank, is_letter, is_quote}
use Rattle.xmcf_reader.specs.Words.{word_text, element_named}
use Rattle.xmcf_reader.specs.Table.{attributes, allowed_children}
use Rattle.xmcf_reader.specs.Elements.{Pair, is_given}
use Rattle.xmcf_reader.specs.Values.{has_form}
use Rattle.xmcf_reader.specs.Draft.{Context, Open, Tag, empty_draft, after_token, attribute_named, may_stand, lacks_child, lacks_attribute}
use Rattle.xmcf_reader.specs.Tokens.{Token, Blanks, Comment, Declaration, Opening, Name, Equals, Value, TagEnd, EmptyEnd, EndTag, Front, Found, Broken, front}
use Rattle.xmcf_reader.specs.declared.token.Stop.{Stop}
use Rattle.xmcf_reader.specs.declared.token.Stop.TheVariants.{Break, Reference, Ended}
use Rattle.xmcf_reader.specs.declared.word.Word.{Word}
use Rattle.xmcf_reader.specs.declared.table.Attribute.{Attribute}
use Rattle.xmcf_reader.specs.declared.draft.Entry.{Entry}
use Rattle.xmcf_reader.specs.declared.stage.Stage.{Stage}
use Rattle.xmcf_reader.specs.declared.stage.Stage.TheVariants.{Between, Bare, Spaced, Named, Equaled}
use Rattle.xmcf_reader.specs.declared.fault.ReadFault.{ReadFault}
use Rattle.xmcf_reader.specs.declared.fault.ReadFault.TheVariants as fault

-- a text as its tokens with their places, and what is left: nothing, or a rest whose first byte begins no token
pub data Cut : Type 0 where
  Item : (token : Token) (at : ℕ) (more : Cut) → Cut
  Rest : (at byte : ℕ) (broken : ReadFault) → Cut
  End : (at : ℕ) → Cut

-- the fault of a spelling that stops, in a rest of this many bytes from a place on
abbrev pub stopped : ℕ → ℕ → Stop → ReadFault
stopped at size (Break offset) = fault.BadItem (at + offset)
stopped at size (Reference offset) = fault.Reference (at + offset)
stopped at size Ended = fault.Unclosed (at + size)

-- a cut by what stands at the beginning of a byte and those after it, with the cut of these after this many bytes more
abbrev pub cut_at : Front → ℕ → ℕ → ℕ → (ℕ → Cut) → Cut
cut_at (Found token size) at byte following next = Item token at (next (size - 1))
cut_at (Broken stop) at byte following next = Rest at byte (stopped at (following + 1) stop)

-- the cut of what stands from a place on; this many of the bytes belong to the token before
unfoldable pub cut : ℕ → ℕ → List ℕ → Cut
cut at more [] = End at
cut at (suc more) (byte ∷ bytes) = cut (at + 1) more bytes
cut at zero (byte ∷ bytes) = cut_at (front (nat_eq at 0) (byte ∷ bytes)) at byte (length bytes) (λ more. cut (at + 1) more bytes)

-- a fault that comes or not
abbrev pub when : Bool → ReadFault → List ReadFault
when true found = found ∷ []
when false found = []

-- between tags
abbrev pub is_between : Stage → Bool
is_between Between = true
is_between other = false

-- in a start tag where an attribute may stand
abbrev pub is_spaced : Stage → Bool
is_spaced Spaced = true
is_spaced other = false

-- in a start tag where it may end
abbrev pub may_end : Stage → Bool
may_end Bare = true
may_end Spaced = true
may_end other = false

-- after an attribute's name
abbrev pub is_named : Stage → Bool
is_named (Named attribute) = true
is_named other = false

-- the root has ended
abbrev pub is_done : List Open → List Entry → Bool
is_done [] [] = false
is_done [] (entry ∷ entries) = true
is_done (inner ∷ outer) entries = false

-- the faults of an element that begins here
abbrev pub element_faults : Option Word → List Open → ℕ → List ReadFault
element_faults None outer at = fault.UnknownElement at ∷ []
element_faults (Some word) outer at = when (not (may_stand word outer)) (fault.WrongChild at)

-- the faults of an attribute that begins here
abbrev pub attribute_faults : Option Attribute → Tag → ℕ → List ReadFault
attribute_faults None tag at = fault.UnknownAttribute at ∷ []
attribute_faults (Some attribute) tag at = when (is_given attribute.word tag.given) (fault.RepeatedAttribute at)

-- the faults of a value whose quote stands here
abbrev pub value_faults : Stage → List ℕ → ℕ → List ReadFault
value_faults (Equaled attribute) text at = when (not (has_form attribute.form text)) (fault.BadValue (at + 1))
value_faults other text at = fault.BadItem at ∷ []

-- the attributes that a start tag lacks where it ends
unfoldable pub missing_attributes : Word → List Pair → ℕ → List ReadFault
missing_attributes word given at =
    map (λ attribute. fault.MissingAttribute at attribute.word) (filter (lacks_attribute given) (attributes word))

-- the children that an element lacks where it ends
unfoldable pub missing_children : Word → List Word → ℕ → List ReadFault
missing_children word noted at = map (λ child. fault.MissingChild at child.word) (filter (lacks_child noted) (allowed_children word))

-- whether an end tag's name is that of the innermost open element
abbrev pub closes : List ℕ → List Open → Bool
closes name [] = false
closes name (inner ∷ outer) = bytes_eq (word_text inner.word) name

-- the children that the innermost open element lacks
abbrev pub missing_of : List Open → ℕ → List ReadFault
missing_of [] at = []
missing_of (inner ∷ outer) at = missing_children inner.word inner.children at

-- all that a token breaks
abbrev pub faults_of : Context → Token → ℕ → List ReadFault
faults_of context Blanks at = []
faults_of context Comment at = when (not (is_between context.stage)) (fault.BadItem at)
faults_of context Declaration at = when (not (is_between context.stage)) (fault.BadItem at)
faults_of context (Opening name) at =
    when (not (is_between context.stage && not (is_done context.open_elements context.entries))) (fault.BadItem at)
    ++ element_faults (element_named name) context.open_elements at
faults_of context (Name name) at =
    when (not (is_spaced context.stage)) (fault.BadItem at) ++ attribute_faults (attribute_named name context.tag.word) context.tag at
faults_of context Equals at = when (not (is_named context.stage)) (fault.BadItem at)
faults_of context (Value text) at = value_faults context.stage text at
faults_of context TagEnd at = when (not (may_end context.stage)) (fault.BadItem at) ++ missing_attributes context.tag.word context.tag.given at
faults_of context EmptyEnd at =
    when (not (may_end context.stage)) (fault.BadItem at) ++ (missing_attributes context.tag.word context.tag.given at ++ missing_children context.tag.word [] at)
faults_of context (EndTag name) at =
    when (not (is_between context.stage && closes name context.open_elements)) (fault.BadItem at) ++ missing_of context.open_elements at

-- whether the byte begins an item that may stand here
abbrev pub may_begin : Stage → ℕ → Bool
may_begin Between byte = is_blank byte || byte == 60
may_begin Bare byte = is_blank byte || byte == 62 || byte == 47
may_begin Spaced byte = is_letter byte || byte == 62 || byte == 47
may_begin (Named attribute) byte = is_blank byte || byte == 61
may_begin (Equaled attribute) byte = is_blank byte || is_quote byte

-- all that a text breaks from here on
abbrev pub faults_from : Context → Cut → List ReadFault
faults_from context (Item token at more) = faults_of context token at ++ faults_from (after_token context token at) more
faults_from context (Rest at byte broken) = when (not (may_begin context.stage byte)) (fault.BadItem at) ++ broken ∷ []
faults_from context (End at) =
    when (not (is_between context.stage && is_done context.open_elements context.entries)) (fault.Unclosed at)

-- the entries of a text
abbrev pub draft_from : Context → Cut → List Entry
draft_from context (Item token at more) = draft_from (after_token context token at) more
draft_from context (Rest at byte broken) = context.entries
draft_from context (End at) = context.entries

-- the place of a fault
abbrev pub place : ReadFault → ℕ
place (fault.NotText at) = at
place (fault.BadItem at) = at
place (fault.Reference at) = at
place (fault.UnknownElement at) = at
place (fault.UnknownAttribute at) = at
place (fault.MissingAttribute at which) = at
place (fault.RepeatedAttribute at) = at
place (fault.BadValue at) = at
place (fault.Unclosed at) = at
place (fault.WrongChild at) = at
place (fault.MissingChild at which) = at
place fault.Memory = 0

-- the order of the kinds of faults
abbrev pub rank : ReadFault → ℕ
rank (fault.NotText at) = 0
rank (fault.BadItem at) = 1
rank (fault.Reference at) = 2
rank (fault.UnknownElement at) = 3
rank (fault.UnknownAttribute at) = 4
rank (fault.MissingAttribute at which) = 5
rank (fault.RepeatedAttribute at) = 6
rank (fault.BadValue at) = 7
rank (fault.Unclosed at) = 8
rank (fault.WrongChild at) = 9
rank (fault.MissingChild at which) = 10
rank fault.Memory = 11

-- whether a fault comes before another: by place, then by kind
abbrev pub comes_before : ReadFault → ReadFault → Bool
comes_before one other = nat_lt (place one) (place other) || (nat_eq (place one) (place other) && nat_lt (rank one) (rank other))

-- the lesser of a fault and what is the least after it; of equals the first
abbrev pub lesser_fault : ReadFault → Option ReadFault → Option ReadFault
lesser_fault one None = Some one
lesser_fault one (Some other) = if comes_before other one then Some other else Some one

-- the least of faults
abbrev pub least : List ReadFault → Option ReadFault
least [] = None
least (one ∷ others) = lesser_fault one (least others)

-- the fault of a text: bytes that are no text go before all others
unfoldable pub xmcf_fault : List ℕ → Option ReadFault
xmcf_fault text =
    if nat_lt (utf8_valid_len text) (length text) then Some (fault.NotText (utf8_valid_len text))
    else least (faults_from empty_draft (cut 0 0 text))

-- the draft of a text
unfoldable pub draft_of : List ℕ → List Entry
draft_of text = draft_from empty_draft (cut 0 0 text)
