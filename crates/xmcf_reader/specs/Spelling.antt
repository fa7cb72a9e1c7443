-- How each token is spelled, by whole texts.
use Rattle.std.specs.Prelude.{◌≡◌, ℕ, ◌+◌, ◌<◌, Bool, true, false, List, [], ◌∷◌, ◌++◌, length, codes, None}
use Rattle.xmcf_reader.specs.Bytes.{is_blank, is_letter, is_of_name, is_quote, ends_value, ends_declaration, first_where, are_dashes, pairs}
use Rattle.xmcf_reader.specs.Tokens.{Token, Blanks, Comment, Declaration, Opening, Name, Equals, Value, TagEnd, EmptyEnd, EndTag, Found, front}
use Rattle.xmcf_reader.specs.Faults.{Cut, Item, Rest, End, cut}

-- each byte passes a test
abbrev pub Each : (ℕ → Bool) → List ℕ → Type 0
Each test [] = Unit {0}
Each test (byte ∷ bytes) = (test byte ≡ true) × Each test bytes

-- no byte passes a test
abbrev pub NoneOf : (ℕ → Bool) → List ℕ → Type 0
NoneOf test [] = Unit {0}
NoneOf test (byte ∷ bytes) = (test byte ≡ false) × NoneOf test bytes

-- no two dashes stand side by side
abbrev pub NoDashes : List ℕ → Type 0
NoDashes bytes = first_where are_dashes (pairs bytes) ≡ None

-- a name: letters, digits and colons, a letter first
pub record IsTagName (word : List ℕ) : Type 0 where
  pub first : ℕ
  pub rest : List ℕ
  pub is : word ≡ first ∷ rest
  pub letter : is_letter first ≡ true
  pub each : Each is_of_name word

-- blanks, one at least
pub record AreBlanks (word : List ℕ) : Type 0 where
  pub some : 0 < length word
  pub each : Each is_blank word

-- a comment: `<!--`, what has no two dashes and does not end with one, `-->`
pub record IsComment (word : List ℕ) : Type 0 where
  pub body : List ℕ
  pub is : word ≡ codes "<!--" ++ (body ++ codes "-->")
  pub plain : NoDashes (body ++ codes "-")

-- a declaration: `<?xml`, a blank, what has no `?`, no `&` and nothing past ASCII, `?>`
pub record IsDeclaration (word : List ℕ) : Type 0 where
  pub blank : ℕ
  pub body : List ℕ
  pub is : word ≡ codes "<?xml" ++ (blank ∷ (body ++ codes "?>"))
  pub is_blank : is_blank blank ≡ true
  pub plain : NoneOf ends_declaration body

-- a value: a text without `<`, `&`, its quote and anything past ASCII, between two equal quotes
pub record IsValue (text word : List ℕ) : Type 0 where
  pub quote : ℕ
  pub is : word ≡ quote ∷ (text ++ quote ∷ [])
  pub is_quote : is_quote quote ≡ true
  pub plain : NoneOf (ends_value quote) text

-- an end tag: `</`, its name, blanks or none, `>`
pub record IsEndTag (name word : List ℕ) : Type 0 where
  pub blanks : List ℕ
  pub is : word ≡ codes "</" ++ (name ++ (blanks ++ codes ">"))
  pub named : IsTagName name
  pub each : Each is_blank blanks

-- `<` and a name
pub record IsOpening (name word : List ℕ) : Type 0 where
  pub is : word ≡ codes "<" ++ name
  pub named : IsTagName name

-- a name as it is
pub record IsAttributeName (name word : List ℕ) : Type 0 where
  pub is : word ≡ name
  pub named : IsTagName name

-- how each token is spelled
abbrev pub SpellsToken : Token → List ℕ → Type 0
SpellsToken Blanks word = AreBlanks word
SpellsToken Comment word = IsComment word
SpellsToken Declaration word = IsDeclaration word
SpellsToken (Opening name) word = IsOpening name word
SpellsToken (Name name) word = IsAttributeName name word
SpellsToken Equals word = word ≡ codes "="
SpellsToken (Value text) word = IsValue text word
SpellsToken TagEnd word = word ≡ codes ">"
SpellsToken EmptyEnd word = word ≡ codes "/>"
SpellsToken (EndTag name) word = IsEndTag name word

-- a token stands at a place, spelled by the prefix of a text
pub record IsTokenAt (token : Token) (at place : ℕ) (text word rest : List ℕ) : Type 0 where
  pub is : text ≡ word ++ rest
  pub here : place ≡ at
  pub spells : SpellsToken token word

-- a text, from a place on, is its tokens as they are spelled, and then the rest
abbrev pub IsCut : ℕ → List ℕ → Cut → Type 0
IsCut at text (Item token place more) = (word : List ℕ) × (rest : List ℕ) × IsTokenAt token at place text word rest × IsCut (at + length word) rest more
IsCut at text (Rest place byte broken) = place ≡ at
IsCut at text (End place) = (text ≡ []) × (place ≡ at)

-- each text is its tokens as they are spelled, and then the rest
abbrev pub TextIsCut : Type 0
TextIsCut = (text : List ℕ) → IsCut 0 text (cut 0 0 text)

-- the bytes that pass a test end where the text ends, or at a byte that does not pass
abbrev pub TestStopsAt : (ℕ → Bool) → List ℕ → Type 0
TestStopsAt test [] = Unit {0}
TestStopsAt test (byte ∷ bytes) = test byte ≡ false

-- a byte stands after that is of no name
pub record EndsName (rest : List ℕ) : Type 0 where
  pub following : ℕ
  pub more : List ℕ
  pub is : rest ≡ following ∷ more
  pub apart : is_of_name following ≡ false

-- what stands after a token ends it; a declaration stands at the text's first place
abbrev pub Ends : Token → Bool → List ℕ → Type 0
Ends Blanks first rest = TestStopsAt is_blank rest
Ends Comment first rest = Unit {0}
Ends Declaration first rest = first ≡ true
Ends (Opening name) first rest = EndsName rest
Ends (Name name) first rest = EndsName rest
Ends Equals first rest = Unit {0}
Ends (Value text) first rest = Unit {0}
Ends TagEnd first rest = Unit {0}
Ends EmptyEnd first rest = Unit {0}
Ends (EndTag name) first rest = Unit {0}

-- what is spelled as a token, with a byte after it that ends it, is the token that is found
abbrev pub SpelledIsTaken : Type 0
SpelledIsTaken = (first : Bool) (token : Token) (word rest : List ℕ) → SpellsToken token word → Ends token first rest → front first (word ++ rest) ≡ Found token (length word)
