-- What the program has, as the definitions have it.
use Rattle.std.specs.Prelude.{ℕ, List, map, Option, Some, None}
use Rattle.xmcf_reader.specs.Elements as elements
use Rattle.xmcf_reader.specs.declared.elements.Pair as code_pair
use Rattle.std.specs.Borrow.{Bor}
use Rattle.xmcf_reader.specs.Tokens as spec
use Rattle.xmcf_reader.specs.Values as values
use Rattle.xmcf_reader.specs.declared.values.FlagSet.{FlagSet}
use Rattle.xmcf_reader.specs.declared.token.Token.{Token}
use Rattle.xmcf_reader.specs.declared.token.Token.TheVariants as code
use Rattle.xmcf_reader.specs.declared.token.Front as front
use Rattle.xmcf_reader.specs.declared.token.Front.TheVariants as front_code

-- a token of the program
abbrev pub token_of : Token → spec.Token
token_of code.Blanks = spec.Blanks
token_of code.Comment = spec.Comment
token_of code.Declaration = spec.Declaration
token_of (code.Opening name) = spec.Opening name.now
token_of (code.Name name) = spec.Name name.now
token_of code.Equals = spec.Equals
token_of (code.Value text) = spec.Value text.now
token_of code.TagEnd = spec.TagEnd
token_of code.EmptyEnd = spec.EmptyEnd
token_of (code.EndTag name) = spec.EndTag name.now

-- what the program finds at the beginning of a text
abbrev pub prefix_seen : front.Front → spec.Front
prefix_seen (front_code.Found token size) = spec.Found (token_of token) size
prefix_seen (front_code.Broken stop) = spec.Broken stop

-- a part of a text, where there is one
abbrev pub text_of_option : Option (Bor (List ℕ)) → Option (List ℕ)
text_of_option None = None
text_of_option (Some text) = Some text.now

-- the flags that the program found
abbrev pub flags_of : FlagSet → values.FlagSet
flags_of flags = record { none = flags.none; system = flags.system; boot = flags.boot; fp = flags.fp }

-- an attribute that stands in a tag of the program
abbrev pub pair_of : code_pair.Pair → elements.Pair
pair_of pair = record { word = pair.word; text = pair.text.now }

-- the attributes that stand in a tag of the program
abbrev pub pairs_of : List code_pair.Pair → List elements.Pair
pairs_of pairs = map pair_of pairs
