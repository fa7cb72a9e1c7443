-- A value at the beginning of a text has both its quotes.
use Rattle.std.proofs.Common.{ℕ, ◌+◌, ◌≤◌, ◌==◌, Bool, true, false, cond, List, [], ◌∷◌, Option, Some, None, arith}
use Rattle.std.specs.List.{position}
use Rattle.xmcf_reader.specs.Bytes.{ends_value, ends_declaration, are_dashes, pairs}
use Rattle.xmcf_reader.specs.Tokens.{Token, Blanks, Comment, Declaration, Opening, Name, Equals, Value, TagEnd, EmptyEnd, EndTag, Front, Found, Broken, byte_token, comment_at, comment, remark, declaration_byte, declaration_at, declaration, declared, named_token, end_of_tag, end_named, end_tag, markup, value_byte, value_at, value, front}
use Rattle.xmcf_reader.specs.declared.token.Stop.{Stop}
use Rattle.xmcf_reader.specs.declared.token.Stop.TheVariants.{Break}

-- a value has both its quotes
abbrev pub HasQuotes : Front → Type 0
HasQuotes (Found Blanks size) = Unit {0}
HasQuotes (Found Comment size) = Unit {0}
HasQuotes (Found Declaration size) = Unit {0}
HasQuotes (Found (Opening name) size) = Unit {0}
HasQuotes (Found (Name name) size) = Unit {0}
HasQuotes (Found Equals size) = Unit {0}
HasQuotes (Found (Value text) size) = 2 ≤ size
HasQuotes (Found TagEnd size) = Unit {0}
HasQuotes (Found EmptyEnd size) = Unit {0}
HasQuotes (Found (EndTag name) size) = Unit {0}
HasQuotes (Broken stop) = Unit {0}

-- the same as a record
pub record Quoted (found : Front) : Type 0 where
  pub fits : HasQuotes found

-- no token has no quotes
stopped : (stop : Stop) → Quoted (Broken stop)
stopped stop = record { fits = tt }

-- tokens that are no values
blanks_quoted : (size : ℕ) → Quoted (Found Blanks size)
blanks_quoted size = record { fits = tt }

tag_end_quoted : (size : ℕ) → Quoted (Found TagEnd size)
tag_end_quoted size = record { fits = tt }

equals_quoted : (size : ℕ) → Quoted (Found Equals size)
equals_quoted size = record { fits = tt }

opening_quoted : (name : List ℕ) (size : ℕ) → Quoted (Found (Opening name) size)
opening_quoted name size = record { fits = tt }

name_quoted : (name : List ℕ) (size : ℕ) → Quoted (Found (Name name) size)
name_quoted name size = record { fits = tt }

-- a value that ends after a quote
value_quoted : (text : List ℕ) (at : ℕ) → Quoted (Found (Value text) (at + 2))
value_quoted text at = record { fits = omega arith }

-- by both sides of a choice
pick : (test : Bool) (this that : Front) → Quoted this → Quoted that → Quoted (cond test this that)
pick true this that this_fits that_fits = this_fits
pick false this that this_fits that_fits = that_fits

closed_quotes : (last : ℕ) (token : Token) (before : ℕ) (bytes : List ℕ) → Quoted (Found token (before + 1)) → Quoted (byte_token last token before bytes)
unfolding byte_token
closed_quotes last token before [] fits = stopped _
closed_quotes last token before (byte ∷ bytes) fits = pick (byte == last) (Found token (before + 1)) (Broken (Break before)) fits (stopped _)

-- what a comment, a declaration, an empty tag and an end tag are
comment_closed : (before : ℕ) (bytes : List ℕ) → Quoted (byte_token 62 Comment before bytes)
comment_closed before bytes = closed_quotes 62 Comment before bytes (record { fits = tt })

declaration_closed : (before : ℕ) (bytes : List ℕ) → Quoted (byte_token 62 Declaration before bytes)
declaration_closed before bytes = closed_quotes 62 Declaration before bytes (record { fits = tt })

empty_closed : (before : ℕ) (bytes : List ℕ) → Quoted (byte_token 62 EmptyEnd before bytes)
empty_closed before bytes = closed_quotes 62 EmptyEnd before bytes (record { fits = tt })

end_closed : (name : List ℕ) (before : ℕ) (bytes : List ℕ) → Quoted (byte_token 62 (EndTag name) before bytes)
end_closed name before bytes = closed_quotes 62 (EndTag name) before bytes (record { fits = tt })

comment_at_quotes : (at : Option ℕ) (bytes : List ℕ) → Quoted (comment_at at bytes)
comment_at_quotes None bytes = stopped _
comment_at_quotes (Some at) bytes = comment_closed _ _

comment_quotes : (bytes : List ℕ) → Quoted (comment bytes)
unfolding comment
comment_quotes bytes = comment_at_quotes (position are_dashes (pairs bytes)) bytes

remark_quotes : (bytes : List ℕ) → Quoted (remark bytes)
unfolding remark
remark_quotes [] = stopped _
remark_quotes (one ∷ []) = search (pick, stopped)
remark_quotes (one ∷ two ∷ bytes) = search (pick, stopped, comment_quotes)

declaration_byte_quotes : (at byte : ℕ) (bytes : List ℕ) → Quoted (declaration_byte at byte bytes)
unfolding declaration_byte
declaration_byte_quotes at byte bytes = search (pick, stopped, declaration_closed)

declaration_at_quotes : (at : Option ℕ) (bytes : List ℕ) → Quoted (declaration_at at bytes)
declaration_at_quotes None bytes = stopped _
declaration_at_quotes (Some at) bytes = declaration_byte_quotes _ _ _

declaration_quotes : (bytes : List ℕ) → Quoted (declaration bytes)
unfolding declaration
declaration_quotes bytes = declaration_at_quotes (position ends_declaration bytes) bytes

declared_quotes : (bytes : List ℕ) → Quoted (declared bytes)
unfolding declared
declared_quotes bytes = search (pick, stopped, declaration_quotes)

opening_quotes : (size : ℕ) (bytes : List ℕ) → Quoted (named_token Opening 1 size bytes)
unfolding named_token
opening_quotes size bytes = search (pick, stopped, opening_quoted)

name_quotes : (size : ℕ) (bytes : List ℕ) → Quoted (named_token Name 0 size bytes)
unfolding named_token
name_quotes size bytes = search (pick, stopped, name_quoted)

end_of_tag_quotes : (name : List ℕ) (size : ℕ) (bytes : List ℕ) → Quoted (end_of_tag name size bytes)
unfolding end_of_tag
end_of_tag_quotes name size bytes = end_closed _ _ _

end_named_quotes : (size : ℕ) (bytes : List ℕ) → Quoted (end_named size bytes)
unfolding end_named
end_named_quotes size bytes = end_of_tag_quotes _ _ _

end_tag_quotes : (bytes : List ℕ) → Quoted (end_tag bytes)
unfolding end_tag
end_tag_quotes [] = stopped _
end_tag_quotes (byte ∷ bytes) = search (pick, stopped, end_named_quotes)

markup_quotes : (first : Bool) (bytes : List ℕ) → Quoted (markup first bytes)
unfolding markup
markup_quotes first [] = stopped _
markup_quotes first (byte ∷ bytes) = search (pick, stopped, remark_quotes, declared_quotes, end_tag_quotes, opening_quotes) depth 12

value_byte_quotes : (quote at byte : ℕ) (text : List ℕ) → Quoted (value_byte quote at byte text)
unfolding value_byte
value_byte_quotes quote at byte text = search (pick, stopped, value_quoted)

value_at_quotes : (quote : ℕ) (at : Option ℕ) (bytes : List ℕ) → Quoted (value_at quote at bytes)
value_at_quotes quote None bytes = stopped _
value_at_quotes quote (Some at) bytes = value_byte_quotes _ _ _ _

value_quotes : (quote : ℕ) (bytes : List ℕ) → Quoted (value quote bytes)
unfolding value
value_quotes quote bytes = value_at_quotes quote (position (ends_value quote) bytes) bytes

front_quoted : (first : Bool) (bytes : List ℕ) → Quoted (front first bytes)
unfolding front
front_quoted first [] = stopped _
front_quoted first (byte ∷ bytes) =
    search (pick, stopped, markup_quotes, blanks_quoted, tag_end_quoted, empty_closed, equals_quoted, value_quotes, name_quotes) depth 16

-- a value at the beginning of a text has both its quotes
pub front_quotes : (first : Bool) (bytes : List ℕ) → HasQuotes (front first bytes)
front_quotes first bytes = (front_quoted first bytes).fits
