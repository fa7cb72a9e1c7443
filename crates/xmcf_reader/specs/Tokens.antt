-- The tokens of an XM_CF text: what token stands at the beginning of a text, and the cut of a text into tokens.
use Rattle.std.specs.Prelude.{ℕ, ◌+◌, ◌==◌, Bool, ◌&&◌, nat_lt, nat_eq, if◌then◌else◌, List, [], ◌∷◌, length, codes, take, drop, slice_index, Option, Some, None}
use Rattle.std.specs.List.{position, prefix_len, starts_with}
use Rattle.xmcf_reader.specs.Bytes.{is_blank, is_letter, is_of_name, is_quote, ends_value, ends_declaration, pairs, are_dashes}
use Rattle.xmcf_reader.specs.declared.token.Stop.{Stop}
use Rattle.xmcf_reader.specs.declared.token.Stop.TheVariants.{Break, Reference, Ended}

-- a token, with the name or the text in it
pub data Token : Type 0 where
  Blanks : Token
  Comment : Token
  Declaration : Token
  Opening : (name : List ℕ) → Token
  Name : (name : List ℕ) → Token
  Equals : Token
  Value : (text : List ℕ) → Token
  TagEnd : Token
  EmptyEnd : Token
  EndTag : (name : List ℕ) → Token

-- what stands at the beginning of a text: a token and its length, or where its spelling stops
pub data Front : Type 0 where
  Found : (token : Token) (size : ℕ) → Front
  Broken : (stop : Stop) → Front

-- the byte has to stand next: it ends the token, of which this many bytes stand before it
unfoldable pub byte_token : ℕ → Token → ℕ → List ℕ → Front
byte_token last token before [] = Broken Ended
byte_token last token before (byte ∷ bytes) = if byte == last then Found token (before + 1) else Broken (Break before)

-- a comment, of which `<!--` stands before these bytes: its first two dashes end it
abbrev pub comment_at : Option ℕ → List ℕ → Front
comment_at None bytes = Broken Ended
comment_at (Some at) bytes = byte_token 62 Comment (at + 6) (drop (at + 2) bytes)

-- a comment, of which `<!--` stands before these bytes
unfoldable pub comment : List ℕ → Front
comment bytes = comment_at (position are_dashes (pairs bytes)) bytes

-- what `<!` opens: a comment alone
unfoldable pub remark : List ℕ → Front
remark [] = Broken Ended
remark (one ∷ []) = if one == 45 then Broken Ended else Broken (Break 0)
remark (one ∷ two ∷ bytes) = if one == 45 && two == 45 then comment bytes else Broken (Break 0)

-- a declaration at its first `?`, `&` or byte past ASCII, with what stands after that
unfoldable pub declaration_byte : ℕ → ℕ → List ℕ → Front
declaration_byte at byte bytes =
    if byte == 63 then byte_token 62 Declaration (at + 7) bytes
    else (if byte == 38 then Broken (Reference (at + 6)) else Broken (Break (at + 6)))

-- a declaration up to the first byte that ends or breaks it
abbrev pub declaration_at : Option ℕ → List ℕ → Front
declaration_at None bytes = Broken Ended
declaration_at (Some at) bytes = declaration_byte at (slice_index bytes at) (drop (at + 1) bytes)

-- a declaration, of which `<?xml` and a blank stand before these bytes
unfoldable pub declaration : List ℕ → Front
declaration bytes = declaration_at (position ends_declaration bytes) bytes

-- what `<?` opens at the text's first place: a declaration alone
unfoldable pub declared : List ℕ → Front
declared bytes =
    if starts_with nat_eq (codes "xml") bytes then Broken Ended
    else (if starts_with nat_eq bytes (codes "xml") && is_blank (slice_index bytes 3) then declaration (drop 4 bytes)
    else Broken (Break 0))

-- a name that stands after this many bytes of its token; a byte has to follow it
unfoldable pub named_token : (List ℕ → Token) → ℕ → ℕ → List ℕ → Front
named_token token before size bytes = if nat_lt size (length bytes) then Found (token (take size bytes)) (before + size) else Broken Ended

-- an end tag, of which `</` and its name stand before these bytes
unfoldable pub end_of_tag : List ℕ → ℕ → List ℕ → Front
end_of_tag name size bytes = byte_token 62 (EndTag name) (2 + size + prefix_len is_blank bytes) (drop (prefix_len is_blank bytes) bytes)

-- an end tag whose name has this many bytes, of which `</` stands before these bytes
unfoldable pub end_named : ℕ → List ℕ → Front
end_named size bytes = end_of_tag (take size bytes) size (drop size bytes)

-- an end tag, of which `</` stands before these bytes
unfoldable pub end_tag : List ℕ → Front
end_tag [] = Broken Ended
end_tag (byte ∷ bytes) = if is_letter byte then end_named (prefix_len is_of_name (byte ∷ bytes)) (byte ∷ bytes) else Broken (Break 2)

-- what `<` opens: a comment, at the text's first place a declaration, an end tag, or a tag with its name
unfoldable pub markup : Bool → List ℕ → Front
markup first [] = Broken Ended
markup first (byte ∷ bytes) =
    if byte == 33 then remark bytes
    else (if byte == 63 then (if first then declared bytes else Broken (Break 0))
    else (if byte == 47 then end_tag bytes
    else (if is_letter byte then named_token Opening 1 (prefix_len is_of_name (byte ∷ bytes)) (byte ∷ bytes)
    else Broken (Break 1))))

-- a value at the first byte that ends or breaks it
unfoldable pub value_byte : ℕ → ℕ → ℕ → List ℕ → Front
value_byte quote at byte text =
    if byte == quote then Found (Value text) (at + 2)
    else (if byte == 38 then Broken (Reference (at + 1)) else Broken (Break (at + 1)))

-- a value up to the first byte that ends or breaks it
abbrev pub value_at : ℕ → Option ℕ → List ℕ → Front
value_at quote None bytes = Broken Ended
value_at quote (Some at) bytes = value_byte quote at (slice_index bytes at) (take at bytes)

-- a value, of which the quote stands before these bytes
unfoldable pub value : ℕ → List ℕ → Front
value quote bytes = value_at quote (position (ends_value quote) bytes) bytes

-- what stands at the beginning of a text, at the text's first place or at a later one
unfoldable pub front : Bool → List ℕ → Front
front first [] = Broken Ended
front first (byte ∷ bytes) =
    if byte == 60 then markup first bytes
    else (if is_blank byte then Found Blanks (prefix_len is_blank (byte ∷ bytes))
    else (if byte == 62 then Found TagEnd 1
    else (if byte == 47 then byte_token 62 EmptyEnd 1 bytes
    else (if byte == 61 then Found Equals 1
    else (if is_quote byte then value byte bytes
    else (if is_letter byte then named_token Name 0 (prefix_len is_of_name (byte ∷ bytes)) (byte ∷ bytes)
    else Broken (Break 0)))))))
