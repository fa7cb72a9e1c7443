-- What is spelled as a token, with a byte after it that ends it, is taken.
use Rattle.std.proofs.Common.{◌≡◌, ℕ, suc, ◌+◌, ◌<◌, ◌==◌, Bool, true, false, cond, List, [], ◌∷◌, ◌++◌, length, take, drop, get_or, Option, Some, None, refl, sym, ap, ◌∙◌, arith, append_assoc, length-append}
use Rattle.std.specs.Prelude.{nat_lt}
use Rattle.std.specs.Option.{option_map}
use Rattle.std.specs.List.{position, prefix_len}
use Rattle.std.proofs.lemmas.Bool.Decides.{nat_tests}
use Rattle.xmcf_reader.specs.Bytes.{is_blank, is_letter, is_of_name, is_digit, is_quote, ends_value, ends_declaration, are_dashes, pairs, first_where}
use Rattle.xmcf_reader.proofs.BytesLemmas.{position_first}
use Rattle.xmcf_reader.specs.Spelling.{SpellsToken, Each, NoneOf, NoDashes, IsTagName, AreBlanks, TestStopsAt, Ends}
use Rattle.xmcf_reader.specs.Tokens.{Token, Blanks, Comment, Declaration, Opening, Name, Equals, Value, TagEnd, EmptyEnd, EndTag, Found, byte_token, comment, remark, declaration_byte, declaration, declared, named_token, end_of_tag, end_named, end_tag, markup, value_byte, value, front}

-- bytes that pass, up to one that does not
each_counts : (test : ℕ → Bool) (word rest : List ℕ) → Each test word → TestStopsAt test rest → prefix_len test (word ++ rest) ≡ length word
each_counts test [] [] each stops = refl
each_counts test [] (byte ∷ rest) each stops = rw stops refl
each_counts test (byte ∷ word) rest each stops = rw each.0 (let more : prefix_len test (word ++ rest) ≡ length word = each_counts test word rest each.1 stops in omega (arith, more))

-- the first byte that passes
none_before : (test : ℕ → Bool) (word : List ℕ) (byte : ℕ) (rest : List ℕ) → NoneOf test word → test byte ≡ true → first_where test (word ++ byte ∷ rest) ≡ Some (length word)
none_before test [] byte rest none here = rw here refl
none_before test (other ∷ word) byte rest none here = rw none.0 (ap (option_map suc) (none_before test word byte rest none.1 here))

-- the prefix and the rest of a text
front_of : (word rest : List ℕ) → take (length word) (word ++ rest) ≡ word
front_of [] rest = refl
front_of (byte ∷ word) rest = ap (λ more. byte ∷ more) (front_of word rest)

rest_of : (word rest : List ℕ) → drop (length word) (word ++ rest) ≡ rest
rest_of [] rest = refl
rest_of (byte ∷ word) rest = rest_of word rest

byte_of : (word : List ℕ) (byte : ℕ) (rest : List ℕ) → get_or (word ++ byte ∷ rest) (length word) 0 ≡ byte
byte_of [] byte rest = refl
byte_of (other ∷ word) byte rest = byte_of word byte rest

-- equal texts begin with equal bytes
head_is : (one two : ℕ) (rest other : List ℕ) → one ∷ rest ≡ two ∷ other → one ≡ two
head_is one two rest other e = cc

-- a letter is none of the bytes that open another item
letter_apart : (byte : ℕ) → is_letter byte ≡ true → ((byte == 60) ≡ false) × (is_blank byte ≡ false) × ((byte == 62) ≡ false) × ((byte == 47) ≡ false) × ((byte == 61) ≡ false) × (is_quote byte ≡ false) × ((byte == 33) ≡ false) × ((byte == 63) ≡ false)
unfolding is_letter is_blank is_quote
letter_apart byte e = (grind (arith, nat_tests, e), grind (arith, nat_tests, e), grind (arith, nat_tests, e), grind (arith, nat_tests, e), grind (arith, nat_tests, e), grind (arith, nat_tests, e), grind (arith, nat_tests, e), grind (arith, nat_tests, e))

-- a blank opens no markup
blank_apart : (byte : ℕ) → is_blank byte ≡ true → (byte == 60) ≡ false
unfolding is_blank
blank_apart byte e = grind (arith, nat_tests, e)

-- a quote is none of the bytes that are looked at before it
quote_apart : (byte : ℕ) → is_quote byte ≡ true → ((byte == 60) ≡ false) × (is_blank byte ≡ false) × ((byte == 62) ≡ false) × ((byte == 47) ≡ false) × ((byte == 61) ≡ false)
unfolding is_quote is_blank
quote_apart byte e = (grind (arith, nat_tests, e), grind (arith, nat_tests, e), grind (arith, nat_tests, e), grind (arith, nat_tests, e), grind (arith, nat_tests, e))

blanks_taken : (first : Bool) (word rest : List ℕ) → AreBlanks word → TestStopsAt is_blank rest → front first (word ++ rest) ≡ Found Blanks (length word)
unfolding front
blanks_taken first [] rest blanks stops = let some : 0 < 0 = blanks.some in absurd (omega arith)
blanks_taken first (byte ∷ word) rest blanks stops =
    rw (blank_apart byte blanks.each.0) (rw blanks.each.0 (let counts : prefix_len is_blank (word ++ rest) ≡ length word = each_counts is_blank word rest blanks.each.1 stops in ap (Found Blanks) (omega (arith, counts))))

attribute_taken : (first : Bool) (name rest : List ℕ) (following : ℕ) → IsTagName name → is_of_name following ≡ false → front first (name ++ following ∷ rest) ≡ Found (Name name) (length name)
unfolding front named_token
attribute_taken first [] rest following is_name stops = cc_name is_name.is
  where
    cc_name : [] ≡ is_name.first ∷ is_name.rest → front first (following ∷ rest) ≡ Found (Name []) 0
    cc_name e = cc
attribute_taken first (byte ∷ name) rest following is_name stops =
    let letter : is_letter byte ≡ true = ap is_letter (head_is byte is_name.first name is_name.rest is_name.is) ∙ is_name.letter in
    let apart = letter_apart byte letter in
    let counts : prefix_len is_of_name (byte ∷ name ++ following ∷ rest) ≡ length (byte ∷ name) = each_counts is_of_name (byte ∷ name) (following ∷ rest) is_name.each stops in
    let longer : nat_lt (length (byte ∷ name)) (length (byte ∷ name ++ following ∷ rest)) ≡ true = grind (arith, nat_tests, length-append name (following ∷ rest)) in
    rw apart.0 (rw apart.1 (rw apart.2 (rw apart.3 (rw apart.4 (rw apart.5 (rw letter (rw counts (rw longer
    (ap (λ word. Found (Name word) (0 + length (byte ∷ name))) (front_of (byte ∷ name) (following ∷ rest)) ∙ ap (Found (Name (byte ∷ name))) (omega arith))))))))))

opening_taken : (first : Bool) (name rest : List ℕ) (following : ℕ) → IsTagName name → is_of_name following ≡ false → front first (60 ∷ (name ++ following ∷ rest)) ≡ Found (Opening name) (suc (length name))
unfolding front markup named_token
opening_taken first [] rest following is_name stops = cc_name is_name.is
  where
    cc_name : [] ≡ is_name.first ∷ is_name.rest → front first (60 ∷ following ∷ rest) ≡ Found (Opening []) 1
    cc_name e = cc
opening_taken first (byte ∷ name) rest following is_name stops =
    let letter : is_letter byte ≡ true = ap is_letter (head_is byte is_name.first name is_name.rest is_name.is) ∙ is_name.letter in
    let apart = letter_apart byte letter in
    let counts : prefix_len is_of_name (byte ∷ name ++ following ∷ rest) ≡ length (byte ∷ name) = each_counts is_of_name (byte ∷ name) (following ∷ rest) is_name.each stops in
    let longer : nat_lt (length (byte ∷ name)) (length (byte ∷ name ++ following ∷ rest)) ≡ true = grind (arith, nat_tests, length-append name (following ∷ rest)) in
    rw apart.6 (rw apart.7 (rw apart.3 (rw letter (rw counts (rw longer
    (ap (λ word. Found (Opening word) (1 + length (byte ∷ name))) (front_of (byte ∷ name) (following ∷ rest)) ∙ ap (Found (Opening (byte ∷ name))) (omega arith)))))))

-- a number is itself
same : (n : ℕ) → (n == n) ≡ true
same n = grind (arith, nat_tests)

-- a quote ends its value
quote_ends : (quote : ℕ) → ends_value quote quote ≡ true
unfolding ends_value
quote_ends quote = rw (same quote) refl

value_taken : (first : Bool) (quote : ℕ) (text rest : List ℕ) → is_quote quote ≡ true → NoneOf (ends_value quote) text → front first (quote ∷ (text ++ quote ∷ rest)) ≡ Found (Value text) (length text + 2)
unfolding front value value_byte
value_taken first quote text rest is_quote plain =
    let apart = quote_apart quote is_quote in
    let found : position (ends_value quote) (text ++ quote ∷ rest) ≡ Some (length text) = position_first (ends_value quote) (text ++ quote ∷ rest) ∙ none_before (ends_value quote) text quote rest plain (quote_ends quote) in
    rw apart.0 (rw apart.1 (rw apart.2 (rw apart.3 (rw apart.4 (rw is_quote (rw found (rw (byte_of text quote rest) (rw (same quote)
    (ap (λ word. Found (Value word) (length text + 2)) (front_of text (quote ∷ rest)))))))))))

-- the first two dashes are where they stand
dashes_found : (body more : List ℕ) → NoDashes (body ++ 45 ∷ []) → first_where are_dashes (pairs (body ++ 45 ∷ 45 ∷ more)) ≡ Some (length body)
dashes_found [] more plain = refl
dashes_found (one ∷ []) more plain = by (are_dashes (one, 45)) plain
  where
    by : (here : Bool) → cond {A = Option ℕ} here (Some 0) None ≡ None → cond {A = Option ℕ} here (Some 0) (Some 1) ≡ Some 1
    by true e = cc
    by false e = refl
dashes_found (one ∷ two ∷ body) more plain = by (are_dashes (one, two)) (first_where are_dashes (pairs (two ∷ (body ++ 45 ∷ [])))) (first_where are_dashes (pairs (two ∷ (body ++ 45 ∷ 45 ∷ more)))) plain (dashes_found (two ∷ body) more)
  where
    by : (here : Bool) (short long : Option ℕ) → cond here (Some 0) (option_map suc short) ≡ None → (short ≡ None → long ≡ Some (length (two ∷ body))) → cond here (Some 0) (option_map suc long) ≡ Some (length (one ∷ two ∷ body))
    by true short long e more = cc
    by false None long e more = ap (option_map suc) (more refl)
    by false (Some k) long e more = cc

-- two after the prefix
two_after : (body : List ℕ) (more : List ℕ) (n : ℕ) → n ≡ length body → drop (n + 2) (body ++ 45 ∷ 45 ∷ more) ≡ more
two_after body more n e =
    let long : n + 2 ≡ length (body ++ 45 ∷ 45 ∷ []) = omega (arith, e, length-append body (45 ∷ 45 ∷ [])) in
    ap (λ k. drop k (body ++ 45 ∷ 45 ∷ more)) long ∙ ap (drop (length (body ++ 45 ∷ 45 ∷ []))) (sym (append_assoc body (45 ∷ 45 ∷ []) more)) ∙ rest_of (body ++ 45 ∷ 45 ∷ []) more

comment_taken : (first : Bool) (body rest : List ℕ) → NoDashes (body ++ 45 ∷ []) → front first (60 ∷ 33 ∷ 45 ∷ 45 ∷ (body ++ 45 ∷ 45 ∷ 62 ∷ rest)) ≡ Found Comment (length body + 7)
unfolding front markup remark comment byte_token
comment_taken first body rest plain =
    let found : position are_dashes (pairs (body ++ 45 ∷ 45 ∷ 62 ∷ rest)) ≡ Some (length body) = position_first are_dashes (pairs (body ++ 45 ∷ 45 ∷ 62 ∷ rest)) ∙ dashes_found body (62 ∷ rest) plain in
    rw found (rw (two_after body (62 ∷ rest) (length body) refl) (ap (Found Comment) (omega arith)))

-- one after the prefix
one_after : (body : List ℕ) (byte : ℕ) (more : List ℕ) → drop (length body + 1) (body ++ byte ∷ more) ≡ more
one_after body byte more =
    let long : length body + 1 ≡ length (body ++ byte ∷ []) = omega (arith, length-append body (byte ∷ [])) in
    ap (λ k. drop k (body ++ byte ∷ more)) long ∙ ap (drop (length (body ++ byte ∷ []))) (sym (append_assoc body (byte ∷ []) more)) ∙ rest_of (body ++ byte ∷ []) more

-- a question mark ends a declaration
mark_ends : ends_declaration 63 ≡ true
unfolding ends_declaration
mark_ends = refl

declaration_taken : (blank : ℕ) (body rest : List ℕ) → is_blank blank ≡ true → NoneOf ends_declaration body → front true (60 ∷ 63 ∷ 120 ∷ 109 ∷ 108 ∷ blank ∷ (body ++ 63 ∷ 62 ∷ rest)) ≡ Found Declaration (length body + 8)
unfolding front markup declared declaration declaration_byte byte_token
declaration_taken blank body rest is_blank plain =
    let found : position ends_declaration (body ++ 63 ∷ 62 ∷ rest) ≡ Some (length body) = position_first ends_declaration (body ++ 63 ∷ 62 ∷ rest) ∙ none_before ends_declaration body 63 (62 ∷ rest) plain mark_ends in
    rw is_blank (rw found (rw (byte_of body 63 (62 ∷ rest)) (rw (one_after body 63 (62 ∷ rest)) (ap (Found Declaration) (omega arith)))))

-- a blank is of no name
blank_of_no_name : (byte : ℕ) → is_blank byte ≡ true → is_of_name byte ≡ false
unfolding is_blank is_of_name is_letter is_digit
blank_of_no_name byte e = grind (arith, nat_tests, e)

-- after a tag's name stands no byte of a name
stops_name : (blanks rest : List ℕ) → Each is_blank blanks → TestStopsAt is_of_name (blanks ++ 62 ∷ rest)
unfolding is_of_name is_letter is_digit
stops_name [] rest each = refl
stops_name (byte ∷ blanks) rest each = blank_of_no_name byte each.0

-- after blanks stands no blank
stops_blank : (rest : List ℕ) → TestStopsAt is_blank (62 ∷ rest)
unfolding is_blank
stops_blank rest = refl

end_tag_taken : (first : Bool) (name blanks rest : List ℕ) → IsTagName name → Each is_blank blanks → front first (60 ∷ 47 ∷ (name ++ (blanks ++ 62 ∷ rest))) ≡ Found (EndTag name) (2 + length name + length blanks + 1)
unfolding front markup end_tag end_named end_of_tag byte_token
end_tag_taken first [] blanks rest is_name each = cc_name is_name.is
  where
    cc_name : [] ≡ is_name.first ∷ is_name.rest → front first (60 ∷ 47 ∷ (blanks ++ 62 ∷ rest)) ≡ Found (EndTag []) (2 + 0 + length blanks + 1)
    cc_name e = cc
end_tag_taken first (byte ∷ name) blanks rest is_name each =
    let letter : is_letter byte ≡ true = ap is_letter (head_is byte is_name.first name is_name.rest is_name.is) ∙ is_name.letter in
    let counts : prefix_len is_of_name (byte ∷ name ++ (blanks ++ 62 ∷ rest)) ≡ length (byte ∷ name) = each_counts is_of_name (byte ∷ name) (blanks ++ 62 ∷ rest) is_name.each (stops_name blanks rest each) in
    let spaces : prefix_len is_blank (blanks ++ 62 ∷ rest) ≡ length blanks = each_counts is_blank blanks (62 ∷ rest) each (stops_blank rest) in
    rw letter (rw counts (rw (rest_of (byte ∷ name) (blanks ++ 62 ∷ rest)) (rw spaces (rw (rest_of blanks (62 ∷ rest))
    (ap (λ word. Found (EndTag word) (2 + length (byte ∷ name) + length blanks + 1)) (front_of (byte ∷ name) (blanks ++ 62 ∷ rest)))))))

tag_end_taken : (first : Bool) (rest : List ℕ) → front first (62 ∷ rest) ≡ Found TagEnd 1
unfolding front is_blank
tag_end_taken first rest = refl

equals_taken : (first : Bool) (rest : List ℕ) → front first (61 ∷ rest) ≡ Found Equals 1
unfolding front is_blank
equals_taken first rest = refl

empty_end_taken : (first : Bool) (rest : List ℕ) → front first (47 ∷ 62 ∷ rest) ≡ Found EmptyEnd 2
unfolding front is_blank byte_token
empty_end_taken first rest = refl

-- a word that is so spelled is taken, as what it is spelled by is
taken_as : (first : Bool) (token : Token) (word spelled text rest : List ℕ) (size : ℕ) → word ≡ spelled → spelled ++ rest ≡ text → front first text ≡ Found token size → size ≡ length spelled
    → front first (word ++ rest) ≡ Found token (length word)
taken_as first token word spelled text rest size is whole found long =
    ap (λ other. front first (other ++ rest)) is ∙ ap (front first) whole ∙ found ∙ ap (Found token) (long ∙ sym (ap length is))

-- what is spelled as a token, with a byte after it that ends it, is taken
pub token_taken : (first : Bool) (token : Token) (word rest : List ℕ) → SpellsToken token word → Ends token first rest → front first (word ++ rest) ≡ Found token (length word)
token_taken first Blanks word rest spells ends = blanks_taken first word rest spells ends
token_taken first Comment word rest spells ends =
    taken_as first Comment word (60 ∷ 33 ∷ 45 ∷ 45 ∷ (spells.body ++ 45 ∷ 45 ∷ 62 ∷ [])) (60 ∷ 33 ∷ 45 ∷ 45 ∷ (spells.body ++ 45 ∷ 45 ∷ 62 ∷ rest)) rest (length spells.body + 7)
    spells.is (ap (λ more. 60 ∷ 33 ∷ 45 ∷ 45 ∷ more) (append_assoc spells.body (45 ∷ 45 ∷ 62 ∷ []) rest))
    (comment_taken first spells.body rest spells.plain) (omega (arith, length-append spells.body (45 ∷ 45 ∷ 62 ∷ [])))
token_taken first Declaration word rest spells ends =
    taken_as first Declaration word (60 ∷ 63 ∷ 120 ∷ 109 ∷ 108 ∷ spells.blank ∷ (spells.body ++ 63 ∷ 62 ∷ [])) (60 ∷ 63 ∷ 120 ∷ 109 ∷ 108 ∷ spells.blank ∷ (spells.body ++ 63 ∷ 62 ∷ rest)) rest (length spells.body + 8)
    spells.is (ap (λ more. 60 ∷ 63 ∷ 120 ∷ 109 ∷ 108 ∷ spells.blank ∷ more) (append_assoc spells.body (63 ∷ 62 ∷ []) rest))
    (ap (λ at_first. front at_first (60 ∷ 63 ∷ 120 ∷ 109 ∷ 108 ∷ spells.blank ∷ (spells.body ++ 63 ∷ 62 ∷ rest))) ends ∙ declaration_taken spells.blank spells.body rest spells.is_blank spells.plain)
    (omega (arith, length-append spells.body (63 ∷ 62 ∷ [])))
token_taken first (Opening name) word rest spells ends =
    taken_as first (Opening name) word (60 ∷ name) (60 ∷ (name ++ ends.following ∷ ends.more)) rest (suc (length name)) spells.is (ap (λ more. 60 ∷ (name ++ more)) ends.is)
    (opening_taken first name ends.more ends.following spells.named ends.apart) refl
token_taken first (Name name) word rest spells ends =
    taken_as first (Name name) word name (name ++ ends.following ∷ ends.more) rest (length name) spells.is (ap (λ more. name ++ more) ends.is)
    (attribute_taken first name ends.more ends.following spells.named ends.apart) refl
token_taken first Equals word rest spells ends = taken_as first Equals word (61 ∷ []) (61 ∷ rest) rest 1 spells refl (equals_taken first rest) refl
token_taken first (Value text) word rest spells ends =
    taken_as first (Value text) word (spells.quote ∷ (text ++ spells.quote ∷ [])) (spells.quote ∷ (text ++ spells.quote ∷ rest)) rest (length text + 2)
    spells.is (ap (λ more. spells.quote ∷ more) (append_assoc text (spells.quote ∷ []) rest))
    (value_taken first spells.quote text rest spells.is_quote spells.plain) (omega (arith, length-append text (spells.quote ∷ [])))
token_taken first TagEnd word rest spells ends = taken_as first TagEnd word (62 ∷ []) (62 ∷ rest) rest 1 spells refl (tag_end_taken first rest) refl
token_taken first EmptyEnd word rest spells ends = taken_as first EmptyEnd word (47 ∷ 62 ∷ []) (47 ∷ 62 ∷ rest) rest 2 spells refl (empty_end_taken first rest) refl
token_taken first (EndTag name) word rest spells ends =
    taken_as first (EndTag name) word (60 ∷ 47 ∷ (name ++ (spells.blanks ++ 62 ∷ []))) (60 ∷ 47 ∷ (name ++ (spells.blanks ++ 62 ∷ rest))) rest (2 + length name + length spells.blanks + 1)
    spells.is (ap (λ more. 60 ∷ 47 ∷ more) (append_assoc name (spells.blanks ++ 62 ∷ []) rest ∙ ap (λ more. name ++ more) (append_assoc spells.blanks (62 ∷ []) rest)))
    (end_tag_taken first name spells.blanks rest spells.named spells.each)
    (omega (arith, length-append name (spells.blanks ++ 62 ∷ []), length-append spells.blanks (62 ∷ [])))
