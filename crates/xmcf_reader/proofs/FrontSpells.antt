-- What is found at the beginning of a text is spelled there.
use Rattle.std.proofs.Common.{◌≡◌, ℕ, zero, suc, ◌+◌, ◌-◌, ◌<◌, ◌≤◌, ◌==◌, Bool, true, false, cond, ◌&&◌, List, [], ◌∷◌, ◌++◌, length, take, drop, get_or, Option, Some, None, refl, sym, ap, ◌∙◌, arith, subst, append_assoc, length-append}
use Rattle.std.specs.Prelude.{codes, nat_lt, nat_eq}
use Rattle.std.proofs.lemmas.List.Folds.{length-prefix_len}
use Rattle.std.proofs.lemmas.List.Sums.{prefix_len-le-length}
use Rattle.std.specs.List.{position, prefix_len, starts_with}
use Rattle.std.proofs.lemmas.Bool.Decides.{nat_tests}
use Rattle.xmcf_reader.specs.Bytes.{is_blank, is_letter, is_of_name, is_quote, ends_value, ends_declaration, are_dashes, pairs}
use Rattle.xmcf_reader.proofs.BytesLemmas.{position_first}
use Rattle.std.proofs.lemmas.List.{length-take}
use Rattle.xmcf_reader.specs.Faults.{cut, cut_at}
use Rattle.xmcf_reader.specs.Spelling.{IsCut, SpellsToken, IsTagName, AreBlanks}
use Rattle.xmcf_reader.specs.Tokens.{Token, Blanks, Comment, Declaration, Opening, Name, Equals, Value, TagEnd, EmptyEnd, EndTag, Front, Found, Broken, byte_token, comment_at, comment, remark, declaration_byte, declaration_at, declaration, declared, named_token, end_of_tag, end_named, end_tag, markup, value_byte, value_at, value, front}
use Rattle.xmcf_reader.specs.declared.token.Stop.{Stop}
use Rattle.xmcf_reader.specs.declared.token.Stop.TheVariants.{Break, Reference, Ended}
use Rattle.xmcf_reader.proofs.Splits.{IsParted, parted, each_prefix, IsDashed, dashed}

-- what is found is spelled at the beginning of the whole
abbrev pub SpeltIn : List ℕ → Front → Type 0
SpeltIn whole (Found token size) = SpellsToken token (take size whole) × (size ≤ length whole)
SpeltIn whole (Broken stop) = Unit {0}

-- the same as a record
pub record Spelt (whole : List ℕ) (found : Front) : Type 0 where
  pub fits : SpeltIn whole found

-- where no token is, none is spelled
broken : (whole : List ℕ) (stop : Stop) → Spelt whole (Broken stop)
broken whole stop = record { fits = tt }

-- by both sides of a choice
pick : (whole : List ℕ) (test : Bool) (this that : Front) → (test ≡ true → Spelt whole this) → (test ≡ false → Spelt whole that) → Spelt whole (cond test this that)
pick whole true this that so otherwise = so refl
pick whole false this that so otherwise = otherwise refl

-- bytes that a test finds equal are
same_byte : (byte other : ℕ) → (byte == other) ≡ true → byte ≡ other
same_byte byte other e = grind (arith, nat_tests, e)

-- the prefix of a text
take_front : (front rest : List ℕ) → take (length front) (front ++ rest) ≡ front
take_front [] rest = refl
take_front (byte ∷ front) rest = ap (λ more. byte ∷ more) (take_front front rest)

-- a byte after a prefix
front_and : (front : List ℕ) (byte : ℕ) (rest : List ℕ) (size : ℕ) → size ≡ length front → take (size + 1) (front ++ byte ∷ rest) ≡ front ++ byte ∷ []
front_and front byte rest size e =
    let long : size + 1 ≡ length (front ++ byte ∷ []) = omega (arith, e, length-append front (byte ∷ [])) in
    ap (λ n. take n (front ++ byte ∷ rest)) long
    ∙ ap (take (length (front ++ byte ∷ []))) (sym (append_assoc front (byte ∷ []) rest))
    ∙ take_front (front ++ byte ∷ []) rest

closed_spelt : (last : ℕ) (token : Token) (before : ℕ) (front bytes : List ℕ) → before ≡ length front → SpellsToken token (front ++ last ∷ []) → Spelt (front ++ bytes) (byte_token last token before bytes)
unfolding byte_token
closed_spelt last token before front [] e spells = broken _ _
closed_spelt last token before front (byte ∷ bytes) e spells =
    pick (front ++ byte ∷ bytes) (byte == last) (Found token (before + 1)) (Broken (Break before))
    (λ t. record {
      fits = (
        subst (λ (word : List ℕ). SpellsToken token word)
            (sym (front_and front byte bytes before e ∙ ap (λ other. front ++ other ∷ []) (same_byte byte last t))) spells,
        omega (arith, e, length-append front (byte ∷ bytes)),
      );
    })
    (λ _. broken _ _)

-- one more place, and two
one_more : (at : ℕ) → at + 1 ≡ suc at
one_more at = omega arith

two_more : (at : ℕ) → at + 2 ≡ suc (suc at)
two_more at = omega arith

comment_spelt : (bytes : List ℕ) → Spelt (codes "<!--" ++ bytes) (comment bytes)
unfolding comment
comment_spelt bytes = by (position are_dashes (pairs bytes)) refl
  where
    by : (at : Option ℕ) → position are_dashes (pairs bytes) ≡ at → Spelt (codes "<!--" ++ bytes) (comment_at at bytes)
    by None e = broken _ _
    by (Some at) e =
        let part : IsDashed bytes at = dashed bytes at (sym (position_first are_dashes (pairs bytes)) ∙ e) in
        let following : drop (suc (suc at)) bytes ≡ drop (at + 2) bytes = ap (λ n. drop n bytes) (sym (two_more at)) in
        let front : List ℕ = codes "<!--" ++ (take at bytes ++ 45 ∷ 45 ∷ []) in
        let whole : codes "<!--" ++ bytes ≡ front ++ drop (at + 2) bytes =
        ap (λ rest. 60 ∷ 33 ∷ 45 ∷ 45 ∷ rest) (part.is ∙ ap (λ rest. take at bytes ++ 45 ∷ 45 ∷ rest) following ∙ sym (append_assoc (take at bytes) (45 ∷ 45 ∷ []) (drop (at + 2) bytes))) in
        let size : at ≡ length (take at bytes) = part.size in
        let long : at + 6 ≡ length front = omega (arith, size, length-append (take at bytes) (45 ∷ 45 ∷ [])) in
        subst (λ (all : List ℕ). Spelt all (byte_token 62 Comment (at + 6) (drop (at + 2) bytes))) (sym whole)
        (closed_spelt 62 Comment (at + 6) front (drop (at + 2) bytes) long
        (record { body = take at bytes; is = ap (λ rest. 60 ∷ 33 ∷ 45 ∷ 45 ∷ rest) (append_assoc (take at bytes) (45 ∷ 45 ∷ []) (62 ∷ [])); plain = part.plain }))

declaration_spelt : (blank : ℕ) (bytes : List ℕ) → is_blank blank ≡ true → Spelt (codes "<?xml" ++ (blank ∷ bytes)) (declaration bytes)
unfolding declaration declaration_byte
declaration_spelt blank bytes is_blank = by (position ends_declaration bytes) refl
  where
    opening : List ℕ → List ℕ
    opening rest = codes "<?xml" ++ (blank ∷ rest)

    by : (at : Option ℕ) → position ends_declaration bytes ≡ at → Spelt (codes "<?xml" ++ (blank ∷ bytes)) (declaration_at at bytes)
    by None e = broken _ _
    by (Some at) e =
        let part : IsParted ends_declaration bytes at = parted ends_declaration bytes at (sym (position_first ends_declaration bytes) ∙ e) in
        let following : drop (suc at) bytes ≡ drop (at + 1) bytes = ap (λ n. drop n bytes) (sym (one_more at)) in
        let front : List ℕ = codes "<?xml" ++ (blank ∷ (take at bytes ++ 63 ∷ [])) in
        let size : at ≡ length (take at bytes) = part.size in
        let long : at + 7 ≡ length front = omega (arith, size, length-append (take at bytes) (63 ∷ [])) in
        pick (codes "<?xml" ++ (blank ∷ bytes)) (get_or bytes at 0 == 63) (byte_token 62 Declaration (at + 7) (drop (at + 1) bytes)) _
        (λ t.
        let whole : codes "<?xml" ++ (blank ∷ bytes) ≡ front ++ drop (at + 1) bytes =
        ap (λ rest. 60 ∷ 63 ∷ 120 ∷ 109 ∷ 108 ∷ blank ∷ rest) (part.is
        ∙ ap (λ byte. take at bytes ++ byte ∷ drop (suc at) bytes) (same_byte (get_or bytes at 0) 63 t)
        ∙ ap (λ rest. take at bytes ++ 63 ∷ rest) following
        ∙ sym (append_assoc (take at bytes) (63 ∷ []) (drop (at + 1) bytes))) in
        subst (λ (all : List ℕ). Spelt all (byte_token 62 Declaration (at + 7) (drop (at + 1) bytes))) (sym whole)
        (closed_spelt 62 Declaration (at + 7) front (drop (at + 1) bytes) long
        (record { blank = blank; body = take at bytes; is = ap (λ rest. 60 ∷ 63 ∷ 120 ∷ 109 ∷ 108 ∷ blank ∷ rest) (append_assoc (take at bytes) (63 ∷ []) (62 ∷ [])); is_blank = is_blank; plain = part.plain })))
        (λ _. pick _ (get_or bytes at 0 == 38) (Broken (Reference (at + 6))) (Broken (Break (at + 6))) (λ _. broken _ _) (λ _. broken _ _))

value_spelt : (quote : ℕ) (bytes : List ℕ) → is_quote quote ≡ true → Spelt (quote ∷ bytes) (value quote bytes)
unfolding value value_byte
value_spelt quote bytes is_quote = by (position (ends_value quote) bytes) refl
  where
    by : (at : Option ℕ) → position (ends_value quote) bytes ≡ at → Spelt (quote ∷ bytes) (value_at quote at bytes)
    by None e = broken _ _
    by (Some at) e =
        let part : IsParted (ends_value quote) bytes at = parted (ends_value quote) bytes at (sym (position_first (ends_value quote) bytes) ∙ e) in
        pick (quote ∷ bytes) (get_or bytes at 0 == quote) (Found (Value (take at bytes)) (at + 2)) _
        (λ t.
        let front : take (at + 1) bytes ≡ take at bytes ++ quote ∷ [] =
        ap (take (at + 1)) part.is ∙ front_and (take at bytes) (get_or bytes at 0) (drop (suc at) bytes) at part.size
        ∙ ap (λ byte. take at bytes ++ byte ∷ []) (same_byte (get_or bytes at 0) quote t) in
        let steps : at + 2 ≡ suc (at + 1) = omega arith in
        let size : at ≡ length (take at bytes) = part.size in
        let inside : at + 2 ≤ length (quote ∷ bytes) = omega (arith, ap length part.is, length-append (take at bytes) (get_or bytes at 0 ∷ drop (suc at) bytes)) in
        record { fits = (record { quote = quote; is = ap (λ n. take n (quote ∷ bytes)) steps ∙ ap (λ rest. quote ∷ rest) front; is_quote = is_quote; plain = part.plain }, inside) })
        (λ _. pick _ (get_or bytes at 0 == 38) (Broken (Reference (at + 1))) (Broken (Break (at + 1))) (λ _. broken _ _) (λ _. broken _ _))

-- a letter and what is after it of a name are a name
name_spelt : (byte : ℕ) (bytes : List ℕ) → is_letter byte ≡ true → IsTagName (take (prefix_len is_of_name (byte ∷ bytes)) (byte ∷ bytes))
unfolding is_of_name
name_spelt byte bytes letter = record {
  first = byte;
  rest = take (prefix_len is_of_name bytes) bytes;
  is = ap (λ n. take n (byte ∷ bytes)) counts;
  letter = letter;
  each = each_prefix is_of_name (byte ∷ bytes);
}
  where
    counts : prefix_len is_of_name (byte ∷ bytes) ≡ suc (prefix_len is_of_name bytes)
    counts = rw letter (omega arith)

opening_spelt : (byte : ℕ) (bytes : List ℕ) → is_letter byte ≡ true → Spelt (60 ∷ byte ∷ bytes) (named_token Opening 1 (prefix_len is_of_name (byte ∷ bytes)) (byte ∷ bytes))
unfolding named_token
opening_spelt byte bytes letter =
    let counts : 1 + prefix_len is_of_name (byte ∷ bytes) ≡ suc (prefix_len is_of_name (byte ∷ bytes)) = omega arith in
    pick (60 ∷ byte ∷ bytes) (nat_lt (prefix_len is_of_name (byte ∷ bytes)) (length (byte ∷ bytes)))
    (Found (Opening (take (prefix_len is_of_name (byte ∷ bytes)) (byte ∷ bytes))) (1 + prefix_len is_of_name (byte ∷ bytes))) (Broken Ended)
    (λ _. record { fits = (record { is = ap (λ n. take n (60 ∷ byte ∷ bytes)) counts; named = name_spelt byte bytes letter }, omega (arith, prefix_len-le-length is_of_name (byte ∷ bytes))) }) (λ _. broken _ _)

attribute_spelt : (byte : ℕ) (bytes : List ℕ) → is_letter byte ≡ true → Spelt (byte ∷ bytes) (named_token Name 0 (prefix_len is_of_name (byte ∷ bytes)) (byte ∷ bytes))
unfolding named_token
attribute_spelt byte bytes letter =
    let counts : 0 + prefix_len is_of_name (byte ∷ bytes) ≡ prefix_len is_of_name (byte ∷ bytes) = omega arith in
    pick (byte ∷ bytes) (nat_lt (prefix_len is_of_name (byte ∷ bytes)) (length (byte ∷ bytes)))
    (Found (Name (take (prefix_len is_of_name (byte ∷ bytes)) (byte ∷ bytes))) (0 + prefix_len is_of_name (byte ∷ bytes))) (Broken Ended)
    (λ _. record { fits = (record { is = ap (λ n. take n (byte ∷ bytes)) counts; named = name_spelt byte bytes letter }, omega (arith, prefix_len-le-length is_of_name (byte ∷ bytes))) }) (λ _. broken _ _)

-- a text is its prefix and what is after it
halves : (n : ℕ) (bytes : List ℕ) → bytes ≡ take n bytes ++ drop n bytes
halves zero bytes = refl
halves (suc n) [] = refl
halves (suc n) (byte ∷ bytes) = ap (λ rest. byte ∷ rest) (halves n bytes)

end_of_tag_spelt : (name : List ℕ) (size : ℕ) (bytes : List ℕ) → size ≡ length name → IsTagName name → Spelt (60 ∷ 47 ∷ (name ++ bytes)) (end_of_tag name size bytes)
unfolding end_of_tag
end_of_tag_spelt name size bytes long is_name =
    let blanks : List ℕ = take (prefix_len is_blank bytes) bytes in
    let following : List ℕ = drop (prefix_len is_blank bytes) bytes in
    let front : List ℕ = 60 ∷ 47 ∷ (name ++ take (prefix_len is_blank bytes) bytes) in
    let whole : 60 ∷ 47 ∷ (name ++ bytes) ≡ front ++ drop (prefix_len is_blank bytes) bytes =
    ap (λ rest. 60 ∷ 47 ∷ rest) (ap (λ rest. name ++ rest) (halves (prefix_len is_blank bytes) bytes)
    ∙ sym (append_assoc name (take (prefix_len is_blank bytes) bytes) (drop (prefix_len is_blank bytes) bytes))) in
    let size_is : 2 + size + prefix_len is_blank bytes ≡ length front =
    omega (arith, long, length-prefix_len is_blank bytes, length-append name (take (prefix_len is_blank bytes) bytes)) in
    subst (λ (all : List ℕ). Spelt all (byte_token 62 (EndTag name) (2 + size + prefix_len is_blank bytes) (drop (prefix_len is_blank bytes) bytes))) (sym whole)
    (closed_spelt 62 (EndTag name) (2 + size + prefix_len is_blank bytes) front (drop (prefix_len is_blank bytes) bytes) size_is
    (record {
      blanks = take (prefix_len is_blank bytes) bytes;
      is = ap (λ rest. 60 ∷ 47 ∷ rest) (append_assoc name (take (prefix_len is_blank bytes) bytes) (62 ∷ []));
      named = is_name;
      each = each_prefix is_blank bytes;
    }))

end_named_spelt : (byte : ℕ) (bytes : List ℕ) → is_letter byte ≡ true → Spelt (60 ∷ 47 ∷ byte ∷ bytes) (end_named (prefix_len is_of_name (byte ∷ bytes)) (byte ∷ bytes))
unfolding end_named
end_named_spelt byte bytes letter =
    subst (λ (rest : List ℕ). Spelt (60 ∷ 47 ∷ rest) (end_of_tag (take (prefix_len is_of_name (byte ∷ bytes)) (byte ∷ bytes)) (prefix_len is_of_name (byte ∷ bytes)) (drop (prefix_len is_of_name (byte ∷ bytes)) (byte ∷ bytes))))
    (sym (halves (prefix_len is_of_name (byte ∷ bytes)) (byte ∷ bytes)))
    (end_of_tag_spelt (take (prefix_len is_of_name (byte ∷ bytes)) (byte ∷ bytes)) (prefix_len is_of_name (byte ∷ bytes)) (drop (prefix_len is_of_name (byte ∷ bytes)) (byte ∷ bytes))
    (sym (length-prefix_len is_of_name (byte ∷ bytes))) (name_spelt byte bytes letter))

end_tag_spelt : (bytes : List ℕ) → Spelt (60 ∷ 47 ∷ bytes) (end_tag bytes)
unfolding end_tag
end_tag_spelt [] = broken _ _
end_tag_spelt (byte ∷ bytes) =
    pick (60 ∷ 47 ∷ byte ∷ bytes) (is_letter byte) (end_named (prefix_len is_of_name (byte ∷ bytes)) (byte ∷ bytes)) (Broken (Break 2))
    (λ letter. end_named_spelt byte bytes letter) (λ _. broken _ _)

-- of two that hold both do
both_hold : (one two : Bool) → one && two ≡ true → (one ≡ true) × (two ≡ true)
both_hold true two e = (refl, e)
both_hold false two e = cc

remark_spelt : (bytes : List ℕ) → Spelt (60 ∷ 33 ∷ bytes) (remark bytes)
unfolding remark
remark_spelt [] = broken _ _
remark_spelt (one ∷ []) = pick (60 ∷ 33 ∷ one ∷ []) (one == 45) (Broken Ended) (Broken (Break 0)) (λ _. broken _ _) (λ _. broken _ _)
remark_spelt (one ∷ two ∷ bytes) =
    pick (60 ∷ 33 ∷ one ∷ two ∷ bytes) (one == 45 && two == 45) (comment bytes) (Broken (Break 0))
    (λ t.
    let both : ((one == 45) ≡ true) × ((two == 45) ≡ true) = both_hold (one == 45) (two == 45) t in
    subst (λ (all : List ℕ). Spelt all (comment bytes))
    (sym (ap (λ byte. 60 ∷ 33 ∷ byte ∷ two ∷ bytes) (same_byte one 45 both.0) ∙ ap (λ byte. 60 ∷ 33 ∷ 45 ∷ byte ∷ bytes) (same_byte two 45 both.1)))
    (comment_spelt bytes))
    (λ _. broken _ _)

-- a zero byte is no blank
no_blank : is_blank 0 ≡ true → ⊥
unfolding is_blank
no_blank e = cc

-- numbers that a test finds equal are
same_number : (one two : ℕ) → nat_eq one two ≡ true → two ≡ one
same_number one two e = grind (arith, nat_tests, e)

-- `xml` and a blank open a declaration
xml_spelt : (bytes : List ℕ) → starts_with nat_eq bytes (codes "xml") && is_blank (get_or bytes 3 0) ≡ true → Spelt (60 ∷ 63 ∷ bytes) (declaration (drop 4 bytes))
xml_spelt [] t = absurd (no_blank (both_hold (starts_with nat_eq [] (codes "xml")) (is_blank 0) t).1)
xml_spelt (a ∷ []) t = absurd (no_blank (both_hold (starts_with nat_eq (a ∷ []) (codes "xml")) (is_blank 0) t).1)
xml_spelt (a ∷ b ∷ []) t = absurd (no_blank (both_hold (starts_with nat_eq (a ∷ b ∷ []) (codes "xml")) (is_blank 0) t).1)
xml_spelt (a ∷ b ∷ c ∷ []) t = absurd (no_blank (both_hold (starts_with nat_eq (a ∷ b ∷ c ∷ []) (codes "xml")) (is_blank 0) t).1)
xml_spelt (a ∷ b ∷ c ∷ d ∷ rest) t =
    let all : (starts_with nat_eq (a ∷ b ∷ c ∷ d ∷ rest) (codes "xml") ≡ true) × (is_blank d ≡ true) = both_hold (starts_with nat_eq (a ∷ b ∷ c ∷ d ∷ rest) (codes "xml")) (is_blank d) t in
    let one : (nat_eq 120 a ≡ true) × (nat_eq 109 b && (nat_eq 108 c && true) ≡ true) = both_hold (nat_eq 120 a) (nat_eq 109 b && (nat_eq 108 c && true)) all.0 in
    let two : (nat_eq 109 b ≡ true) × (nat_eq 108 c && true ≡ true) = both_hold (nat_eq 109 b) (nat_eq 108 c && true) one.1 in
    let three : (nat_eq 108 c ≡ true) × (true ≡ true) = both_hold (nat_eq 108 c) true two.1 in
    subst (λ (all : List ℕ). Spelt all (declaration rest))
    (sym (ap (λ x. 60 ∷ 63 ∷ x ∷ b ∷ c ∷ d ∷ rest) (same_number 120 a one.0)
    ∙ ap (λ m. 60 ∷ 63 ∷ 120 ∷ m ∷ c ∷ d ∷ rest) (same_number 109 b two.0)
    ∙ ap (λ l. 60 ∷ 63 ∷ 120 ∷ 109 ∷ l ∷ d ∷ rest) (same_number 108 c three.0)))
    (declaration_spelt d rest all.1)

declared_spelt : (bytes : List ℕ) → Spelt (60 ∷ 63 ∷ bytes) (declared bytes)
unfolding declared
declared_spelt bytes =
    pick (60 ∷ 63 ∷ bytes) (starts_with nat_eq (codes "xml") bytes) (Broken Ended) _ (λ _. broken _ _)
    (λ _. pick (60 ∷ 63 ∷ bytes) (starts_with nat_eq bytes (codes "xml") && is_blank (get_or bytes 3 0)) (declaration (drop 4 bytes)) (Broken (Break 0))
    (λ t. xml_spelt bytes t) (λ _. broken _ _))

-- blanks at the beginning
blanks_spelt : (byte : ℕ) (bytes : List ℕ) → is_blank byte ≡ true → AreBlanks (take (prefix_len is_blank (byte ∷ bytes)) (byte ∷ bytes))
blanks_spelt byte bytes blank = record { some = subst (λ (n : ℕ). 0 < length (take n (byte ∷ bytes))) (sym counts) (omega arith); each = each_prefix is_blank (byte ∷ bytes) }
  where
    counts : prefix_len is_blank (byte ∷ bytes) ≡ suc (prefix_len is_blank bytes)
    counts = rw blank (omega arith)

markup_spelt : (first : Bool) (bytes : List ℕ) → Spelt (60 ∷ bytes) (markup first bytes)
unfolding markup
markup_spelt first [] = broken _ _
markup_spelt first (byte ∷ bytes) =
    pick (60 ∷ byte ∷ bytes) (byte == 33) (remark bytes) _
    (λ t. subst (λ (other : ℕ). Spelt (60 ∷ other ∷ bytes) (remark bytes)) (sym (same_byte byte 33 t)) (remark_spelt bytes))
    (λ _. pick (60 ∷ byte ∷ bytes) (byte == 63) (cond first (declared bytes) (Broken (Break 0))) _
    (λ t. subst (λ (other : ℕ). Spelt (60 ∷ other ∷ bytes) (cond first (declared bytes) (Broken (Break 0)))) (sym (same_byte byte 63 t))
    (pick (60 ∷ 63 ∷ bytes) first (declared bytes) (Broken (Break 0)) (λ _. declared_spelt bytes) (λ _. broken _ _)))
    (λ _. pick (60 ∷ byte ∷ bytes) (byte == 47) (end_tag bytes) _
    (λ t. subst (λ (other : ℕ). Spelt (60 ∷ other ∷ bytes) (end_tag bytes)) (sym (same_byte byte 47 t)) (end_tag_spelt bytes))
    (λ _. pick (60 ∷ byte ∷ bytes) (is_letter byte) (named_token Opening 1 (prefix_len is_of_name (byte ∷ bytes)) (byte ∷ bytes)) (Broken (Break 1))
    (λ letter. opening_spelt byte bytes letter) (λ _. broken _ _))))

front_spelt : (first : Bool) (bytes : List ℕ) → Spelt bytes (front first bytes)
unfolding front
front_spelt first [] = broken _ _
front_spelt first (byte ∷ bytes) =
    pick (byte ∷ bytes) (byte == 60) (markup first bytes) _
    (λ t. subst (λ (other : ℕ). Spelt (other ∷ bytes) (markup first bytes)) (sym (same_byte byte 60 t)) (markup_spelt first bytes))
    (λ _. pick (byte ∷ bytes) (is_blank byte) (Found Blanks (prefix_len is_blank (byte ∷ bytes))) _
    (λ blank. record { fits = (blanks_spelt byte bytes blank, prefix_len-le-length is_blank (byte ∷ bytes)) })
    (λ _. pick (byte ∷ bytes) (byte == 62) (Found TagEnd 1) _
    (λ t. record { fits = (ap (λ other. other ∷ []) (same_byte byte 62 t), omega arith) })
    (λ _. pick (byte ∷ bytes) (byte == 47) (byte_token 62 EmptyEnd 1 bytes) _
    (λ t. subst (λ (other : ℕ). Spelt (other ∷ bytes) (byte_token 62 EmptyEnd 1 bytes)) (sym (same_byte byte 47 t)) (closed_spelt 62 EmptyEnd 1 (47 ∷ []) bytes refl refl))
    (λ _. pick (byte ∷ bytes) (byte == 61) (Found Equals 1) _
    (λ t. record { fits = (ap (λ other. other ∷ []) (same_byte byte 61 t), omega arith) })
    (λ _. pick (byte ∷ bytes) (is_quote byte) (value byte bytes) _
    (λ quote. value_spelt byte bytes quote)
    (λ _. pick (byte ∷ bytes) (is_letter byte) (named_token Name 0 (prefix_len is_of_name (byte ∷ bytes)) (byte ∷ bytes)) (Broken (Break 0))
    (λ letter. attribute_spelt byte bytes letter) (λ _. broken _ _)))))))

-- what is found at the beginning of a text is spelled there
pub front_spells : (first : Bool) (text : List ℕ) (token : Token) (size : ℕ) → front first text ≡ Found token size → SpellsToken token (take size text) × (size ≤ length text)
front_spells first text token size e = subst (λ (found : Front). SpeltIn text found) e (front_spelt first text).fits

-- what a token is spelled by has a byte
spells_some : (token : Token) (word : List ℕ) → SpellsToken token word → 1 ≤ length word
spells_some Blanks word spells = spells.some
spells_some Comment word spells = omega (arith, ap length spells.is)
spells_some Declaration word spells = omega (arith, ap length spells.is)
spells_some (Opening name) word spells = omega (arith, ap length spells.is)
spells_some (Name name) word spells = omega (arith, ap length spells.is, ap length spells.named.is)
spells_some Equals word spells = omega (arith, ap length spells)
spells_some (Value text) word spells = omega (arith, ap length spells.is)
spells_some TagEnd word spells = omega (arith, ap length spells)
spells_some EmptyEnd word spells = omega (arith, ap length spells)
spells_some (EndTag name) word spells = omega (arith, ap length spells.is)

-- a text is its tokens as they are spelled, and then the rest
pub cut_spelled : (at more : ℕ) (bytes : List ℕ) → more ≤ length bytes → IsCut (at + more) (drop more bytes) (cut at more bytes)
unfolding cut
cut_spelled at zero [] h = (refl, omega arith)
cut_spelled at (suc more) [] h = absurd (omega arith)
cut_spelled at (suc more) (byte ∷ bytes) h =
    let same : at + 1 + more ≡ at + suc more = omega arith in
    subst (λ (n : ℕ). IsCut n (drop more bytes) (cut (at + 1) more bytes)) same (cut_spelled (at + 1) more bytes (omega arith))
cut_spelled at zero (byte ∷ bytes) h = by (front (nat_eq at 0) (byte ∷ bytes)) refl (λ more few. cut_spelled (at + 1) more bytes few)
  where
    by : (found : Front) → front (nat_eq at 0) (byte ∷ bytes) ≡ found → ((more : ℕ) → more ≤ length bytes → IsCut (at + 1 + more) (drop more bytes) (cut (at + 1) more bytes))
        → IsCut (at + 0) (byte ∷ bytes) (cut_at found at byte (length bytes) (λ more. cut (at + 1) more bytes))
    by (Broken stop) e ih = omega arith
    by (Found token zero) e ih =
        let spells : SpellsToken token [] × (0 ≤ length (byte ∷ bytes)) = front_spells (nat_eq at 0) (byte ∷ bytes) token 0 e in
        let some : 1 ≤ 0 = spells_some token [] spells.0 in
        absurd (omega arith)
    by (Found token (suc size)) e ih =
        let spells : SpellsToken token (byte ∷ take size bytes) × (suc size ≤ length (byte ∷ bytes)) = front_spells (nat_eq at 0) (byte ∷ bytes) token (suc size) e in
        let few : suc size ≤ length (byte ∷ bytes) = spells.1 in
        let fewer : size ≤ length bytes = omega arith in
        let left : suc size - 1 ≡ size = omega arith in
        let long : at + 1 + size ≡ at + 0 + length (byte ∷ take size bytes) = omega (arith, length-take size bytes) in (
          byte ∷ take size bytes,
          drop size bytes,
          record { is = ap (λ rest. byte ∷ rest) (halves size bytes); here = omega arith; spells = spells.0 },
          subst (λ (n : ℕ). IsCut (at + 0 + length (byte ∷ take size bytes)) (drop size bytes) (cut (at + 1) n bytes)) (sym left)
              (subst (λ (n : ℕ). IsCut n (drop size bytes) (cut (at + 1) size bytes)) long (ih size fewer)),
        )
