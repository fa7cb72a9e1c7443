-- What is to be typed for files for partitions.
use Rattle.std.proofs.Common.{◌≡◌, ◌≢◌, ℕ, ◌+◌, ◌-◌, ◌<◌, ◌≤◌, ◌==◌, Bool, true, false, ◌&&◌, ◌||◌, not, nat_lt, List, [], ◌∷◌, ◌++◌, length, map, get_or, codes, decimal, Option, Some, None, is_some, refl, sym, ap, subst, ◌∙◌, arith}
use Rattle.std.specs.Prelude.{All, AllPairs}
use Rattle.std.specs.List.{after_first, before_first, position_or_len}
use Rattle.std.proofs.lemmas.Bool.{and_parts, and_from, both_ways, eqb-true, eq-eqb, not-true, lt-ltb, ltb-true}
use Rattle.std.proofs.lemmas.Fmt.{digits_decimal}
use Rattle.std.proofs.lemmas.Grind.{get_or_tail}
use Rattle.std.proofs.lemmas.List.{append_assoc, get_or_append_left, length-append, length-drop, length-map, nil_from_length}
use Rattle.std.proofs.lemmas.List.Elements.{All-cons, All-head, All-nil, All-tail}
use Rattle.std.proofs.lemmas.List.Kept.{AllPairs-cons}
use Rattle.std.proofs.lemmas.List.Sums.{passes_at_first, position_or_len_is, split_at_first}
use Rattle.std.proofs.lemmas.Str.Parse.{not_in_digits}
use Rattle.std.proofs.Math.Seq.{drop-append-add, take-append_seam, get_or-append_seam}
use Rattle.command_line.specs.Grammar.{HaveOneFileEach, ArePartFiles, IsPartFile, part_word}
use Rattle.command_line.specs.Words.{PartFile, are_apart, are_named, are_part_files, before_others, has_part, is_equals, is_file, part_file_by, part_file_of, part_files, part_number}
use Rattle.command_line.proofs.NumberLemmas.{numerals}
use Rattle.command_line.proofs.WordLemmas.{file_is, is_of_file, number_text, text_number}

-- where something stands after the first `=`, there is one
equals_stands : (word : List ℕ) → 0 < length (after_first is_equals word) → position_or_len is_equals word < length word
equals_stands word some = (let long = length-drop (position_or_len is_equals word + 1) word in omega arith)

-- a word is what stands before its first `=`, that byte, and what stands after it
split_word : (word : List ℕ) → 0 < length (after_first is_equals word) → word ≡ before_first is_equals word ++ codes "=" ++ after_first is_equals word
split_word word some =
    let stands = equals_stands word some in
    let equals : get_or word (position_or_len is_equals word) 0 ≡ 61 = eqb-true _ 61 (passes_at_first is_equals word 0 stands) in
    split_at_first is_equals word 0 stands
    ∙ ap (λ b. before_first is_equals word ++ (b ∷ after_first is_equals word)) equals
    ∙ sym (append_assoc (before_first is_equals word) (codes "=") (after_first is_equals word))

-- what a word names is typed so
pub word_named : (word : List ℕ) (named : PartFile) → part_file_of word ≡ Some named → IsPartFile named × (word ≡ part_word named)
unfolding part_file_of
word_named word named e = at (part_number (before_first is_equals word)) (is_file (after_first is_equals word)) refl refl e
  where
    at : (part : Option ℕ) (t : Bool) → part_number (before_first is_equals word) ≡ part → is_file (after_first is_equals word) ≡ t
        → part_file_by part t (after_first is_equals word) ≡ Some named → IsPartFile named × (word ≡ part_word named)
    at None t none is e = absurd (let no : ⊥ = cc in no)
    at (Some part) true count is e =
        let text = number_text 31 (before_first is_equals word) part (omega arith) count in
        let file = file_is (after_first is_equals word) is in
        let same : record { part = part; file = after_first is_equals word } ≡ named = cc in
        subst (λ (n : PartFile). IsPartFile n × (word ≡ part_word n)) same
        ((text.0, file), split_word word file.some ∙ ap (λ front. front ++ codes "=" ++ after_first is_equals word) text.1)
    at (Some part) false count is e = absurd (let no : ⊥ = cc in no)

-- the first `=` of what is typed stands after the partition
first_equals : (part : ℕ) (file : List ℕ) → part ≤ 31 → position_or_len is_equals (decimal part ++ (61 ∷ file)) ≡ length (decimal part)
first_equals part file small =
    let long = length-append (decimal part) (61 ∷ file) in
    position_or_len_is is_equals (decimal part ++ (61 ∷ file)) (length (decimal part)) 0 (omega arith)
    (λ k below. no_digit ((get_or (decimal part ++ (61 ∷ file)) k 0) == 61) refl (digit k below))
    (λ within. eq-eqb (get_or (decimal part ++ (61 ∷ file)) (length (decimal part)) 0) 61 (get_or-append_seam (decimal part) 61 file 0))
  where
    digit : (k : ℕ) → k < length (decimal part) → get_or (decimal part ++ (61 ∷ file)) k 0 ≢ 61
    digit k below = rw (get_or_append_left (decimal part) (61 ∷ file) 0 k below) (not_in_digits numerals (decimal part) 61 (digits_decimal numerals part (omega arith)) (λ within. omega arith) k below)

    no_digit : {k : ℕ} (t : Bool) → (k == 61) ≡ t → k ≢ 61 → t ≡ false
    no_digit true same differs = absurd (differs (eqb-true _ 61 same))
    no_digit false same differs = refl

-- what is typed for a file names it
pub named_word : (named : PartFile) → IsPartFile named → part_file_of (part_word named) ≡ Some named
unfolding part_file_of
named_word named right =
    let word : part_word named ≡ decimal named.part ++ (61 ∷ named.file) = append_assoc (decimal named.part) (codes "=") named.file in
    let first = first_equals named.part named.file right.0 in
    let before : before_first is_equals (part_word named) ≡ decimal named.part = rw (word, first) (take-append_seam (decimal named.part) (61 ∷ named.file)) in
    let after : after_first is_equals (part_word named) ≡ named.file = rw (word, first) (drop-append-add (decimal named.part) (61 ∷ named.file) 1) in
    rw (before, after, text_number 31 (decimal named.part) named.part (omega arith) right.0 refl, is_of_file named.file right.1) refl

-- what words name is typed so
named_each : (words : List (List ℕ)) → are_named words ≡ true → (words ≡ map part_word (part_files words)) × All IsPartFile (part_files words)
named_each [] named = (refl, All-nil IsPartFile)
named_each (word ∷ words) named =
    let tests = and_parts (is_some (part_file_of word)) (are_named words) named in
    at (part_file_of word) refl tests.0 (named_each words tests.1)
  where
    at : (found : Option PartFile) → part_file_of word ≡ found → is_some (part_file_of word) ≡ true → (words ≡ map part_word (part_files words)) × All IsPartFile (part_files words)
        → (word ∷ words ≡ map part_word (before_others (part_file_of word) (part_files words))) × All IsPartFile (before_others (part_file_of word) (part_files words))
    at None none test rest = absurd (let no : ⊥ = cc in no)
    at (Some file) found test rest =
        let first = word_named word file found in
        rw found (ap (λ w. w ∷ words) first.1 ∙ ap (λ ws. part_word file ∷ ws) rest.0, All-cons IsPartFile file (part_files words) first.0 rest.1)

-- what is typed for files names each of them
typed_each : (files : List PartFile) → All IsPartFile files → (part_files (map part_word files) ≡ files) × (are_named (map part_word files) ≡ true)
typed_each [] right = (refl, refl)
typed_each (file ∷ files) right =
    let first = named_word file (All-head IsPartFile file files right) in
    let rest = typed_each files (All-tail IsPartFile file files right) in
    (rw first (ap (λ others. file ∷ others) rest.0), rw first rest.1)

-- a partition that has no file among these is none of theirs
no_part : (part : ℕ) (files : List PartFile) → has_part part files ≡ false → All (λ (other : PartFile). part ≢ other.part) files
no_part part [] none = All-nil (λ (other : PartFile). part ≢ other.part)
no_part part (file ∷ files) none = at (file.part == part) refl none (no_part part files)
  where
    at : (t : Bool) → (file.part == part) ≡ t → (t || has_part part files) ≡ false → (has_part part files ≡ false → All (λ (other : PartFile). part ≢ other.part) files) → All (λ (other : PartFile). part ≢ other.part) (file ∷ files)
    at true same none others = absurd (let no : ⊥ = cc in no)
    at false differs none others =
        All-cons (λ (other : PartFile). part ≢ other.part) file files (λ same. both_ways (file.part == part) differs (eq-eqb file.part part (sym same))) (others none)

-- and a partition that is none of theirs has no file among them
part_none : (part : ℕ) (files : List PartFile) → All (λ (other : PartFile). part ≢ other.part) files → has_part part files ≡ false
part_none part [] others = refl
part_none part (file ∷ files) others =
    at (file.part == part) refl (part_none part files (All-tail (λ (other : PartFile). part ≢ other.part) file files others))
  where
    at : (t : Bool) → (file.part == part) ≡ t → has_part part files ≡ false → (t || has_part part files) ≡ false
    at true same none = absurd (All-head (λ (other : PartFile). part ≢ other.part) file files others (sym (eqb-true file.part part same)))
    at false differs none = none

-- what stands after the first of a list
one_before : {X : Type 0} (x : X) (xs : List X) (k : ℕ) (d : X) → get_or (x ∷ xs) (k + 1) d ≡ get_or xs k d
one_before x xs k d =
    let same : k + 1 - 1 ≡ k = omega arith in
    get_or_tail x xs (k + 1) d (omega arith) ∙ ap (λ n. get_or xs n d) same

-- what the first of a list is to each of the others
pairs_head : {X : Type 0} (R : X → X → Type 0) (x : X) (xs : List X) → AllPairs R (x ∷ xs) → All (R x) xs
pairs_head R x xs pairs = λ k d within. subst (R x) (one_before x xs k d) (pairs 0 (k + 1) d (omega arith) (omega arith))

-- what the others of a list are to each other
pairs_tail : {X : Type 0} (R : X → X → Type 0) (x : X) (xs : List X) → AllPairs R (x ∷ xs) → AllPairs R xs
pairs_tail R x xs pairs = λ i j d before within.
    subst (λ y. R y (get_or xs j d)) (one_before x xs i d)
    (subst (R (get_or (x ∷ xs) (i + 1) d)) (one_before x xs j d) (pairs (i + 1) (j + 1) d (omega arith) (omega arith)))

-- files whose partitions are apart
pub apart_pairs : (files : List PartFile) → are_apart files ≡ true → HaveOneFileEach files
apart_pairs [] apart = λ i j d before within. absurd (omega arith)
apart_pairs (file ∷ files) apart =
    let tests = and_parts (not (has_part file.part files)) (are_apart files) apart in
    AllPairs-cons (λ (one other : PartFile). one.part ≢ other.part) file files (no_part file.part files (not-true _ tests.0)) (apart_pairs files tests.1)

-- and the test of such files
pub pairs_apart : (files : List PartFile) → HaveOneFileEach files → are_apart files ≡ true
pairs_apart [] pairs = refl
pairs_apart (file ∷ files) pairs =
    and_from (not (has_part file.part files)) (are_apart files)
    (ap not (part_none file.part files (pairs_head (λ (one other : PartFile). one.part ≢ other.part) file files pairs)))
    (pairs_apart files (pairs_tail (λ (one other : PartFile). one.part ≢ other.part) file files pairs))

-- words that are files for partitions are typed so
pub files_named : (words : List (List ℕ)) → are_part_files words ≡ true → (words ≡ map part_word (part_files words)) × ArePartFiles (part_files words)
unfolding are_part_files
files_named words are =
    let tests = and_parts (nat_lt 0 (length words) && are_named words) (are_apart (part_files words)) are in
    let front = and_parts (nat_lt 0 (length words)) (are_named words) tests.0 in
    let each = named_each words front.1 in
    let some = ltb-true 0 (length words) front.0 in
    let long : length words ≡ length (part_files words) = ap length each.0 ∙ length-map (part_files words) part_word in
    (each.0, record { some = omega arith; each = each.1; apart = apart_pairs (part_files words) tests.1 })

-- what is typed for files for partitions is so read
pub files_typed_right : (files : List PartFile) → ArePartFiles files → (part_files (map part_word files) ≡ files) × (are_part_files (map part_word files) ≡ true)
unfolding are_part_files
files_typed_right files right =
    let typed = typed_each files right.each in
    let long = length-map files part_word in (
      typed.0,
      and_from (nat_lt 0 (length (map part_word files)) && are_named (map part_word files)) (are_apart (part_files (map part_word files)))
          (and_from (nat_lt 0 (length (map part_word files))) (are_named (map part_word files)) (lt-ltb 0 (length (map part_word files)) (omega (arith, right.some))) typed.1)
          (ap are_apart typed.0 ∙ pairs_apart files right.apart),
    )

-- a word without `=` names no file
pub no_equals : (word : List ℕ) → position_or_len is_equals word ≡ length word → None ≡ part_file_of word
unfolding part_file_of is_file
no_equals word none = at (part_number (before_first is_equals word))
  where
    nothing : after_first is_equals word ≡ []
    nothing = (let long = length-drop (position_or_len is_equals word + 1) word in nil_from_length (after_first is_equals word) (omega arith))

    at : (part : Option ℕ) → None ≡ part_file_by part (is_file (after_first is_equals word)) (after_first is_equals word)
    at None = refl
    at (Some part) = rw nothing refl
