-- Words as bytes and bytes as words, and the words of the first partitions.
use Rattle.std.proofs.Common.{Fits, ◌≡◌, ℕ, zero, suc, ◌+◌, ◌-◌, ◌*◌, ◌%◌, ◌<◌, ◌≤◌, List, Vec, [], ◌∷◌, ◌++◌, length, map, take, set, get_or, replicate, refl, ap, ◌∙◌, add-one, arith, append_assoc}
use Rattle.std.specs.Int.{to_be_bytes, w32}
use Rattle.std.proofs.lemmas.List.{length-map}
use Rattle.std.specs.Global.{Global}
use Rattle.std.specs.Prelude.{slice_index_or}
use Rattle.std.proofs.lemmas.Nat.{from_be_bytes-to_be_bytes_4}
use Rattle.system_state.specs.Inputs.{words_in}
use Rattle.machine_restore.specs.lemmas.RestoreTerms.{word_bytes}

-- four bytes each
pub length-word_bytes : (words : List ℕ) → length (word_bytes words) ≡ 4 * length words
length-word_bytes [] = refl
length-word_bytes (word ∷ words) = omega (arith, length-word_bytes words)

-- the words of their bytes
pub words_in-word_bytes : (words : List ℕ) → ((i : ℕ) → Fits w32 (slice_index_or words i 0)) → words_in (word_bytes words) ≡ words
words_in-word_bytes [] all = refl
words_in-word_bytes (word ∷ words) all =
    ap (λ (n : ℕ). n ∷ words_in (word_bytes words)) (from_be_bytes-to_be_bytes_4 word (all 0).fits)
    ∙ ap (λ (rest : List ℕ). word ∷ rest) (words_in-word_bytes words (λ i. all (suc i)))

-- their number is a multiple of 4
pub fourfold : (n words : ℕ) → n ≡ 4 * words → n % 4 ≡ 0
fourfold n words is = omega (arith, is)

-- one word more
word_next : (words : List ℕ) (i : ℕ) → i < length words → word_bytes (take i words) ++ to_be_bytes w32 (slice_index_or words i 0) ≡ word_bytes (take (suc i) words)
word_next [] i below = absurd (omega (arith, below))
word_next (first ∷ words) zero below = refl
word_next (first ∷ words) (suc i) below =
    append_assoc (to_be_bytes w32 first) (word_bytes (take i words)) (to_be_bytes w32 (slice_index_or words i 0))
    ∙ ap (λ (rest : List ℕ). to_be_bytes w32 first ++ rest) (word_next words i (omega (arith, below)))

pub word_more : (words : List ℕ) (i : ℕ) (had bytes got : List ℕ) → i < length words → had ≡ word_bytes (take i words) → bytes ≡ to_be_bytes w32 (slice_index_or words i 0) → got ≡ had ++ bytes → got ≡ word_bytes (take (i + 1) words)
word_more words i had bytes got below was word is =
    let more : i + 1 ≡ suc i = add-one i in
    rw more (is ∙ (λ j. was j ++ word j) ∙ word_next words i below)

-- the words of one partition more
given_next : (n p : ℕ) (words : List (List ℕ)) (own : List ℕ) → p < n → p < length words → own ≡ get_or words p own → set (take p words ++ replicate (n - p) []) p own ≡ take (suc p) words ++ replicate (n - suc p) []
given_next n p [] own inside below here = absurd (omega (arith, below))
given_next zero p (first ∷ words) own inside below here = absurd (omega (arith, inside))
given_next (suc n) zero (first ∷ words) own inside below here =
    let all : suc n - 0 ≡ suc n = omega arith in
    let rest : n ≡ suc n - 1 = omega arith in
    ap (λ (k : ℕ). set (replicate k []) 0 own) all ∙ ap (λ (given : List ℕ). given ∷ replicate n []) here ∙ ap (λ (k : ℕ). first ∷ replicate k []) rest
given_next (suc n) (suc p) (first ∷ words) own inside below here =
    let some : suc n - suc p ≡ n - p = omega arith in
    let rest : n - suc p ≡ suc n - suc (suc p) = omega arith in
    ap (λ (k : ℕ). first ∷ set (take p words ++ replicate k []) p own) some
    ∙ ap (λ (given : List (List ℕ)). first ∷ given) (given_next n p words own (omega (arith, inside)) (omega (arith, below)) here)
    ∙ ap (λ (k : ℕ). first ∷ (take (suc p) words ++ replicate k [])) rest

items_at : (words : List (Vec ℕ Global)) (p : ℕ) (one : Vec ℕ Global) → p < length words → one ≡ get_or words p one → one.items ≡ get_or (map (λ own. own.items) words) p one.items
items_at [] p one below here = absurd (omega (arith, below))
items_at (first ∷ words) zero one below here = ap (λ (own : Vec ℕ Global). own.items) here
items_at (first ∷ words) (suc p) one below here = items_at words p one (omega (arith, below)) here

pub given_more : (n p : ℕ) (words : List (Vec ℕ Global)) (one : Vec ℕ Global) (own : List ℕ) (inputs new : List (List ℕ)) → p < n → n ≤ length words → one ≡ get_or words p one → own ≡ one.items
    → inputs ≡ take p (map (λ own. own.items) words) ++ replicate (n - p) [] → new ≡ set inputs p own → new ≡ take (p + 1) (map (λ own. own.items) words) ++ replicate (n - (p + 1)) []
given_more n p words one own inputs new inside enough here held was is =
    let more : p + 1 ≡ suc p = add-one p in
    rw more
    (is ∙ (λ i. set (was i) p (held i))
    ∙ given_next n p (map (λ own. own.items) words) one.items inside (omega (arith, inside, enough, length-map words (λ (own : Vec ℕ Global). own.items))) (items_at words p one (omega (arith, inside, enough)) here))

-- the words of the first partitions
pub length_taken : (n : ℕ) (words : List (List ℕ)) → n ≤ length words → length (take n words) ≡ n
length_taken zero words enough = refl
length_taken (suc n) [] enough = absurd (omega (arith, enough))
length_taken (suc n) (own ∷ words) enough = ap suc (length_taken n words (omega (arith, enough)))
