-- A text parted at the first byte that passes a test.
use Rattle.std.proofs.Common.{◌≡◌, ℕ, zero, suc, ◌+◌, Bool, true, false, cond, List, [], ◌∷◌, ◌++◌, length, take, drop, get_or, Option, Some, None, refl, sym, ap, ◌∙◌, arith, subst}
use Rattle.std.proofs.lemmas.Bool.Decides.{nat_tests}
use Rattle.std.specs.Option.{option_map}
use Rattle.std.specs.List.{prefix_len}
use Rattle.xmcf_reader.specs.Bytes.{first_where, pairs, are_dashes}
use Rattle.xmcf_reader.specs.Spelling.{Each, NoneOf, NoDashes}

-- a text is what stands before a place, the byte there, and what is after it
pub record IsParted (test : ℕ → Bool) (bytes : List ℕ) (at : ℕ) : Type 0 where
  pub is : bytes ≡ take at bytes ++ get_or bytes at 0 ∷ drop (suc at) bytes
  pub plain : NoneOf test (take at bytes)
  pub size : at ≡ length (take at bytes)
  pub here : test (get_or bytes at 0) ≡ true

-- the first place that passes parts a text
pub parted : (test : ℕ → Bool) (bytes : List ℕ) (at : ℕ) → first_where test bytes ≡ Some at → IsParted test bytes at
parted test [] at e = cc
parted test (byte ∷ bytes) at e = by (test byte) refl (first_where test bytes) e (parted test bytes)
  where
    by : (passes : Bool) → test byte ≡ passes → (found : Option ℕ) → cond passes (Some 0) (option_map suc found) ≡ Some at
        → ((k : ℕ) → found ≡ Some k → IsParted test bytes k) → IsParted test (byte ∷ bytes) at
    by true t found f more = let zero_at : 0 ≡ at = cc in subst (λ (k : ℕ). IsParted test (byte ∷ bytes) k) zero_at (record { is = refl; plain = tt; size = refl; here = t })
    by false t None f more = cc
    by false t (Some k) f more =
        let later : suc k ≡ at = cc in
        subst (λ (m : ℕ). IsParted test (byte ∷ bytes) m) later (record { is = ap (λ rest. byte ∷ rest) (more k refl).is; plain = (t, (more k refl).plain); size = ap suc (more k refl).size; here = (more k refl).here })

-- the bytes at the beginning that pass
pub each_prefix : (test : ℕ → Bool) (bytes : List ℕ) → Each test (take (prefix_len test bytes) bytes)
each_prefix test [] = tt
each_prefix test (byte ∷ bytes) = by (test byte) refl (each_prefix test bytes)
  where
    next : 1 + prefix_len test bytes ≡ suc (prefix_len test bytes)
    next = omega arith

    by : (passes : Bool) → test byte ≡ passes → Each test (take (prefix_len test bytes) bytes) → Each test (take (cond passes (1 + prefix_len test bytes) 0) (byte ∷ bytes))
    by true t more = subst (λ (n : ℕ). Each test (take n (byte ∷ bytes))) (sym next) (t, more)
    by false t more = tt

-- a text is what stands before its first two dashes, these, and what is after them
pub record IsDashed (bytes : List ℕ) (at : ℕ) : Type 0 where
  pub is : bytes ≡ take at bytes ++ 45 ∷ 45 ∷ drop (suc (suc at)) bytes
  pub plain : NoDashes (take at bytes ++ 45 ∷ [])
  pub size : at ≡ length (take at bytes)

-- no place among none
none_some : (at : ℕ) → None ≡ Some at → ⊥
none_some at e = cc

-- two dashes are two dashes
dashes_are : (one two : ℕ) → are_dashes (one, two) ≡ true → (one ≡ 45) × (two ≡ 45)
dashes_are one two e = (grind (arith, nat_tests, e), grind (arith, nat_tests, e))

-- equal texts begin with equal bytes
head_is : (one two : ℕ) (rest other : List ℕ) → one ∷ rest ≡ two ∷ other → one ≡ two
head_is one two rest other e = cc

-- no dashes here and none after are none
not_here : (one two : ℕ) (bytes : List ℕ) → are_dashes (one, two) ≡ false → NoDashes (two ∷ bytes) → NoDashes (one ∷ two ∷ bytes)
not_here one two bytes apart none = by (are_dashes (one, two)) apart (first_where are_dashes (pairs (two ∷ bytes))) none
  where
    by : (here : Bool) → here ≡ false → (found : Option ℕ) → found ≡ None → cond here (Some 0) (option_map suc found) ≡ None
    by true e found none = cc
    by false e found none = ap (option_map suc) none

-- the first two dashes part a text
pub dashed : (bytes : List ℕ) (at : ℕ) → first_where are_dashes (pairs bytes) ≡ Some at → IsDashed bytes at
dashed [] at e = absurd (none_some at e)
dashed (one ∷ []) at e = absurd (none_some at e)
dashed (one ∷ two ∷ bytes) at e = by (are_dashes (one, two)) refl (first_where are_dashes (pairs (two ∷ bytes))) e (dashed (two ∷ bytes))
  where
    by : (passes : Bool) → are_dashes (one, two) ≡ passes → (found : Option ℕ) → cond passes (Some 0) (option_map suc found) ≡ Some at
        → ((k : ℕ) → found ≡ Some k → IsDashed (two ∷ bytes) k) → IsDashed (one ∷ two ∷ bytes) at
    by true t found f more =
        let zero_at : 0 ≡ at = cc in
        let are : (one ≡ 45) × (two ≡ 45) = dashes_are one two t in
        subst (λ (k : ℕ). IsDashed (one ∷ two ∷ bytes) k) zero_at
        (record { is = ap (λ byte. byte ∷ two ∷ bytes) are.0 ∙ ap (λ byte. 45 ∷ byte ∷ bytes) are.1; plain = refl; size = refl })
    by false t None f more = absurd (none_some at f)
    by false t (Some zero) f more =
        let later : 1 ≡ at = cc in
        let two_is : two ≡ 45 = head_is two 45 _ _ (more 0 refl).is in
        let apart : are_dashes (one, 45) ≡ false = ap (λ byte. are_dashes (one, byte)) (sym two_is) ∙ t in
        subst (λ (m : ℕ). IsDashed (one ∷ two ∷ bytes) m) later
        (record { is = ap (λ rest. one ∷ rest) (more 0 refl).is; plain = not_here one 45 [] apart refl; size = refl })
    by false t (Some (suc k)) f more =
        let later : suc (suc k) ≡ at = cc in
        subst (λ (m : ℕ). IsDashed (one ∷ two ∷ bytes) m) later
        (record { is = ap (λ rest. one ∷ rest) (more (suc k) refl).is; plain = not_here one two (take k bytes ++ 45 ∷ []) t (more (suc k) refl).plain; size = ap suc (more (suc k) refl).size })
