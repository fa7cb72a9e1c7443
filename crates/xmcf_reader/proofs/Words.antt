-- Lemmas on the words that single spaces part.
use Rattle.std.proofs.Common.{◌≡◌, ℕ, suc, ◌+◌, Bool, true, false, cond, ◌==◌, List, [], ◌∷◌, take, drop, Option, Some, None, refl, ap, sym, ◌∙◌, add-one, subst}
use Rattle.std.specs.Option.{option_map}
use Rattle.std.specs.List.{position}
use Rattle.xmcf_reader.specs.Bytes.{first_where}
use Rattle.xmcf_reader.proofs.BytesLemmas.{position_first}
use Rattle.xmcf_reader.specs.Values.{FlagSet, on_value, onto, split, with_flag, with_flags}

-- the test for a space
abbrev pub is_space : ℕ → Bool
is_space byte = byte == 32

none_before : (found : Option ℕ) → option_map suc found ≡ None → found ≡ None
none_before None e = refl
none_before (Some k) e = cc

-- a text without a space is one word
pub one_word : (text : List ℕ) → first_where is_space text ≡ None → split text ≡ text ∷ []
one_word [] e = refl
one_word (byte ∷ bytes) e = at (byte == 32) e (one_word bytes)
  where
    at : (here : Bool) → cond here (Some 0) (option_map suc (first_where is_space bytes)) ≡ None
        → (first_where is_space bytes ≡ None → split bytes ≡ bytes ∷ [])
        → cond here ([] ∷ split bytes) (onto byte (split bytes)) ≡ (byte ∷ bytes) ∷ []
    at true f more = cc
    at false f more = ap (onto byte) (more (none_before _ f))

-- the first word goes up to the first space
pub first_word : (text : List ℕ) (at : ℕ) → first_where is_space text ≡ Some at → split text ≡ take at text ∷ split (drop (suc at) text)
first_word [] at e = cc
first_word (byte ∷ bytes) at e = by (byte == 32) (first_where is_space bytes) e (first_word bytes)
  where
    by : (here : Bool) (found : Option ℕ) → cond here (Some 0) (option_map suc found) ≡ Some at
        → ((k : ℕ) → found ≡ Some k → split bytes ≡ take k bytes ∷ split (drop (suc k) bytes))
        → cond here ([] ∷ split bytes) (onto byte (split bytes)) ≡ take at (byte ∷ bytes) ∷ split (drop (suc at) (byte ∷ bytes))
    by true found f more = let zero_at : 0 ≡ at = cc in subst (λ (k : ℕ). [] ∷ split bytes ≡ take k (byte ∷ bytes) ∷ split (drop (suc k) (byte ∷ bytes))) zero_at refl
    by false None f more = cc
    by false (Some k) f more =
        let later : suc k ≡ at = cc in
        subst (λ (m : ℕ). onto byte (split bytes) ≡ take m (byte ∷ bytes) ∷ split (drop (suc m) (byte ∷ bytes))) later (ap (onto byte) (more k refl))

-- by position: a text without a space
pub one_word_at : (text : List ℕ) → position is_space text ≡ None → split text ≡ text ∷ []
one_word_at text e = one_word text (sym (position_first is_space text) ∙ e)

-- by position: the first word
pub first_word_at : (text : List ℕ) (at : ℕ) → position is_space text ≡ Some at → split text ≡ take at text ∷ split (drop (at + 1) text)
first_word_at text at e = rw add-one (first_word text at (sym (position_first is_space text) ∙ e))

on_some : {A : Type 0} (o : Option A) → o ≡ on_value o (λ x. Some x)
on_some None = refl
on_some (Some x) = refl

-- the flag of a text that is one word
pub last_flag : (text : List ℕ) (found : FlagSet) → position is_space text ≡ None → with_flag text found ≡ with_flags (split text) found
last_flag text found e = rw (one_word_at text e) (on_some (with_flag text found))

-- the flags of a text go on after its first word
pub more_flags : (text : List ℕ) (at : ℕ) (found : FlagSet) → position is_space text ≡ Some at → on_value (with_flag (take at text) found) (λ more. with_flags (split (drop (at + 1) text)) more) ≡ with_flags (split text) found
more_flags text at found e = rw (first_word_at text at e) refl

-- a first word that is no flag
pub no_flag : (text : List ℕ) (at : ℕ) (found : FlagSet) → Some at ≡ position is_space text → None ≡ with_flag (take at text) found → None ≡ with_flags (split text) found
no_flag text at found e none = rw (first_word_at text at (sym e)) (rw (← none) refl)

-- a first word that is a flag
pub one_flag : (text : List ℕ) (at : ℕ) (found next : FlagSet) (all : Option FlagSet) → Some at ≡ position is_space text → Some next ≡ with_flag (take at text) found
    → all ≡ with_flags (split (drop (at + 1) text)) next → all ≡ with_flags (split text) found
one_flag text at found next all e one rest = rw (first_word_at text at (sym e)) (rw (← one) rest)
