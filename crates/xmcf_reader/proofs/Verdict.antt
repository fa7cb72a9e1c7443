-- What a reading answers is the text's fault, or its draft.
use Rattle.std.proofs.Common.{◌≡◌, ℕ, ◌<◌, true, false, List, [], ◌∷◌, length, Some, None, Result, Ok, Err, ◌⊎◌, inl, inr, sym, ap, ◌∙◌, arith, IfOk, IfErr}
use Rattle.std.specs.Prelude.{nat_lt}
use Rattle.std.proofs.lemmas.Bool.Decides.{nat_tests}
use Rattle.std.specs.Str.Lossy.{utf8_valid_len}
use Rattle.xmcf_reader.specs.Draft.{empty_draft}
use Rattle.xmcf_reader.specs.Faults.{cut, draft_from, draft_of, faults_from, xmcf_fault}
use Rattle.xmcf_reader.specs.lemmas.FaultsTerms.{first_of, IsFirst}
use Rattle.xmcf_reader.specs.lemmas.Readings.{IsReadingOf}
use Rattle.xmcf_reader.specs.declared.draft.Entry.{Entry}
use Rattle.xmcf_reader.specs.declared.fault.ReadFault.{ReadFault}
use Rattle.xmcf_reader.specs.declared.fault.ReadFault.TheVariants as fault
use Rattle.xmcf_reader.proofs.Order.{first_least}

-- the fault of a text is the first of those of its tokens
text_first : (text : List ℕ) → utf8_valid_len text ≡ length text → xmcf_fault text ≡ first_of (faults_from empty_draft (cut 0 0 text))
unfolding xmcf_fault
text_first text whole =
    let test : nat_lt (utf8_valid_len text) (length text) ≡ false = grind (arith, nat_tests, whole) in
    rw test (first_least text)

-- a draft that is answered is the text's
pub reported_draft : (text : List ℕ) (answer : Result (List Entry) ReadFault) → utf8_valid_len text ≡ length text
    → IsReadingOf answer (faults_from empty_draft (cut 0 0 text)) (draft_from empty_draft (cut 0 0 text)) → IfOk answer (λ draft. (xmcf_fault text ≡ None) × (draft ≡ draft_of text))
unfolding draft_of
reported_draft text (Ok draft) whole accounted = (text_first text whole ∙ ap first_of accounted.0, accounted.1)
reported_draft text (Err one) whole accounted = tt

-- a fault that is answered is the text's
pub reported_fault : (text : List ℕ) (answer : Result (List Entry) ReadFault) → utf8_valid_len text ≡ length text
    → IsReadingOf answer (faults_from empty_draft (cut 0 0 text)) (draft_from empty_draft (cut 0 0 text)) → IfErr answer (λ found. (found ≡ fault.Memory) ⊎ (xmcf_fault text ≡ Some found))
reported_fault text (Ok draft) whole accounted = tt
reported_fault text (Err one) whole accounted = at (faults_from empty_draft (cut 0 0 text)) (text_first text whole) accounted
  where
    at : (all : List ReadFault) → xmcf_fault text ≡ first_of all → IsFirst one all → (one ≡ fault.Memory) ⊎ (xmcf_fault text ≡ Some one)
    at [] e first = inl first
    at (other ∷ others) e (inl memory) = inl memory
    at (other ∷ others) e (inr same) = inr (e ∙ ap Some (sym same))

-- bytes that are no text are the fault
pub reported_bytes : (text : List ℕ) (at : ℕ) → at ≡ utf8_valid_len text → at < length text → xmcf_fault text ≡ Some (fault.NotText at)
unfolding xmcf_fault
reported_bytes text at e short =
    let test : nat_lt (utf8_valid_len text) (length text) ≡ true = grind (arith, nat_tests, e) in
    rw test (ap (λ n. Some (fault.NotText n)) (sym e))
