-- The lines so far, and what is still to be read of a text.
use Rattle.std.proofs.Common.{◌≡◌, ℕ, zero, suc, ◌+◌, ◌-◌, ◌<◌, ◌≤◌, ◌^◌, IfOk, Bool, true, false, nat_lt, List, [], ◌∷◌, ◌++◌, length, length-append, Result, Ok, Err, append_assoc, append-nil, cond, refl, sym, ap, subst, ◌∙◌, arith}
use Rattle.std.proofs.lemmas.Bool.{ltb-true}
use Rattle.std.proofs.lemmas.Bool.Decides.{nat_tests}
use Rattle.file_headers.specs.Steps.{◌>>=◌}
use Rattle.xm_conf.specs.Configuration.{Conf}
use Rattle.file_headers.specs.Gives.{Gives}
use Rattle.upset_files.proofs.ReadingLemmas.{read_spelled, spelled_read}
use Rattle.upset_files.specs.Fits.{AreUpsetsOf}
use Rattle.upset_files.specs.Gives.{FailsAs}
use Rattle.upset_files.specs.Reading.{fitted_line, in_line, lines_read, upsets_from}
use Rattle.upset_files.specs.lemmas.LineTerms.{next_line}
use Rattle.upset_files.specs.declared.fault.UpsetCause.TheVariants.{TooMany}
use Rattle.upset_files.specs.declared.fault.UpsetFault.{UpsetFault}
use Rattle.upset_files.specs.declared.fault.UpsetFault.TheVariants as fault
use Rattle.upset_model.specs.declared.upset_line.UpsetLine.{UpsetLine}
use Rattle.upset_files.specs.declared.reading.TheConstants.{UPSETS}

-- lines before those that are read
abbrev pub after_lines : List UpsetLine → Result (List UpsetLine) UpsetFault → Result (List UpsetLine) UpsetFault
after_lines done (Ok later) = Ok (done ++ later)
after_lines done (Err met) = Err met

-- of a text these lines are read, and this rest is not
pub record AreLeft (most : ℕ) (conf : Conf) (begun ticks : ℕ) (done : List UpsetLine) (before : ℕ) (rest text : List ℕ) : Type 0 where
  pub few : length done ≤ most
  pub whole : after_lines done (lines_read (most - length done) conf ticks (length done + 1) before rest) ≡ lines_read most conf ticks 1 begun text

-- before the first line
pub left_first : (most : ℕ) (conf : Conf) (begun ticks : ℕ) (text : List ℕ) → AreLeft most conf begun ticks [] begun text text
left_first most conf begun ticks text =
    let all : most - 0 ≡ most = omega arith in
    record { few = omega arith; whole = ap (λ k. after_lines [] (lines_read k conf ticks 1 begun text)) all ∙ none (lines_read most conf ticks 1 begun text) }
  where
    none : (read : Result (List UpsetLine) UpsetFault) → after_lines [] read ≡ read
    none (Ok later) = refl
    none (Err met) = refl

-- after the last
left_last : (most : ℕ) (conf : Conf) (begun ticks : ℕ) (done : List UpsetLine) (before : ℕ) (rest text : List ℕ) → length rest ≡ 0 → AreLeft most conf begun ticks done before rest text → lines_read most conf ticks 1 begun text ≡ Ok done
left_last most conf begun ticks done before (byte ∷ bytes) text end left = absurd (omega (arith, end))
left_last most conf begun ticks done before [] text end left =
    sym left.whole ∙ ap (after_lines done) (none (most - length done)) ∙ ap (λ xs. Ok xs) (append-nil done)
  where
    none : (k : ℕ) → lines_read k conf ticks (length done + 1) before [] ≡ Ok []
    none zero = refl
    none (suc k) = refl

-- a line after those before it
then_line : (done : List UpsetLine) (line : UpsetLine) (read : Result (List UpsetLine) UpsetFault) → after_lines done (read >>= λ later. Ok (line ∷ later)) ≡ after_lines (done ++ line ∷ []) read
then_line done line (Ok later) = ap (λ xs. Ok xs) (sym (append_assoc done (line ∷ []) later))
then_line done line (Err met) = refl

-- where there may be lines more, the next one is read, and then the others
next_read : (most : ℕ) (conf : Conf) (ticks : ℕ) (done : List UpsetLine) (before : ℕ) (rest : List ℕ) → 0 < length rest → length done < most
    → lines_read (most - length done) conf ticks (length done + 1) before rest
    ≡ (in_line (length done + 1) (fitted_line conf ticks (length done + 1) before rest) >>= λ found. lines_read (most - (length done + 1)) conf ticks (suc (length done + 1)) (found.0).tick found.1 >>= λ later. Ok (found.0 ∷ later))
next_read most conf ticks done before [] some more = absurd (omega arith)
next_read most conf ticks done before (byte ∷ bytes) some more =
    let one : most - length done ≡ suc (most - (length done + 1)) = omega (arith, more) in
    ap (λ k. lines_read k conf ticks (length done + 1) before (byte ∷ bytes)) one

-- the next line
left_next : (most : ℕ) (conf : Conf) (begun ticks : ℕ) (done : List UpsetLine) (before : ℕ) (rest text : List ℕ) (line : UpsetLine) (after : List ℕ) → 0 < length rest
    → next_line most (length done) conf ticks before rest ≡ Ok (line, after) → AreLeft most conf begun ticks done before rest text → AreLeft most conf begun ticks (done ++ line ∷ []) line.tick after text
unfolding next_line
left_next most conf begun ticks done before rest text line after some e left = at (nat_lt (length done) most) refl e
  where
    at : (t : Bool) → nat_lt (length done) most ≡ t → cond t (in_line (length done + 1) (fitted_line conf ticks (length done + 1) before rest)) (Err (fault.Line (length done + 1) TooMany)) ≡ Ok (line, after)
        → AreLeft most conf begun ticks (done ++ line ∷ []) line.tick after text
    at false full e = absurd cc
    at true more e =
        let under : length done < most = ltb-true (length done) most more in
        let count : length (done ++ line ∷ []) ≡ length done + 1 = length-append done (line ∷ []) in
        let read = ap (after_lines done) (next_read most conf ticks done before rest some under) in
        let found = ap (λ r. after_lines done (r >>= λ found. lines_read (most - (length done + 1)) conf ticks (suc (length done + 1)) (found.0).tick found.1 >>= λ later. Ok (found.0 ∷ later))) e in
        let number : suc (length done + 1) ≡ length (done ++ line ∷ []) + 1 = omega (arith, count) in
        record {
          few = omega (arith, under, count);
          whole =
              ap (λ n. after_lines (done ++ line ∷ []) (lines_read (most - n) conf ticks (length (done ++ line ∷ []) + 1) line.tick after)) count
              ∙ ap (λ n. after_lines (done ++ line ∷ []) (lines_read (most - (length done + 1)) conf ticks n line.tick after)) (sym number)
              ∙ sym (then_line done line (lines_read (most - (length done + 1)) conf ticks (suc (length done + 1)) line.tick after)) ∙ sym found ∙ sym read ∙ left.whole;
        }

-- a fault that is answered is the one that was met
wrong_is : (one other : UpsetFault) → (let read : Result (UpsetLine × List ℕ) UpsetFault = Err one in read ≡ Err other) → one ≡ other
wrong_is one other e = cc

-- the first line that is wrong
left_wrong : (most : ℕ) (conf : Conf) (begun ticks : ℕ) (done : List UpsetLine) (before : ℕ) (rest text : List ℕ) (met : UpsetFault) → 0 < length rest
    → next_line most (length done) conf ticks before rest ≡ Err met → AreLeft most conf begun ticks done before rest text → lines_read most conf ticks 1 begun text ≡ Err met
unfolding next_line
left_wrong most conf begun ticks done before [] text met some e left = absurd (omega arith)
left_wrong most conf begun ticks done before (byte ∷ bytes) text met some e left = at (nat_lt (length done) most) refl e
  where
    at : (t : Bool) → nat_lt (length done) most ≡ t → cond t (in_line (length done + 1) (fitted_line conf ticks (length done + 1) before (byte ∷ bytes))) (Err (fault.Line (length done + 1) TooMany)) ≡ Err met
        → lines_read most conf ticks 1 begun text ≡ Err met
    at false full e =
        let few = left.few in
        let none : most - length done ≡ 0 = grind (arith, nat_tests) in
        sym left.whole ∙ ap (λ k. after_lines done (lines_read k conf ticks (length done + 1) before (byte ∷ bytes))) none ∙ ap (λ met. Err met) (wrong_is (fault.Line (length done + 1) TooMany) met e)
    at true more e =
        sym left.whole ∙ ap (after_lines done) (next_read most conf ticks done before (byte ∷ bytes) some (ltb-true (length done) most more))
        ∙ ap (λ r. after_lines done (r >>= λ found. lines_read (most - (length done + 1)) conf ticks (suc (length done + 1)) (found.0).tick found.1 >>= λ later. Ok (found.0 ∷ later))) e

-- a fault that reading gives
fails_as : {Y : Type 0} (met : UpsetFault) (read : Result Y UpsetFault) → read ≡ Err met → FailsAs met read
fails_as (fault.Line line cause) read e = e
fails_as fault.Memory read e = tt

-- all lines of a text are read
pub all_read : (conf : Conf) (begun ticks : ℕ) (done : List UpsetLine) (before : ℕ) (rest text : List ℕ) → length rest ≡ 0 → AreLeft UPSETS conf begun ticks done before rest text → upsets_from conf begun ticks text ≡ Ok done
unfolding upsets_from
all_read conf begun ticks done before rest text end left = left_last UPSETS conf begun ticks done before rest text end left

-- the next line of a text, after this many
pub line_more : (conf : Conf) (begun ticks count : ℕ) (done : List UpsetLine) (before : ℕ) (rest text : List ℕ) (line : UpsetLine) (after : List ℕ) → count ≡ length done → 0 < length rest
    → next_line UPSETS count conf ticks before rest ≡ Ok (line, after) → AreLeft UPSETS conf begun ticks done before rest text → AreLeft UPSETS conf begun ticks (done ++ line ∷ []) line.tick after text
line_more conf begun ticks count done before rest text line after same some e left =
    left_next UPSETS conf begun ticks done before rest text line after some (subst (λ n. next_line UPSETS n conf ticks before rest ≡ Ok (line, after)) same e) left

-- the fault of a text
pub fault_met : (conf : Conf) (begun ticks count : ℕ) (done : List UpsetLine) (before : ℕ) (rest text : List ℕ) (met : UpsetFault) → count ≡ length done → 0 < length rest
    → next_line UPSETS count conf ticks before rest ≡ Err met → AreLeft UPSETS conf begun ticks done before rest text → FailsAs met (upsets_from conf begun ticks text)
unfolding upsets_from
fault_met conf begun ticks count done before rest text met same some e left =
    fails_as met (upsets_from conf begun ticks text) (left_wrong UPSETS conf begun ticks done before rest text met some (subst (λ n. next_line UPSETS n conf ticks before rest ≡ Err met) same e) left)

-- what is answered is spelled
pub answer_spelled : {V : Type 0} (view : V → List UpsetLine) (answer : Result V UpsetFault) (conf : Conf) (begun ticks : ℕ) (text : List ℕ) → Gives FailsAs view answer (upsets_from conf begun ticks text)
    → IfOk answer (λ lines. AreUpsetsOf conf begun ticks text (view lines))
answer_spelled view (Ok lines) conf begun ticks text e = read_spelled conf begun ticks text (view lines) e
answer_spelled view (Err met) conf begun ticks text e = tt

-- what is spelled is answered
pub spelled_answered : {V : Type 0} (view : V → List UpsetLine) (answer : Result V UpsetFault) (conf : Conf) (begun ticks : ℕ) (text : List ℕ) → length conf.parts ≤ 2 ^ 64 → ticks ≤ 2 ^ 64
    → Gives FailsAs view answer (upsets_from conf begun ticks text) → (lines : List UpsetLine) → AreUpsetsOf conf begun ticks text lines → Gives FailsAs view answer (Ok lines)
spelled_answered view answer conf begun ticks text parts ticked e lines are = subst (λ read. Gives FailsAs view answer read) (spelled_read conf begun ticks text lines parts ticked are) e
