-- A fault is that of the first line that is wrong.
use Rattle.std.proofs.Common.{◌≡◌, ℕ, zero, suc, ◌+◌, ◌<◌, List, [], ◌∷◌, ◌++◌, length, Result, Ok, Err, append_assoc, refl, sym, ap, ◌∙◌, ◌⊎◌, inl, inr, arith}
use Rattle.file_headers.specs.Steps.{◌>>=◌}
use Rattle.xm_conf.specs.Configuration.{Conf}
use Rattle.upset_files.proofs.ReadingLemmas.{first_is}
use Rattle.upset_files.specs.Fits.{AllFit}
use Rattle.upset_files.specs.Laws.{FaultsAreFirst, last_tick}
use Rattle.upset_files.specs.Reading.{fitted_line, in_line, lines_read, upsets_from}
use Rattle.upset_files.specs.Spelling.{upset_text, upsets_text}
use Rattle.upset_files.specs.declared.fault.UpsetCause.{UpsetCause}
use Rattle.upset_files.specs.declared.fault.UpsetCause.TheVariants.{TooMany}
use Rattle.upset_files.specs.declared.fault.UpsetFault.{UpsetFault}
use Rattle.upset_files.specs.declared.fault.UpsetFault.TheVariants as fault
use Rattle.upset_files.specs.declared.reading.TheConstants.{UPSETS}
use Rattle.upset_model.specs.declared.upset_line.UpsetLine.{UpsetLine}

-- the first line that is wrong, where there may be this many, the first of them with a number
record IsWrongFrom (most : ℕ) (conf : Conf) (ticks first before : ℕ) (text : List ℕ) (number : ℕ) (cause : UpsetCause) : Type 0 where
  lines : List UpsetLine
  rest : List ℕ
  spelled : text ≡ upsets_text lines ++ rest
  fit : AllFit conf ticks before lines
  number_is : number ≡ first + length lines
  begins : 0 < length rest
  wrong : ((length lines ≡ most) × (cause ≡ TooMany)) ⊎ ((length lines < most) × (fitted_line conf ticks number (last_tick before lines) rest ≡ Err cause))

-- the parts of a fault
same_line : (a b : ℕ) (c d : UpsetCause) → (let read : Result (List UpsetLine) UpsetFault = Err (fault.Line a c) in read ≡ Err (fault.Line b d)) → (b ≡ a) × (d ≡ c)
same_line a b c d e = (cc, cc)

wrong_from : (most : ℕ) (conf : Conf) (ticks first before : ℕ) (text : List ℕ) (number : ℕ) (cause : UpsetCause) → lines_read most conf ticks first before text ≡ Err (fault.Line number cause)
    → IsWrongFrom most conf ticks first before text number cause
wrong_from zero conf ticks first before [] number cause e = absurd cc
wrong_from zero conf ticks first before (byte ∷ bytes) number cause e =
    let same = same_line first number TooMany cause e in
    record { lines = []; rest = byte ∷ bytes; spelled = refl; fit = tt; number_is = omega (arith, same.0); begins = omega arith; wrong = inl (refl, same.1) }
wrong_from (suc most) conf ticks first before [] number cause e = absurd cc
wrong_from (suc most) conf ticks first before (byte ∷ bytes) number cause e =
    at (fitted_line conf ticks first before (byte ∷ bytes)) refl (λ found wrong. wrong_from most conf ticks (suc first) (found.0).tick found.1 number cause wrong) e
  where
    later : (found : UpsetLine × List ℕ) (read : Result (List UpsetLine) UpsetFault) → (read >>= λ lines. Ok (found.0 ∷ lines)) ≡ Err (fault.Line number cause) → read ≡ Err (fault.Line number cause)
    later found (Ok lines) e = absurd cc
    later found (Err met) e = cc

    at : (read : Result (UpsetLine × List ℕ) UpsetCause) → fitted_line conf ticks first before (byte ∷ bytes) ≡ read
        → ((found : UpsetLine × List ℕ) → lines_read most conf ticks (suc first) (found.0).tick found.1 ≡ Err (fault.Line number cause) → IsWrongFrom most conf ticks (suc first) (found.0).tick found.1 number cause)
        → (in_line first read >>= λ found. lines_read most conf ticks (suc first) (found.0).tick found.1 >>= λ lines. Ok (found.0 ∷ lines)) ≡ Err (fault.Line number cause)
        → IsWrongFrom (suc most) conf ticks first before (byte ∷ bytes) number cause
    at (Err met) is more e =
        let same = same_line first number met cause e in
        record { lines = []; rest = byte ∷ bytes; spelled = refl; fit = tt; number_is = omega (arith, same.0); begins = omega arith; wrong = inr (omega arith, ap (λ n. fitted_line conf ticks n before (byte ∷ bytes)) same.0 ∙ is ∙ ap (λ c. Err c) (sym same.1)) }
    at (Ok found) is more e =
        let line = first_is conf ticks first before (byte ∷ bytes) found.0 found.1 is in
        let others = more found (later found (lines_read most conf ticks (suc first) (found.0).tick found.1) e) in
        let number_is = others.number_is in
        record {
          lines = found.0 ∷ others.lines;
          rest = others.rest;
          spelled = line.0 ∙ ap (λ rest. upset_text found.0 ++ rest) others.spelled ∙ sym (append_assoc (upset_text found.0) (upsets_text others.lines) others.rest);
          fit = (line.1, others.fit);
          number_is = omega (arith, number_is);
          begins = others.begins;
          wrong = elim others.wrong [ inl full ↦ inl (ap suc full.0, full.1) | inr wrong ↦ inr (omega (arith, wrong.0), wrong.1) ];
        }

pub faults_first : FaultsAreFirst
unfolding upsets_from
faults_first conf begun ticks text number cause e =
    let wrong = wrong_from UPSETS conf ticks 1 begun text number cause e in
    let first_is = wrong.number_is in
    let number_is : number ≡ length wrong.lines + 1 = omega (arith, first_is) in
    record {
      lines = wrong.lines;
      rest = wrong.rest;
      spelled = wrong.spelled;
      fit = wrong.fit;
      number_is = number_is;
      begins = wrong.begins;
      wrong = elim wrong.wrong [ inl full ↦ inl full | inr wrongly ↦ inr (wrongly.0, ap (λ n. fitted_line conf ticks n (last_tick begun wrong.lines) wrong.rest) (sym number_is) ∙ wrongly.1) ];
    }
