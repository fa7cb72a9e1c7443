-- Lines that go out one after the other.
use Rattle.std.proofs.Common.{◌≡◌, ℕ, suc, ◌+◌, ◌<◌, List, [], ◌∷◌, ◌++◌, length, drop, get_or, map, Option, refl, sym, ap, ◌∙◌, subst, arith, append_assoc, length-append}
use Rattle.std.specs.Prelude.{All}
use Rattle.std.proofs.lemmas.List.{append-nil, get_or-map, length-map}
use Rattle.std.proofs.Math.Seq.{drop-cons}
use Rattle.xm_outside.specs.Growth.{grown, GrewByPrefix}
use Rattle.xm_outside.specs.lemmas.GrowthLemmas.{grown_grown, prefix_first, prefix_second}
use Rattle.xm_report.specs.Report.{IsShort, ReportLine, line_value, text_of, texts}
use Rattle.xm_report.specs.lemmas.ReportLemmas.{texts-append}
use Rattle.xm_report.specs.declared.line.Line.{Line}
use Rattle.machine_model.specs.Lines.{end_line}
use Rattle.machine_model.specs.Lists.{all_of}
use Rattle.machine_model.specs.Partition.{PartitionState}

-- the first lines of all went out, this many, and these are left
pub record AreOut (all rest : List ReportLine) (count : ℕ) (had got : Option (List ℕ)) : Type 0 where
  pub front : List ReportLine
  pub these : all ≡ front ++ rest
  pub out : got ≡ grown had (texts front)
  pub printed : count ≡ length front

-- lines that went out, and others after them that did, too
pub both_out : (before after : List ReportLine) (had mid got : Option (List ℕ)) → mid ≡ grown had (texts before) → got ≡ grown mid (texts after) → got ≡ grown had (texts (before ++ after))
both_out before after had mid got first second =
    second ∙ ap (λ (m : Option (List ℕ)). grown m (texts after)) first ∙ grown_grown had (texts before) (texts after) ∙ ap (grown had) (sym (texts-append before after))

-- lines that went out, and others after them that did not all
pub rest_cut : (before after : List ReportLine) (had mid got : Option (List ℕ)) → mid ≡ grown had (texts before) → GrewByPrefix mid (texts after) got → GrewByPrefix had (texts (before ++ after)) got
rest_cut before after had mid got first cut = subst (λ (bytes : List ℕ). GrewByPrefix had bytes got) (sym (texts-append before after)) (prefix_second had mid got (texts before) (texts after) first cut)

-- lines that did not all go out, with others after them
pub first_cut : (before after : List ReportLine) (had got : Option (List ℕ)) → GrewByPrefix had (texts before) got → GrewByPrefix had (texts (before ++ after)) got
first_cut before after had got cut = subst (λ (bytes : List ℕ). GrewByPrefix had bytes got) (sym (texts-append before after)) (prefix_first had got (texts before) (texts after) cut)

-- one line
pub one_line : (line : ReportLine) (had got : Option (List ℕ)) → got ≡ grown had (text_of line) → got ≡ grown had (texts (line ∷ []))
one_line line had got put = put ∙ ap (grown had) (sym (append-nil (text_of line)))

pub one_cut : (line : ReportLine) (had got : Option (List ℕ)) → GrewByPrefix had (text_of line) got → GrewByPrefix had (texts (line ∷ [])) got
one_cut line had got cut = subst (λ (bytes : List ℕ). GrewByPrefix had bytes got) (sym (append-nil (text_of line))) cut

-- the next line went out
pub more_out : (all rest : List ReportLine) (line : ReportLine) (count : ℕ) (had mid got : Option (List ℕ)) → AreOut all (line ∷ rest) count had mid → got ≡ grown mid (text_of line) → AreOut all rest (count + 1) had got
more_out all rest line count had mid got are put = record {
  front = are.front ++ line ∷ [];
  these = are.these ∙ sym (append_assoc are.front (line ∷ []) rest);
  out = both_out are.front (line ∷ []) had mid got are.out (one_line line mid got put);
  printed = omega (arith, length-append are.front (line ∷ []), are.printed);
}

-- the next line did not go out whole
pub out_cut : (all rest : List ReportLine) (line : ReportLine) (count : ℕ) (had mid got : Option (List ℕ)) → AreOut all (line ∷ rest) count had mid → GrewByPrefix mid (text_of line) got → GrewByPrefix had (texts all) got
out_cut all rest line count had mid got are cut =
    subst (λ (lines : List ReportLine). GrewByPrefix had (texts lines) got) (sym are.these)
    (rest_cut are.front (line ∷ rest) had mid got are.out (first_cut (line ∷ []) rest mid got (one_cut line mid got cut)))

-- the next line of a list
pub next_line : (lines : List Line) (i : ℕ) (other : Line) → i < length lines → map line_value (drop i lines) ≡ line_value (get_or lines i other) ∷ map line_value (drop (i + 1) lines)
next_line lines i other below =
    let one : suc i ≡ i + 1 = omega arith in
    ap (map line_value) (drop-cons lines i other below) ∙ ap (λ (k : ℕ). line_value (get_or lines i other) ∷ map line_value (drop k lines)) one

-- a line of a list is short where all are
pub short_line : (lines : List Line) (i : ℕ) (other : Line) → All IsShort (map line_value lines) → i < length lines → IsShort (line_value (get_or lines i other))
short_line lines i other short below =
    subst IsShort (get_or-map line_value lines i other (line_value other) below) (short i (line_value other) (omega (arith, below, length-map lines line_value)))

-- the lines of partitions' ends, from a number on
abbrev pub ends_from : ℕ → List PartitionState → List ReportLine
ends_from n parts = all_of (λ p ps. end_line (n + p) ps ∷ []) parts

-- passes that add the same
all_of-same : {X : Type 0} (f g : ℕ → X → List ReportLine) (xs : List X) → ((n : ℕ) (x : X) → f n x ≡ g n x) → all_of f xs ≡ all_of g xs
all_of-same f g [] same = refl
all_of-same f g (x ∷ xs) same = rw (same 0 x, all_of-same (λ k. f (suc k)) (λ k. g (suc k)) xs (λ n y. same (suc n) y)) refl

-- the first of them, and the others
ends_first : (n : ℕ) (ps : PartitionState) (parts : List PartitionState) → ends_from n (ps ∷ parts) ≡ end_line n ps ∷ ends_from (n + 1) parts
ends_first n ps parts =
    let here : n + 0 ≡ n = omega arith in
    ap (λ (k : ℕ). end_line k ps ∷ all_of (λ p x. end_line (n + suc p) x ∷ []) parts) here
    ∙ ap (λ (rest : List ReportLine). end_line n ps ∷ rest)
    (all_of-same (λ p x. end_line (n + suc p) x ∷ []) (λ p x. end_line (n + 1 + p) x ∷ []) parts (λ p x. let same : n + suc p ≡ n + 1 + p = omega arith in ap (λ (k : ℕ). end_line k x ∷ []) same))

-- the ends of the partitions that are left
pub next_end : (p : ℕ) (parts : List PartitionState) (other : PartitionState) → p < length parts → ends_from p (drop p parts) ≡ end_line p (get_or parts p other) ∷ ends_from (p + 1) (drop (p + 1) parts)
next_end p parts other below =
    let one : suc p ≡ p + 1 = omega arith in
    ap (ends_from p) (drop-cons parts p other below) ∙ ends_first p (get_or parts p other) (drop (suc p) parts)
    ∙ ap (λ (k : ℕ). end_line p (get_or parts p other) ∷ ends_from (p + 1) (drop k parts)) one
