-- The upsets of a script that are still to come, tick by tick, and the lines of those that are a partition's own.
use Rattle.std.proofs.Common.{◌≡◌, ℕ, suc, ◌+◌, ◌<◌, ◌≤◌, Bool, true, false, List, [], ◌∷◌, ◌++◌, drop, get_or, length, map, Option, refl, sym, ap, subst, ◌∙◌, arith, append_assoc}
use Rattle.std.specs.Prelude.{All, ◌==◌, if◌then◌else◌}
use Rattle.std.proofs.Math.Seq.{drop-cons}
use Rattle.std.proofs.lemmas.List.{append-nil, drop_all}
use Rattle.xm_outside.specs.Growth.{GrewByPrefix, grown}
use Rattle.xm_outside.specs.lemmas.GrowthLemmas.{grown-nothing, grown_grown, prefix_first, prefix_second}
use Rattle.xm_report.specs.Report.{ReportLine, text_of, texts}
use Rattle.xm_report.specs.lemmas.ReportLemmas.{texts-append}
use Rattle.xm_report.specs.declared.place.Place.TheVariants.{Global}
use Rattle.xm_conf.specs.Configuration.{Conf}
use Rattle.machine_model.specs.Facts.{IsComplete}
use Rattle.machine_model.specs.Machine.{Machine}
use Rattle.machine_model.specs.View.{System, view_of}
use Rattle.replay_model.specs.Step.{IsOfSystem}
use Rattle.upset_files.specs.Fits.{AllFit}
use Rattle.upset_files.specs.Laws.{UpsetsMayStrike}
use Rattle.upset_model.specs.Coming.{AreOrdered}
use Rattle.upset_model.specs.Places.{due, lines_for}
use Rattle.upset_model.specs.Reports.{struck_line}
use Rattle.upset_model.specs.lemmas.ComingLemmas.{ordered_from}
use Rattle.upset_model.specs.lemmas.Segments.{AreNoneLater, from, from_at}
use Rattle.upset_model.specs.declared.upset_line.UpsetLine.{UpsetLine}
use Rattle.xm_machine.specs.Striking.{MayStrike}
use Rattle.xm_machine.specs.lemmas.StrikingLemmas.{due_strike, fits_ordered, fits_strike, may_strike}
use Rattle.xm_alone.specs.lemmas.Struck.{own_at}
use Rattle.xm_alone.proofs.FollowLemmas.{from_here}

-- from a tick on these upsets are to come
pub record AreComing (upsets : List UpsetLine) (tick : ℕ) (coming : List UpsetLine) : Type 0 where
  pub ordered : AreOrdered tick coming
  pub same : (k : ℕ) → tick ≤ k → due coming k ≡ due upsets k

pub all_coming : (conf : Conf) (ticks : ℕ) (upsets coming : List UpsetLine) → coming ≡ upsets → AllFit conf ticks 0 upsets → AreComing upsets 0 coming
all_coming conf ticks upsets coming all fit = record {
  ordered = subst (AreOrdered 0) (sym all) (fits_ordered conf ticks 0 upsets fit);
  same = λ k later. ap (λ (lines : List UpsetLine). due lines k) all;
}

pub coming_on : (upsets : List UpsetLine) (tick ticks most : ℕ) (coming next : List UpsetLine) → AreComing upsets tick coming → 0 < ticks → ticks ≤ most
    → ((k : ℕ) → tick < k → due next k ≡ due coming k) → AreOrdered (tick + most) next → AreComing upsets (tick + ticks) next
coming_on upsets tick ticks most coming next are some within later ordered = record {
  ordered = ordered_from (tick + ticks) (tick + most) next (omega (arith, within)) ordered;
  same = λ k more. later k (omega (arith, more, some)) ∙ are.same k (omega (arith, more));
}

-- the view of partition p is that of its number
view_number : (system : System) (p : ℕ) → (view_of system p).id ≡ p
unfolding view_of
view_number system p = refl

-- those of the partition that strike before the next tick, and those before the ticks after it
module _ (upsets : List UpsetLine) (system : System) (p tick : ℕ) (coming : List UpsetLine) (are : AreComing upsets tick coming) where
  pub own_now : (lines : List UpsetLine) → lines ≡ due coming tick → from tick (own_at upsets (view_of system p)) 0 ≡ lines_for p lines
  own_now lines these =
      from_here tick (own_at upsets (view_of system p)) ∙ ap (λ q. lines_for q (due upsets tick)) (view_number system p)
      ∙ ap (lines_for p) (sym (are.same tick (omega arith)) ∙ sym these)

  pub own_later : (most : ℕ) → ((k : ℕ) → tick < k → k < tick + most → due coming k ≡ []) → AreNoneLater most (from tick (own_at upsets (view_of system p)))
  own_later most none k below =
      from_at tick (suc k) (own_at upsets (view_of system p))
      ∙ ap (lines_for (view_of system p).id) (sym (are.same (tick + suc k) (omega arith)) ∙ none (tick + suc k) (omega arith) (omega (arith, below)))

-- they may strike the machine
pub coming_strike : UpsetsMayStrike → (upsets : List UpsetLine) (ticks tick : ℕ) (coming lines : List UpsetLine) (old now : Machine) → IsComplete old → AllFit old.system.conf ticks 0 upsets → IsOfSystem old now
    → AreComing upsets tick coming → lines ≡ due coming tick → All (MayStrike now) lines
coming_strike law upsets ticks tick coming lines old now complete fit same are these =
    subst (All (MayStrike now)) (sym (these ∙ are.same tick (omega arith)))
    (λ k d below. may_strike old now (get_or (due upsets tick) k d) same.system same.parts (due_strike old tick upsets (fits_strike law old ticks 0 upsets complete fit) k d below))

-- some line
abbrev pub some_upset : UpsetLine
some_upset = record { tick = 0; part = 0; place = Global 0; bit = 0 }

pub next_upset : (lines : List UpsetLine) (k : ℕ) → k < length lines → drop k lines ≡ get_or lines k some_upset ∷ drop (k + 1) lines
next_upset lines k below =
    let one : suc k ≡ k + 1 = omega arith in
    drop-cons lines k some_upset below ∙ ap (λ (n : ℕ). get_or lines k some_upset ∷ drop n lines) one

-- the report's lines of those upsets that are the partition's own
abbrev pub own_struck : ℕ → List UpsetLine → List ReportLine
own_struck p lines = map struck_line (lines_for p lines)

own_first : (p : ℕ) (line : UpsetLine) (lines : List UpsetLine) → own_struck p (line ∷ lines) ≡ own_struck p (line ∷ []) ++ own_struck p lines
own_first p line lines = at (line.part == p)
  where
    at : (b : Bool) → map struck_line (if b then line ∷ lines_for p lines else lines_for p lines) ≡ map struck_line (if b then line ∷ [] else []) ++ own_struck p lines
    at true = refl
    at false = refl

-- those of the first upsets went out, and these are left
pub record AreOut (p : ℕ) (all rest : List UpsetLine) (had got : Option (List ℕ)) : Type 0 where
  pub front : List ReportLine
  pub split : own_struck p all ≡ front ++ own_struck p rest
  pub report : got ≡ grown had (texts front)

pub none_out : (p : ℕ) (all : List UpsetLine) (had : Option (List ℕ)) → AreOut p all all had had
none_out p all had = record { front = []; split = refl; report = sym (grown-nothing had) }

pub more_out : (p : ℕ) (all : List UpsetLine) (line : UpsetLine) (rest : List UpsetLine) (had mid got : Option (List ℕ)) → AreOut p all (line ∷ rest) had mid → got ≡ grown mid (texts (own_struck p (line ∷ []))) → AreOut p all rest had got
more_out p all line rest had mid got are put = record {
  front = are.front ++ own_struck p (line ∷ []);
  split = are.split ∙ ap (λ (lines : List ReportLine). are.front ++ lines) (own_first p line rest) ∙ sym (append_assoc are.front (own_struck p (line ∷ [])) (own_struck p rest));
  report = put ∙ ap (λ m. grown m (texts (own_struck p (line ∷ [])))) are.report ∙ grown_grown had (texts are.front) (texts (own_struck p (line ∷ [])))
      ∙ ap (grown had) (sym (texts-append are.front (own_struck p (line ∷ []))));
}

pub out_cut : (p : ℕ) (all : List UpsetLine) (line : UpsetLine) (rest : List UpsetLine) (had mid got : Option (List ℕ)) → AreOut p all (line ∷ rest) had mid → GrewByPrefix mid (texts (own_struck p (line ∷ []))) got
    → GrewByPrefix had (texts (own_struck p all)) got
out_cut p all line rest had mid got are cut =
    let one = own_struck p (line ∷ []) in
    let others = own_struck p rest in
    let cut_rest : GrewByPrefix mid (texts (one ++ others)) got = subst (λ (bytes : List ℕ). GrewByPrefix mid bytes got) (sym (texts-append one others)) (prefix_first mid got (texts one) (texts others) cut) in
    let cut_all : GrewByPrefix had (texts (are.front ++ (one ++ others))) got =
    subst (λ (bytes : List ℕ). GrewByPrefix had bytes got) (sym (texts-append are.front (one ++ others))) (prefix_second had mid got (texts are.front) (texts (one ++ others)) are.report cut_rest) in
    subst (λ (lines : List ReportLine). GrewByPrefix had (texts lines) got) (sym (are.split ∙ ap (λ (lines : List ReportLine). are.front ++ lines) (own_first p line rest))) cut_all

pub all_out : (p : ℕ) (all : List UpsetLine) (k : ℕ) (had got : Option (List ℕ)) → length all ≤ k → AreOut p all (drop k all) had got → got ≡ grown had (texts (own_struck p all))
all_out p all k had got past are =
    let whole : own_struck p all ≡ are.front = are.split ∙ ap (λ (lines : List UpsetLine). are.front ++ own_struck p lines) (drop_all k all past) ∙ append-nil are.front in
    are.report ∙ ap (λ (lines : List ReportLine). grown had (texts lines)) (sym whole)

-- one line
pub its_line : (b : Bool) (line : UpsetLine) → b ≡ true → text_of (struck_line line) ≡ texts (map struck_line (if b then line ∷ [] else []))
its_line true line its = sym (append-nil (text_of (struck_line line)))
its_line false line its = absurd (cc)

pub no_line : (b : Bool) (line : UpsetLine) (had : Option (List ℕ)) → b ≡ false → had ≡ grown had (texts (map struck_line (if b then line ∷ [] else [])))
no_line true line had other = absurd (cc)
no_line false line had other = sym (grown-nothing had)
