-- What a run from any machine shows of each partition: its own lines, and its core file.
use Rattle.std.proofs.Common.{◌≡◌, ◌≢◌, ℕ, zero, suc, ◌+◌, ◌<◌, List, [], ◌∷◌, ◌++◌, length, Option, Some, None, refl, ap, ◌∙◌, arith}
use Rattle.std.specs.Prelude.{◌==◌, Bool, true, false, slice_get}
use Rattle.std.proofs.lemmas.Bool.Decides.{nat_tests}
use Rattle.std.proofs.lemmas.List.{append-nil}
use Rattle.std.proofs.lemmas.List.Elements.{filter-append}
use Rattle.std.proofs.lemmas.Option.{get_or_from_slice_get, same_Some, slice_get-get_or}
use Rattle.xm_base.specs.Options.{on}
use Rattle.xm_report.specs.Report.{EndWhole, ReportLine, SystemLine}
use Rattle.continuation_laws.specs.Onward.{after_ticks, coming, received_from, report_from}
use Rattle.machine_model.specs.Alone.{Alone}
use Rattle.machine_model.specs.CoreFile.{core_file}
use Rattle.machine_model.specs.Facts.{KeepsNumbers}
use Rattle.machine_model.specs.Laws.{alone_part_at, part}
use Rattle.machine_model.specs.Lines.{end_line, end_lines, own, tag_of}
use Rattle.machine_model.specs.Lists.{all_of, is_number}
use Rattle.machine_model.specs.Machine.{Machine, booted_part}
use Rattle.machine_model.specs.Partition.{PartitionState}
use Rattle.machine_model.specs.View.{System, view_of}
use Rattle.system_state.specs.State.{part_at}
use Rattle.upset_laws.specs.ReportLaws.{TicksReportAlone}
use Rattle.upset_laws.specs.UpsetLaws.{AllUpsetTicks}
use Rattle.upset_model.specs.Places.{upsets_of}
use Rattle.upset_model.specs.Reports.{alone_reported, own_due, reported}
use Rattle.upset_model.specs.declared.upset_line.UpsetLine.{UpsetLine}
use Rattle.xm_commands.specs.Separation.{alone_onward, onward_report}
use Rattle.xm_commands.proofs.UpsetRunLemmas.{run_system}

-- Own lines.

pub own_append : (p : ℕ) (xs ys : List ReportLine) → own p (xs ++ ys) ≡ own p xs ++ own p ys
unfolding own
own_append p xs ys = filter-append (λ line. is_number (tag_of line) p) xs ys

own_nil : (p : ℕ) → own p [] ≡ []
unfolding own
own_nil p = refl

-- those of the end
ends_apart : (p : ℕ) (f : ℕ → PartitionState → List ReportLine) (xs : List PartitionState) → ((k : ℕ) (ps : PartitionState) → own p (f k ps) ≡ []) → own p (all_of f xs) ≡ []
ends_apart p f [] others = own_nil p
ends_apart p f (x ∷ xs) others =
    own_append p (f 0 x) (all_of (λ k. f (suc k)) xs)
    ∙ ap (λ l. l ++ own p (all_of (λ k. f (suc k)) xs)) (others 0 x)
    ∙ ends_apart p (λ k. f (suc k)) xs (λ k. others (suc k))

end_of_one : (p q : ℕ) (f : ℕ → PartitionState → List ReportLine) (xs : List PartitionState) (ps : PartitionState) → slice_get xs q ≡ Some ps
    → ((state : PartitionState) → own p (f q state) ≡ f q state) → ((k : ℕ) (other : PartitionState) → k ≢ q → own p (f k other) ≡ []) → own p (all_of f xs) ≡ f q ps
end_of_one p q f [] ps there its others = absurd cc
end_of_one p zero f (x ∷ xs) ps there its others =
    let same : x ≡ ps = same_Some x ps there in
    own_append p (f 0 x) (all_of (λ k. f (suc k)) xs)
    ∙ ap (λ l. own p (f 0 x) ++ l) (ends_apart p (λ k. f (suc k)) xs (λ k other. others (suc k) other (λ e. absurd (omega (arith, e)))))
    ∙ append-nil (own p (f 0 x)) ∙ its x ∙ ap (f 0) same
end_of_one p (suc q) f (x ∷ xs) ps there its others =
    own_append p (f 0 x) (all_of (λ k. f (suc k)) xs)
    ∙ ap (λ l. l ++ own p (all_of (λ k. f (suc k)) xs)) (others 0 x (λ e. absurd (omega (arith, e))))
    ∙ end_of_one p q (λ k. f (suc k)) xs ps there its (λ k other not_q. others (suc k) other (λ e. not_q (omega (arith, e))))

its_end : (p : ℕ) (ps : PartitionState) → own p (end_line p ps ∷ []) ≡ end_line p ps ∷ []
unfolding own
its_end p ps = (let its : (p == p) ≡ true = grind (arith, nat_tests) in rw its refl)

other_end : (p q : ℕ) (ps : PartitionState) → q ≢ p → own p (end_line q ps ∷ []) ≡ []
unfolding own
other_end p q ps differ = (let other : (q == p) ≡ false = grind (arith, nat_tests) in rw other refl)

last_own : (p : ℕ) (halted : Bool) (plan clock ticks : ℕ) → own p (EndWhole halted plan clock ticks ∷ []) ≡ []
unfolding own
last_own p halted plan clock ticks = refl

ends_own : (g : Machine) (p : ℕ) (ps : PartitionState) → slice_get g.parts p ≡ Some ps → own p (end_lines g) ≡ end_line p ps ∷ []
unfolding end_lines
ends_own g p ps there =
    own_append p (all_of (λ q other. end_line q other ∷ []) g.parts) (EndWhole g.halted g.clock.plan g.time g.ticks ∷ [])
    ∙ ap (λ l. own p (all_of (λ q other. end_line q other ∷ []) g.parts) ++ l) (last_own p g.halted g.clock.plan g.time g.ticks)
    ∙ append-nil (own p (all_of (λ q other. end_line q other ∷ []) g.parts))
    ∙ end_of_one p p (λ q other. end_line q other ∷ []) g.parts ps there (its_end p) (λ k other differ. other_end p k other differ)

first_own : (p parts plans ticks : ℕ) (rest : List ReportLine) → own p (SystemLine parts plans ticks ∷ rest) ≡ own p rest
unfolding own
first_own p parts plans ticks rest = refl

-- A partition's part of a machine.

state_at : (g : Machine) (p : ℕ) (a : Alone) (o : Option PartitionState) → on (part g p) o ≡ Some a → o ≡ Some a.state
unfolding part
state_at g p a None is = absurd cc
state_at g p a (Some ps) is = ap (λ (b : Alone). Some b.state) (same_Some (part g p ps) a is)

state_there : (g : Machine) (p : ℕ) (a : Alone) → alone_part_at g p ≡ Some a → slice_get g.parts p ≡ Some a.state
unfolding alone_part_at
state_there g p a is = state_at g p a (slice_get g.parts p) is

-- Runs from a machine on.

-- the laws of partitions alone in runs with upsets
pub record OnwardLaws : Type 0 where
  pub numbers : KeepsNumbers
  pub ticks : AllUpsetTicks
  pub reports : TicksReportAlone

-- each partition's own lines are those of that partition alone, and so is its core file
pub record AreOnward (upsets : List UpsetLine) (g : Machine) (ticks : ℕ) : Type 0 where
  pub lines : (p : ℕ) → p < length g.system.conf.parts → own p (report_from upsets g ticks) ≡ onward_report upsets g p ticks
  pub core_file : (p : ℕ) → p < length g.system.conf.parts
      → core_file (view_of (after_ticks upsets g ticks).system p) (part_at p (after_ticks upsets g ticks)) ≡ core_file (view_of g.system p) (alone_onward upsets g p ticks).state

module _ (laws : OnwardLaws) (upsets : List UpsetLine) (g : Machine) (ticks : ℕ) (counted : length g.parts ≡ length g.system.conf.parts) (p : ℕ) (below : p < length g.system.conf.parts) where
  -- the partition is there before
  there : slice_get g.parts p ≡ Some (part_at p g)
  there = slice_get-get_or g.parts p (booted_part g.system p) (omega (arith, below, counted))

  -- and after
  after_there : slice_get (after_ticks upsets g ticks).parts p ≡ Some (alone_onward upsets g p ticks).state
  after_there = state_there (after_ticks upsets g ticks) p (alone_onward upsets g p ticks) (laws.ticks ticks (upsets_of (coming upsets g)) g p (part_at p g) there).state

  lines_onward : own p (report_from upsets g ticks) ≡ onward_report upsets g p ticks
  unfolding report_from
  lines_onward =
      first_own p (length g.system.conf.parts) (length g.system.conf.plans) _ (reported (coming upsets g) g ticks ++ end_lines (after_ticks upsets g ticks))
      ∙ own_append p (reported (coming upsets g) g ticks) (end_lines (after_ticks upsets g ticks))
      ∙ ap (λ l. l ++ own p (end_lines (after_ticks upsets g ticks))) (laws.reports (coming upsets g) g p (part_at p g) ticks there)
      ∙ ap (λ l. alone_reported (view_of g.system p) (λ k. own_due p upsets (g.ticks + k)) (part g p (part_at p g)) (received_from upsets g p ticks) ++ l)
      (ends_own (after_ticks upsets g ticks) p (alone_onward upsets g p ticks).state after_there)

  core_onward : core_file (view_of (after_ticks upsets g ticks).system p) (part_at p (after_ticks upsets g ticks)) ≡ core_file (view_of g.system p) (alone_onward upsets g p ticks).state
  core_onward =
      ap (core_file (view_of (after_ticks upsets g ticks).system p))
      (get_or_from_slice_get (after_ticks upsets g ticks).parts p (alone_onward upsets g p ticks).state (booted_part (after_ticks upsets g ticks).system p) after_there)
      ∙ ap (λ (s : System). core_file (view_of s p) (alone_onward upsets g p ticks).state) (run_system laws.numbers ticks (upsets_of (coming upsets g)) g)

pub are_onward : OnwardLaws → (upsets : List UpsetLine) (g : Machine) (ticks : ℕ) → length g.parts ≡ length g.system.conf.parts → AreOnward upsets g ticks
are_onward laws upsets g ticks counted = record {
  lines = λ p below. lines_onward laws upsets g ticks counted p below;
  core_file = λ p below. core_onward laws upsets g ticks counted p below;
}
