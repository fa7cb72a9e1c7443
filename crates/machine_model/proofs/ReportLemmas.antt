-- A partition's own lines of a report.
use Rattle.std.proofs.Common.{◌≡◌, ℕ, Bool, true, false, List, [], ◌∷◌, ◌++◌, length, Option, None, Some, refl, ap, ◌∙◌}
use Rattle.std.specs.Prelude.{slice_get, ◌==◌}
use Rattle.std.proofs.lemmas.List.{append-nil}
use Rattle.std.proofs.lemmas.Option.{same_Some}
use Rattle.xm_base.specs.Options.{on}
use Rattle.xm_report.specs.Report.{EndWhole, ReportLine, SystemLine}
use Rattle.machine_model.specs.Alone.{Alone, alone_from, alone_lines, alone_start}
use Rattle.machine_model.specs.Cue.{script}
use Rattle.machine_model.specs.Laws.{OwnLines, part, alone_part_at}
use Rattle.machine_model.specs.Lines.{end_line, end_lines, lines, own, report}
use Rattle.machine_model.specs.Lists.{all_of}
use Rattle.machine_model.specs.Machine.{Machine, run, start}
use Rattle.machine_model.specs.Partition.{PartitionState}
use Rattle.machine_model.specs.View.{view_of}
use Rattle.machine_model.proofs.LineLemmas.{eqb_not, eqb_of, own_append, own_at}
use Rattle.machine_model.proofs.StartLemmas.{starts_alone}

-- the state of a partition's part
state_at : (g : Machine) (p : ℕ) (a : Alone) (o : Option PartitionState) → on (part g p) o ≡ Some a → o ≡ Some a.state
unfolding part
state_at g p a None is = absurd cc
state_at g p a (Some ps) is = ap (λ b. Some b.state) (same_Some (part g p ps) a is)

pub state_there : (g : Machine) (p : ℕ) (a : Alone) → alone_part_at g p ≡ Some a → slice_get g.parts p ≡ Some a.state
unfolding alone_part_at
state_there g p a is = state_at g p a (slice_get g.parts p) is

-- the line of an end has its partition's tag
end_its : (p q : ℕ) (ps : PartitionState) → (q == p) ≡ true → own p (end_line q ps ∷ []) ≡ end_line q ps ∷ []
unfolding own
end_its p q ps its = rw its refl

end_others : (p q : ℕ) (ps : PartitionState) → (q == p) ≡ false → own p (end_line q ps ∷ []) ≡ []
unfolding own
end_others p q ps its = rw its refl

last_own : (p : ℕ) (halted : Bool) (plan clock ticks : ℕ) → own p (EndWhole halted plan clock ticks ∷ []) ≡ []
unfolding own
last_own p halted plan clock ticks = refl

ends_own : (g : Machine) (p : ℕ) (ps : PartitionState) → slice_get g.parts p ≡ Some ps → own p (end_lines g) ≡ end_line p ps ∷ []
unfolding end_lines
ends_own g p ps there =
    own_append p (all_of (λ q other. end_line q other ∷ []) g.parts) (EndWhole g.halted g.clock.plan g.time g.ticks ∷ [])
    ∙ ap (λ l. own p (all_of (λ q other. end_line q other ∷ []) g.parts) ++ l) (last_own p g.halted g.clock.plan g.time g.ticks)
    ∙ append-nil (own p (all_of (λ q other. end_line q other ∷ []) g.parts))
    ∙ own_at p p (λ q other. end_line q other ∷ []) g.parts ps there (end_its p p ps (eqb_of p p refl)) (λ k other not_p. end_others p k other (eqb_not k p not_p))

first_own : (p parts plans ticks : ℕ) (rest : List ReportLine) → own p (SystemLine parts plans ticks ∷ rest) ≡ own p rest
unfolding own
first_own p parts plans ticks rest = refl

pub own_lines : OwnLines
unfolding report
own_lines system p count below =
    let alone = starts_alone system p count below in
    first_own p (length system.conf.parts) (length system.conf.plans) count (lines (start system) count ++ end_lines (run (start system) count))
    ∙ own_append p (lines (start system) count) (end_lines (run (start system) count))
    ∙ ap (λ l. l ++ own p (end_lines (run (start system) count))) alone.lines
    ∙ ap (λ l. alone_lines (view_of system p) (alone_start (view_of system p)) (script (start system) p count) ++ l)
    (ends_own (run (start system) count) p (alone_from (view_of system p) (alone_start (view_of system p)) (script (start system) p count)).state
    (state_there (run (start system) count) p (alone_from (view_of system p) (alone_start (view_of system p)) (script (start system) p count)) alone.state))
