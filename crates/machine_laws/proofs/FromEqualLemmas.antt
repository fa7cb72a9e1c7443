-- Two runs from any two machines in which a partition is the same.
use Rattle.std.proofs.Common.{◌≡◌, ℕ, Option, None, Some, refl, sym, ap, ◌∙◌}
use Rattle.std.specs.Prelude.{slice_get}
use Rattle.std.proofs.lemmas.Option.{same_Some}
use Rattle.xm_base.specs.Options.{on}
use Rattle.machine_model.specs.Alone.{Alone, alone_from, alone_lines, alone_said}
use Rattle.machine_model.specs.CoreFile.{core_file}
use Rattle.machine_model.specs.Cue.{script}
use Rattle.machine_model.specs.Facts.{RunsKeepNumbers}
use Rattle.machine_model.specs.Laws.{AllTicks, EarlierScripts, RunsAlone, alone_part_at, core_file_of, part}
use Rattle.machine_model.specs.Machine.{Machine, run}
use Rattle.machine_model.specs.Partition.{PartitionState}
use Rattle.machine_model.specs.View.{view_of}
use Rattle.machine_laws.specs.FromEqual.{AreEqualFrom, TwoRunsFrom}

-- a partition's part of a machine, by its state there
pub part_there : (g : Machine) (p : ℕ) (ps : PartitionState) → slice_get g.parts p ≡ Some ps → alone_part_at g p ≡ Some (part g p ps)
unfolding alone_part_at
part_there g p ps there = ap (on (part g p)) there

pub part_state : (g : Machine) (p : ℕ) (ps : PartitionState) → (part g p ps).state ≡ ps
unfolding part
part_state g p ps = refl

state_at : (g : Machine) (p : ℕ) (a : Alone) (o : Option PartitionState) → on (part g p) o ≡ Some a → o ≡ Some a.state
unfolding part
state_at g p a None is = absurd cc
state_at g p a (Some ps) is = ap (λ b. Some b.state) (same_Some (part g p ps) a is)

pub state_there : (g : Machine) (p : ℕ) (a : Alone) → alone_part_at g p ≡ Some a → slice_get g.parts p ≡ Some a.state
unfolding alone_part_at
state_there g p a is = state_at g p a (slice_get g.parts p) is

-- its core file, by its part after a run
file_there : (g : Machine) (p : ℕ) (a : Alone) → slice_get g.parts p ≡ Some a.state → core_file_of g p ≡ Some (core_file (view_of g.system p) a.state)
unfolding core_file_of
file_there g p a there = ap (on (core_file (view_of g.system p))) there

file_is : RunsKeepNumbers → (count : ℕ) (g : Machine) (p : ℕ) (a : Alone) → alone_part_at (run g count) p ≡ Some a → core_file_of (run g count) p ≡ Some (core_file (view_of g.system p) a.state)
file_is numbers count g p a is =
    file_there (run g count) p a (state_there (run g count) p a is) ∙ ap (λ system. Some (core_file (view_of system p) a.state)) (numbers g count).system

-- both runs are the run of the partition alone from the same part under the same script
equal_at : RunsKeepNumbers → (one other : Machine) (p count : ℕ) (state : PartitionState) (a : Alone) → part one p state ≡ a → part other p state ≡ a
    → view_of one.system p ≡ view_of other.system p → script one p count ≡ script other p count → RunsAlone one p state count → RunsAlone other p state count → AreEqualFrom one other p count
equal_at numbers one other p count state a first second view same runs also =
    let v = view_of other.system p in
    let cues = script other p count in
    let both : alone_part_at (run one count) p ≡ Some (alone_from v a cues) =
    runs.state ∙ ap (λ w. Some (alone_from w (part one p state) (script one p count))) view ∙ ap (λ all. Some (alone_from v (part one p state) all)) same
    ∙ ap (λ b. Some (alone_from v b cues)) first in
    let too : alone_part_at (run other count) p ≡ Some (alone_from v a cues) = also.state ∙ ap (λ b. Some (alone_from v b cues)) second in
    record {
      state = both ∙ sym too;
      lines = runs.lines ∙ ap (λ w. alone_lines w (part one p state) (script one p count)) view ∙ ap (alone_lines v (part one p state)) same
          ∙ ap (λ b. alone_lines v b cues) (first ∙ sym second) ∙ sym also.lines;
      said = runs.said ∙ ap (λ w. alone_said w (part one p state) (script one p count)) view ∙ ap (alone_said v (part one p state)) same
          ∙ ap (λ b. alone_said v b cues) (first ∙ sym second) ∙ sym also.said;
      core_file = file_is numbers count one p (alone_from v a cues) both ∙ ap (λ w. Some (core_file w (alone_from v a cues).state)) view
          ∙ sym (file_is numbers count other p (alone_from v a cues) too);
    }

other_there : (one other : Machine) (p : ℕ) (state : PartitionState) → alone_part_at one p ≡ alone_part_at other p → slice_get one.parts p ≡ Some state → slice_get other.parts p ≡ Some state
other_there one other p state same there = state_there other p (part one p state) (sym same ∙ part_there one p state there) ∙ ap Some (part_state one p state)

pub two_runs_from : AllTicks → EarlierScripts → RunsKeepNumbers → TwoRunsFrom
two_runs_from all earlier numbers one other p count fewer below alike =
    let there : slice_get other.parts p ≡ Some alike.state = other_there one other p alike.state alike.part alike.there in
    equal_at numbers one other p fewer alike.state (part other p alike.state)
    (same_Some _ _ (sym (part_there one p alike.state alike.there) ∙ alike.part ∙ part_there other p alike.state there)) refl alike.view
    (earlier one other p p count fewer below alike.script) (all fewer one p alike.state alike.there) (all fewer other p alike.state there)
