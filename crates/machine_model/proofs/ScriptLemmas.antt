-- Scripts, core files and runs at earlier ticks.
use Rattle.std.proofs.Common.{◌≡◌, ℕ, zero, suc, ◌≤◌, Bool, true, false, List, [], ◌∷◌, Some, refl, sym, ap, ◌∙◌, arith}
use Rattle.std.specs.Prelude.{slice_get}
use Rattle.xm_base.specs.Options.{on}
use Rattle.machine_model.specs.Alone.{Alone, alone_from, alone_start}
use Rattle.machine_model.specs.CoreFile.{core_file}
use Rattle.machine_model.specs.Cue.{Cue, cue, script, script_unless}
use Rattle.machine_model.specs.Laws.{EarlierScripts, SameCoreFile, TwoRunsEarlier, core_file_of}
use Rattle.machine_model.specs.Machine.{Machine, run, start, step}
use Rattle.machine_model.specs.View.{view_of}
use Rattle.machine_model.proofs.ReportLemmas.{state_there}
use Rattle.machine_model.proofs.RunLemmas.{step_system}
use Rattle.machine_model.proofs.StartLemmas.{start_system, starts_alone, two_runs}

-- the first cues of a list
first_cues : ℕ → List Cue → List Cue
first_cues zero cues = []
first_cues (suc count) [] = []
first_cues (suc count) (cue ∷ cues) = cue ∷ first_cues count cues

-- a script of fewer ticks is the beginning of one of more
script_begins : (fewer count : ℕ) (g : Machine) (p : ℕ) → fewer ≤ count → script g p fewer ≡ first_cues fewer (script g p count)
unfolding first_cues
script_begins zero count g p below = refl
script_begins (suc fewer) zero g p below = absurd (omega (arith, below))
script_begins (suc fewer) (suc count) g p below = at g.halted (script_begins fewer count (step g) p (omega (arith, below)))
  where
    at : (b : Bool) → script (step g) p fewer ≡ first_cues fewer (script (step g) p count)
        → script_unless b (cue g p) (script (step g) p fewer) ≡ first_cues (suc fewer) (script_unless b (cue g p) (script (step g) p count))
    at true rest = refl
    at false rest = ap (λ cues. cue g p ∷ cues) rest

pub earlier_scripts : EarlierScripts
earlier_scripts one other p q count fewer below same = script_begins fewer count one p below ∙ ap (first_cues fewer) same ∙ sym (script_begins fewer count other q below)

pub two_runs_earlier : TwoRunsEarlier
two_runs_earlier one other p count fewer below alike =
    two_runs one other p fewer (record {
      in_one = alike.in_one;
      in_other = alike.in_other;
      view = alike.view;
      script = earlier_scripts (start one) (start other) p p count fewer below alike.script;
    })

-- what runs stays
run_system : (count : ℕ) (g : Machine) → (run g count).system ≡ g.system
run_system zero g = refl
run_system (suc count) g = run_system count (step g) ∙ step_system g

core_file_there : (g : Machine) (p : ℕ) (a : Alone) → slice_get g.parts p ≡ Some a.state → core_file_of g p ≡ Some (core_file (view_of g.system p) a.state)
unfolding core_file_of
core_file_there g p a there = ap (on (core_file (view_of g.system p))) there

pub same_core_file : SameCoreFile
same_core_file system p count below =
    let a : Alone = alone_from (view_of system p) (alone_start (view_of system p)) (script (start system) p count) in
    core_file_there (run (start system) count) p a (state_there (run (start system) count) p a (starts_alone system p count below).state)
    ∙ ap (λ s. Some (core_file (view_of s p) a.state)) (run_system count (start system) ∙ start_system system)
