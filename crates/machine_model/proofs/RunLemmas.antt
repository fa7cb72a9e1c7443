-- Runs of the machine are, for each partition, runs of that partition alone.
use Rattle.std.proofs.Common.{◌≡◌, ℕ, zero, suc, Bool, true, false, [], ◌∷◌, ◌++◌, Some, refl, sym, ap, ◌∙◌, arith}
use Rattle.std.specs.Prelude.{slice_get}
use Rattle.std.proofs.lemmas.Option.{same_Some}
use Rattle.xm_base.specs.Options.{on}
use Rattle.machine_model.specs.lemmas.TickLemmas.{step_halted, step_runs}
use Rattle.machine_model.specs.Alone.{alone_from, alone_lines, alone_said, alone_step, alone_step_lines, alone_step_said}
use Rattle.machine_model.specs.Cue.{cue, script, script_unless}
use Rattle.machine_model.specs.Laws.{AllTicks, LastCue, NoScript, OneTick, RunsAlone, part, alone_part_at}
use Rattle.machine_model.specs.Lines.{lines, lines_unless, own, said, said_unless, step_lines, step_said}
use Rattle.machine_model.specs.Machine.{Machine, after, happened, part_after, run, step}
use Rattle.machine_model.specs.Partition.{PartitionState}
use Rattle.machine_model.specs.View.{view_of}
use Rattle.machine_model.proofs.LineLemmas.{own_append, own_nil, tick_lines, tick_said}
use Rattle.machine_model.specs.lemmas.ListLemmas.{get_each}
use Rattle.machine_model.proofs.StepLemmas.{tick_state}

pub one_tick : OneTick
one_tick g p ps runs there = record { state = tick_state g p ps runs there; lines = tick_lines g p ps runs there; said = tick_said g p ps runs there }

-- what runs stays
after_system : (g : Machine) → (after g (happened g)).system ≡ g.system
unfolding after
after_system g = refl

pub step_system : (g : Machine) → (step g).system ≡ g.system
step_system g = at g.halted refl
  where
    at : (b : Bool) → g.halted ≡ b → (step g).system ≡ g.system
    at true halts = ap (λ m. m.system) (step_halted g halts)
    at false runs = ap (λ m. m.system) (step_runs g runs) ∙ after_system g

-- a partition that is there, as it is after a tick
after_there : (g : Machine) (p : ℕ) (ps : PartitionState) → slice_get g.parts p ≡ Some ps → slice_get (after g (happened g)).parts p ≡ Some (part_after g (happened g) p ps)
unfolding after
after_there g p ps there = get_each (part_after g (happened g)) g.parts p ∙ ap (on (part_after g (happened g) p)) there

step_there : (g : Machine) (p : ℕ) (ps : PartitionState) → g.halted ≡ false → slice_get g.parts p ≡ Some ps → slice_get (step g).parts p ≡ Some (part_after g (happened g) p ps)
step_there g p ps runs there = ap (λ m. slice_get m.parts p) (step_runs g runs) ∙ after_there g p ps there

-- a machine that has halted: its runs, lines, console bytes and scripts
halted_run : (count : ℕ) (g : Machine) → g.halted ≡ true → run g count ≡ g
halted_run zero g halts = refl
halted_run (suc count) g halts = ap (λ m. run m count) (step_halted g halts) ∙ halted_run count g halts

halted_step_lines : (g : Machine) → g.halted ≡ true → step_lines g ≡ []
unfolding step_lines
halted_step_lines g halts = ap (λ b. lines_unless b g) halts

halted_step_said : (g : Machine) (p : ℕ) → g.halted ≡ true → step_said g p ≡ []
unfolding step_said
halted_step_said g p halts = ap (λ b. said_unless b g p) halts

halted_lines : (count : ℕ) (g : Machine) → g.halted ≡ true → lines g count ≡ []
halted_lines zero g halts = refl
halted_lines (suc count) g halts =
    ap (λ l. l ++ lines (step g) count) (halted_step_lines g halts) ∙ ap (λ m. lines m count) (step_halted g halts) ∙ halted_lines count g halts

halted_said : (count : ℕ) (g : Machine) (p : ℕ) → g.halted ≡ true → said g count p ≡ []
halted_said zero g p halts = refl
halted_said (suc count) g p halts =
    ap (λ l. l ++ said (step g) count p) (halted_step_said g p halts) ∙ ap (λ m. said m count p) (step_halted g halts) ∙ halted_said count g p halts

pub no_script : NoScript
no_script g p zero halts = refl
no_script g p (suc count) halts = ap (λ b. script_unless b (cue g p) (script (step g) p count)) halts

-- the script of a machine that goes on
more_script : (g : Machine) (p count : ℕ) → g.halted ≡ false → script g p (suc count) ≡ cue g p ∷ script (step g) p count
more_script g p count runs = ap (λ b. script_unless b (cue g p) (script (step g) p count)) runs

pub last_cue : LastCue
last_cue g p zero runs halts some = absurd (omega (arith, some))
last_cue g p (suc count) runs halts some = more_script g p count runs ∙ ap (λ rest. cue g p ∷ rest) (no_script (step g) p count halts)

-- a partition's part of the machine, where it is there
pub part_there : (g : Machine) (p : ℕ) (ps : PartitionState) → slice_get g.parts p ≡ Some ps → alone_part_at g p ≡ Some (part g p ps)
unfolding alone_part_at
part_there g p ps there = ap (on (part g p)) there

-- a run of a machine that has halted
halted_alone : (g : Machine) (p : ℕ) (ps : PartitionState) (count : ℕ) → g.halted ≡ true → slice_get g.parts p ≡ Some ps → RunsAlone g p ps count
halted_alone g p ps count halts there = record {
  state = ap (λ m. alone_part_at m p) (halted_run count g halts) ∙ part_there g p ps there
      ∙ ap (λ cues. Some (alone_from (view_of g.system p) (part g p ps) cues)) (sym (no_script g p count halts));
  lines = ap (own p) (halted_lines count g halts) ∙ own_nil p ∙ ap (alone_lines (view_of g.system p) (part g p ps)) (sym (no_script g p count halts));
  said = halted_said count g p halts ∙ ap (alone_said (view_of g.system p) (part g p ps)) (sym (no_script g p count halts));
}

-- one tick, and then the others
further : (g : Machine) (p : ℕ) (ps next : PartitionState) (count : ℕ) → g.halted ≡ false → slice_get g.parts p ≡ Some ps
    → view_of (step g).system p ≡ view_of g.system p
    → part (step g) p next ≡ alone_step (view_of g.system p) (part g p ps) (cue g p)
    → RunsAlone (step g) p next count → RunsAlone g p ps (suc count)
further g p ps next count runs there same_view same_part rest = record {
  state = rest.state
      ∙ ap (λ v. Some (alone_from v (part (step g) p next) (script (step g) p count))) same_view
      ∙ ap (λ a. Some (alone_from (view_of g.system p) a (script (step g) p count))) same_part
      ∙ ap (λ cues. Some (alone_from (view_of g.system p) (part g p ps) cues)) (sym (more_script g p count runs));
  lines = own_append p (step_lines g) (lines (step g) count)
      ∙ ap (λ l. l ++ own p (lines (step g) count)) (tick_lines g p ps runs there)
      ∙ ap (λ l. alone_step_lines (view_of g.system p) (part g p ps) (cue g p) ++ l) (rest.lines
      ∙ ap (λ v. alone_lines v (part (step g) p next) (script (step g) p count)) same_view
      ∙ ap (λ a. alone_lines (view_of g.system p) a (script (step g) p count)) same_part)
      ∙ ap (alone_lines (view_of g.system p) (part g p ps)) (sym (more_script g p count runs));
  said = ap (λ l. l ++ said (step g) count p) (tick_said g p ps runs there)
      ∙ ap (λ l. alone_step_said (view_of g.system p) (part g p ps) (cue g p) ++ l) (rest.said
      ∙ ap (λ v. alone_said v (part (step g) p next) (script (step g) p count)) same_view
      ∙ ap (λ a. alone_said (view_of g.system p) a (script (step g) p count)) same_part)
      ∙ ap (alone_said (view_of g.system p) (part g p ps)) (sym (more_script g p count runs));
}

pub all_ticks : AllTicks
all_ticks zero g p ps there = record { state = part_there g p ps there; lines = own_nil p; said = refl }
all_ticks (suc count) g p ps there = at g.halted refl (all_ticks count (step g) p)
  where
    at : (b : Bool) → g.halted ≡ b → ((next : PartitionState) → slice_get (step g).parts p ≡ Some next → RunsAlone (step g) p next count) → RunsAlone g p ps (suc count)
    at true halts rest = halted_alone g p ps (suc count) halts there
    at false runs rest =
        let next_there : slice_get (step g).parts p ≡ Some (part_after g (happened g) p ps) = step_there g p ps runs there in
        further g p ps (part_after g (happened g) p ps) count runs there (ap (λ system. view_of system p) (step_system g))
        (same_Some _ _ (sym (part_there (step g) p (part_after g (happened g) p ps) next_there) ∙ tick_state g p ps runs there))
        (rest (part_after g (happened g) p ps) next_there)
