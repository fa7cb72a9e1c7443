-- Ticks of which none has an act that ends a stretch, and more of them; and ticks in which partitions receive nothing but whose slot it is.
use Rattle.std.proofs.Common.{◌≡◌, ⊎_elim, ℕ, zero, suc, ◌+◌, ◌-◌, ◌<◌, ◌≤◌, Bool, false, refl, sym, ap, subst, ◌∙◌, arith}
use Rattle.std.proofs.lemmas.Bool.{cases_lt}
use Rattle.machine_model.specs.Machine as machine
use Rattle.machine_model.specs.Machine.{Machine, after, happened, happened_by, is_halt, local, run, step, step_unless}
use Rattle.machine_model.specs.Emission as emission
use Rattle.machine_model.specs.Emission.{Act}
use Rattle.machine_model.specs.Whole.{event_of}
use Rattle.span_model.specs.lemmas.RunLemmas.{run_add, run_more}
use Rattle.tick_steps.specs.Kept.{AreBareTicks, IsBareTick}
use Rattle.tick_steps.specs.Quiet.{AreQuiet, ends_in, ends_stretch}

-- an act that ends no stretch does not halt the hypervisor
no_halt : (act : Act) → ends_stretch act ≡ false → is_halt (event_of act) ≡ false
no_halt emission.Nothing goes = refl
no_halt (emission.Trades traffic) goes = refl
no_halt (emission.Upon id order) goes = absurd cc
no_halt (emission.Plans change) goes = absurd cc
no_halt (emission.UponAll event) goes = absurd cc

quiet_step_runs : (g : Machine) → g.halted ≡ false → ends_in g ≡ false → (step g).halted ≡ false
unfolding step after happened happened_by ends_in
quiet_step_runs g runs goes = ap (λ (b : Bool). (step_unless b g).halted) runs ∙ no_halt (machine.act_of (local g)) goes

-- none of this many ticks has an act that ends a stretch
abbrev pub AllQuiet : ℕ → Machine → Type 0
AllQuiet count g = (k : ℕ) → k < count → ends_in (run g k) ≡ false

pub quiet_runs : (count : ℕ) (g : Machine) → g.halted ≡ false → AllQuiet count g → (run g count).halted ≡ false
quiet_runs zero g runs goes = runs
quiet_runs (suc count) g runs goes =
    ap (λ (m : Machine). m.halted) (run_more g count)
    ∙ quiet_step_runs (run g count) (quiet_runs count g runs (λ k below. goes k (omega (arith, below)))) (goes count (omega arith))

-- quiet ticks of which the last has none either
pub all_quiet : (count : ℕ) (g : Machine) → AreQuiet count g → (0 < count → ends_in (run g (count - 1)) ≡ false) → AllQuiet count g
all_quiet count g quiet last k below =
    ⊎_elim (λ less. quiet k less) (λ from. ap (λ (n : ℕ). ends_in (run g n)) (the_last from) ∙ last (omega (arith, below))) (cases_lt (k + 1) count)
  where
    the_last : count ≤ k + 1 → k ≡ count - 1
    the_last from = omega (arith, from, below)

-- a tick after others
pub run_from : (g mid : Machine) (done k : ℕ) → mid ≡ run g done → done ≤ k → ends_in (run g k) ≡ ends_in (run mid (k - done))
run_from g mid done k is from =
    let rest : k ≡ done + (k - done) = omega (arith, from) in
    ap (λ (n : ℕ). ends_in (run g n)) rest ∙ ap ends_in (run_add g done (k - done)) ∙ ap (λ (m : Machine). ends_in (run m (k - done))) (sym is)

-- quiet ticks, and more of them
pub quiet_on : (g mid : Machine) (done more : ℕ) → mid ≡ run g done → AllQuiet done g → AreQuiet more mid → AreQuiet (done + more) g
quiet_on g mid done more is all quiet k below = ⊎_elim (λ less. all k less) later (cases_lt k done)
  where
    later : done ≤ k → ends_in (run g k) ≡ false
    later from = run_from g mid done k is from ∙ quiet (k - done) (omega (arith, below, from))

-- in none of this many ticks partitions receive anything but whose slot it is
abbrev pub AllBare : ℕ → Machine → Type 0
AllBare count g = (k : ℕ) → k < count → IsBareTick (run g k)

-- bare ticks of which the last is so, too
pub all_bare : (count : ℕ) (g : Machine) → AreBareTicks count g → (0 < count → IsBareTick (run g (count - 1))) → AllBare count g
all_bare count g bare last k below =
    ⊎_elim (λ less. bare k less) (λ from. subst (λ (n : ℕ). IsBareTick (run g n)) (sym (the_last from)) (last (omega (arith, below)))) (cases_lt (k + 1) count)
  where
    the_last : count ≤ k + 1 → k ≡ count - 1
    the_last from = omega (arith, from, below)

-- a bare tick after others
bare_from : (g mid : Machine) (done k : ℕ) → mid ≡ run g done → done ≤ k → IsBareTick (run mid (k - done)) → IsBareTick (run g k)
bare_from g mid done k is from bare =
    let rest : k ≡ done + (k - done) = omega (arith, from) in
    subst IsBareTick (sym (ap (run g) rest ∙ run_add g done (k - done) ∙ ap (λ (m : Machine). run m (k - done)) (sym is))) bare

-- bare ticks, and more of them
pub bare_on : (g mid : Machine) (done more : ℕ) → mid ≡ run g done → AllBare done g → AreBareTicks more mid → AreBareTicks (done + more) g
bare_on g mid done more is all bare k below = ⊎_elim (λ less. all k less) later (cases_lt k done)
  where
    later : done ≤ k → IsBareTick (run g k)
    later from = bare_from g mid done k is from (bare (k - done) (omega (arith, below, from)))
