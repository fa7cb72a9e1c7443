-- A tick of a machine that goes on, and of one that has halted.
use Rattle.std.proofs.Common.{◌≡◌, true, false, ap}
use Rattle.machine_model.specs.Machine.{Machine, after, happened, step, step_unless}

-- the step of a machine that has not halted
pub step_runs : (g : Machine) → g.halted ≡ false → step g ≡ after g (happened g)
unfolding step
step_runs g runs = ap (λ b. step_unless b g) runs

-- a machine that has halted stays as it is
pub step_halted : (g : Machine) → g.halted ≡ true → step g ≡ g
unfolding step
step_halted g halts = ap (λ b. step_unless b g) halts
