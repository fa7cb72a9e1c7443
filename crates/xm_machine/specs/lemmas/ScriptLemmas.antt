-- Scripts of one tick, of runs of two parts, and of runs in which the hypervisor halts.
use Rattle.std.proofs.Common.{◌≡◌, ℕ, zero, suc, ◌+◌, ◌-◌, ◌≤◌, Bool, true, false, [], ◌∷◌, ◌++◌, refl, sym, ap, ◌∙◌, arith}
use Rattle.std.proofs.Math.Nat.{suc-add, zero-add}
use Rattle.std.proofs.lemmas.List.{append-nil}
use Rattle.machine_model.specs.Cue.{cue, script, script_unless}
use Rattle.machine_model.specs.Machine.{Machine, run, step}
use Rattle.tick_steps.specs.lemmas.KeptLemmas.{run_halted}

-- the script of one tick
pub script_one : (g : Machine) (p : ℕ) → g.halted ≡ false → script g p 1 ≡ cue g p ∷ []
script_one g p runs = ap (λ b. script_unless b (cue g p) []) runs

-- the script of a machine that has halted is empty
script_halted : (count : ℕ) (g : Machine) (p : ℕ) → g.halted ≡ true → script g p count ≡ []
script_halted zero g p halts = refl
script_halted (suc count) g p halts = ap (λ b. script_unless b (cue g p) (script (step g) p count)) halts

-- a script of two parts
pub script_add : (j k : ℕ) (g : Machine) (p : ℕ) → script g p (j + k) ≡ script g p j ++ script (run g j) p k
script_add zero k g p = ap (script g p) (zero-add k)
script_add (suc j) k g p = ap (script g p) (suc-add j k) ∙ at g.halted refl (script_add j k (step g) p)
  where
    at : (b : Bool) → g.halted ≡ b → script (step g) p (j + k) ≡ script (step g) p j ++ script (run (step g) j) p k
        → script_unless b (cue g p) (script (step g) p (j + k)) ≡ script_unless b (cue g p) (script (step g) p j) ++ script (run (step g) j) p k
    at true halts more = sym (script_halted k (run g (suc j)) p (ap (λ (m : Machine). m.halted) (run_halted (suc j) g halts) ∙ halts))
    at false runs more = ap (λ rest. cue g p ∷ rest) more

-- a script is whole once the hypervisor has halted
pub script_ends : (done asked : ℕ) (g : Machine) (p : ℕ) → done ≤ asked → (run g done).halted ≡ true → script g p done ≡ script g p asked
script_ends done asked g p within halts =
    let rest : done + (asked - done) ≡ asked = omega (arith, within) in
    sym (append-nil (script g p done)) ∙ ap (λ later. script g p done ++ later) (sym (script_halted (asked - done) (run g done) p halts))
    ∙ sym (script_add done (asked - done) g p) ∙ ap (script g p) rest
