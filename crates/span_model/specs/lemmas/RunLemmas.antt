-- Runs, their lines and their console bytes, put together.
use Rattle.std.proofs.Common.{◌≡◌, ℕ, zero, suc, ◌+◌, List, ◌++◌, refl, sym, ap, ◌∙◌}
use Rattle.std.proofs.Math.Nat.{suc-add, zero-add}
use Rattle.std.proofs.lemmas.List.{append_assoc, append-nil}
use Rattle.machine_model.specs.Lines.{added, console, lines, said, step_console, step_lines, step_said}
use Rattle.machine_model.specs.Machine.{Machine, run, step}

-- a run of two parts
pub run_add : (g : Machine) (j k : ℕ) → run g (j + k) ≡ run (run g j) k
run_add g zero k = ap (run g) (zero-add k)
run_add g (suc j) k = ap (run g) (suc-add j k) ∙ run_add (step g) j k

-- a run, and one tick more
pub run_more : (g : Machine) (k : ℕ) → run g (suc k) ≡ step (run g k)
run_more g zero = refl
run_more g (suc k) = run_more (step g) k

-- what the ticks of a run of two parts add
added_add : {X : Type 0} (adds : Machine → List X) (g : Machine) (j k : ℕ) → added adds g (j + k) ≡ added adds g j ++ added adds (run g j) k
added_add adds g zero k = ap (added adds g) (zero-add k)
added_add adds g (suc j) k =
    ap (added adds g) (suc-add j k)
    ∙ ap (λ rest. adds g ++ rest) (added_add adds (step g) j k)
    ∙ sym (append_assoc (adds g) (added adds (step g) j) (added adds (run (step g) j) k))

-- what the ticks of a run add, and one tick more
added_more : {X : Type 0} (adds : Machine → List X) (g : Machine) (k : ℕ) → added adds g (suc k) ≡ added adds g k ++ adds (run g k)
added_more adds g zero = append-nil (adds g)
added_more adds g (suc k) =
    ap (λ rest. adds g ++ rest) (added_more adds (step g) k)
    ∙ sym (append_assoc (adds g) (added adds (step g) k) (adds (run (step g) k)))

-- the lines of a run of two parts, and of one tick more
pub lines_add : (g : Machine) (j k : ℕ) → lines g (j + k) ≡ lines g j ++ lines (run g j) k
lines_add g j k = added_add step_lines g j k

pub lines_more : (g : Machine) (k : ℕ) → lines g (suc k) ≡ lines g k ++ step_lines (run g k)
lines_more g k = added_more step_lines g k

-- the console bytes of a run of two parts, and of one tick more
pub said_add : (g : Machine) (j k p : ℕ) → said g (j + k) p ≡ said g j p ++ said (run g j) k p
said_add g j k p = added_add (λ m. step_said m p) g j k

pub said_more : (g : Machine) (k p : ℕ) → said g (suc k) p ≡ said g k p ++ step_said (run g k) p
said_more g k p = added_more (λ m. step_said m p) g k

-- what a UART gets in a run of two parts
pub console_add : (g : Machine) (j k uart : ℕ) → console g (j + k) uart ≡ console g j uart ++ console (run g j) k uart
console_add g j k uart = added_add (λ m. step_console m uart) g j k
