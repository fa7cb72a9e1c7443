-- For proofs and private clauses: the causes of faults, as counts that rise.
use Rattle.std.specs.Prelude.{ℕ, ◌≤◌}
use Rattle.std.proofs.Common.{arith}
use Rattle.xm_outside.specs.Causes.{counted, Rose}

-- a rise within a stretch is a rise over the whole of it
pub rose_between : (before a b after : ℕ) → before ≤ a → Rose a b → b ≤ after → Rose before after
rose_between before a b after first rose last =
    let risen : counted a ≤ b = rose.risen in
    let later : a ≤ b = rose.later in
    record { later = omega arith; risen = omega arith }
