-- For proofs: how many lines are due.
use Rattle.std.specs.Prelude.{ℕ, zero, suc, ◌==◌, if◌then◌else◌, List, [], ◌∷◌}
use Rattle.upset_model.specs.declared.upset_line.UpsetLine.{UpsetLine}

-- how many lines stand before the first of another tick
abbrev pub count_due : ℕ → List UpsetLine → ℕ
count_due tick [] = zero
count_due tick (line ∷ lines) = if line.tick == tick then suc (count_due tick lines) else zero
