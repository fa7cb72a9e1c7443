-- Lines of upsets in the order of their ticks.
use Rattle.std.specs.Prelude.{ℕ, ◌≤◌, List, [], ◌∷◌}
use Rattle.upset_model.specs.declared.upset_line.UpsetLine.{UpsetLine}

-- each line has at least the tick of the one above, and the first at least this one
abbrev pub AreOrdered : ℕ → List UpsetLine → Type 0
AreOrdered first [] = Unit {0}
AreOrdered first (line ∷ lines) = (first ≤ line.tick) × AreOrdered line.tick lines
