-- For proofs and private clauses: the whole machine: its state, how it boots, one tick, and runs.
use Rattle.std.specs.Prelude.{Bool, false, Option, Some, None}
use Rattle.machine_model.specs.Machine.{SlotTurn}

-- whether the tick is the first of its slot
abbrev pub is_first : Option SlotTurn → Bool
is_first None = false
is_first (Some turn) = turn.first
