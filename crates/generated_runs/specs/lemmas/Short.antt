-- For how long partitions ran at most.
use Rattle.std.specs.Prelude.{◌≤◌, All}
use Rattle.machine_model.specs.Machine.{Machine}

-- no partition ran for more ticks than a word can count
abbrev pub AreShort : Machine → Type 0
AreShort g = All (λ ps. ps.clocks.execution ≤ 4294967296) g.parts
