-- Rows on when upsets strike, worked by hand.
use Rattle.std.specs.Prelude.{◌≡◌, ℕ, true, false, List, [], ◌∷◌}
use Rattle.machine_model.specs.Machine.{Machine, step}
use Rattle.machine_model.specs.Partition.{PartitionState}
use Rattle.upset_model.specs.Places.{flip, lines_for, schedule_of, upset_of}
use Rattle.xm_report.specs.declared.place.Place.{Place}
use Rattle.xm_report.specs.declared.place.Place.TheVariants.{Mask, Pc, Windowed}
use Rattle.upset_model.specs.declared.upset_line.UpsetLine.{UpsetLine}
use Rattle.upset_model.specs.Upsets.{Schedule, ready, upset_run}

abbrev pub line : ℕ → ℕ → Place → ℕ → UpsetLine
line tick part place bit = record { tick = tick; part = part; place = place; bit = bit }

-- two upsets before tick 3, and one before tick 7
abbrev pub three_lines : List UpsetLine
three_lines = line 3 1 Pc 2 ∷ line 3 0 Mask 31 ∷ line 7 1 (Windowed 5) 0 ∷ []

-- a line strikes before its tick, and no earlier or later; two before one tick strike in the order of the lines
pub record ScheduleRows : Type 0 where
  pub earlier : schedule_of three_lines 2 ≡ []
  pub first : schedule_of three_lines 3 ≡ record { part = 1; strike = flip Pc 2 } ∷ record { part = 0; strike = flip Mask 31 } ∷ []
  pub later : schedule_of three_lines 4 ≡ []
  pub last : schedule_of three_lines 7 ≡ record { part = 1; strike = flip (Windowed 5) 0 } ∷ []
  pub own : lines_for 1 three_lines ≡ line 3 1 Pc 2 ∷ line 7 1 (Windowed 5) 0 ∷ []

-- the upsets of a tick strike before that tick, counted from 0 on
pub record RunRows : Type 0 where
  pub none : (s : Schedule) (g : Machine) → upset_run s g 0 ≡ g
  pub one : (s : Schedule) (g : Machine) → upset_run s g 1 ≡ step (ready (s 0) g)
  pub two : (s : Schedule) (g : Machine) → upset_run s g 2 ≡ step (ready (s 1) (step (ready (s 0) g)))

-- of three partitions the one of the line is struck, and no other; a machine that has halted is not struck
pub record ReadyRows : Type 0 where
  pub own : (g : Machine) (first second third : PartitionState) → g.halted ≡ false → g.parts ≡ first ∷ second ∷ third ∷ [] →
      (ready (upset_of (line 3 1 Pc 2) ∷ []) g).parts ≡ first ∷ flip Pc 2 second ∷ third ∷ []
  pub halted : (g : Machine) → g.halted ≡ true → ready (upset_of (line 3 1 Pc 2) ∷ []) g ≡ g
