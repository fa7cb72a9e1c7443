-- Rows on input words that are left, and on upsets of a continuation.
use Rattle.std.specs.Prelude.{◌≡◌, ℕ, List, [], ◌∷◌}
use Rattle.guest_bus.specs.Memory.{Memory}
use Rattle.xm_conf.specs.Configuration.{Conf}
use Rattle.xm_report.specs.declared.place.Place.TheVariants.{Pc, YRegister}
use Rattle.machine_model.specs.Machine.{Machine, start}
use Rattle.machine_model.specs.rows.Rows.{at, entered_at, machine, plain_part, small_conf, whole_frame}
use Rattle.upset_model.specs.Places.{due}
use Rattle.upset_model.specs.declared.upset_line.UpsetLine.{UpsetLine}
use Rattle.continuation_laws.specs.Given.{with_given, with_left, words_left}
use Rattle.continuation_laws.specs.Continued.{from_tick}
use Rattle.continuation_laws.specs.Joined.{AreBefore, AreFrom}

-- the configuration of one partition that has all ticks
abbrev pub single_conf : Conf
single_conf = small_conf (whole_frame ∷ []) (plain_part 0x40000000 8 ∷ []) []

-- a machine of it that was given these words, of which those are left
abbrev pub given_and_left : List ℕ → List ℕ → Memory → Machine
given_and_left words left memory = record (machine single_conf (0x40000000 ∷ []) 1 (record (at 0x40000004 memory) { inputs = left } ∷ [])) {
  system = record { conf = single_conf; images = entered_at (0x40000000 ∷ []); inputs = words ∷ [] };
}

-- the partition was given two words and has read one of them: the other one is left. With the words that are left as those that it was given the machine is
-- as before but for the words of its system; of words that are given twice the last ones stay, and with the words that it has the machine is as it was. A
-- boot reads them: it begins with all words that were given
pub record OneIsLeft : Type 0 where
  pub left : (memory : Memory) → words_left (given_and_left (0x2a ∷ 7 ∷ []) (7 ∷ []) memory) ≡ (7 ∷ []) ∷ []
  pub continued : (memory : Memory) → with_left (given_and_left (0x2a ∷ 7 ∷ []) (7 ∷ []) memory) ≡ given_and_left (7 ∷ []) (7 ∷ []) memory
  pub again : (inputs others : List (List ℕ)) (g : Machine) → with_given inputs (with_given others g) ≡ with_given inputs g
  pub itself : (g : Machine) → with_given g.system.inputs g ≡ g
  pub boots : (memory : Memory) → words_left (start (given_and_left (0x2a ∷ 7 ∷ []) (7 ∷ []) memory).system) ≡ (0x2a ∷ 7 ∷ []) ∷ []
  pub boots_again : (memory : Memory) → words_left (start (given_and_left (7 ∷ []) (7 ∷ []) memory).system) ≡ (7 ∷ []) ∷ []

-- an upset before tick 1, one before tick 2 and one before tick 3
abbrev pub first_line : UpsetLine
first_line = record { tick = 1; part = 0; place = Pc; bit = 2 }

abbrev pub second_line : UpsetLine
second_line = record { tick = 2; part = 0; place = YRegister; bit = 0 }

abbrev pub third_line : UpsetLine
third_line = record { tick = 3; part = 0; place = YRegister; bit = 31 }

abbrev pub three_lines : List UpsetLine
three_lines = first_line ∷ second_line ∷ third_line ∷ []

-- a continuation after two ticks begins with the one of tick 2, and that of tick 3 strikes before its second tick: ticks count from the boot
pub record StrikesAtItsTick : Type 0 where
  pub first : from_tick 2 (due three_lines) 0 ≡ second_line ∷ []
  pub second : from_tick 2 (due three_lines) 1 ≡ third_line ∷ []
  pub third : from_tick 2 (due three_lines) 2 ≡ []

-- the first of them is of a tick before tick 2, and the others are of it and after it; what is of tick 2 is not before it
pub record SplitAtTick : Type 0 where
  pub before : AreBefore 2 (first_line ∷ [])
  pub from : AreFrom 2 (second_line ∷ third_line ∷ [])
  pub not_before : ¬ AreBefore 2 (second_line ∷ [])
  pub not_from : ¬ AreFrom 2 (first_line ∷ [])
