-- For proofs and private clauses: ticks that were kept go out, one after the other.
use Rattle.std.specs.Prelude.{◌≡◌, ℕ, if◌then◌else◌, List, [], ◌∷◌, ◌++◌, Option, Result, Ok, Err}
use Rattle.xm_outside.specs.Growth.{GrewByPrefix, grown}
use Rattle.xm_report.specs.declared.output.WriteFault.{WriteFault}
use Rattle.machine_model.specs.Lists.{is_number}
use Rattle.uart_board.specs.Heard.{IsHeard}
use Rattle.uart_board.specs.Views.{BoardView}
use Rattle.xm_alone.specs.Shown.{ShownTick}

-- the text of ticks, and their console bytes
abbrev pub shown_text : List ShownTick → List ℕ
shown_text [] = []
shown_text (tick ∷ ticks) = tick.text ++ shown_text ticks

abbrev pub shown_said : List ShownTick → List ℕ
shown_said [] = []
shown_said (tick ∷ ticks) = tick.said ++ shown_said ticks

-- what each UART gets of console bytes
abbrev pub console_said : Option ℕ → List ℕ → ℕ → List ℕ
console_said console bytes uart = if is_number console uart then bytes else []

-- all of them went out
pub record ArePlayed (console : Option ℕ) (ticks : List ShownTick) (had got : Option (List ℕ)) (before after : BoardView) : Type 0 where
  pub report : got ≡ grown had (shown_text ticks)
  pub heard : IsHeard (console_said console (shown_said ticks)) before after

-- up to one whose text did not go out whole
pub record AreCutPlayed (console : Option ℕ) (ticks : List ShownTick) (had got : Option (List ℕ)) (before after : BoardView) : Type 0 where
  pub earlier : List ShownTick
  pub tick : ShownTick
  pub later : List ShownTick
  pub split : ticks ≡ earlier ++ tick ∷ later
  pub mid : Option (List ℕ)
  pub report : mid ≡ grown had (shown_text earlier)
  pub last : GrewByPrefix mid tick.text got
  pub heard : IsHeard (console_said console (shown_said (earlier ++ tick ∷ []))) before after

abbrev pub PlaysTicks : {T : Type 0} → Result T WriteFault → Option ℕ → List ShownTick → Option (List ℕ) → Option (List ℕ) → BoardView → BoardView → Type 0
PlaysTicks (Ok done) console ticks had got before after = ArePlayed console ticks had got before after
PlaysTicks (Err unwritten) console ticks had got before after = AreCutPlayed console ticks had got before after
