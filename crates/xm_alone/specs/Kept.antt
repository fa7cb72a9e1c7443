-- What is kept of a replay until it is shown: the texts and the console bytes of its ticks, one after the other.
use Rattle.std.specs.Prelude.{◌≡◌, ℕ, ◌+◌, List, [], ◌∷◌, drop, length, take}
use Rattle.xm_alone.specs.Shown.{ShownTick}
use Rattle.xm_alone.specs.declared.keeping.Extent.{Extent}
use Rattle.xm_alone.specs.declared.keeping.Kept.{Kept}

-- ticks of these sizes, whose texts and whose console bytes stand one after the other
abbrev pub ticks_in : List Extent → List ℕ → List ℕ → List ShownTick
ticks_in [] text said = []
ticks_in (tick ∷ ticks) text said = record { text = take tick.text text; said = take tick.said said } ∷ ticks_in ticks (drop tick.text text) (drop tick.said said)

-- how many bytes they have
abbrev pub text_size : List Extent → ℕ
text_size [] = 0
text_size (tick ∷ ticks) = tick.text + text_size ticks

abbrev pub said_size : List Extent → ℕ
said_size [] = 0
said_size (tick ∷ ticks) = tick.said + said_size ticks

-- the bytes are those of the ticks, and no more
pub record AreSized (ticks : List Extent) (text said : List ℕ) : Type 0 where
  pub texts : length text ≡ text_size ticks
  pub bytes : length said ≡ said_size ticks

-- the ticks that are kept
abbrev pub kept_ticks : Kept → List ShownTick
kept_ticks kept = ticks_in kept.ticks.items kept.text.bytes.items kept.said.items

abbrev pub IsKept : Kept → Type 0
IsKept kept = AreSized kept.ticks.items kept.text.bytes.items kept.said.items
