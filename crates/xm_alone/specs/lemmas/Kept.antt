-- Ticks which follow cues keep what they show.
use Rattle.std.specs.Prelude.{◌≡◌, ℕ, List, [], ◌∷◌, ◌++◌, drop, take, Option, Some, None, Result, Ok, Err}
use Rattle.machine_model.specs.Machine.{Machine}
use Rattle.machine_model.specs.View.{view_of}
use Rattle.replay_model.specs.Passes.{part_in}
use Rattle.uart_board.specs.Views.{BoardView}
use Rattle.xm_machine.specs.declared.alone_span.AloneFault.{AloneFault}
use Rattle.xm_machine.specs.declared.alone_span.AloneSpan.{AloneSpan}
use Rattle.xm_alone.specs.Kept.{IsKept, kept_ticks, ticks_in}
use Rattle.xm_alone.specs.Shown.{ShownTick, shown_from, shown_tick}
use Rattle.xm_alone.specs.lemmas.Struck.{FollowsStruck}
use Rattle.upset_model.specs.Places.{Timetable}
use Rattle.xm_alone.specs.declared.cues.Next as code_next
use Rattle.xm_alone.specs.declared.keeping.Kept.{Kept}

-- the text from this byte on and these console bytes are kept as those of one tick more
pub record KeepsTick (begun : ℕ) (said : List ℕ) (old new : Kept) : Type 0 where
  pub sized : IsKept new
  pub ticks : kept_ticks new ≡ ticks_in old.ticks.items (take begun old.text.bytes.items) old.said.items ++ shown_tick (drop begun old.text.bytes.items) said

-- and so they are where the ticks ended so, if anything is kept
abbrev pub KeepsTicks : {T : Type 0} → Result T AloneFault → ℕ → List ℕ → Kept → Option Kept → Type 0
KeepsTicks ended begun said old None = Unit {0}
KeepsTicks (Ok done) begun said old (Some new) = KeepsTick begun said old new
KeepsTicks (Err fault) begun said old (Some new) = ⊥

-- what the ticks up to these have shown is kept with what these show, or nothing is kept any more
abbrev pub KeepsShown : Option Kept → Option Kept → List ShownTick → Type 0
KeepsShown before None shows = Unit {0}
KeepsShown None (Some after) shows = ⊥
KeepsShown (Some before) (Some after) shows = IsKept after × (kept_ticks after ≡ kept_ticks before ++ shows)

-- partition p followed the first of the cues that come next, with these lines of its own upsets before each tick, and what it showed is kept
pub record FollowsKept (done : AloneSpan) (p : ℕ) (own : Timetable) (first : code_next.Next) (old new : Machine) (before after : Option Kept) : Type 0 where
  pub had : Option (List ℕ)
  pub got : Option (List ℕ)
  pub begun : BoardView
  pub board : BoardView
  pub said : List ℕ
  pub follows : FollowsStruck done.ended done.ticks p own first old new had got begun board said
  pub kept : KeepsShown before after (shown_from (view_of old.system p) own (part_in old p) (follows.quiet ++ follows.cue ∷ []))
