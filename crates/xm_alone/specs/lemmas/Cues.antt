-- The cues of a script that are still to come.
use Rattle.std.specs.Prelude.{◌≡◌, ℕ, ◌+◌, ◌-◌, ◌<◌, ◌≤◌, List, [], ◌∷◌, ◌++◌, length, replicate, Option, Result}
use Rattle.machine_model.specs.Cue.{Cue}
use Rattle.machine_model.specs.Machine.{Machine}
use Rattle.xm_conf.specs.Configuration.{Conf}
use Rattle.cue_scripts.specs.Entries.{expanded, bare_cue}
use Rattle.cue_scripts.specs.Script.{IsCue}
use Rattle.cue_scripts.specs.Values.{entry_values}
use Rattle.replay_tick.specs.LoneSpan.{AreSilent}
use Rattle.tick_steps.specs.CueValues.{cue_value}
use Rattle.uart_board.specs.Views.{BoardView}
use Rattle.xm_machine.specs.AloneStep.{IsSaidAlone, KeepsSaid, StepsAlone}
use Rattle.xm_machine.specs.declared.alone_span.AloneFault.{AloneFault}
use Rattle.xm_alone.specs.declared.cues.Cues as code
use Rattle.xm_alone.specs.declared.cues.Next as code_next
use Rattle.xm_alone.specs.declared.cues.Next.TheVariants as next

-- a plain cue this many times, and then those of the entries
abbrev pub cues_left : code.Cues → List Cue
cues_left rest = replicate rest.left (bare_cue rest.own) ++ expanded (entry_values rest.entries.now)

-- the cues that come next
abbrev pub next_cues : code_next.Next → List Cue
next_cues (next.Alike own count) = replicate count (bare_cue own)
next_cues (next.Other cue) = cue_value cue ∷ []

-- what is left of them when this many are done
abbrev pub next_left : code_next.Next → ℕ → List Cue
next_left (next.Alike own count) done = replicate (count - done) (bare_cue own)
next_left (next.Other cue) done = []

-- they are this many at least
abbrev pub HasNext : code_next.Next → ℕ → Type 0
HasNext (next.Alike own count) done = done ≤ count
HasNext (next.Other cue) done = done ≤ 1

-- partition p may receive them
abbrev pub IsNextCue : Conf → ℕ → code_next.Next → Type 0
IsNextCue conf p (next.Alike own count) = 0 < count
IsNextCue conf p (next.Other cue) = IsCue conf p (cue_value cue)

-- these cues come next, and then those of the entries
pub record ComesNext (all : List Cue) (first : code_next.Next) (others : code.Cues) : Type 0 where
  pub split : all ≡ next_cues first ++ cues_left others
  pub none : others.left ≡ 0
  pub some : HasNext first 1

-- partition p followed the first of the cues that come next: all but the last were silent, and the last answers this
pub record Follows {T : Type 0} (ended : Result T AloneFault) (ticks p : ℕ) (first : code_next.Next) (old new : Machine) (had got : Option (List ℕ)) (begun board : BoardView) : Type 0 where
  pub before : Machine
  pub quiet : List Cue
  pub cue : Cue
  pub split : next_cues first ≡ quiet ++ cue ∷ next_left first ticks
  pub count : ticks ≡ length quiet + 1
  pub silent : AreSilent p quiet old before
  pub step : StepsAlone ended p cue before new had got
  pub heard : IsSaidAlone ended p cue before begun board

-- and their console bytes are kept, unless it could not take the last
pub record FollowsSaid {T : Type 0} (ended : Result T AloneFault) (ticks p : ℕ) (first : code_next.Next) (old new : Machine) (had got : Option (List ℕ)) (begun board : BoardView) (said : List ℕ) : Type 0 where
  pub follows : Follows ended ticks p first old new had got begun board
  pub kept : KeepsSaid ended p (follows.quiet ++ follows.cue ∷ []) old said
