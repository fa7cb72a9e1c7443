-- One tick of one partition of a machine in isolation, printed.
use Rattle.std.proofs.Common.{◌≡◌, ℕ, ◌≤◌, List, ◌++◌, length, map, Option, Some, None, sym, ap, subst, ◌∙◌, arith}
use Rattle.std.specs.Prelude.{IfSome, Result, Ok, Err}
use Rattle.xm_report.specs.Report.{ReportLine}
use Rattle.xm_report.specs.declared.output.WriteFault.{WriteFault}
use Rattle.system_state.specs.Serving.{CanBeEmitted}
use Rattle.system_state.specs.State.{areas_in, memory_of}
use Rattle.system_state.specs.declared.served.Note.{Note}
use Rattle.machine_model.specs.Alone.{alone_step_lines}
use Rattle.machine_model.specs.Cue.{Cue}
use Rattle.machine_model.specs.Machine.{Machine}
use Rattle.machine_model.specs.Emission.{line_of}
use Rattle.machine_model.specs.View.{view_of}
use Rattle.uart_board.specs.Heard.{IsHeard}
use Rattle.uart_board.specs.Views.{BoardView}
use Rattle.replay_model.specs.Passes.{part_in}
use Rattle.replay_model.specs.Step.{IsLone}
use Rattle.replay_tick.specs.LoneWork.{IsLoneTick, IsLoneTicked}
use Rattle.tick_steps.specs.Work.{console_emissions}
use Rattle.xm_machine.specs.AloneStep.{HasStepCause, IsSaidAlone, StepsAlone, said_alone}
use Rattle.xm_machine.specs.lemmas.AloneStepTerms.{IsPrintedAlone, printed_alone}
use Rattle.xm_machine.specs.lemmas.HeardTerms.{lines_to}
use Rattle.xm_machine.specs.Outcome.{HasWriteCause}
use Rattle.xm_machine.specs.lemmas.StepsTerms.{Prints}
use Rattle.xm_machine.specs.declared.alone_span.AloneFault.{AloneFault}
use Rattle.xm_machine.proofs.HeardLemmas.{alone_heard}

-- its lines went out, or a prefix of them
printed_so : (t : Result ℕ WriteFault) (p : ℕ) (cue : Cue) (old new : Machine) (had got : Option (List ℕ)) → IsLone p cue old new
    → Prints t (alone_step_lines (view_of old.system p) (part_in old p) cue) had got → StepsAlone (printed_alone t) p cue old new had got
printed_so (Ok count) p cue old new had got lone prints = (lone, prints.1)
printed_so (Err fault) p cue old new had got lone prints = (lone, prints)

step_printed : (t : Result ℕ WriteFault) (n p : ℕ) (cue : Cue) (a_note : Note) (old new : Machine) (lines : List ReportLine) (had got : Option (List ℕ)) → n ≡ old.ticks
    → IsLoneTicked p cue a_note old new lines → Prints t (map (line_of n p) (console_emissions a_note (memory_of p new)) ++ lines) had got → StepsAlone (printed_alone t) p cue old new had got
step_printed t n p cue a_note old new lines had got n_is ticked prints =
    printed_so t p cue old new had got ticked.lone
    (subst (λ (all : List ReportLine). Prints t all had got)
    (ap (λ (k : ℕ). map (line_of k p) (console_emissions a_note (memory_of p new)) ++ lines) n_is ∙ sym ticked.lines) prints)

-- its cause
step_cause : (t : Result ℕ WriteFault) (before now : ℕ) → HasWriteCause t before now → HasStepCause (printed_alone t) before now
step_cause (Ok count) before now cause = cause
step_cause (Err fault) before now cause = cause

-- its console bytes were said
said_so : (t : Result ℕ WriteFault) (p : ℕ) (cue : Cue) (old : Machine) (before after : BoardView) → IsHeard (said_alone old p cue) before after
    → IsSaidAlone (printed_alone t) p cue old before after
said_so (Ok count) p cue old before after heard = heard
said_so (Err fault) p cue old before after heard = heard

step_said : (t : Result ℕ WriteFault) (n p : ℕ) (cue : Cue) (a_note : Note) (old new : Machine) (lines : List ReportLine) (before after : BoardView) → n ≡ old.ticks
    → new.system ≡ old.system → IsLoneTicked p cue a_note old new lines
    → IsHeard (lines_to new (map (line_of n p) (console_emissions a_note (memory_of p new)) ++ lines)) before after → IsSaidAlone (printed_alone t) p cue old before after
step_said t n p cue a_note old new lines before after n_is same ticked heard =
    said_so t p cue old before after
    (alone_heard old new p cue (map (line_of n p) (console_emissions a_note (memory_of p new)) ++ lines) before after same
    (ticked.lines ∙ ap (λ (k : ℕ). map (line_of k p) (console_emissions a_note (memory_of p new)) ++ lines) (sym n_is)) heard)

-- a tick that was done or not, and what was printed of it
module _ (o : Option Note) (n p : ℕ) (cue : Cue) (old new : Machine) (lines : List ReportLine) (result : Result (Unit {0}) AloneFault) (had got : Option (List ℕ)) (before now : ℕ)
    (empty full : BoardView) (n_is : n ≡ old.ticks) (same : new.system ≡ old.system) (tick : IsLoneTick o p cue old new lines)
    (printed : IsPrintedAlone o n p new lines result had got before now empty full) where
  pub printed_steps : StepsAlone result p cue old new had got
  printed_steps = by o tick printed
    where
      by : (x : Option Note) → IsLoneTick x p cue old new lines → IsPrintedAlone x n p new lines result had got before now empty full → StepsAlone result p cue old new had got
      by (Some a_note) ticked is =
          subst (λ (r : Result (Unit {0}) AloneFault). StepsAlone r p cue old new had got) (sym is.is) (step_printed is.ends n p cue a_note old new lines had got n_is ticked is.printed)
      by None untaken is = subst (λ (r : Result (Unit {0}) AloneFault). StepsAlone r p cue old new had got) (sym is.0) (untaken, is.1)

  pub printed_cause : HasStepCause result before now
  printed_cause = by o printed
    where
      by : (x : Option Note) → IsPrintedAlone x n p new lines result had got before now empty full → HasStepCause result before now
      by (Some a_note) is = subst (λ (r : Result (Unit {0}) AloneFault). HasStepCause r before now) (sym is.is) (step_cause is.ends before now is.cause)
      by None is = subst (λ (r : Result (Unit {0}) AloneFault). HasStepCause r before now) (sym is.0) is.2

  pub printed_said : IsSaidAlone result p cue old empty full
  printed_said = by o tick printed
    where
      by : (x : Option Note) → IsLoneTick x p cue old new lines → IsPrintedAlone x n p new lines result had got before now empty full → IsSaidAlone result p cue old empty full
      by (Some a_note) ticked is =
          subst (λ (r : Result (Unit {0}) AloneFault). IsSaidAlone r p cue old empty full) (sym is.is) (step_said is.ends n p cue a_note old new lines empty full n_is same ticked is.heard)
      by None untaken is = subst (λ (r : Result (Unit {0}) AloneFault). IsSaidAlone r p cue old empty full) (sym is.0) is.3

-- its note can be emitted, and its lines are few
pub can_be_emitted : (o : Option Note) (p : ℕ) (cue : Cue) (old new : Machine) (lines : List ReportLine) → IsLoneTick o p cue old new lines → IfSome o (λ a_note. CanBeEmitted a_note (areas_in p new))
can_be_emitted (Some a_note) p cue old new lines ticked = ticked.readable
can_be_emitted None p cue old new lines untaken = tt

pub are_few : (o : Option Note) (p : ℕ) (cue : Cue) (old new : Machine) (lines : List ReportLine) → IsLoneTick o p cue old new lines → IfSome o (λ a_note. length lines ≤ 40)
are_few (Some a_note) p cue old new lines ticked = let few : length lines ≤ 24 = ticked.few in omega (arith, few)
are_few None p cue old new lines untaken = tt
