-- The console bytes of ticks of one partition of a machine in isolation are those that are kept of them.
use Rattle.std.proofs.Common.{◌≡◌, ℕ, suc, ◌-◌, ◌<◌, Bool, true, false, List, [], ◌∷◌, ◌++◌, map, replicate, Option, Some, None, refl, sym, ap, ◌∙◌, subst, arith, append_assoc}
use Rattle.std.specs.Prelude.{All, if◌then◌else◌, Result, Ok, Err}
use Rattle.std.specs.List.{flat_map}
use Rattle.std.proofs.lemmas.Grind.{flat_map-append}
use Rattle.std.proofs.lemmas.List.{append-nil}
use Rattle.xm_report.specs.Report.{ConsoleLine, EndPart, EndWhole, HealthLine, MovedLine, PlanLine, ReportLine, StruckLine, SystemLine, TraceLine, WholeLine}
use Rattle.xm_report.specs.declared.output.WriteFault.{WriteFault}
use Rattle.cue_scripts.specs.Entries.{bare_cue}
use Rattle.guest_bus.specs.Memory.{Memory}
use Rattle.machine_model.specs.Alone.{Alone, alone_from, alone_lines_of, alone_local, alone_said, alone_step, alone_step_lines, alone_step_said}
use Rattle.machine_model.specs.Cue.{Cue}
use Rattle.machine_model.specs.Emission as emission
use Rattle.machine_model.specs.Emission.{Emission, line_of}
use Rattle.machine_model.specs.Laws.{part}
use Rattle.machine_model.specs.Lines.{local_lines, local_said}
use Rattle.machine_model.specs.LocalTick.{LocalTick, said_in}
use Rattle.machine_model.specs.Machine.{Machine, obeyed_emissions, worked_in}
use Rattle.machine_model.specs.View.{PartitionView, System, view_of}
use Rattle.machine_model.specs.Whole.{AllHalted, AllReset, NoEvent, WholeEvent, event_lines}
use Rattle.replay_model.specs.Passes.{part_in}
use Rattle.replay_tick.specs.LoneSpan.{AreSilent}
use Rattle.replay_tick.specs.LoneWork.{IsLoneTick, IsLoneTicked}
use Rattle.system_state.specs.State.{memory_of}
use Rattle.system_state.specs.declared.served.Note.{Note}
use Rattle.tick_steps.specs.TickLines.{IsOtherLine}
use Rattle.tick_steps.specs.Work.{console_emissions}
use Rattle.uart_board.specs.Views.{BoardView}
use Rattle.xm_machine.specs.AloneStep.{KeepsSaid}
use Rattle.xm_machine.specs.lemmas.AloneStepTerms.{IsPrintedAlone, printed_alone}
use Rattle.xm_machine.specs.lemmas.SaidTerms.{emitted_bytes}
use Rattle.xm_machine.specs.declared.alone_span.AloneFault.{AloneFault}
use Rattle.xm_machine.specs.declared.alone_span.AloneFault.TheVariants as fault
use Rattle.xm_machine.proofs.HeardLemmas.{HasTale, alone_tale, obeyed_silent, silent_after}

-- the console bytes of a line
abbrev said_by : ReportLine → List ℕ
said_by (SystemLine parts plans ticks) = []
said_by (ConsoleLine n p bytes) = bytes
said_by (HealthLine n p event word action) = []
said_by (TraceLine n p bits load) = []
said_by (MovedLine n p to) = []
said_by (StruckLine n p place bit) = []
said_by (WholeLine n to) = []
said_by (PlanLine n plan) = []
said_by (EndPart p state resets exec pc) = []
said_by (EndWhole halted plan clock ticks) = []

-- the lines of what a partition emits have its console bytes
one_said : (n p : ℕ) (t : Emission) → said_by (line_of n p t) ≡ said_in t
one_said n p (emission.Console bytes) = refl
one_said n p (emission.Health event word action) = refl
one_said n p (emission.Trace bits load) = refl
one_said n p (emission.Moved to) = refl

all_said : (n p : ℕ) (ts : List Emission) → flat_map said_by (map (line_of n p) ts) ≡ flat_map said_in ts
all_said n p [] = refl
all_said n p (t ∷ ts) = ap (λ first. first ++ flat_map said_by (map (line_of n p) ts)) (one_said n p t) ∙ ap (λ rest. said_in t ++ rest) (all_said n p ts)

-- other lines have none
none_said : (lines : List ReportLine) → All IsOtherLine lines → flat_map said_by lines ≡ []
none_said [] all = refl
none_said (line ∷ rest) all =
    ap (λ (first : List ℕ). first ++ flat_map said_by rest) (other line (all 0 line (omega arith))) ∙ none_said rest (λ k d below. all (suc k) d (omega (arith, below)))
  where
    other : (l : ReportLine) → IsOtherLine l → said_by l ≡ []
    other (SystemLine parts plans ticks) is = refl
    other (ConsoleLine n p bytes) is = absurd is
    other (HealthLine n p event word action) is = refl
    other (TraceLine n p bits load) is = refl
    other (MovedLine n p to) is = refl
    other (StruckLine n p place bit) is = refl
    other (WholeLine n to) is = refl
    other (PlanLine n plan) is = refl
    other (EndPart p state resets exec pc) is = refl
    other (EndWhole halted plan clock ticks) is = refl

event_said : (n p : ℕ) (event : WholeEvent) → flat_map said_by (event_lines n event p) ≡ []
event_said n p NoEvent = refl
event_said n p (AllReset mode) = refl
event_said n p AllHalted = refl

-- so the lines of a tick in isolation have its console bytes
lines_said : (g : Machine) (p : ℕ) (cue : Cue) → flat_map said_by (alone_step_lines (view_of g.system p) (part_in g p) cue) ≡ alone_step_said (view_of g.system p) (part_in g p) cue
unfolding alone_step_lines alone_lines_of alone_step_said part view_of
lines_said g p cue =
    let view = view_of g.system p in
    let a : Alone = part_in g p in
    let its = alone_tale g p cue in
    let l : Option LocalTick = alone_local view a cue in
    silent_after said_by (local_lines l ++ map (line_of a.ticks view.id) (obeyed_emissions cue.order (worked_in l a.state))) (event_lines a.ticks cue.whole view.id) (event_said a.ticks view.id cue.whole)
    ∙ silent_after said_by (local_lines l) (map (line_of a.ticks view.id) (obeyed_emissions cue.order (worked_in l a.state)))
    (all_said a.ticks view.id (obeyed_emissions cue.order (worked_in l a.state)) ∙ obeyed_silent cue.order (worked_in l a.state))
    ∙ ap (flat_map said_by) its.its_lines ∙ all_said g.ticks p its.tale ∙ sym its.its_bytes

-- and these are the bytes of its note
note_said : (p : ℕ) (cue : Cue) (a_note : Note) (old new : Machine) (lines : List ReportLine) → All IsOtherLine lines → IsLoneTicked p cue a_note old new lines
    → emitted_bytes (Some a_note) (memory_of p new) ≡ alone_step_said (view_of old.system p) (part_in old p) cue
note_said p cue a_note old new lines others ticked =
    sym (all_said old.ticks p (console_emissions a_note (memory_of p new)))
    ∙ sym (silent_after said_by (map (line_of old.ticks p) (console_emissions a_note (memory_of p new))) lines (none_said lines others))
    ∙ ap (flat_map said_by) (sym ticked.lines) ∙ lines_said old p cue

-- console bytes of cues, one after the other
said_add : (view : PartitionView) (a : Alone) (xs ys : List Cue) → alone_said view a (xs ++ ys) ≡ alone_said view a xs ++ alone_said view (alone_from view a xs) ys
said_add view a [] ys = refl
said_add view a (x ∷ xs) ys =
    ap (λ later. alone_step_said view a x ++ later) (said_add view (alone_step view a x) xs ys)
    ∙ sym (append_assoc (alone_step_said view a x) (alone_said view (alone_step view a x) xs) (alone_said view (alone_from view (alone_step view a x) xs) ys))

-- those of silent cues and one more
last_said : (p : ℕ) (quiet : List Cue) (cue : Cue) (old before : Machine) → AreSilent p quiet old before
    → alone_said (view_of old.system p) (part_in old p) (quiet ++ cue ∷ []) ≡ alone_step_said (view_of before.system p) (part_in before p) cue
last_said p quiet cue old before silent =
    let view = view_of old.system p in
    said_add view (part_in old p) quiet (cue ∷ [])
    ∙ ap (λ (first : List ℕ). first ++ alone_said view (alone_from view (part_in old p) quiet) (cue ∷ [])) silent.said
    ∙ append-nil (alone_step_said view (alone_from view (part_in old p) quiet) cue)
    ∙ ap (λ (a : Alone). alone_step_said view a cue) (sym silent.part)
    ∙ ap (λ (system : System). alone_step_said (view_of system p) (part_in before p) cue) (sym silent.system.system)

-- what is kept, whatever the sink answered
said_kept : (t : Result ℕ WriteFault) (p : ℕ) (cues : List Cue) (old : Machine) (said : List ℕ) → said ≡ alone_said (view_of old.system p) (part_in old p) cues → KeepsSaid (printed_alone t) p cues old said
said_kept (Ok count) p cues old said is = is
said_kept (Err unwritten) p cues old said is = is

-- ticks of which all but the last are silent keep the console bytes of them all
module _ (o : Option Note) (n p : ℕ) (quiet : List Cue) (cue : Cue) (old before new : Machine) (lines : List ReportLine) (result : Result (Unit {0}) AloneFault) (had got : Option (List ℕ)) (faults now : ℕ)
    (empty full : BoardView) (said : List ℕ) (others : All IsOtherLine lines) (silent : AreSilent p quiet old before) (tick : IsLoneTick o p cue before new lines)
    (printed : IsPrintedAlone o n p new lines result had got faults now empty full) (is : said ≡ emitted_bytes o (memory_of p new)) where
  pub span_kept : KeepsSaid result p (quiet ++ cue ∷ []) old said
  span_kept = by o tick printed is
    where
      by : (x : Option Note) → IsLoneTick x p cue before new lines → IsPrintedAlone x n p new lines result had got faults now empty full → said ≡ emitted_bytes x (memory_of p new)
          → KeepsSaid result p (quiet ++ cue ∷ []) old said
      by (Some a_note) ticked done same =
          subst (λ (r : Result (Unit {0}) AloneFault). KeepsSaid r p (quiet ++ cue ∷ []) old said) (sym done.is)
          (said_kept done.ends p (quiet ++ cue ∷ []) old said (same ∙ note_said p cue a_note before new lines others ticked ∙ sym (last_said p quiet cue old before silent)))
      by None untaken done same = subst (λ (r : Result (Unit {0}) AloneFault). KeepsSaid r p (quiet ++ cue ∷ []) old said) (sym done.0) tt

-- one tick
pub tick_kept : (o : Option Note) (n p : ℕ) (cue : Cue) (old new : Machine) (lines : List ReportLine) (result : Result (Unit {0}) AloneFault) (had got : Option (List ℕ)) (faults now : ℕ) (empty full : BoardView) (said : List ℕ)
    → old.halted ≡ false → All IsOtherLine lines → IsLoneTick o p cue old new lines → IsPrintedAlone o n p new lines result had got faults now empty full → said ≡ emitted_bytes o (memory_of p new)
    → KeepsSaid result p (cue ∷ []) old said
tick_kept o n p cue old new lines result had got faults now empty full said runs others tick printed is =
    span_kept o n p [] cue old old new lines result had got faults now empty full said others
    (record { taken = tt; part = refl; lines = refl; said = refl; system = record { system = refl; parts = refl }; running = runs }) tick printed is
