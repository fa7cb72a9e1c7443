-- Upsets of a partition that is replayed: they strike its own part of the machine, and then it follows its cues.
use Rattle.std.proofs.Common.{◌≡◌, ℕ, zero, suc, ◌+◌, ◌<◌, ◌≤◌, Bool, true, false, if◌then◌else◌, List, [], ◌∷◌, ◌++◌, length, map, Option, Result, Ok, Err, refl, sym, ap, subst, ◌∙◌, arith, append_assoc, length-append}
use Rattle.std.specs.Prelude.{◌==◌}
use Rattle.std.proofs.Math.Seq.{take-length}
use Rattle.std.proofs.lemmas.List.{append-nil}
use Rattle.std.proofs.lemmas.Option.{same_Some, slice_get-get_or}
use Rattle.xm_base.specs.Options.{on}
use Rattle.xm_outside.specs.Causes.{Rose}
use Rattle.xm_outside.specs.Growth.{GrewByPrefix, grown}
use Rattle.xm_outside.specs.lemmas.GrowthLemmas.{grown-nothing, grown_grown}
use Rattle.xm_report.specs.Report.{texts}
use Rattle.xm_report.specs.lemmas.ReportLemmas.{texts-append}
use Rattle.uart_board.specs.Heard.{IsHeard}
use Rattle.uart_board.specs.Views.{BoardView}
use Rattle.machine_model.specs.lemmas.ListLemmas.{each_counted, get_each}
use Rattle.machine_model.specs.Alone.{Alone, alone_from, alone_said, alone_step, alone_step_lines, alone_step_said}
use Rattle.machine_model.specs.Cue.{Cue}
use Rattle.machine_model.specs.Laws.{part}
use Rattle.machine_model.specs.Lists.{is_number}
use Rattle.machine_model.specs.Machine.{Machine, booted_part, copies}
use Rattle.machine_model.specs.Partition.{PartitionState}
use Rattle.machine_model.specs.View.{PartitionView, System, part_of, view_of}
use Rattle.span_model.specs.Passes.{part_at}
use Rattle.replay_model.specs.Passes.{part_in}
use Rattle.replay_model.specs.Step.{IsLone, IsOfSystem}
use Rattle.replay_model.specs.Taking.{takes_cue}
use Rattle.replay_tick.specs.LoneSpan.{AreSilent}
use Rattle.upset_model.specs.Places.{Timetable, lines_for, strike_of, upset_of}
use Rattle.upset_model.specs.Reports.{struck_line}
use Rattle.upset_model.specs.Upsets.{Upset, alone_struck, ready, ready_unless, struck_if, upset, upsets}
use Rattle.upset_model.specs.lemmas.Segments.{AreNone, AreNoneLater, ready_system}
use Rattle.upset_model.specs.declared.upset_line.UpsetLine.{UpsetLine}
use Rattle.xm_machine.specs.AloneStep.{HasStepCause, IsSaidAlone, KeepsSaid, StepsAlone, said_alone}
use Rattle.xm_machine.specs.declared.alone_span.AloneFault.{AloneFault}
use Rattle.xm_machine.specs.declared.alone_span.AloneFault.TheVariants as fault
use Rattle.xm_alone.specs.lemmas.Cues.{FollowsSaid, next_left}
use Rattle.xm_alone.specs.lemmas.Struck.{FollowsStruck, HasStruckCause, IsSaidStruck, IsStruckLone, IsUnprinted, KeepsStruck, StepsStruck, said_struck, struck_by, tick_lines, tick_said, tick_taken}
use Rattle.xm_alone.specs.declared.cues.Next as code_next
use Rattle.xm_alone.proofs.FollowLemmas.{struck_none}
use Rattle.xm_alone.proofs.PlayLemmas.{beyond, front_of, heard_as}

-- what an upset makes of a partition
upset_state : (line : UpsetLine) (g : Machine) (p : ℕ) → p < length g.parts → part_at p (upset (upset_of line) g) ≡ struck_if (line.part == p) (strike_of line) (part_at p g)
unfolding upset
upset_state line g p below =
    let new = upset (upset_of line) g in
    let there : p < length new.parts = omega (arith, below, each_counted (λ k ps. struck_if (line.part == k) (strike_of line) ps) g.parts) in
    same_Some (part_at p new) (struck_if (line.part == p) (strike_of line) (part_at p g))
    (sym (slice_get-get_or new.parts p (booted_part g.system p) there) ∙ get_each (λ k ps. struck_if (line.part == k) (strike_of line) ps) g.parts p
    ∙ ap (on (struck_if (line.part == p) (strike_of line))) (slice_get-get_or g.parts p (booted_part g.system p) below))

-- all else that the partition has of its own is the same
upset_rest : (u : Upset) (g : Machine) (p : ℕ) → part_in (upset u g) p ≡ part g p (part_at p (upset u g))
unfolding part copies upset
upset_rest u g p = refl

part_struck : (b : Bool) (line : UpsetLine) (g : Machine) (p : ℕ) (ps : PartitionState) → part g p (struck_if b (strike_of line) ps) ≡ struck_by (if b then line ∷ [] else []) (part g p ps)
unfolding part alone_struck
part_struck true line g p ps = refl
part_struck false line g p ps = refl

upset_counted : (u : Upset) (g : Machine) → length (upset u g).parts ≡ length g.parts
unfolding upset
upset_counted u g = each_counted (λ k ps. struck_if (u.part == k) u.strike ps) g.parts

then_struck : (b : Bool) (line : UpsetLine) (lines : List UpsetLine) (a : Alone) → struck_by lines (struck_by (if b then line ∷ [] else []) a) ≡ struck_by (if b then line ∷ lines else lines) a
unfolding alone_struck
then_struck true line lines a = refl
then_struck false line lines a = refl

-- what upsets make of it: those that are its own strike it, and no others
upsets_struck : (lines : List UpsetLine) (g : Machine) (p : ℕ) → p < length g.parts → part_in (upsets (map upset_of lines) g) p ≡ struck_by (lines_for p lines) (part_in g p)
upsets_struck [] g p below = sym (struck_none (part_in g p))
upsets_struck (line ∷ lines) g p below =
    let next = upset (upset_of line) g in
    upsets_struck lines next p (omega (arith, below, upset_counted (upset_of line) g))
    ∙ ap (struck_by (lines_for p lines)) (upset_rest (upset_of line) g p ∙ ap (part g p) (upset_state line g p below) ∙ part_struck (line.part == p) line g p (part_at p g))
    ∙ then_struck (line.part == p) line (lines_for p lines) (part_in g p)

upsets_counted : (us : List Upset) (g : Machine) → length (upsets us g).parts ≡ length g.parts
upsets_counted [] g = refl
upsets_counted (u ∷ us) g = upsets_counted us (upset u g) ∙ upset_counted u g

ready_runs : (us : List Upset) (g : Machine) → g.halted ≡ false → ready us g ≡ upsets us g
unfolding ready
ready_runs us g runs = ap (λ b. ready_unless b us g) runs

pub ready_struck : (lines : List UpsetLine) (g : Machine) (p : ℕ) → g.halted ≡ false → p < length g.parts → part_in (ready (map upset_of lines) g) p ≡ struck_by (lines_for p lines) (part_in g p)
ready_struck lines g p runs below = ap (λ (m : Machine). part_in m p) (ready_runs (map upset_of lines) g runs) ∙ upsets_struck lines g p below

pub ready_same : (lines : List UpsetLine) (g : Machine) → g.halted ≡ false → IsOfSystem g (ready (map upset_of lines) g)
ready_same lines g runs = record {
  system = ready_system (map upset_of lines) g;
  parts = ap (λ (m : Machine). length m.parts) (ready_runs (map upset_of lines) g runs) ∙ upsets_counted (map upset_of lines) g;
}

-- one after the other
pub same_then : (a b c : Machine) → IsOfSystem a b → IsOfSystem b c → IsOfSystem a c
same_then a b c one other = record { system = other.system ∙ one.system; parts = other.parts ∙ one.parts }

-- a tick of a machine that is the struck one, by what it is of this one
module _ (p : ℕ) (lines : List UpsetLine) (cue : Cue) (old before new : Machine) (seen : before.system ≡ old.system) (here : part_in before p ≡ struck_by lines (part_in old p)) where
  takes : takes_cue (view_of before.system p) (part_in before p) cue ≡ tick_taken (view_of old.system p) lines (part_in old p) cue
  takes = ap (λ (s : System). takes_cue (view_of s p) (part_in before p) cue) seen ∙ ap (λ (a : Alone). takes_cue (view_of old.system p) a cue) here

  says : alone_step_said (view_of before.system p) (part_in before p) cue ≡ tick_said (view_of old.system p) lines (part_in old p) cue
  says = ap (λ (s : System). alone_step_said (view_of s p) (part_in before p) cue) seen ∙ ap (λ (a : Alone). alone_step_said (view_of old.system p) a cue) here

  prints : map struck_line lines ++ alone_step_lines (view_of before.system p) (part_in before p) cue ≡ tick_lines (view_of old.system p) lines (part_in old p) cue
  prints =
      ap (λ (s : System). map struck_line lines ++ alone_step_lines (view_of s p) (part_in before p) cue) seen
      ∙ ap (λ (a : Alone). map struck_line lines ++ alone_step_lines (view_of old.system p) a cue) here

  both : texts (map struck_line lines) ++ texts (alone_step_lines (view_of before.system p) (part_in before p) cue) ≡ texts (tick_lines (view_of old.system p) lines (part_in old p) cue)
  both = sym (texts-append (map struck_line lines) (alone_step_lines (view_of before.system p) (part_in before p) cue)) ∙ ap texts prints

  lone_struck : IsLone p cue before new → IsStruckLone p lines cue old new
  lone_struck one = record {
    taken = sym takes ∙ one.taken;
    part = one.part ∙ ap (λ (s : System). alone_step (view_of s p) (part_in before p) cue) seen ∙ ap (λ (a : Alone). alone_step (view_of old.system p) a cue) here;
    halted = one.halted;
  }

  -- the lines of the upsets went out, and then those of the tick
  steps_struck : {T : Type 0} (ended : Result T AloneFault) (had mid got : Option (List ℕ)) → mid ≡ grown had (texts (map struck_line lines)) → StepsAlone ended p cue before new mid got → StepsStruck ended p lines cue old new had got
  steps_struck (Ok done) had mid got first step =
      let last = texts (alone_step_lines (view_of before.system p) (part_in before p) cue) in
      (lone_struck step.0, step.1 ∙ ap (λ m. grown m last) first ∙ grown_grown had (texts (map struck_line lines)) last ∙ ap (grown had) both)
  steps_struck (Err fault.Write) had mid got first step =
      let last = texts (alone_step_lines (view_of before.system p) (part_in before p) cue) in
      let all = texts (tick_lines (view_of old.system p) lines (part_in old p) cue) in (
        lone_struck step.0,
        record {
          count = length (texts (map struck_line lines)) + step.1.count;
          short = omega (arith, step.1.short, length-append (texts (map struck_line lines)) last, ap (λ (bytes : List ℕ). length bytes) both);
          grew = beyond had mid got (texts (map struck_line lines)) last [] all first step.1 (append-nil (texts (map struck_line lines) ++ last) ∙ both);
        },
      )
  steps_struck (Err fault.Cue) had mid got first step =
      (sym takes ∙ step.0, record { count = length (texts (map struck_line lines)); grew = step.1 ∙ first ∙ ap (grown had) (sym (take-length (texts (map struck_line lines)))) })

  -- not all of the lines of the upsets
  cut_whole : (had got : Option (List ℕ)) → GrewByPrefix had (texts (map struck_line lines)) got → GrewByPrefix had (texts (tick_lines (view_of old.system p) lines (part_in old p) cue)) got
  cut_whole had got cut =
      let last = texts (alone_step_lines (view_of before.system p) (part_in before p) cue) in
      record {
        count = cut.count;
        short = omega (arith, cut.short, length-append (texts (map struck_line lines)) last, ap (λ (bytes : List ℕ). length bytes) both);
        grew = front_of had got (texts (map struck_line lines)) last (texts (tick_lines (view_of old.system p) lines (part_in old p) cue)) cut both;
      }

  -- they went out in part, and then none of the tick
  steps_unprinted : {T : Type 0} (ended result : Result T AloneFault) (had got unseen other : Option (List ℕ)) → GrewByPrefix had (texts (map struck_line lines)) got → IsUnprinted ended result
      → StepsAlone ended p cue before new unseen other → StepsStruck result p lines cue old new had got
  steps_unprinted {T = T} (Ok done) result had got unseen other cut is step =
      subst (λ (r : Result T AloneFault). StepsStruck r p lines cue old new had got) (sym is) (lone_struck step.0, cut_whole had got cut)
  steps_unprinted {T = T} (Err fault.Write) result had got unseen other cut is step =
      subst (λ (r : Result T AloneFault). StepsStruck r p lines cue old new had got) (sym is) (lone_struck step.0, cut_whole had got cut)
  steps_unprinted {T = T} (Err fault.Cue) result had got unseen other cut is step =
      subst (λ (r : Result T AloneFault). StepsStruck r p lines cue old new had got) (sym is) (sym takes ∙ step.0, record { count = cut.count; grew = cut.grew })

  heard_struck : (begun board : BoardView) → IsHeard (said_alone before p cue) begun board → IsHeard (said_struck old p lines cue) begun board
  heard_struck begun board heard =
      heard_as (said_alone before p cue) (said_struck old p lines cue) begun board
      (λ uart.
      ap (λ (bytes : List ℕ). if is_number (part_of before.system.conf p).console uart then bytes else []) says
      ∙ ap (λ (s : System). if is_number (part_of s.conf p).console uart then tick_said (view_of old.system p) lines (part_in old p) cue else []) seen) heard

  said_is : {T : Type 0} (ended : Result T AloneFault) (begun board : BoardView) → IsSaidAlone ended p cue before begun board → IsSaidStruck ended p lines cue old begun board
  said_is (Ok done) begun board heard = heard_struck begun board heard
  said_is (Err fault.Write) begun board heard = heard_struck begun board heard
  said_is (Err fault.Cue) begun board heard = tt

  said_unprinted : {T : Type 0} (ended result : Result T AloneFault) (begun board : BoardView) → IsUnprinted ended result → IsSaidAlone ended p cue before begun board → IsSaidStruck result p lines cue old begun board
  said_unprinted {T = T} (Ok done) result begun board is heard = subst (λ (r : Result T AloneFault). IsSaidStruck r p lines cue old begun board) (sym is) (heard_struck begun board heard)
  said_unprinted {T = T} (Err fault.Write) result begun board is heard = subst (λ (r : Result T AloneFault). IsSaidStruck r p lines cue old begun board) (sym is) (heard_struck begun board heard)
  said_unprinted {T = T} (Err fault.Cue) result begun board is heard = subst (λ (r : Result T AloneFault). IsSaidStruck r p lines cue old begun board) (sym is) tt

-- the console bytes of cues and of one more
said_one_more : (view : PartitionView) (a : Alone) (xs : List Cue) (x : Cue) → alone_said view a (xs ++ x ∷ []) ≡ alone_said view a xs ++ alone_step_said view (alone_from view a xs) x
said_one_more view a [] x = append-nil (alone_step_said view a x)
said_one_more view a (first ∷ xs) x =
    ap (λ (rest : List ℕ). alone_step_said view a first ++ rest) (said_one_more view (alone_step view a first) xs x)
    ∙ sym (append_assoc (alone_step_said view a first) (alone_said view (alone_step view a first) xs) (alone_step_said view (alone_from view (alone_step view a first) xs) x))

-- those of silent cues and one more are those of that one
last_said : (p : ℕ) (quiet : List Cue) (cue : Cue) (old before : Machine) → AreSilent p quiet old before
    → alone_said (view_of old.system p) (part_in old p) (quiet ++ cue ∷ []) ≡ alone_step_said (view_of before.system p) (part_in before p) cue
last_said p quiet cue old before silent =
    let view = view_of old.system p in
    said_one_more view (part_in old p) quiet cue
    ∙ ap (λ (first : List ℕ). first ++ alone_step_said view (alone_from view (part_in old p) quiet) cue) silent.said
    ∙ ap (λ (a : Alone). alone_step_said view a cue) (sym silent.part)
    ∙ ap (λ (system : System). alone_step_said (view_of system p) (part_in before p) cue) (sym silent.system.system)

keeps_struck : {T : Type 0} (ended : Result T AloneFault) (p : ℕ) (lines : List UpsetLine) (quiet : List Cue) (cue : Cue) (old begun before : Machine) (said : List ℕ) → before.system ≡ old.system → part_in before p ≡ struck_by lines (part_in old p)
    → AreSilent p quiet begun before → KeepsSaid ended p (quiet ++ cue ∷ []) begun said → KeepsStruck ended p lines cue old said
keeps_struck (Ok done) p lines quiet cue old begun before said seen here silent kept = kept ∙ last_said p quiet cue begun before silent ∙ says p lines cue old before before seen here
keeps_struck (Err fault.Write) p lines quiet cue old begun before said seen here silent kept = tt
keeps_struck (Err fault.Cue) p lines quiet cue old begun before said seen here silent kept = tt

-- no items
pub no_items : {X : Type 0} (xs : List X) → length xs ≡ 0 → xs ≡ []
no_items [] none = refl
no_items (x ∷ xs) none = absurd (omega (arith, none))

-- no cues
none_silent : (p : ℕ) (g : Machine) → g.halted ≡ false → AreSilent p [] g g
none_silent p g runs = record { taken = tt; part = refl; lines = refl; said = refl; system = record { system = refl; parts = refl }; running = runs }

short_none : {X : Type 0} (xs : List X) → length xs + 1 ≤ 1 → xs ≡ []
short_none [] short = refl
short_none (x ∷ xs) short = absurd (omega (arith, short))

-- no line strikes before any of the ticks
all_none : {X : Type 0} (most : ℕ) (f : ℕ → List X) → f 0 ≡ [] → AreNoneLater most f → AreNone most f
all_none most f first later zero below = first
all_none most f first later (suc k) below = later k below

-- what follows where nothing strikes
pub none_follows : {T : Type 0} (ended : Result T AloneFault) (ticks most p : ℕ) (own : Timetable) (first : code_next.Next) (old new : Machine) (had got : Option (List ℕ)) (begun board : BoardView) (said : List ℕ)
    → own 0 ≡ [] → AreNoneLater most own → ticks ≤ most → FollowsSaid ended ticks p first old new had got begun board said → FollowsStruck ended ticks p own first old new had got begun board said
none_follows ended ticks most p own first old new had got begun board said now later within is =
    let f = is.follows in
    let none : AreNone most own = all_none most own now later in
    let n = length f.quiet in
    let last : own n ≡ [] = none n (omega (arith, within, f.count)) in
    let here : part_in f.before p ≡ struck_by (own n) (part_in f.before p) = sym (struck_none (part_in f.before p)) ∙ ap (λ (ls : List UpsetLine). struck_by ls (part_in f.before p)) (sym last) in
    let nothing : had ≡ grown had (texts (map struck_line (own n))) = sym (grown-nothing had) ∙ ap (λ (ls : List UpsetLine). grown had (texts (map struck_line ls))) (sym last) in
    record {
      before = f.before;
      quiet = f.quiet;
      cue = f.cue;
      split = f.split;
      count = f.count;
      none = λ k below. none k (omega (arith, below, within, f.count));
      silent = f.silent;
      step = steps_struck p (own n) f.cue f.before f.before new refl here ended had had got nothing f.step;
      heard = said_is p (own n) f.cue f.before f.before new refl here ended begun board f.heard;
      kept = keeps_struck ended p (own n) f.quiet f.cue f.before old f.before said refl here f.silent is.kept;
    }

-- what follows where upsets have struck: one tick
module _ (ticks p : ℕ) (lines : List UpsetLine) (own : Timetable) (first : code_next.Next) (old struck new : Machine) (runs : old.halted ≡ false) (same : IsOfSystem old struck) (strikes : part_in struck p ≡ struck_by lines (part_in old p)) (its : own 0 ≡ lines) (one : ticks ≤ 1) where
  pub struck_follows : {T : Type 0} (ended : Result T AloneFault) (had mid got : Option (List ℕ)) (begun board : BoardView) (said : List ℕ) → mid ≡ grown had (texts (map struck_line lines))
      → FollowsSaid ended ticks p first struck new mid got begun board said → FollowsStruck ended ticks p own first old new had got begun board said
  struck_follows ended had mid got begun board said prints is =
      let f = is.follows in
      let none : f.quiet ≡ [] = short_none f.quiet (omega (arith, one, f.count)) in
      let silent : AreSilent p [] struck f.before = subst (λ q. AreSilent p q struck f.before) none f.silent in
      let seen : f.before.system ≡ old.system = silent.system.system ∙ same.system in
      let here : part_in f.before p ≡ struck_by (own 0) (part_in old p) = silent.part ∙ strikes ∙ ap (λ (ls : List UpsetLine). struck_by ls (part_in old p)) (sym its) in
      record {
        before = old;
        quiet = [];
        cue = f.cue;
        split = f.split ∙ ap (λ q. q ++ f.cue ∷ next_left first ticks) none;
        count = f.count ∙ ap (λ (q : List Cue). length q + 1) none;
        none = λ k below. absurd (omega (arith, below));
        silent = none_silent p old runs;
        step = steps_struck p (own 0) f.cue old f.before new seen here ended had mid got (prints ∙ ap (λ (ls : List UpsetLine). grown had (texts (map struck_line ls))) (sym its)) f.step;
        heard = said_is p (own 0) f.cue old f.before new seen here ended begun board f.heard;
        kept = keeps_struck ended p (own 0) f.quiet f.cue old struck f.before said seen here f.silent is.kept;
      }

  -- or of which not all lines went out
  pub unprinted_follows : {T : Type 0} (ended result : Result T AloneFault) (had got unseen other : Option (List ℕ)) (begun board : BoardView) (said : List ℕ) → GrewByPrefix had (texts (map struck_line lines)) got
      → IsUnprinted ended result → FollowsSaid ended ticks p first struck new unseen other begun board said → FollowsStruck result ticks p own first old new had got begun board said
  unprinted_follows ended result had got unseen other begun board said cut answers is =
      let f = is.follows in
      let empty : f.quiet ≡ [] = short_none f.quiet (omega (arith, one, f.count)) in
      let silent : AreSilent p [] struck f.before = subst (λ q. AreSilent p q struck f.before) empty f.silent in
      let seen : f.before.system ≡ old.system = silent.system.system ∙ same.system in
      let here : part_in f.before p ≡ struck_by (own 0) (part_in old p) = silent.part ∙ strikes ∙ ap (λ (ls : List UpsetLine). struck_by ls (part_in old p)) (sym its) in
      record {
        before = old;
        quiet = [];
        cue = f.cue;
        split = f.split ∙ ap (λ q. q ++ f.cue ∷ next_left first ticks) empty;
        count = f.count ∙ ap (λ (q : List Cue). length q + 1) empty;
        none = λ k below. absurd (omega (arith, below));
        silent = none_silent p old runs;
        step = steps_unprinted p (own 0) f.cue old f.before new seen here ended result had got unseen other
            (subst (λ (ls : List UpsetLine). GrewByPrefix had (texts (map struck_line ls)) got) (sym its) cut) answers f.step;
        heard = said_unprinted p (own 0) f.cue old f.before new seen here ended result begun board answers f.heard;
        kept = not_kept ended result p (own 0) f.cue old said answers;
      }
    where
      not_kept : {T : Type 0} (ended result : Result T AloneFault) (p : ℕ) (lines : List UpsetLine) (cue : Cue) (g : Machine) (said : List ℕ) → IsUnprinted ended result → KeepsStruck result p lines cue g said
      not_kept {T = T} (Ok done) result p lines cue g said is = subst (λ (r : Result T AloneFault). KeepsStruck r p lines cue g said) (sym is) tt
      not_kept {T = T} (Err fault.Write) result p lines cue g said is = subst (λ (r : Result T AloneFault). KeepsStruck r p lines cue g said) (sym is) tt
      not_kept {T = T} (Err fault.Cue) result p lines cue g said is = subst (λ (r : Result T AloneFault). KeepsStruck r p lines cue g said) (sym is) tt

-- the cause of what they answer
pub struck_cause : {T : Type 0} (ended : Result T AloneFault) (before now : ℕ) → HasStepCause ended before now → HasStruckCause ended before now
struck_cause (Ok done) before now cause = cause
struck_cause (Err fault.Write) before now cause = cause
struck_cause (Err fault.Cue) before now cause = tt

-- also after what left the count
pub struck_cause_from : {T : Type 0} (ended : Result T AloneFault) (before between now : ℕ) → between ≡ before → HasStepCause ended between now → HasStruckCause ended before now
struck_cause_from {T = T} ended before between now same cause = subst (λ n. HasStruckCause {T = T} ended n now) same (struck_cause ended between now cause)

pub unprinted_cause : {T : Type 0} (ended result : Result T AloneFault) (before now : ℕ) → IsUnprinted ended result → Rose before now → HasStruckCause result before now
unprinted_cause {T = T} (Ok done) result before now is rose = subst (λ (r : Result T AloneFault). HasStruckCause r before now) (sym is) rose
unprinted_cause {T = T} (Err fault.Write) result before now is rose = subst (λ (r : Result T AloneFault). HasStruckCause r before now) (sym is) rose
unprinted_cause {T = T} (Err fault.Cue) result before now is rose = subst (λ (r : Result T AloneFault). HasStruckCause r before now) (sym is) tt

-- these upsets before the first of the ticks, of which those are the partition's own, and none before the others
abbrev pub its_own : ℕ → List UpsetLine → Timetable
its_own p lines zero = lines_for p lines
its_own p lines (suc k) = []

pub none_else : (p : ℕ) (lines : List UpsetLine) (most : ℕ) → AreNoneLater most (its_own p lines)
none_else p lines most k below = refl
