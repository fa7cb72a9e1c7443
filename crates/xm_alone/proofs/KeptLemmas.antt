-- What ticks of a replay show, and that it is kept.
use Rattle.std.proofs.Common.{◌≡◌, ℕ, ◌+◌, ◌≤◌, false, List, [], ◌∷◌, ◌++◌, drop, length, map, suc, take, Option, Some, None, Result, Ok, Err, refl, sym, ap, subst, ◌∙◌, arith, append_assoc, length-append}
use Rattle.std.proofs.Math.Seq.{drop-append_seam, take-append_seam, take-length}
use Rattle.std.proofs.lemmas.List.{append-nil, drop-append-le, drop_all, length-drop, take-append-drop, take-append-le, take_all}
use Rattle.std.specs.Prelude.{IfSome}
use Rattle.xm_report.specs.Report.{ReportLine, texts}
use Rattle.machine_model.specs.Alone.{Alone, alone_lines, alone_step, alone_step_lines, alone_step_said}
use Rattle.machine_model.specs.Cue.{Cue}
use Rattle.machine_model.specs.Machine.{Machine}
use Rattle.machine_model.specs.View.{PartitionView, System, view_of}
use Rattle.replay_model.specs.Passes.{part_in}
use Rattle.replay_tick.specs.LoneSpan.{AreSilent}
use Rattle.recording_model.specs.Lone.{booted_alone}
use Rattle.recording_model.specs.Replayed.{replayed}
use Rattle.upset_model.specs.Places.{Timetable}
use Rattle.upset_model.specs.Reports.{struck_line}
use Rattle.upset_model.specs.Upsets.{alone_upset_from, later}
use Rattle.upset_model.specs.lemmas.Segments.{AreNone, from}
use Rattle.upset_model.specs.declared.upset_line.UpsetLine.{UpsetLine}
use Rattle.xm_machine.specs.declared.alone_span.AloneFault.{AloneFault}
use Rattle.xm_machine.specs.declared.alone_span.AloneFault.TheVariants as fault
use Rattle.xm_alone.specs.Replay.{IsReplayed, halted_by, lone_in}
use Rattle.xm_alone.specs.Shown.{ShownTick, shown_by, shown_from, shown_tick}
use Rattle.xm_alone.specs.Kept.{AreSized, IsKept, kept_ticks, said_size, text_size, ticks_in}
use Rattle.xm_alone.specs.lemmas.Kept.{KeepsShown, KeepsTick, KeepsTicks}
use Rattle.xm_alone.specs.lemmas.Struck.{KeepsStruck, StepsStruck, tick_after, tick_lines, tick_said}
use Rattle.xm_alone.specs.declared.keeping.Extent.{Extent}
use Rattle.xm_alone.specs.declared.keeping.Kept.{Kept}
use Rattle.xm_alone.proofs.FollowLemmas.{IsFitting, from_here, no_strikes, none_followed, none_from, strikes_of, struck_none}
use Rattle.xm_alone.proofs.SilentLemmas.{first_none, second_none}

-- what a tick shows that has this text and these console bytes
abbrev pub tick_of : List ℕ → List ℕ → ShownTick
tick_of text said = record { text = text; said = said }

-- cues of two parts
pub shown_add : (view : PartitionView) (t : Timetable) (a : Alone) (xs ys : List Cue)
    → shown_from view t a (xs ++ ys) ≡ shown_from view t a xs ++ shown_from view (from (length xs) t) (alone_upset_from view (strikes_of t) a xs) ys
shown_add view t a [] ys = refl
shown_add view t a (x ∷ xs) ys =
    let first = shown_tick (texts (tick_lines view (t 0) a x)) (tick_said view (t 0) a x) in
    let next = tick_after view (t 0) a x in
    ap (λ rest. first ++ rest) (shown_add view (later t) next xs ys)
    ∙ sym (append_assoc first (shown_from view (later t) next xs) (shown_from view (from (length xs) (later t)) (alone_upset_from view (strikes_of (later t)) next xs) ys))

-- cues that print nothing, before which nothing strikes, show nothing
pub silent_shows : (view : PartitionView) (t : Timetable) (a : Alone) (cues : List Cue) → AreNone (length cues) t → alone_lines view a cues ≡ [] → shown_from view t a cues ≡ []
silent_shows view t a [] none empty = refl
silent_shows view t a (cue ∷ cues) none empty =
    let none_now : t 0 ≡ [] = none 0 (omega arith) in
    ap (λ (ls : List UpsetLine). shown_tick (texts (tick_lines view ls a cue)) (tick_said view ls a cue) ++ shown_from view (later t) (tick_after view ls a cue) cues) none_now
    ∙ ap (λ (b : Alone). shown_tick (texts (alone_step_lines view b cue)) (alone_step_said view b cue) ++ shown_from view (later t) (alone_step view b cue) cues) (struck_none a)
    ∙ ap (λ (lines : List ReportLine). shown_tick (texts lines) (alone_step_said view a cue) ++ shown_from view (later t) (alone_step view a cue) cues)
    (first_none (alone_step_lines view a cue) (alone_lines view (alone_step view a cue) cues) empty)
    ∙ silent_shows view (later t) (alone_step view a cue) cues (λ k below. none (suc k) (omega (arith, below))) (second_none (alone_step_lines view a cue) (alone_lines view (alone_step view a cue) cues) empty)

-- what silent cues and one more show is what that one shows
last_shown : (p : ℕ) (t : Timetable) (quiet : List Cue) (cue : Cue) (old before : Machine) → AreNone (length quiet) t → AreSilent p quiet old before
    → shown_from (view_of old.system p) t (part_in old p) (quiet ++ cue ∷ [])
    ≡ shown_tick (texts (tick_lines (view_of before.system p) (t (length quiet)) (part_in before p) cue)) (tick_said (view_of before.system p) (t (length quiet)) (part_in before p) cue)
last_shown p t quiet cue old before none silent =
    let view = view_of old.system p in
    let here = λ (v : PartitionView) (ls : List UpsetLine) (a : Alone). shown_tick (texts (tick_lines v ls a cue)) (tick_said v ls a cue) in
    let left = alone_upset_from view (strikes_of t) (part_in old p) quiet in
    let same : left ≡ part_in before p = none_from view (strikes_of t) (part_in old p) quiet (no_strikes t (length quiet) none) ∙ sym silent.part in
    shown_add view t (part_in old p) quiet (cue ∷ [])
    ∙ ap (λ (first : List ShownTick). first ++ (here view (from (length quiet) t 0) left ++ [])) (silent_shows view t (part_in old p) quiet none silent.lines)
    ∙ append-nil (here view (from (length quiet) t 0) left)
    ∙ ap (λ (ls : List UpsetLine). here view ls left) (from_here (length quiet) t)
    ∙ ap (λ (a : Alone). here view (t (length quiet)) a) same
    ∙ ap (λ (system : System). here (view_of system p) (t (length quiet)) (part_in before p)) (sym silent.system.system)

-- what there is is one thing
some_is : (a b : List ℕ) → Some a ≡ Some b → a ≡ b
some_is a b same = cc

-- a sink that keeps a text has what it had before
pub first_kept : {T : Type 0} (ended : Result T AloneFault) (p : ℕ) (lines : List UpsetLine) (cue : Cue) (before new : Machine) (had got : List ℕ) → StepsStruck ended p lines cue before new (Some had) (Some got)
    → (rest : List ℕ) × (got ≡ had ++ rest)
first_kept (Ok done) p lines cue before new had got step =
    let bytes = texts (tick_lines (view_of before.system p) lines (part_in before p) cue) in
    (bytes, some_is got (had ++ bytes) step.1)
first_kept (Err fault.Write) p lines cue before new had got step =
    let bytes = texts (tick_lines (view_of before.system p) lines (part_in before p) cue) in
    (take step.1.count bytes, some_is got (had ++ take step.1.count bytes) step.1.grew)
first_kept (Err fault.Cue) p lines cue before new had got step =
    let bytes = texts (map struck_line lines) in
    (take step.1.count bytes, some_is got (had ++ take step.1.count bytes) step.1.grew)

-- so its first bytes are those before
module _ {T : Type 0} (ended : Result T AloneFault) (p : ℕ) (lines : List UpsetLine) (cue : Cue) (before new : Machine) (had got : List ℕ) (step : StepsStruck ended p lines cue before new (Some had) (Some got)) where
  pub first_within : length had ≤ length got
  first_within =
      let more = first_kept ended p lines cue before new had got step in
      omega (arith, ap (λ (bytes : List ℕ). length bytes) more.1, length-append had more.0)

  pub first_same : take (length had) got ≡ had
  first_same =
      let more = first_kept ended p lines cue before new had got step in
      ap (take (length had)) more.1 ∙ take-append_seam had more.0

-- what ticks that were followed show is kept
pub ticks_kept : {T : Type 0} (ended : Result T AloneFault) (p : ℕ) (t : Timetable) (quiet : List Cue) (cue : Cue) (old before new : Machine) (had got said emitted : List ℕ) (begun : ℕ) (kept mid : Kept) (after : Option Kept)
    → AreNone (length quiet) t → AreSilent p quiet old before → StepsStruck ended p (t (length quiet)) cue before new (Some had) (Some got) → KeepsStruck ended p (t (length quiet)) cue before said
    → kept.text.bytes.items ≡ had → mid.text.bytes.items ≡ got → mid.ticks.items ≡ kept.ticks.items → mid.said.items ≡ kept.said.items → begun ≡ length had → emitted ≡ said
    → KeepsTicks ended begun emitted mid after → KeepsShown (Some kept) after (shown_from (view_of old.system p) t (part_in old p) (quiet ++ cue ∷ []))
ticks_kept ended p t quiet cue old before new had got said emitted begun kept mid None none silent step bytes had_is got_is ticks_are said_is begun_is emitted_is keeps = tt
ticks_kept (Err why) p t quiet cue old before new had got said emitted begun kept mid (Some after) none silent step bytes had_is got_is ticks_are said_is begun_is emitted_is keeps = absurd keeps
ticks_kept (Ok done) p t quiet cue old before new had got said emitted begun kept mid (Some after) none silent step bytes had_is got_is ticks_are said_is begun_is emitted_is keeps =
    let printed = texts (tick_lines (view_of before.system p) (t (length quiet)) (part_in before p) cue) in
    let got_more : got ≡ had ++ printed = some_is got (had ++ printed) step.1 in
    let first : take begun mid.text.bytes.items ≡ kept.text.bytes.items = ap (λ n. take n mid.text.bytes.items) begun_is ∙ ap (take (length had)) (got_is ∙ got_more) ∙ take-append_seam had printed ∙ sym had_is in
    let last : drop begun mid.text.bytes.items ≡ printed = ap (λ n. drop n mid.text.bytes.items) begun_is ∙ ap (drop (length had)) (got_is ∙ got_more) ∙ drop-append_seam had printed in
    let says : emitted ≡ tick_said (view_of before.system p) (t (length quiet)) (part_in before p) cue = emitted_is ∙ bytes in (
      keeps.sized,
      keeps.ticks
          ∙ ap (λ (es : List Extent). ticks_in es (take begun mid.text.bytes.items) mid.said.items ++ shown_tick (drop begun mid.text.bytes.items) emitted) ticks_are
          ∙ ap (λ (ss : List ℕ). ticks_in kept.ticks.items (take begun mid.text.bytes.items) ss ++ shown_tick (drop begun mid.text.bytes.items) emitted) said_is
          ∙ ap (λ (ts : List ℕ). ticks_in kept.ticks.items ts kept.said.items ++ shown_tick (drop begun mid.text.bytes.items) emitted) first
          ∙ ap (λ (ts : List ℕ). kept_ticks kept ++ shown_tick ts emitted) last
          ∙ ap (λ (ss : List ℕ). kept_ticks kept ++ shown_tick printed ss) says
          ∙ ap (λ (more : List ShownTick). kept_ticks kept ++ more) (sym (last_shown p t quiet cue old before none silent)),
    )

-- what is kept, if anything, is this
abbrev pub AllKept : Option Kept → List ShownTick → Type 0
AllKept kept ticks = IfSome kept (λ k. IsKept k × (kept_ticks k ≡ ticks))

pub keeps_on : (before after : Option Kept) (all shows : List ShownTick) → AllKept before all → KeepsShown before after shows → AllKept after (all ++ shows)
keeps_on before None all shows had keeps = tt
keeps_on None (Some after) all shows had keeps = absurd keeps
keeps_on (Some before) (Some after) all shows had keeps = (keeps.0, keeps.1 ∙ ap (λ (first : List ShownTick). first ++ shows) had.1)

-- partition p can take the first cues of a script, these are left, the next has this number, and what was shown is kept, if anything
pub record IsKeeping (upsets : List UpsetLine) (p tick : ℕ) (cues left : List Cue) (old now : Machine) (kept : Option Kept) : Type 0 where
  pub fitting : IsFitting upsets p tick cues left old now
  pub shown : AllKept kept (shown_by upsets (view_of old.system p) fitting.before)

-- none was done yet
pub none_kept : (upsets : List UpsetLine) (p : ℕ) (cues left : List Cue) (g : Machine) (kept : Kept) → left ≡ cues → lone_in g p ≡ booted_alone g.system p → IsKept kept → kept_ticks kept ≡ [] → IsKeeping upsets p 0 cues left g g (Some kept)
none_kept upsets p cues left g kept all fresh sized empty = record {
  fitting = record { before = []; following = none_followed upsets p cues left g all fresh; count = refl };
  shown = (sized, empty);
}

-- all were done
module _ (upsets : List UpsetLine) (p tick : ℕ) (cues left : List Cue) (old now : Machine) (kept : Option Kept) (none : left ≡ []) (is : IsKeeping upsets p tick cues left old now kept) where
  before_all : is.fitting.before ≡ cues
  before_all = sym (append-nil is.fitting.before) ∙ ap (λ (rest : List Cue). is.fitting.before ++ rest) (sym none) ∙ is.fitting.following.split

  pub all_left : IsReplayed upsets cues (lone_in old p) (lone_in now p)
  all_left =
      let follows = is.fitting.following in
      record {
        part = follows.part ∙ ap (replayed upsets (view_of old.system p)) before_all;
        halted = follows.halted ∙ ap (halted_by false) before_all;
        system = follows.system.system;
        p = refl;
      }

  pub all_shown : AllKept kept (shown_by upsets (view_of old.system p) cues)
  all_shown = subst (λ (done : List Cue). AllKept kept (shown_by upsets (view_of old.system p) done)) before_all is.shown

-- ticks of which one more is kept
more_ticks : (ticks : List Extent) (last : Extent) (text said rest bytes : List ℕ) → AreSized ticks text said → last.text ≡ length rest → last.said ≡ length bytes
    → ticks_in (ticks ++ last ∷ []) (text ++ rest) (said ++ bytes) ≡ ticks_in ticks text said ++ tick_of rest bytes ∷ []
more_ticks [] last [] [] rest bytes sized text_is said_is =
    ap (λ n. tick_of (take n rest) (take last.said bytes) ∷ []) text_is ∙ ap (λ n. tick_of (take (length rest) rest) (take n bytes) ∷ []) said_is
    ∙ ap (λ (r : List ℕ). tick_of r (take (length bytes) bytes) ∷ []) (take-length rest) ∙ ap (λ (b : List ℕ). tick_of rest b ∷ []) (take-length bytes)
more_ticks [] last (byte ∷ text) said rest bytes sized text_is said_is = absurd (omega (arith, sized.texts))
more_ticks [] last [] (byte ∷ said) rest bytes sized text_is said_is = absurd (omega (arith, sized.bytes))
more_ticks (tick ∷ ticks) last text said rest bytes sized text_is said_is =
    let text_in : tick.text ≤ length text = omega (arith, sized.texts) in
    let said_in : tick.said ≤ length said = omega (arith, sized.bytes) in
    let later : AreSized ticks (drop tick.text text) (drop tick.said said) = record { texts = omega (arith, sized.texts, length-drop tick.text text); bytes = omega (arith, sized.bytes, length-drop tick.said said) } in
    ap (λ (t : List ℕ). tick_of t (take tick.said (said ++ bytes)) ∷ ticks_in (ticks ++ last ∷ []) (drop tick.text (text ++ rest)) (drop tick.said (said ++ bytes))) (take-append-le tick.text text rest text_in)
    ∙ ap (λ (s : List ℕ). tick_of (take tick.text text) s ∷ ticks_in (ticks ++ last ∷ []) (drop tick.text (text ++ rest)) (drop tick.said (said ++ bytes))) (take-append-le tick.said said bytes said_in)
    ∙ ap (λ (t : List ℕ). tick_of (take tick.text text) (take tick.said said) ∷ ticks_in (ticks ++ last ∷ []) t (drop tick.said (said ++ bytes))) (drop-append-le tick.text text rest text_in)
    ∙ ap (λ (s : List ℕ). tick_of (take tick.text text) (take tick.said said) ∷ ticks_in (ticks ++ last ∷ []) (drop tick.text text ++ rest) s) (drop-append-le tick.said said bytes said_in)
    ∙ ap (λ (ts : List ShownTick). tick_of (take tick.text text) (take tick.said said) ∷ ts) (more_ticks ticks last (drop tick.text text) (drop tick.said said) rest bytes later text_is said_is)

more_text : (ticks : List Extent) (last : Extent) → text_size (ticks ++ last ∷ []) ≡ text_size ticks + last.text
more_text [] last = omega arith
more_text (tick ∷ ticks) last = omega (arith, more_text ticks last)

more_said : (ticks : List Extent) (last : Extent) → said_size (ticks ++ last ∷ []) ≡ said_size ticks + last.said
more_said [] last = omega arith
more_said (tick ∷ ticks) last = omega (arith, more_said ticks last)

some_shown : (text said : List ℕ) (n : ℕ) → length text ≡ n → (n ≡ 0 → ⊥) → shown_tick text said ≡ tick_of text said ∷ []
some_shown [] said n is some = absurd (some (sym is))
some_shown (byte ∷ text) said n is some = refl

-- a text that has nothing new is kept as it is
pub same_kept : (begun : ℕ) (said : List ℕ) (kept : Kept) → begun ≤ length kept.text.bytes.items → length kept.text.bytes.items ≤ begun
    → AreSized kept.ticks.items (take begun kept.text.bytes.items) kept.said.items → KeepsTick begun said kept kept
same_kept begun said kept within all sized =
    let text = kept.text.bytes.items in
    let whole : take begun text ≡ text = take_all begun text all in
    let none : shown_tick (drop begun text) said ≡ [] = ap (λ (t : List ℕ). shown_tick t said) (drop_all begun text all) in
    record {
      sized = subst (λ (t : List ℕ). AreSized kept.ticks.items t kept.said.items) whole sized;
      ticks = ap (λ (t : List ℕ). ticks_in kept.ticks.items t kept.said.items) (sym whole) ∙ sym (append-nil (ticks_in kept.ticks.items (take begun text) kept.said.items))
          ∙ ap (λ (more : List ShownTick). ticks_in kept.ticks.items (take begun text) kept.said.items ++ more) (sym none);
    }

-- and one that has is kept with a tick more
pub more_kept : (begun : ℕ) (said : List ℕ) (last : Extent) (old new : Kept) → AreSized old.ticks.items (take begun old.text.bytes.items) old.said.items
    → last.text ≡ length (drop begun old.text.bytes.items) → (last.text ≡ 0 → ⊥) → last.said ≡ length said → new.text.bytes.items ≡ old.text.bytes.items → new.said.items ≡ old.said.items ++ said → new.ticks.items ≡ old.ticks.items ++ last ∷ [] → KeepsTick begun said old new
more_kept begun said last old new sized text_is some said_is text_same said_more ticks_more =
    let text = old.text.bytes.items in
    let front = take begun text in
    let rest = drop begun text in
    let two : text ≡ front ++ rest = sym (take-append-drop begun text) in
    let counts : length text ≡ length front + length rest = ap (λ (t : List ℕ). length t) two ∙ length-append front rest in
    let texts_count : length text ≡ text_size (old.ticks.items ++ last ∷ []) = omega (arith, counts, text_is, sized.texts, more_text old.ticks.items last) in
    let said_count : length (old.said.items ++ said) ≡ said_size (old.ticks.items ++ last ∷ []) = omega (arith, said_is, sized.bytes, length-append old.said.items said, more_said old.ticks.items last) in
    record {
      sized = record {
        texts = ap (λ (t : List ℕ). length t) text_same ∙ texts_count ∙ ap text_size (sym ticks_more);
        bytes = ap (λ (s : List ℕ). length s) said_more ∙ said_count ∙ ap said_size (sym ticks_more);
      };
      ticks = ap (λ (es : List Extent). ticks_in es new.text.bytes.items new.said.items) ticks_more
          ∙ ap (λ (t : List ℕ). ticks_in (old.ticks.items ++ last ∷ []) t new.said.items) (text_same ∙ two)
          ∙ ap (λ (s : List ℕ). ticks_in (old.ticks.items ++ last ∷ []) (front ++ rest) s) said_more
          ∙ more_ticks old.ticks.items last front old.said.items rest said sized text_is said_is
          ∙ ap (λ (more : List ShownTick). ticks_in old.ticks.items front old.said.items ++ more) (sym (some_shown rest said last.text (sym text_is) some));
    }
