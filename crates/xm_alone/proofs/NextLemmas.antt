-- A partition alone that follows many cues, all but the last of which are silent.
use Rattle.std.proofs.Common.{◌≡◌, ℕ, zero, suc, ◌+◌, ◌-◌, ◌<◌, ◌≤◌, Bool, true, false, if◌then◌else◌, List, [], ◌∷◌, ◌++◌, length, map, replicate, Option, Some, None, Result, Ok, Err, refl, sym, ap, subst, ◌∙◌, arith, append_assoc, length-append}
use Rattle.std.proofs.lemmas.List.{append-nil, length-replicate}
use Rattle.xm_outside.specs.Causes.{Rose}
use Rattle.xm_outside.specs.Growth.{grown}
use Rattle.xm_report.specs.Report.{ReportLine, texts}
use Rattle.uart_board.specs.Views.{BoardView}
use Rattle.cue_scripts.specs.Entries.{bare_cue}
use Rattle.cue_scripts.specs.Script.{HaltsLast, IsScript}
use Rattle.machine_model.specs.Alone.{Alone, alone_from, alone_lines, alone_said, alone_start, alone_step}
use Rattle.machine_model.specs.Cue.{Cue}
use Rattle.machine_model.specs.Lists.{is_number}
use Rattle.machine_model.specs.Machine.{Machine}
use Rattle.machine_model.specs.View.{PartitionView, System, part_of, view_of}
use Rattle.replay_model.specs.Passes.{part_in}
use Rattle.replay_model.specs.Step.{IsOfSystem}
use Rattle.replay_model.specs.Taking.{takes_cue}
use Rattle.replay_tick.specs.LoneSpan.{AreSilent, AreTaken}
use Rattle.tick_steps.specs.CueValues.{cue_value}
use Rattle.tick_steps.specs.declared.cue.Cue as code_cue
use Rattle.upset_model.specs.Places.{Timetable, strike_of}
use Rattle.upset_model.specs.Reports.{alone_reported}
use Rattle.upset_model.specs.Upsets.{Strike, alone_struck, alone_upset_from, later}
use Rattle.upset_model.specs.lemmas.Segments.{AreNone, from, from_at}
use Rattle.upset_model.specs.declared.upset_line.UpsetLine.{UpsetLine}
use Rattle.xm_machine.specs.AloneSpan.{SpansAlone}
use Rattle.xm_machine.specs.AloneStep.{IsSaidAlone, KeepsSaid, StepsAlone}
use Rattle.xm_machine.specs.declared.alone_span.AloneFault.{AloneFault}
use Rattle.xm_machine.specs.declared.alone_span.AloneFault.TheVariants as fault
use Rattle.xm_alone.specs.lemmas.Cues.{ComesNext, FollowsSaid, IsNextCue, cues_left, next_cues, next_left}
use Rattle.recording_model.specs.Replayed.{cue_lines, first_refused, first_untaken_struck, replayed, strikes_in}
use Rattle.xm_alone.specs.Replay.{IsCutReplay, TakesAll, lone_in}
use Rattle.xm_alone.specs.Shown.{shown_by, shown_from}
use Rattle.xm_alone.specs.lemmas.Kept.{KeepsShown}
use Rattle.xm_alone.specs.lemmas.ReplayTerms.{is_refused}
use Rattle.xm_alone.specs.lemmas.Struck.{FollowsStruck, HasStruckCause, IsStruckLone, StepsStruck, own_at, script_said, tick_taken}
use Rattle.recording_model.specs.Lone.{replay_said}
use Rattle.xm_alone.specs.declared.cues.Cues as code
use Rattle.xm_alone.specs.declared.cues.Next as code_next
use Rattle.xm_alone.specs.declared.cues.Next.TheVariants as next
use Rattle.xm_alone.specs.declared.keeping.Kept.{Kept}
use Rattle.xm_alone.proofs.FollowLemmas.{IsFitting, IsFollowing, cue_lines_add, from_add, from_from, from_here, left_cue, left_runs, left_ticks, none_from, none_lines, none_said, one_after, one_followed, said_add, still_runs, strikes_are, strikes_at, taken_many}
use Rattle.xm_alone.proofs.KeptLemmas.{AllKept, IsKeeping, keeps_on, shown_add}
use Rattle.xm_alone.proofs.PlayLemmas.{IsPlaying, heard_as, one_cut, one_played}

-- this many of the same, one, and the others
same_split : {X : Type 0} (x : X) (j k : ℕ) → replicate (j + suc k) x ≡ replicate j x ++ x ∷ replicate k x
same_split x zero k = ap (λ n. replicate n x) (one k)
  where
    one : (n : ℕ) → 0 + suc n ≡ suc n
    one n = omega arith
same_split x (suc j) k = ap (λ n. replicate n x) (more j k) ∙ ap (λ xs. x ∷ xs) (same_split x j k)
  where
    more : (i n : ℕ) → suc i + suc n ≡ suc (i + suc n)
    more i n = omega arith

pub alike_split : {X : Type 0} (x : X) (count ticks : ℕ) → 0 < ticks → ticks ≤ count → replicate count x ≡ replicate (ticks - 1) x ++ x ∷ replicate (count - ticks) x
alike_split x count ticks some within = ap (λ n. replicate n x) (sum count ticks some within) ∙ same_split x (ticks - 1) (count - ticks)
  where
    sum : (n j : ℕ) → 0 < j → j ≤ n → n ≡ (j - 1) + suc (n - j)
    sum n j some within = omega (arith, some, within)

pub alike_count : {X : Type 0} (x : X) (ticks : ℕ) → 0 < ticks → ticks ≡ length (replicate (ticks - 1) x) + 1
alike_count x ticks some = omega (arith, some, length-replicate (ticks - 1) x)

-- the cues that come next are followed, where they are alike
pub alike_follows : {T : Type 0} (ended : Result T AloneFault) (ticks p count : ℕ) (own : Bool) (old new : Machine) (had got : Option (List ℕ)) (begun board : BoardView) (said : List ℕ)
    → 0 < ticks → ticks ≤ count → SpansAlone ended ticks p own old new had got begun board → KeepsSaid ended p (replicate (ticks - 1) (bare_cue own) ++ bare_cue own ∷ []) old said
    → FollowsSaid ended ticks p (next.Alike own count) old new had got begun board said
alike_follows ended ticks p count own old new had got begun board said some within span kept = record {
  follows = record {
    before = span.before;
    quiet = replicate (ticks - 1) (bare_cue own);
    cue = bare_cue own;
    split = alike_split (bare_cue own) count ticks some within;
    count = alike_count (bare_cue own) ticks some;
    silent = span.silent;
    step = span.step;
    heard = span.heard;
  };
  kept = kept;
}

-- and where it is another one
pub other_follows : {T : Type 0} (ended : Result T AloneFault) (p : ℕ) (cue : code_cue.Cue) (old new : Machine) (had got : Option (List ℕ)) (begun board : BoardView) (said : List ℕ) → old.halted ≡ false
    → StepsAlone ended p (cue_value cue) old new had got → IsSaidAlone ended p (cue_value cue) old begun board → KeepsSaid ended p (cue_value cue ∷ []) old said
    → FollowsSaid ended 1 p (next.Other cue) old new had got begun board said
other_follows ended p cue old new had got begun board said runs step heard kept = record {
  follows = record {
    before = old;
    quiet = [];
    cue = cue_value cue;
    split = refl;
    count = refl;
    silent = record { taken = tt; part = refl; lines = refl; said = refl; system = record { system = refl; parts = refl }; running = runs };
    step = step;
    heard = heard;
  };
  kept = kept;
}

-- a partition's own lines from some ticks on, none of which comes before silent cues: nothing strikes it there
none_from_there : (upsets : List UpsetLine) (view : PartitionView) (before : List Cue) (n : ℕ) → AreNone n (from (length before) (own_at upsets view)) → AreNone n (from (length before) (strikes_in upsets view))
none_from_there upsets view before n none k below =
    from_at (length before) k (strikes_in upsets view) ∙ strikes_at upsets view (length before + k)
    ∙ ap (map strike_of) (sym (from_at (length before) k (own_at upsets view)) ∙ none k below)

-- silent cues more, before which nothing strikes
module _ (upsets : List UpsetLine) (view : PartitionView) (before quiet : List Cue) (none : AreNone (length quiet) (from (length before) (own_at upsets view))) where
  pub quiet_replayed : replayed upsets view (before ++ quiet) ≡ alone_from view (replayed upsets view before) quiet
  quiet_replayed =
      from_add view (strikes_in upsets view) (alone_start view) before quiet
      ∙ none_from view (from (length before) (strikes_in upsets view)) (replayed upsets view before) quiet (none_from_there upsets view before (length quiet) none)

  pub quiet_lines : alone_lines view (replayed upsets view before) quiet ≡ [] → cue_lines upsets view (before ++ quiet) ≡ cue_lines upsets view before
  quiet_lines empty =
      let own = own_at upsets view in
      cue_lines_add upsets view before quiet
      ∙ ap (λ (s : ℕ → List Strike). cue_lines upsets view before ++ alone_reported view (from (length before) own) (alone_upset_from view s (alone_start view) before) quiet) (sym (strikes_are upsets view))
      ∙ ap (λ (rest : List ReportLine). cue_lines upsets view before ++ rest) (none_lines view (from (length before) own) (replayed upsets view before) quiet none ∙ empty)
      ∙ append-nil (cue_lines upsets view before)

  pub quiet_said : alone_said view (replayed upsets view before) quiet ≡ [] → script_said upsets view (before ++ quiet) ≡ script_said upsets view before
  quiet_said empty =
      said_add view (strikes_in upsets view) (alone_start view) before quiet
      ∙ ap (λ (rest : List ℕ). script_said upsets view before ++ rest)
      (none_said view (from (length before) (strikes_in upsets view)) (replayed upsets view before) quiet (none_from_there upsets view before (length quiet) none) ∙ empty)
      ∙ append-nil (script_said upsets view before)

-- partition p has followed cues, and then silent ones; another one is left
many_followed : (upsets : List UpsetLine) (p : ℕ) (cues before quiet : List Cue) (cue : Cue) (later : List Cue) (old now mid : Machine) → IsScript old.system.conf p cues
    → AreNone (length quiet) (from (length before) (own_at upsets (view_of old.system p)))
    → IsFollowing upsets p cues before (quiet ++ cue ∷ later) old now → AreSilent p quiet now mid → IsFollowing upsets p cues (before ++ quiet) (cue ∷ later) old mid
many_followed upsets p cues before quiet cue later old now mid script none is silent =
    let view = view_of old.system p in
    let s = strikes_in upsets view in
    let seen : view_of now.system p ≡ view = ap (λ system. view_of system p) is.system.system in
    let whole : (before ++ quiet) ++ cue ∷ later ≡ cues = append_assoc before quiet (cue ∷ later) ∙ is.split in
    let part : part_in mid p ≡ alone_from view (part_in now p) quiet = silent.part ∙ ap (λ (v : PartitionView). alone_from v (part_in now p) quiet) seen in
    let taken : AreTaken view (part_in now p) quiet = subst (λ (v : PartitionView). AreTaken v (part_in now p) quiet) seen silent.taken in
    let count : length before + length quiet ≡ length (before ++ quiet) = sym (length-append before quiet) in
    record {
      split = whole;
      system = record { system = silent.system.system ∙ is.system.system; parts = silent.system.parts ∙ is.system.parts };
      part = part ∙ ap (λ (a : Alone). alone_from view a quiet) is.part ∙ sym (quiet_replayed upsets view before quiet none);
      halted = silent.running ∙ sym (still_runs (before ++ quiet) cue later (subst HaltsLast (sym whole) script.halts));
      untaken = is.untaken ∙ taken_many view (from (length before) s) (part_in now p) (length before) quiet (cue ∷ later) (none_from_there upsets view before (length quiet) none) taken
          ∙ ap (λ (a : Alone). first_untaken_struck view (from (length quiet) (from (length before) s)) a (length before + length quiet) (cue ∷ later)) (sym part)
          ∙ ap (λ (f : ℕ → List Strike). first_untaken_struck view f (part_in mid p) (length before + length quiet) (cue ∷ later)) (from_from (length quiet) (length before) s)
          ∙ ap (λ n. first_untaken_struck view (from n s) (part_in mid p) n (cue ∷ later)) count;
    }

-- their lines and console bytes are those before
many_played : (upsets : List UpsetLine) (p tick : ℕ) (cues quiet : List Cue) (cue : Cue) (later : List Cue) (old now mid : Machine) (had got : Option (List ℕ)) (first board : BoardView) → IsScript old.system.conf p cues
    → IsPlaying upsets p tick cues (quiet ++ cue ∷ later) old now had got first board → AreNone (length quiet) (from tick (own_at upsets (view_of old.system p))) → AreSilent p quiet now mid
    → IsPlaying upsets p (tick + length quiet) cues (cue ∷ later) old mid had got first board
many_played upsets p tick cues quiet cue later old now mid had got first board script is nothing silent =
    let view = view_of old.system p in
    let none : AreNone (length quiet) (from (length is.before) (own_at upsets view)) = subst (λ n. AreNone (length quiet) (from n (own_at upsets view))) is.count nothing in
    let seen : view_of now.system p ≡ view = ap (λ system. view_of system p) is.following.system.system in
    let no_lines : alone_lines view (replayed upsets view is.before) quiet ≡ [] =
    ap (λ (a : Alone). alone_lines view a quiet) (sym is.following.part) ∙ ap (λ (v : PartitionView). alone_lines v (part_in now p) quiet) (sym seen) ∙ silent.lines in
    let no_bytes : alone_said view (replayed upsets view is.before) quiet ≡ [] =
    ap (λ (a : Alone). alone_said view a quiet) (sym is.following.part) ∙ ap (λ (v : PartitionView). alone_said v (part_in now p) quiet) (sym seen) ∙ silent.said in
    record {
      before = is.before ++ quiet;
      following = many_followed upsets p cues is.before quiet cue later old now mid script none is.following silent;
      count = omega (arith, is.count, length-append is.before quiet);
      report = is.report ∙ ap (λ lines. grown had (texts lines)) (sym (quiet_lines upsets view is.before quiet none no_lines));
      heard = heard_as (replay_said upsets (lone_in old p) is.before) (replay_said upsets (lone_in old p) (is.before ++ quiet)) first board
          (λ uart. ap (λ bytes. if is_number (part_of old.system.conf p).console uart then bytes else []) (sym (quiet_said upsets view is.before quiet none no_bytes))) is.heard;
    }

-- the same with the cues that are left written otherwise
with_cues : (upsets : List UpsetLine) (p tick : ℕ) (cues all left : List Cue) (old now : Machine) (had got : Option (List ℕ)) (first board : BoardView) → all ≡ left
    → IsPlaying upsets p tick cues all old now had got first board → IsPlaying upsets p tick cues left old now had got first board
with_cues upsets p tick cues all left old now had got first board same is = subst (λ rest. IsPlaying upsets p tick cues rest old now had got first board) same is

-- a cue that the partition cannot take is the first
untaken_here : (view : PartitionView) (s : ℕ → List Strike) (a : Alone) (tick : ℕ) (cue : Cue) (cues : List Cue) → takes_cue view (alone_struck (s 0) a) cue ≡ false → first_untaken_struck view s a tick (cue ∷ cues) ≡ Some tick
untaken_here view s a tick cue cues untaken =
    ap (λ takes. if takes then first_untaken_struck view (later s) (alone_step view (alone_struck (s 0) a) cue) (suc tick) cues else Some tick) untaken

-- the partition's own lines before the last of the ticks
own_there : (upsets : List UpsetLine) (view : PartitionView) (n k m : ℕ) → m ≡ n + k → from n (own_at upsets view) k ≡ own_at upsets view m
own_there upsets view n k m is = from_at n k (own_at upsets view) ∙ ap (own_at upsets view) (sym is)

-- what is left of the cues before and after those that come next
rest_is : {T : Type 0} (ended : Result T AloneFault) (ticks p : ℕ) (own : Timetable) (all : List Cue) (first : code_next.Next) (others : code.Cues) (old new : Machine) (had got : Option (List ℕ)) (begun board : BoardView) (said : List ℕ)
    → ComesNext all first others → (f : FollowsStruck ended ticks p own first old new had got begun board said) → all ≡ f.quiet ++ f.cue ∷ (next_left first ticks ++ cues_left others)
rest_is ended ticks p own all first others old new had got begun board said next f =
    next.split ∙ ap (λ cues. cues ++ cues_left others) f.split ∙ append_assoc f.quiet (f.cue ∷ next_left first ticks) (cues_left others)

-- a fault of the sink raises its count
pub rose_from : (T : Type 0) (why : AloneFault) (before between now : ℕ) → why ≡ fault.Write → HasStruckCause {T = T} (Err why) between now → between ≡ before → Rose before now
rose_from T why before between now write cause same =
    subst (λ n. Rose n now) same (subst (λ (w : AloneFault). HasStruckCause {T = T} (Err w) between now) write cause)

-- a tick that was not refused was done
lone_of : {T : Type 0} (ended : Result T AloneFault) (p : ℕ) (lines : List UpsetLine) (cue : Cue) (old new : Machine) (had got : Option (List ℕ)) → is_refused ended ≡ false → StepsStruck ended p lines cue old new had got → IsStruckLone p lines cue old new
lone_of (Ok done) p lines cue old new had got right step = step.0
lone_of (Err fault.Write) p lines cue old new had got right step = step.0
lone_of (Err fault.Cue) p lines cue old new had got right step = absurd (not_so right)
  where
    not_so : true ≡ false → ⊥
    not_so e = cc

-- from the machine before the last tick on what runs is the same
same_on : (a b c : Machine) → IsOfSystem a b → IsOfSystem a c → IsOfSystem b c
same_on a b c one other = record { system = other.system ∙ sym one.system; parts = other.parts ∙ sym one.parts }

module _ (upsets : List UpsetLine) (p tick ticks : ℕ) (cues all : List Cue) (first : code_next.Next) (others : code.Cues) (old now new : Machine) (own : Timetable) (script : IsScript old.system.conf p cues) (next : ComesNext all first others) (same : IsOfSystem now new) (owns : own ≡ from tick (own_at upsets (view_of old.system p))) where
  -- none of the partition's own upsets strikes before silent cues
  none_there : (count : ℕ) → AreNone count own → AreNone count (from tick (own_at upsets (view_of old.system p)))
  none_there count none = subst (λ (t : Timetable). AreNone count t) owns none

  -- those before the last of the ticks
  last_there : (k n : ℕ) → n ≡ tick + k → own k ≡ own_at upsets (view_of old.system p) n
  last_there k n is = ap (λ (t : Timetable). t k) owns ∙ own_there upsets (view_of old.system p) tick k n is

  -- the cues that come next went out whole
  pub next_played : (had mid got : Option (List ℕ)) (begun between board : BoardView) (said : List ℕ) {T : Type 0} (done : T) → IsPlaying upsets p tick cues all old now had mid begun between
      → FollowsStruck (Ok done) ticks p own first now new mid got between board said
      → IsPlaying upsets p (tick + ticks) cues (next_left first ticks ++ cues_left others) old new had got begun board
  next_played had mid got begun between board said done is f =
      let rest = next_left first ticks ++ cues_left others in
      let count : (tick + length f.quiet) + 1 ≡ tick + ticks = omega (arith, f.count) in
      subst (λ n. IsPlaying upsets p n cues rest old new had got begun board) count
      (one_played upsets p (tick + length f.quiet) cues (f.cue ∷ rest) (own (length f.quiet)) f.cue rest old f.before new had mid got begun between board refl
      (many_played upsets p tick cues f.quiet f.cue rest old now f.before had mid begun between script
      (with_cues upsets p tick cues all (f.quiet ++ f.cue ∷ rest) old now had mid begun between (rest_is (Ok done) ticks p own all first others now new mid got between board said next f) is) (none_there (length f.quiet) f.none) f.silent)
      (last_there (length f.quiet) (tick + length f.quiet) refl)
      f.step.0 (same_on now f.before new f.silent.system same) f.step.1 f.heard)

  -- or in part
  pub next_cut : (had mid got : Option (List ℕ)) (begun between board : BoardView) (said : List ℕ) (T : Type 0) (why : AloneFault) → why ≡ fault.Write → IsPlaying upsets p tick cues all old now had mid begun between
      → FollowsStruck {T = T} (Err why) ticks p own first now new mid got between board said → IsCutReplay upsets cues (cue_lines upsets (view_of old.system p) cues) (lone_in old p) (lone_in new p) had got begun board
  next_cut had mid got begun between board said T why write is given =
      let rest = next_left first ticks ++ cues_left others in
      let f : FollowsStruck {T = T} (Err fault.Write) ticks p own first now new mid got between board said = subst (λ (w : AloneFault). FollowsStruck {T = T} (Err w) ticks p own first now new mid got between board said) write given in
      one_cut upsets p (tick + length f.quiet) cues (f.cue ∷ rest) (own (length f.quiet)) f.cue rest old f.before new had mid got begun between board refl
      (many_played upsets p tick cues f.quiet f.cue rest old now f.before had mid begun between script
      (with_cues upsets p tick cues all (f.quiet ++ f.cue ∷ rest) old now had mid begun between (rest_is {T = T} (Err fault.Write) ticks p own all first others now new mid got between board said next f) is) (none_there (length f.quiet) f.none) f.silent)
      (last_there (length f.quiet) (tick + length f.quiet) refl)
      f.step.0 (same_on now f.before new f.silent.system same) f.step.1 f.heard

  -- partition p can take all of them but the last
  most_followed : {T : Type 0} (ended : Result T AloneFault) (had got : Option (List ℕ)) (begun board : BoardView) (said : List ℕ) → (is : IsFitting upsets p tick cues all old now)
      → (f : FollowsStruck ended ticks p own first now new had got begun board said)
      → IsFollowing upsets p cues (is.before ++ f.quiet) (f.cue ∷ (next_left first ticks ++ cues_left others)) old f.before
  most_followed ended had got begun board said is f =
      many_followed upsets p cues is.before f.quiet f.cue (next_left first ticks ++ cues_left others) old now f.before script
      (subst (λ n. AreNone (length f.quiet) (from n (own_at upsets (view_of old.system p)))) is.count (none_there (length f.quiet) f.none))
      (subst (λ left. IsFollowing upsets p cues is.before left old now) (rest_is ended ticks p own all first others now new had got begun board said next f) is.following) f.silent

  -- the partition can take them, and what they show is kept
  pub next_kept : {T : Type 0} (ended : Result T AloneFault) (had got : Option (List ℕ)) (begun board : BoardView) (said : List ℕ) (before after : Option Kept) → is_refused ended ≡ false
      → IsKeeping upsets p tick cues all old now before → (f : FollowsStruck ended ticks p own first now new had got begun board said)
      → KeepsShown before after (shown_from (view_of now.system p) own (part_in now p) (f.quiet ++ f.cue ∷ []))
      → IsKeeping upsets p (tick + ticks) cues (next_left first ticks ++ cues_left others) old new after
  next_kept ended had got begun board said before after right is f keeps =
      let fit = is.fitting in
      let view = view_of old.system p in
      let later = next_left first ticks ++ cues_left others in
      let more = f.quiet ++ f.cue ∷ [] in
      let earlier = shown_by upsets view fit.before in
      let number : length (fit.before ++ f.quiet) ≡ tick + length f.quiet = omega (arith, fit.count, length-append fit.before f.quiet) in
      record {
        fitting = record {
          before = (fit.before ++ f.quiet) ++ f.cue ∷ [];
          following = one_followed upsets p cues (fit.before ++ f.quiet) (f.cue ∷ later) (own (length f.quiet)) f.cue later old f.before new refl
              (last_there (length f.quiet) (length (fit.before ++ f.quiet)) number) (most_followed ended had got begun board said fit f)
              (lone_of ended p (own (length f.quiet)) f.cue f.before new had got right f.step) (same_on now f.before new f.silent.system same);
          count = omega (arith, fit.count, f.count, one_after (fit.before ++ f.quiet) f.cue, length-append fit.before f.quiet);
        };
        shown = subst (AllKept after)
            (ap (λ (system : System). earlier ++ shown_from (view_of system p) own (part_in now p) more) fit.following.system.system
            ∙ ap (λ (a : Alone). earlier ++ shown_from view own a more) fit.following.part
            ∙ ap (λ (t : Timetable). earlier ++ shown_from view t (replayed upsets view fit.before) more) (owns ∙ ap (λ n. from n (own_at upsets view)) fit.count)
            ∙ ap (λ (s : ℕ → List Strike). earlier ++ shown_from view (from (length fit.before) (own_at upsets view)) (alone_upset_from view s (alone_start view) fit.before) more) (strikes_are upsets view)
            ∙ sym (shown_add view (own_at upsets view) (alone_start view) fit.before more) ∙ ap (shown_by upsets view) (sym (append_assoc fit.before f.quiet (f.cue ∷ []))))
            (keeps_on before after earlier (shown_from (view_of now.system p) own (part_in now p) more) is.shown keeps);
      }

  -- or the last of those that were followed is the first that it cannot
  pub next_untaken : {T : Type 0} (had got : Option (List ℕ)) (begun board : BoardView) (said : List ℕ) → IsFitting upsets p tick cues all old now
      → FollowsStruck {T = T} (Err fault.Cue) ticks p own first now new had got begun board said → first_refused upsets (view_of old.system p) cues ≡ Some (tick + ticks - 1)
  next_untaken {T = T} had got begun board said is f =
      let view = view_of old.system p in
      let rest = next_left first ticks ++ cues_left others in
      let n = length (is.before ++ f.quiet) in
      let s = from n (strikes_in upsets view) in
      let lines = own (length f.quiet) in
      let number : n ≡ tick + length f.quiet = omega (arith, is.count, length-append is.before f.quiet) in
      let strikes : s 0 ≡ map strike_of lines = from_here n (strikes_in upsets view) ∙ strikes_at upsets view n ∙ ap (map strike_of) (sym (last_there (length f.quiet) n number)) in
      let follows = most_followed {T = T} (Err fault.Cue) had got begun board said is f in
      let seen : view_of f.before.system p ≡ view = ap (λ system. view_of system p) follows.system.system in
      follows.untaken
      ∙ untaken_here view s (part_in f.before p) n f.cue rest
      (ap (λ (ss : List Strike). takes_cue view (alone_struck ss (part_in f.before p)) f.cue) strikes ∙ ap (λ (v : PartitionView). tick_taken v lines (part_in f.before p) f.cue) (sym seen) ∙ f.step.0)
      ∙ ap Some (sum tick ticks (length f.quiet) n f.count number)
    where
      sum : (n j k m : ℕ) → j ≡ k + 1 → m ≡ n + k → m ≡ n + j - 1
      sum n j k m is both = omega (arith, is, both)

  -- what refused them is the cue
  pub next_refused : {T : Type 0} (ended : Result T AloneFault) (had got : Option (List ℕ)) (begun board : BoardView) (said : List ℕ) → is_refused ended ≡ true
      → IsFitting upsets p tick cues all old now → FollowsStruck ended ticks p own first now new had got begun board said
      → first_refused upsets (view_of old.system p) cues ≡ Some (tick + ticks - 1)
  next_refused (Ok done) had got begun board said wrong is f = absurd (not_so wrong)
    where
      not_so : false ≡ true → ⊥
      not_so e = cc
  next_refused (Err fault.Write) had got begun board said wrong is f = absurd (not_so wrong)
    where
      not_so : false ≡ true → ⊥
      not_so e = cc
  next_refused (Err fault.Cue) had got begun board said wrong is f = next_untaken had got begun board said is f

  -- and none is refused of a script that fits
  pub next_taken : {T : Type 0} (had mid got : Option (List ℕ)) (start between board : BoardView) (said : List ℕ) (why : AloneFault) → why ≡ fault.Cue → IsPlaying upsets p tick cues all old now had mid start between
      → FollowsStruck {T = T} (Err why) ticks p own first now new mid got between board said → TakesAll upsets (view_of old.system p) cues → ⊥
  next_taken {T = T} had mid got start between board said why refused is given fits =
      let f : FollowsStruck {T = T} (Err fault.Cue) ticks p own first now new mid got between board said = subst (λ (w : AloneFault). FollowsStruck {T = T} (Err w) ticks p own first now new mid got between board said) refused given in
      not_some (tick + ticks - 1) (sym (next_untaken mid got between board said (record { before = is.before; following = is.following; count = is.count }) f) ∙ fits)
    where
      not_some : (n : ℕ) → Some n ≡ None → ⊥
      not_some n e = cc

  pub next_unwritten : {T : Type 0} (had mid got : Option (List ℕ)) (start between board : BoardView) (said : List ℕ) (why : AloneFault) → IsPlaying upsets p tick cues all old now had mid start between
      → FollowsStruck {T = T} (Err why) ticks p own first now new mid got between board said → TakesAll upsets (view_of old.system p) cues → why ≡ fault.Write
  next_unwritten had mid got start between board said fault.Write is given fits = refl
  next_unwritten had mid got start between board said fault.Cue is given fits = absurd (next_taken had mid got start between board said fault.Cue refl is given fits)

-- the first of the cues that come next
first_cue : (all : List Cue) (first : code_next.Next) (others : code.Cues) → ComesNext all first others → (cue : Cue) × (later : List Cue) × (all ≡ cue ∷ later)
first_cue all (next.Alike own count) others comes =
    (bare_cue own, replicate (count - 1) (bare_cue own) ++ cues_left others, comes.split ∙ ap (λ cues. cues ++ cues_left others) (alike_split (bare_cue own) count 1 (omega arith) comes.some))
first_cue all (next.Other cue) others comes = (cue_value cue, cues_left others, comes.split)

-- the cues that come next may be received, and there are ticks left for them
module _ (upsets : List UpsetLine) (p : ℕ) (cues before all : List Cue) (others : code.Cues) (old now : Machine) (script : IsScript old.system.conf p cues) (is : IsFollowing upsets p cues before all old now) where
  pub next_is : (first : code_next.Next) → ComesNext all first others → IsNextCue now.system.conf p first
  next_is (next.Alike own count) comes = comes.some
  next_is (next.Other cue) comes = left_cue upsets p cues before all (cue_value cue) (cues_left others) old now comes.split is script

  pub next_runs : (first : code_next.Next) → ComesNext all first others → now.halted ≡ false
  next_runs first comes =
      let next = first_cue all first others comes in
      left_runs upsets p cues before all next.0 next.1 old now next.2 is script

  pub next_ticks : (first : code_next.Next) → ComesNext all first others → now.ticks + length (next_cues first) ≤ 4000000000
  next_ticks first comes =
      let count : length all ≡ length (next_cues first ++ cues_left others) = ap (λ (xs : List Cue). length xs) comes.split in
      omega (arith, count, length-append (next_cues first) (cues_left others), left_ticks upsets p cues before all old now is script)

  -- the next has a number that a tick may have
  pub next_number : (first : code_next.Next) → ComesNext all first others → length before < 4000000000
  next_number first comes =
      let next = first_cue all first others comes in
      omega (arith, script.few, ap (λ (xs : List Cue). length xs) is.split, length-append before all, ap (λ (xs : List Cue). length xs) next.2)

-- what is still to come grows shorter
pub next_shorter : (all : List Cue) (first : code_next.Next) (others : code.Cues) (ticks : ℕ) → ComesNext all first others → 0 < ticks → length (next_left first ticks ++ cues_left others) < length all
next_shorter all (next.Alike own count) others ticks comes some =
    let count_all : length all ≡ length (replicate count (bare_cue own) ++ cues_left others) = ap (λ (xs : List Cue). length xs) comes.split in
    omega (
      arith,
      count_all,
      length-append (replicate count (bare_cue own)) (cues_left others),
      length-append (replicate (count - ticks) (bare_cue own)) (cues_left others),
      length-replicate count (bare_cue own),
      length-replicate (count - ticks) (bare_cue own),
      some,
      comes.some,
    )
next_shorter all (next.Other cue) others ticks comes some =
    let count_all : length all ≡ length (cue_value cue ∷ cues_left others) = ap (λ (xs : List Cue). length xs) comes.split in
    omega (arith, count_all)
