-- A partition alone that follows the cues of a script, one after the other, with its own upsets.
use Rattle.std.proofs.Common.{◌≡◌, ℕ, zero, suc, ◌+◌, ◌≤◌, Bool, true, false, if◌then◌else◌, List, [], ◌∷◌, ◌++◌, length, map, Some, refl, sym, ap, subst, ◌∙◌, arith, append_assoc, length-append}
use Rattle.std.specs.Prelude.{◌==◌}
use Rattle.std.proofs.Math.Nat.{suc-add, zero-add}
use Rattle.std.proofs.lemmas.List.{append-nil}
use Rattle.std.specs.List.{AllByRecursion}
use Rattle.xm_report.specs.Report.{ReportLine}
use Rattle.machine_model.specs.Alone.{Alone, alone_after, alone_from, alone_lines, alone_said, alone_start, alone_step, alone_step_lines, alone_step_said}
use Rattle.machine_model.specs.Cue.{Cue}
use Rattle.machine_model.specs.Laws.{part}
use Rattle.machine_model.specs.Machine.{Machine, is_halt}
use Rattle.machine_model.specs.Emission.{AllHalted, AllReset, NoEvent, WholeEvent}
use Rattle.machine_model.specs.View.{PartitionView, System, view_of}
use Rattle.replay_model.specs.Passes.{part_in}
use Rattle.replay_model.specs.Step.{IsOfSystem}
use Rattle.replay_model.specs.Taking.{takes_cue}
use Rattle.replay_tick.specs.LoneSpan.{AreTaken}
use Rattle.cue_scripts.specs.Script.{HaltsLast, IsCue, IsScript}
use Rattle.recording_model.specs.Replayed.{cue_lines, first_refused, first_untaken_struck, replayed, strikes_in}
use Rattle.upset_model.specs.Places.{Timetable, due, lines_for, strike_of, upset_of}
use Rattle.upset_model.specs.Reports.{alone_reported}
use Rattle.upset_model.specs.Upsets.{Strike, alone_struck, alone_upset_from, alone_upset_said, later, strikes_on}
use Rattle.upset_model.specs.lemmas.Segments.{AreNone, from, from_at}
use Rattle.upset_model.specs.declared.upset_line.UpsetLine.{UpsetLine}
use Rattle.xm_alone.specs.Replay.{halted_by, lone_in}
use Rattle.recording_model.specs.Lone.{Lone, booted_alone}
use Rattle.xm_alone.specs.lemmas.Struck.{IsStruckLone, own_at, script_said, tick_after, tick_lines, tick_said, tick_taken}
use Rattle.machine_model.specs.Whole.{ticks_after}

-- a tick counts once at most
event_most : (e : WholeEvent) (n : ℕ) → ticks_after e n ≤ n + 1
event_most NoEvent n = omega arith
event_most (AllReset mode) n = omega arith
event_most AllHalted n = omega arith

-- what strikes a partition, of the upsets of lines, is what its own lines say
strikes_own : (p : ℕ) (lines : List UpsetLine) → strikes_on p (map upset_of lines) ≡ map strike_of (lines_for p lines)
strikes_own p [] = refl
strikes_own p (line ∷ lines) = at (line.part == p) (strikes_own p lines)
  where
    at : (b : Bool) → strikes_on p (map upset_of lines) ≡ map strike_of (lines_for p lines)
        → (if b then strike_of line ∷ strikes_on p (map upset_of lines) else strikes_on p (map upset_of lines)) ≡ map strike_of (if b then line ∷ lines_for p lines else lines_for p lines)
    at true rest = ap (λ strikes. strike_of line ∷ strikes) rest
    at false rest = rest

-- what lines of a partition strike it with, before each tick
abbrev pub strikes_of : Timetable → ℕ → List Strike
strikes_of t k = map strike_of (t k)

pub strikes_at : (upsets : List UpsetLine) (view : PartitionView) (k : ℕ) → strikes_in upsets view k ≡ map strike_of (own_at upsets view k)
strikes_at upsets view k = strikes_own view.id (due upsets k)

pub strikes_are : (upsets : List UpsetLine) (view : PartitionView) → strikes_in upsets view ≡ strikes_of (own_at upsets view)
strikes_are upsets view = λ i k. strikes_at upsets view k i

-- what comes first after some ticks, and what comes after more
pub from_here : {X : Type 0} (n : ℕ) (f : ℕ → X) → from n f 0 ≡ f n
from_here n f = from_at n 0 f ∙ ap f (same n)
  where
    same : (n : ℕ) → n + 0 ≡ n
    same n = omega arith

pub from_from : {X : Type 0} (j k : ℕ) (f : ℕ → X) → from j (from k f) ≡ from (k + j) f
from_from j zero f = ap (λ n. from n f) (sym (zero-add j))
from_from j (suc k) f = from_from j k (later f) ∙ ap (λ n. from n f) (sym (suc-add k j))

-- cues of two parts: what they leave, print and say
pub from_add : (view : PartitionView) (s : ℕ → List Strike) (a : Alone) (xs ys : List Cue) → alone_upset_from view s a (xs ++ ys) ≡ alone_upset_from view (from (length xs) s) (alone_upset_from view s a xs) ys
from_add view s a [] ys = refl
from_add view s a (x ∷ xs) ys = from_add view (later s) (alone_step view (alone_struck (s 0) a) x) xs ys

pub lines_add : (view : PartitionView) (t : Timetable) (a : Alone) (xs ys : List Cue)
    → alone_reported view t a (xs ++ ys) ≡ alone_reported view t a xs ++ alone_reported view (from (length xs) t) (alone_upset_from view (strikes_of t) a xs) ys
lines_add view t a [] ys = refl
lines_add view t a (x ∷ xs) ys =
    ap (λ rest. tick_lines view (t 0) a x ++ rest) (lines_add view (later t) (tick_after view (t 0) a x) xs ys)
    ∙ sym (append_assoc (tick_lines view (t 0) a x) (alone_reported view (later t) (tick_after view (t 0) a x) xs)
    (alone_reported view (from (length xs) (later t)) (alone_upset_from view (strikes_of (later t)) (tick_after view (t 0) a x) xs) ys))

pub said_add : (view : PartitionView) (s : ℕ → List Strike) (a : Alone) (xs ys : List Cue)
    → alone_upset_said view s a (xs ++ ys) ≡ alone_upset_said view s a xs ++ alone_upset_said view (from (length xs) s) (alone_upset_from view s a xs) ys
said_add view s a [] ys = refl
said_add view s a (x ∷ xs) ys =
    let next = alone_step view (alone_struck (s 0) a) x in
    let first = alone_step_said view (alone_struck (s 0) a) x in
    ap (λ rest. first ++ rest) (said_add view (later s) next xs ys)
    ∙ sym (append_assoc first (alone_upset_said view (later s) next xs) (alone_upset_said view (from (length xs) (later s)) (alone_upset_from view (later s) next xs) ys))

-- a cue more of a script
module _ (upsets : List UpsetLine) (view : PartitionView) (xs : List Cue) (x : Cue) (lines : List UpsetLine) (its : lines ≡ own_at upsets view (length xs)) where
  strikes_here : from (length xs) (strikes_in upsets view) 0 ≡ map strike_of lines
  strikes_here = from_here (length xs) (strikes_in upsets view) ∙ strikes_at upsets view (length xs) ∙ ap (map strike_of) (sym its)

  pub replayed_more : replayed upsets view (xs ++ x ∷ []) ≡ tick_after view lines (replayed upsets view xs) x
  replayed_more =
      from_add view (strikes_in upsets view) (alone_start view) xs (x ∷ [])
      ∙ ap (λ (ss : List Strike). alone_step view (alone_struck ss (replayed upsets view xs)) x) strikes_here

  pub lines_more : cue_lines upsets view (xs ++ x ∷ []) ≡ cue_lines upsets view xs ++ tick_lines view lines (replayed upsets view xs) x
  lines_more =
      let own = own_at upsets view in
      lines_add view own (alone_start view) xs (x ∷ [])
      ∙ ap (λ (s : ℕ → List Strike). cue_lines upsets view xs ++ alone_reported view (from (length xs) own) (alone_upset_from view s (alone_start view) xs) (x ∷ [])) (sym (strikes_are upsets view))
      ∙ ap (λ (rest : List ReportLine). cue_lines upsets view xs ++ rest) (append-nil (tick_lines view (from (length xs) own 0) (replayed upsets view xs) x))
      ∙ ap (λ (ls : List UpsetLine). cue_lines upsets view xs ++ tick_lines view ls (replayed upsets view xs) x) (from_here (length xs) own ∙ sym its)

  pub said_more : script_said upsets view (xs ++ x ∷ []) ≡ script_said upsets view xs ++ tick_said view lines (replayed upsets view xs) x
  said_more =
      let s = strikes_in upsets view in
      said_add view s (alone_start view) xs (x ∷ [])
      ∙ ap (λ (rest : List ℕ). script_said upsets view xs ++ rest) (append-nil (alone_step_said view (alone_struck (from (length xs) s 0) (replayed upsets view xs)) x))
      ∙ ap (λ (ss : List Strike). script_said upsets view xs ++ alone_step_said view (alone_struck ss (replayed upsets view xs)) x) strikes_here

-- the lines of the cues after some
abbrev pub rest_lines : List UpsetLine → PartitionView → List Cue → List Cue → List ReportLine
rest_lines upsets view xs ys = alone_reported view (from (length xs) (own_at upsets view)) (alone_upset_from view (strikes_of (own_at upsets view)) (alone_start view) xs) ys

pub cue_lines_add : (upsets : List UpsetLine) (view : PartitionView) (xs ys : List Cue) → cue_lines upsets view (xs ++ ys) ≡ cue_lines upsets view xs ++ rest_lines upsets view xs ys
cue_lines_add upsets view xs ys = lines_add view (own_at upsets view) (alone_start view) xs ys

-- a partition that nothing strikes
pub struck_none : (a : Alone) → alone_struck [] a ≡ a
unfolding alone_struck
struck_none a = refl

-- cues before which nothing strikes
none_later : {X : Type 0} (n : ℕ) (f : ℕ → List X) → AreNone (suc n) f → AreNone n (later f)
none_later n f none k below = none (suc k) (omega (arith, below))

none_first : {X : Type 0} (n : ℕ) (f : ℕ → List X) → AreNone (suc n) f → f 0 ≡ []
none_first n f none = none 0 (omega arith)

-- where no lines are due nothing strikes
pub no_strikes : (t : Timetable) (n : ℕ) → AreNone n t → AreNone n (strikes_of t)
no_strikes t n none k below = ap (map strike_of) (none k below)

pub none_from : (view : PartitionView) (s : ℕ → List Strike) (a : Alone) (xs : List Cue) → AreNone (length xs) s → alone_upset_from view s a xs ≡ alone_from view a xs
none_from view s a [] none = refl
none_from view s a (x ∷ xs) none =
    ap (λ (b : Alone). alone_upset_from view (later s) (alone_step view b x) xs) (ap (λ (ss : List Strike). alone_struck ss a) (none_first (length xs) s none) ∙ struck_none a)
    ∙ none_from view (later s) (alone_step view a x) xs (none_later (length xs) s none)

pub none_lines : (view : PartitionView) (t : Timetable) (a : Alone) (xs : List Cue) → AreNone (length xs) t → alone_reported view t a xs ≡ alone_lines view a xs
none_lines view t a [] none = refl
none_lines view t a (x ∷ xs) none =
    ap (λ (ls : List UpsetLine). tick_lines view ls a x ++ alone_reported view (later t) (tick_after view ls a x) xs) (none_first (length xs) t none)
    ∙ ap (λ (b : Alone). alone_step_lines view b x ++ alone_reported view (later t) (alone_step view b x) xs) (struck_none a)
    ∙ ap (λ (rest : List ReportLine). alone_step_lines view a x ++ rest) (none_lines view (later t) (alone_step view a x) xs (none_later (length xs) t none))

pub none_said : (view : PartitionView) (s : ℕ → List Strike) (a : Alone) (xs : List Cue) → AreNone (length xs) s → alone_upset_said view s a xs ≡ alone_said view a xs
none_said view s a [] none = refl
none_said view s a (x ∷ xs) none =
    ap (λ (b : Alone). alone_step_said view b x ++ alone_upset_said view (later s) (alone_step view b x) xs)
    (ap (λ (ss : List Strike). alone_struck ss a) (none_first (length xs) s none) ∙ struck_none a)
    ∙ ap (λ (rest : List ℕ). alone_step_said view a x ++ rest) (none_said view (later s) (alone_step view a x) xs (none_later (length xs) s none))

-- cues that the partition takes are none that it does not
taken_one : (view : PartitionView) (s : ℕ → List Strike) (a : Alone) (tick : ℕ) (x : Cue) (ys : List Cue) → takes_cue view (alone_struck (s 0) a) x ≡ true
    → first_untaken_struck view s a tick (x ∷ ys) ≡ first_untaken_struck view (later s) (alone_step view (alone_struck (s 0) a) x) (suc tick) ys
taken_one view s a tick x ys taken = ap (λ takes. if takes then first_untaken_struck view (later s) (alone_step view (alone_struck (s 0) a) x) (suc tick) ys else Some tick) taken

pub taken_many : (view : PartitionView) (s : ℕ → List Strike) (a : Alone) (tick : ℕ) (xs ys : List Cue) → AreNone (length xs) s → AreTaken view a xs
    → first_untaken_struck view s a tick (xs ++ ys) ≡ first_untaken_struck view (from (length xs) s) (alone_from view a xs) (tick + length xs) ys
taken_many view s a tick [] ys nothing taken = ap (λ n. first_untaken_struck view s a n ys) (none tick)
  where
    none : (n : ℕ) → n ≡ n + 0
    none n = omega arith
taken_many view s a tick (x ∷ xs) ys nothing taken =
    let same : alone_struck (s 0) a ≡ a = ap (λ (ss : List Strike). alone_struck ss a) (none_first (length xs) s nothing) ∙ struck_none a in
    taken_one view s a tick x (xs ++ ys) (ap (λ (b : Alone). takes_cue view b x) same ∙ taken.0)
    ∙ ap (λ (b : Alone). first_untaken_struck view (later s) (alone_step view b x) (suc tick) (xs ++ ys)) same
    ∙ taken_many view (later s) (alone_step view a x) (suc tick) xs ys (none_later (length xs) s nothing) taken.1
    ∙ ap (λ n. first_untaken_struck view (from (length xs) (later s)) (alone_from view (alone_step view a x) xs) n ys) (more tick (length xs))
  where
    more : (i n : ℕ) → suc i + n ≡ i + suc n
    more i n = omega arith

-- a cue counts a tick at most
step_most : (view : PartitionView) (ss : List Strike) (a : Alone) (cue : Cue) → (alone_step view (alone_struck ss a) cue).ticks ≤ a.ticks + 1
unfolding alone_step alone_after alone_struck
step_most view ss a cue = event_most cue.whole a.ticks

pub cues_most : (view : PartitionView) (s : ℕ → List Strike) (a : Alone) (cues : List Cue) → (alone_upset_from view s a cues).ticks ≤ a.ticks + length cues
cues_most view s a [] = omega arith
cues_most view s a (cue ∷ cues) = omega (arith, cues_most view (later s) (alone_step view (alone_struck (s 0) a) cue) cues, step_most view (s 0) a cue)

started : (view : PartitionView) → (alone_start view).ticks ≡ 0
unfolding alone_start
started view = refl

halted_more : (halted : Bool) (xs : List Cue) (x : Cue) → halted_by halted (xs ++ x ∷ []) ≡ is_halt x.whole
halted_more halted [] x = refl
halted_more halted (first ∷ xs) x = halted_more (is_halt first.whole) xs x

-- where a cue is still to come it has not
goes_on : (xs : List Cue) (x : Cue) (later : List Cue) → (xs ++ x ∷ later ≡ []) → ⊥
goes_on [] x later same = cc
goes_on (first ∷ xs) x later same = cc

no_halt : (event : WholeEvent) → (event ≡ AllHalted → ⊥) → is_halt event ≡ false
no_halt NoEvent other = refl
no_halt (AllReset mode) other = refl
no_halt AllHalted other = absurd (other refl)

pub still_runs : (xs : List Cue) (x : Cue) (later : List Cue) → HaltsLast (xs ++ x ∷ later) → halted_by false xs ≡ false
still_runs [] x later halts = refl
still_runs (first ∷ xs) x later halts =
    ap (λ halted. halted_by halted xs) (no_halt first.whole (λ ends. goes_on xs x later (halts.0 ends))) ∙ still_runs xs x later halts.1

-- what holds of all cues holds of each
pub has_each : (P : Cue → Type 0) (xs : List Cue) (x : Cue) (later : List Cue) → AllByRecursion P (xs ++ x ∷ later) → P x
has_each P [] x later each = each.0
has_each P (first ∷ xs) x later each = has_each P xs x later each.1

-- the number of a cue after others
pub one_after : (xs : List Cue) (x : Cue) → length (xs ++ x ∷ []) ≡ suc (length xs)
one_after xs x = omega (arith, length-append xs (x ∷ []))

-- partition p has followed the first cues of a script, those before, and these are left
pub record IsFollowing (upsets : List UpsetLine) (p : ℕ) (cues before left : List Cue) (old now : Machine) : Type 0 where
  pub split : before ++ left ≡ cues
  pub system : IsOfSystem old now
  pub part : part_in now p ≡ replayed upsets (view_of old.system p) before
  pub halted : now.halted ≡ halted_by false before
  pub untaken : first_refused upsets (view_of old.system p) cues ≡ first_untaken_struck (view_of old.system p) (from (length before) (strikes_in upsets (view_of old.system p))) (part_in now p) (length before) left

-- it has followed none of a script as it boots
pub none_followed : (upsets : List UpsetLine) (p : ℕ) (cues left : List Cue) (g : Machine) → left ≡ cues → lone_in g p ≡ booted_alone g.system p → IsFollowing upsets p cues [] left g g
none_followed upsets p cues left g all fresh =
    let view = view_of g.system p in
    let s = strikes_in upsets view in
    let part : part_in g p ≡ alone_start view = ap (λ (lone : Lone). lone.part) fresh in
    record {
      split = all;
      system = record { system = refl; parts = refl };
      part = part;
      halted = ap (λ (lone : Lone). lone.halted) fresh;
      untaken = ap (first_untaken_struck view s (alone_start view) 0) (sym all) ∙ ap (λ (a : Alone). first_untaken_struck view s a 0 left) (sym part);
    }

-- a cue that the partition can take is not the first that it cannot
taken_on : (upsets : List UpsetLine) (view : PartitionView) (a next : Alone) (lines : List UpsetLine) (before : List Cue) (cue : Cue) (left : List Cue) → lines ≡ own_at upsets view (length before)
    → tick_taken view lines a cue ≡ true → next ≡ tick_after view lines a cue
    → first_untaken_struck view (from (length before) (strikes_in upsets view)) a (length before) (cue ∷ left)
    ≡ first_untaken_struck view (from (length (before ++ cue ∷ [])) (strikes_in upsets view)) next (length (before ++ cue ∷ [])) left
taken_on upsets view a next lines before cue left its taken steps =
    let n = length before in
    let s = strikes_in upsets view in
    let here : from n s 0 ≡ map strike_of lines = from_here n s ∙ strikes_at upsets view n ∙ ap (map strike_of) (sym its) in
    let count : n + 1 ≡ length (before ++ cue ∷ []) = omega (arith, one_after before cue) in
    taken_one view (from n s) a n cue left (ap (λ (ss : List Strike). takes_cue view (alone_struck ss a) cue) here ∙ taken)
    ∙ ap (λ (ss : List Strike). first_untaken_struck view (later (from n s)) (alone_step view (alone_struck ss a) cue) (suc n) left) here
    ∙ ap (λ (b : Alone). first_untaken_struck view (later (from n s)) b (suc n) left) (sym steps)
    ∙ ap (λ (f : ℕ → List Strike). first_untaken_struck view f next (suc n) left) (from_from 1 n s ∙ ap (λ k. from k s) count)
    ∙ ap (λ k. first_untaken_struck view (from (length (before ++ cue ∷ [])) s) next k left) (sym (one_after before cue))

-- one more
pub one_followed : (upsets : List UpsetLine) (p : ℕ) (cues before left : List Cue) (lines : List UpsetLine) (cue : Cue) (more : List Cue) (old now next : Machine) → left ≡ cue ∷ more
    → lines ≡ own_at upsets (view_of old.system p) (length before) → IsFollowing upsets p cues before left old now
    → IsStruckLone p lines cue now next → IsOfSystem now next → IsFollowing upsets p cues (before ++ cue ∷ []) more old next
one_followed upsets p cues before left lines cue more old now next first its is one same =
    let view = view_of old.system p in
    let seen : view_of now.system p ≡ view_of old.system p = ap (λ system. view_of system p) is.system.system in
    let steps : part_in next p ≡ tick_after (view_of old.system p) lines (part_in now p) cue = one.part ∙ ap (λ (v : PartitionView). tick_after v lines (part_in now p) cue) seen in
    let taken : tick_taken (view_of old.system p) lines (part_in now p) cue ≡ true = ap (λ (v : PartitionView). tick_taken v lines (part_in now p) cue) (sym seen) ∙ one.taken in
    record {
      split = append_assoc before (cue ∷ []) more ∙ ap (λ rest. before ++ rest) (sym first) ∙ is.split;
      system = record { system = same.system ∙ is.system.system; parts = same.parts ∙ is.system.parts };
      part = steps ∙ ap (λ (a : Alone). tick_after view lines a cue) is.part ∙ sym (replayed_more upsets view before cue lines its);
      halted = one.halted ∙ sym (halted_more false before cue);
      untaken = is.untaken ∙ ap (first_untaken_struck view (from (length before) (strikes_in upsets view)) (part_in now p) (length before)) first
          ∙ taken_on upsets view (part_in now p) (part_in next p) lines before cue more its taken steps;
    }

-- the next cue is one that the partition may receive
pub left_cue : (upsets : List UpsetLine) (p : ℕ) (cues before left : List Cue) (cue : Cue) (more : List Cue) (old now : Machine) → left ≡ cue ∷ more → IsFollowing upsets p cues before left old now
    → IsScript old.system.conf p cues → IsCue now.system.conf p cue
left_cue upsets p cues before left cue more old now first is script =
    let whole : before ++ cue ∷ more ≡ cues = ap (λ rest. before ++ rest) (sym first) ∙ is.split in
    subst (λ (system : System). IsCue system.conf p cue) (sym is.system.system)
    (has_each (IsCue old.system.conf p) before cue more (subst (AllByRecursion (IsCue old.system.conf p)) (sym whole) script.each))

-- the hypervisor has not halted before it
pub left_runs : (upsets : List UpsetLine) (p : ℕ) (cues before left : List Cue) (cue : Cue) (more : List Cue) (old now : Machine) → left ≡ cue ∷ more → IsFollowing upsets p cues before left old now
    → IsScript old.system.conf p cues → now.halted ≡ false
left_runs upsets p cues before left cue more old now first is script =
    let whole : before ++ cue ∷ more ≡ cues = ap (λ rest. before ++ rest) (sym first) ∙ is.split in
    is.halted ∙ still_runs before cue more (subst HaltsLast (sym whole) script.halts)

-- and a tick may be done for each that is left
pub left_ticks : (upsets : List UpsetLine) (p : ℕ) (cues before left : List Cue) (old now : Machine) → IsFollowing upsets p cues before left old now → IsScript old.system.conf p cues → now.ticks + length left ≤ 4000000000
unfolding part
left_ticks upsets p cues before left old now is script =
    let view = view_of old.system p in
    let counted : now.ticks ≡ (replayed upsets view before).ticks = ap (λ (a : Alone). a.ticks) is.part in
    let all : length (before ++ left) ≡ length cues = ap (λ (xs : List Cue). length xs) is.split in
    omega (arith, counted, all, cues_most view (strikes_in upsets view) (alone_start view) before, started view, length-append before left, script.few)

-- partition p can take the first cues of a script, and these are left; the next has this number
pub record IsFitting (upsets : List UpsetLine) (p tick : ℕ) (cues left : List Cue) (old now : Machine) : Type 0 where
  pub before : List Cue
  pub following : IsFollowing upsets p cues before left old now
  pub count : tick ≡ length before
