-- What is recorded in a run, span by span.
use Rattle.std.proofs.Common.{◌≡◌, ◌≢◌, ℕ, zero, suc, ◌+◌, ◌-◌, ◌<◌, ◌≤◌, Bool, true, false, not, List, [], ◌∷◌, ◌++◌, length, map, get_or, set, replicate, All, IfOk, OnOk, Option, Some, None, Result, Ok, Err, refl, sym, ap, subst, ◌∙◌, arith, below_more, get_or-set_other, get_or-set_same}
use Rattle.std.specs.List.{AllByRecursion}
use Rattle.std.specs.Prelude.{◌==◌, if◌then◌else◌}
use Rattle.std.proofs.lemmas.List.Elements.{All-cons, All-head, All-nil, All-tail}
use Rattle.std.proofs.lemmas.List.{get_or-map, length-map, replicate_more}
use Rattle.continuation_laws.specs.Onward.{coming}
use Rattle.machine_model.specs.Cue.{Cue, script}
use Rattle.xm_conf.specs.Configuration.{Conf}
use Rattle.upset_files.specs.Fits.{AllFit}
use Rattle.upset_files.specs.Laws.{UpsetsMayStrike}
use Rattle.machine_model.specs.Facts.{RunsKeepNumbers}
use Rattle.loaded_system.specs.System.{System as Loaded}
use Rattle.machine_model.specs.Machine.{Machine, run, start}
use Rattle.machine_model.specs.View.{System as Booted, view_of}
use Rattle.upset_model.specs.Coming.{AreOrdered}
use Rattle.upset_model.specs.Places.{due, is_place, upset_of, upsets_of}
use Rattle.upset_model.specs.Upsets.{Schedule, ready, upset_run, upset_script}
use Rattle.upset_model.specs.declared.upset_line.UpsetLine.{UpsetLine}
use Rattle.upset_model.specs.lemmas.ComingLemmas.{ordered_from}
use Rattle.upset_model.specs.lemmas.Segments.{ready_ticks}
use Rattle.cue_scripts.specs.Entries.{bare_cue, is_away, is_bare, plain_kind}
use Rattle.cue_scripts.specs.Spelling.{script_text}
use Rattle.cue_scripts.specs.Written.{IsScriptFile, IsWritten, Written, closed_by, entry_closed, is_open, plain_repeated, repeated_by, with_alike, with_cue, with_script_entry}
use Rattle.fault_messages.specs.declared.fault.ScriptFault.{ScriptFault}
use Rattle.recording_model.specs.Receiving.{HasNumbers}
use Rattle.run_commands.specs.declared.recording.Recording.{Recording}
use Rattle.run_commands.specs.lemmas.Recordings.{IsRecorded, ReceivesMore}
use Rattle.run_commands.specs.lemmas.StruckRuns.{quiet_script, ready_parts, segment_run, segment_script, struck_ends, struck_few, struck_numbered, struck_rests, struck_ticks}
use Rattle.system_state.specs.State.{with_inputs}
use Rattle.xm_machine.specs.Cues.{last_received}
use Rattle.xm_machine.specs.Machine.{Meaning}
use Rattle.xm_machine.specs.Striking.{MayStrike}
use Rattle.xm_machine.specs.Spans.{ReceiveSpan, span_cues}

-- numbers of cues, and then of others
both_numbered : (cues more : List Cue) → AllByRecursion HasNumbers cues → AllByRecursion HasNumbers more → AllByRecursion HasNumbers (cues ++ more)
both_numbered [] more all has = has
both_numbered (first ∷ cues) more all has = (all.0, both_numbered cues more all.1 has)

-- a cue with nothing but whose running slot it is has no numbers
pub bare_numbered : (own : Bool) → HasNumbers (bare_cue own)
unfolding bare_cue
bare_numbered own = record { message = tt; status = tt; shown = tt }

alike_numbered : (count : ℕ) (own : Bool) → AllByRecursion HasNumbers (replicate count (bare_cue own))
alike_numbered zero own = tt
alike_numbered (suc count) own = (bare_numbered own, alike_numbered count own)

-- and it says whether a slot of the partition's own runs
bare_own : (own : Bool) → not (is_away (bare_cue own).mine) ≡ own
unfolding bare_cue
bare_own true = refl
bare_own false = refl

-- a span whose last cue has nothing else, either
span_bare : (ticks : ℕ) (own : Bool) → 0 < ticks → span_cues ticks (bare_cue own) ≡ replicate ticks (bare_cue own)
span_bare ticks own some =
    let all : ticks - 1 + 1 ≡ ticks = omega (arith, some) in
    ap (λ (o : Bool). replicate (ticks - 1) (bare_cue o) ++ bare_cue own ∷ []) (bare_own own) ∙ replicate_more (ticks - 1) (bare_cue own) ∙ ap (λ n. replicate n (bare_cue own)) all

-- it is written as this many such cues
pub bare_written : {T E : Type 0} (result : Result T E) (ticks : ℕ) (own : Bool) (last : Cue) (cues : List Cue) (w : Written) → 0 < ticks → last ≡ bare_cue own
    → OnOk result (IsWritten (cues ++ replicate ticks (bare_cue own)) w) → OnOk result (IsWritten (cues ++ span_cues ticks last) w)
bare_written result ticks own last cues w some bare is =
    let same : span_cues ticks last ≡ replicate ticks (bare_cue own) = ap (span_cues ticks) bare ∙ span_bare ticks own some in
    subst (λ more. OnOk result (IsWritten (cues ++ more) w)) (sym same) is

-- whatever became of that
pub bare_has : {T E : Type 0} (result : Result T E) (own : Bool) (last : Cue) → last ≡ bare_cue own → OnOk result (HasNumbers last)
bare_has (Ok done) own last bare = subst HasNumbers (sym bare) (bare_numbered own)
bare_has (Err fault) own last bare = tt

-- cues that are alike are counted
closed_cues : (own : Option Bool) (w : Written) → (closed_by own w).cues ≡ w.cues
unfolding with_script_entry
closed_cues None w = refl
closed_cues (Some own) w = refl

repeated_cues : (again own : Bool) (count : ℕ) (w : Written) → (repeated_by again own count w).cues ≡ w.cues
unfolding entry_closed
repeated_cues true own count w = refl
repeated_cues false own count w = closed_cues w.own w

bare_counted : (own : Bool) (w : Written) → (with_cue (bare_cue own) w).cues ≡ w.cues + 1
unfolding with_cue plain_repeated plain_kind is_bare bare_cue
bare_counted true w = repeated_cues (is_open w.own true) true 1 (record w { cues = w.cues + 1 })
bare_counted false w = repeated_cues (is_open w.own false) false 1 (record w { cues = w.cues + 1 })

pub alike_counted : (own : Bool) (count : ℕ) (w : Written) → (with_alike own count w).cues ≡ w.cues + count
unfolding with_alike
alike_counted own zero w = omega arith
alike_counted own (suc count) w = omega (arith, bare_counted own (with_alike own count w), alike_counted own count w)

-- numbers of the cues of a span
span_numbered : (ticks : ℕ) (last : Cue) → HasNumbers last → AllByRecursion HasNumbers (span_cues ticks last)
span_numbered ticks last has = both_numbered (replicate (ticks - 1) (bare_cue (not (is_away last.mine)))) (last ∷ []) (alike_numbered (ticks - 1) (not (is_away last.mine))) (has, tt)

-- a recording with a span more
span_recorded : (s : Schedule) (g : Machine) (done ticks : ℕ) (now : Meaning) (old new : Recording) → ReceivesMore s g done ticks now → old.p < length now.state.parts → new.p ≡ old.p
    → ((cues : List Cue) → IsWritten cues old.writer → IsWritten (cues ++ span_cues ticks (last_received now old.p)) new.writer) → HasNumbers (last_received now old.p)
    → IsRecorded s g done old → IsRecorded s g (done + ticks) new
span_recorded s g done ticks now old new received there same adds has is =
    let all : upset_script s g old.p done ++ span_cues ticks (last_received now old.p) ≡ upset_script s g old.p (done + ticks) = sym (received old.p there) in
    record {
      written = subst (λ p. IsWritten (upset_script s g p (done + ticks)) new.writer) (sym same) (subst (λ cues. IsWritten cues new.writer) all (adds (upset_script s g old.p done) is.written));
      numbers = subst (λ p. AllByRecursion HasNumbers (upset_script s g p (done + ticks))) (sym same)
          (subst (AllByRecursion HasNumbers) all (both_numbered (upset_script s g old.p done) (span_cues ticks (last_received now old.p)) is.numbers (span_numbered ticks (last_received now old.p) has)));
    }

-- the first `count` recordings have this span, and the others are as they were
pub record AreSpanned (ticks : ℕ) (now : Meaning) (count : ℕ) (old new : List Recording) : Type 0 where
  pub parts : map (λ recording. recording.p) new ≡ map (λ recording. recording.p) old
  pub rest : (k : ℕ) (d : Recording) → count ≤ k → get_or new k d ≡ get_or old k d
  pub spanned : (s : Schedule) (g : Machine) (done : ℕ) → ReceivesMore s g done ticks now → All (IsRecorded s g done) old → (k : ℕ) → k < count → (d : Recording) → IsRecorded s g (done + ticks) (get_or new k d)

-- none has it
pub none_spanned : (ticks : ℕ) (now : Meaning) (recordings : List Recording) → AreSpanned ticks now 0 recordings recordings
none_spanned ticks now recordings = record {
  parts = refl;
  rest = λ k d above. refl;
  spanned = λ s g done received all k below d. absurd (omega (arith, below));
}

-- a recording that replaces another is of the same partition
same_parts : (recordings : List Recording) (i : ℕ) (d next : Recording) → next.p ≡ (get_or recordings i d).p → map (λ recording. recording.p) (set recordings i next) ≡ map (λ recording. recording.p) recordings
same_parts [] i d next same = refl
same_parts (recording ∷ later) zero d next same = ap (λ p. p ∷ map (λ recording. recording.p) later) same
same_parts (recording ∷ later) (suc i) d next same = ap (λ rest. recording.p ∷ rest) (same_parts later i d next same)

-- one more has it
pub one_spanned : (ticks : ℕ) (now : Meaning) (count : ℕ) (old new : List Recording) (d this next : Recording) (last : Cue) → count < length old → length new ≡ length old → AreSpanned ticks now count old new
    → this ≡ get_or new count d → All (λ recording. recording.p < length now.state.parts) old → last ≡ last_received now this.p → next.p ≡ this.p
    → ((cues : List Cue) → IsWritten cues this.writer → IsWritten (cues ++ span_cues ticks last) next.writer) → HasNumbers last → AreSpanned ticks now (count + 1) old (set new count next)
one_spanned ticks now count old new d this next last below long is here inside received same adds has =
    let within : count < length new = omega (arith, below, long) in
    let before : this ≡ get_or old count d = here ∙ is.rest count d (omega arith) in
    let there : this.p < length now.state.parts = subst (λ (recording : Recording). recording.p < length now.state.parts) (sym before) (inside count d below) in
    record {
      parts = same_parts new count d next (same ∙ ap (λ (recording : Recording). recording.p) here) ∙ is.parts;
      rest = λ k e above. let other : k ≢ count = omega (arith, above) in let past : count ≤ k = omega (arith, above) in get_or-set_other new count k next e other ∙ is.rest k e past;
      spanned = λ s g done spans all.
          below_more _ _
          (λ k less e. let other : k ≢ count = omega (arith, less) in subst (IsRecorded s g (done + ticks)) (sym (get_or-set_other new count k next e other)) (is.spanned s g done spans all k less e))
          (λ e.
          subst (IsRecorded s g (done + ticks)) (sym (get_or-set_same new count next e within))
          (span_recorded s g done ticks now this next spans there same (λ cues written. subst (λ cue. IsWritten (cues ++ span_cues ticks cue) next.writer) received (adds cues written)) (subst HasNumbers received has)
          (subst (IsRecorded s g done) (sym before) (all count d below))));
    }

-- a recording that is not whole is of the same partition
pub parts_kept : (ticks : ℕ) (now : Meaning) (count : ℕ) (old new : List Recording) (d this next : Recording) → AreSpanned ticks now count old new → this ≡ get_or new count d → next.p ≡ this.p
    → map (λ recording. recording.p) (set new count next) ≡ map (λ recording. recording.p) old
parts_kept ticks now count old new d this next is here same = same_parts new count d next (same ∙ ap (λ (recording : Recording). recording.p) here) ∙ is.parts

-- all have it
pub all_spanned : (ticks : ℕ) (now : Meaning) (count : ℕ) (old new : List Recording) → length new ≤ count → AreSpanned ticks now count old new
    → (s : Schedule) (g : Machine) (done : ℕ) → ReceivesMore s g done ticks now → All (IsRecorded s g done) old → All (IsRecorded s g (done + ticks)) new
all_spanned ticks now count old new whole is s g done received all = λ k d within. is.spanned s g done received all k (omega (arith, within, whole)) d

-- what holds of each partition of recordings holds of those of others of the same partitions
parts_hold : (P : ℕ → Type 0) (old new : List Recording) → map (λ recording. recording.p) new ≡ map (λ recording. recording.p) old → All (λ recording. P recording.p) old → All (λ recording. P recording.p) new
parts_hold P old new same all = λ k d within.
    let long : length new ≡ length old = sym (length-map new (λ recording. recording.p)) ∙ ap (λ (parts : List ℕ). length parts) same ∙ length-map old (λ recording. recording.p) in
    let there : k < length old = omega (arith, within, long) in
    subst P (sym (get_or-map (λ recording. recording.p) old k d d.p there) ∙ ap (λ parts. get_or parts k d.p) (sym same) ∙ get_or-map (λ recording. recording.p) new k d d.p within) (all k d there)

-- this many of the ticks asked were done, and what partitions received in them is recorded
pub record AreRecorded (s : Schedule) (g : Machine) (asked done : ℕ) (now : Machine) (first recordings : List Recording) : Type 0 where
  pub within : done ≤ asked
  pub state : now ≡ upset_run s g done
  pub parts : map (λ recording. recording.p) recordings ≡ map (λ recording. recording.p) first
  pub recorded : All (IsRecorded s g done) recordings

-- none is done
pub none_recorded : (s : Schedule) (g : Machine) (asked : ℕ) (now : Machine) (recordings : List Recording) → now ≡ g → All (λ recording. IsWritten [] recording.writer) recordings → AreRecorded s g asked 0 now recordings recordings
none_recorded s g asked now recordings same empty = record {
  within = omega arith;
  state = same;
  parts = refl;
  recorded = λ k d within. record { written = empty k d within; numbers = tt };
}

-- upsets strike before the next ticks, and none in them
pub record IsNext (s : Schedule) (done ticks : ℕ) (now next : Machine) : Type 0 where
  pub some : 0 < ticks
  pub struck : next ≡ ready (s done) now
  pub quiet : (k : ℕ) → done < k → k < done + ticks → s k ≡ []

-- a span more
pub more_recorded : (s : Schedule) (g : Machine) (asked done ticks : ℕ) (now struck : Machine) (next : Meaning) (first old new : List Recording) → ticks ≤ asked - done → IsNext s done ticks now struck
    → AreRecorded s g asked done now first old → next.state ≡ run struck ticks → map (λ recording. recording.p) new ≡ map (λ recording. recording.p) old
    → ((s : Schedule) (g : Machine) (done : ℕ) → ReceivesMore s g done ticks next → All (IsRecorded s g done) old → All (IsRecorded s g (done + ticks)) new)
    → ((p : ℕ) → p < length next.state.parts → script struck p ticks ≡ span_cues ticks (last_received next p)) → AreRecorded s g asked (done + ticks) next.state first new
more_recorded s g asked done ticks now struck next first old new few comes is goes same spanned received =
    let begins : struck ≡ ready (s done) (upset_run s g done) = comes.struck ∙ ap (ready (s done)) is.state in
    record {
      within = omega (arith, few, is.within);
      state = goes ∙ ap (λ (m : Machine). run m ticks) begins ∙ sym (segment_run done ticks s g comes.some comes.quiet);
      parts = same ∙ is.parts;
      recorded = spanned s g done
          (λ p there. segment_script done ticks s g p comes.some comes.quiet ∙ ap (λ cues. upset_script s g p done ++ cues) (ap (λ (m : Machine). script m p ticks) (sym begins) ∙ received p there)) is.recorded;
    }

-- all are done
pub all_recorded : (s : Schedule) (g : Machine) (asked done : ℕ) (now : Machine) (first recordings : List Recording) → asked ≤ done → AreRecorded s g asked done now first recordings → All (IsRecorded s g asked) recordings
all_recorded s g asked done now first recordings enough is =
    let same : done ≡ asked = omega (arith, enough, is.within) in
    subst (λ n. All (IsRecorded s g n) recordings) same is.recorded

-- and the machine is the one after them
pub all_run : (s : Schedule) (g : Machine) (asked done : ℕ) (now : Machine) (first recordings : List Recording) → asked ≤ done → AreRecorded s g asked done now first recordings → now ≡ upset_run s g asked
all_run s g asked done now first recordings enough is =
    let same : done ≡ asked = omega (arith, enough, is.within) in
    is.state ∙ ap (upset_run s g) same

-- so it is where the hypervisor has halted
pub halt_run : (s : Schedule) (g : Machine) (asked done : ℕ) (now : Machine) (first recordings : List Recording) → now.halted ≡ true → AreRecorded s g asked done now first recordings → now ≡ upset_run s g asked
halt_run s g asked done now first recordings halts is =
    is.state ∙ struck_rests done asked s g is.within (ap (λ (m : Machine). m.halted) (sym is.state) ∙ halts)

-- the hypervisor has halted
pub halt_recorded : (s : Schedule) (g : Machine) (asked done : ℕ) (now : Machine) (first recordings : List Recording) → now.halted ≡ true → AreRecorded s g asked done now first recordings → All (IsRecorded s g asked) recordings
halt_recorded s g asked done now first recordings halts is = λ k d within. whole (get_or recordings k d) (is.recorded k d within)
  where
    whole : (recording : Recording) → IsRecorded s g done recording → IsRecorded s g asked recording
    whole recording has =
        let all : upset_script s g recording.p done ≡ upset_script s g recording.p asked = struck_ends done asked s g recording.p is.within (ap (λ (m : Machine). m.halted) (sym is.state) ∙ halts) in
        record {
          written = subst (λ cues. IsWritten cues recording.writer) all has.written;
          numbers = subst (AllByRecursion HasNumbers) all has.numbers;
        }

-- whatever is made of it
pub are_numbered : {X E : Type 0} (made : Result X E) (cues : List Cue) → AllByRecursion HasNumbers cues → IfOk made (λ _. AllByRecursion HasNumbers cues)
are_numbered (Ok file) cues has = has
are_numbered (Err fault) cues has = tt

-- there is room for a span of the ticks that are left
pub room_left : (s : Schedule) (g : Machine) (asked most done ticks : ℕ) (now : Machine) (first recordings : List Recording) → asked ≤ most → done < asked → ticks ≤ asked - done → AreRecorded s g asked done now first recordings
    → All (λ recording. recording.writer.cues + ticks ≤ most) recordings
room_left s g asked most done ticks now first recordings few below left is = λ k d within.
    omega (arith, few, below, left, (is.recorded k d within).written.count, struck_few done s g (get_or recordings k d).p)

-- and these may be done
pub ticks_left : (s : Schedule) (g : Machine) (asked most done : ℕ) (now struck : Machine) (first recordings : List Recording) → g.ticks + asked ≤ most → done < asked → AreRecorded s g asked done now first recordings
    → struck ≡ ready (s done) now → struck.ticks + (asked - done) ≤ most
ticks_left s g asked most done now struck first recordings few below is begins =
    omega (arith, few, below, struck_ticks done s g, ap (λ (m : Machine). m.ticks) is.state, ap (λ (m : Machine). m.ticks) begins, ready_ticks (s done) now)

-- the partitions are as many as at first
pub parts_left : RunsKeepNumbers → (s : Schedule) (g : Machine) (count asked done ticks : ℕ) (now struck next : Machine) (first recordings : List Recording) → length g.parts ≡ count → All (λ recording. recording.p < count) first
    → AreRecorded s g asked done now first recordings → struck ≡ ready (s done) now → next ≡ run struck ticks → All (λ recording. recording.p < length next.parts) recordings
parts_left keeps s g count asked done ticks now struck next first recordings many there is begins goes =
    let same : length next.parts ≡ count =
    omega (
      arith,
      many,
      (struck_numbered keeps done s g).0,
      ready_parts (s done) now,
      (keeps struck ticks).parts,
      ap (λ (m : Machine). length m.parts) is.state,
      ap (λ (m : Machine). length m.parts) begins,
      ap (λ (m : Machine). length m.parts) goes,
    ) in
    parts_hold (λ p. p < length next.parts) first recordings is.parts (λ k d within. omega (arith, same, there k d within))

-- so each of them received what a span says
pub has_received : RunsKeepNumbers → (ticks : ℕ) (old new : Meaning) → new.state ≡ run old.state ticks → ReceiveSpan ticks old new
    → (p : ℕ) → p < length new.state.parts → script old.state p ticks ≡ span_cues ticks (last_received new p)
has_received keeps ticks old new goes received = λ p there. received p (omega (arith, there, (keeps old.state ticks).parts, ap (λ (m : Machine). length m.parts) goes))

-- The upsets that are to come, whose ticks are those since the boot: this many were done before the run.

-- the lines of a file for ticks that are not done
pub record AreComing (all : List UpsetLine) (tick : ℕ) (coming : List UpsetLine) : Type 0 where
  pub ordered : AreOrdered tick coming
  pub same : (k : ℕ) → tick ≤ k → due coming k ≡ due all k

-- all of a run that begins
pub fit_ordered : (conf : Conf) (ticks before : ℕ) (lines : List UpsetLine) → AllFit conf ticks before lines → AreOrdered before lines
fit_ordered conf ticks before [] fit = tt
fit_ordered conf ticks before (line ∷ lines) fit = ((fit.0).order, fit_ordered conf ticks line.tick lines fit.1)

pub coming_all : (all coming : List UpsetLine) (begun tick : ℕ) → coming ≡ all → tick ≡ begun → AreOrdered begun all → AreComing all tick coming
coming_all all coming begun tick same at ordered =
    subst (λ n. AreComing all n coming) (sym at) (subst (AreComing all begun) (sym same) (record { ordered = ordered; same = λ k above. refl }))

-- they may strike a whole machine
pub all_may : UpsetsMayStrike → (g : Machine) (ticks before : ℕ) (lines : List UpsetLine) → length g.parts ≡ length g.system.conf.parts → AllFit g.system.conf ticks before lines → All (MayStrike g) lines
all_may may g ticks before [] many fit = All-nil (MayStrike g)
all_may may g ticks before (line ∷ lines) many fit =
    All-cons (MayStrike g) line lines
    (record { partition = omega (arith, many, (fit.0).partition); place = may g.system ticks before line fit.0 })
    (all_may may g ticks line.tick lines many fit.1)

-- those before one tick are some of all
due_all : (P : UpsetLine → Type 0) (k : ℕ) (lines : List UpsetLine) → All P lines → All P (due lines k)
due_all P k [] all = all
due_all P k (line ∷ lines) all = at (line.tick == k) (due_all P k lines (All-tail P line lines all))
  where
    at : (b : Bool) → All P (due lines k) → All P (if b then line ∷ due lines k else due lines k)
    at true rest = All-cons P line (due lines k) (All-head P line lines all) rest
    at false rest = rest

-- and may strike the machine after the ticks before it
pub may_next : RunsKeepNumbers → (s : Schedule) (g : Machine) (asked done tick : ℕ) (now : Machine) (first recordings : List Recording) (all coming these : List UpsetLine) → AreRecorded s g asked done now first recordings
    → AreComing all tick coming → these ≡ due coming tick → All (MayStrike g) all → All (MayStrike now) these
may_next keeps s g asked done tick now first recordings all coming these is comes are may =
    subst (All (MayStrike now)) (sym (are ∙ comes.same tick (omega arith))) (λ k d within. still (get_or (due all tick) k d) (due_all (MayStrike g) tick all may k d within))
  where
    system_is : now.system ≡ g.system
    system_is = ap (λ (m : Machine). m.system) is.state ∙ (struck_numbered keeps done s g).1

    still : (line : UpsetLine) → MayStrike g line → MayStrike now line
    still line may = record {
      partition = omega (arith, may.partition, (struck_numbered keeps done s g).0, ap (λ (m : Machine). length m.parts) is.state);
      place = subst (λ (system : Booted). is_place (view_of system line.part) line.place line.bit ≡ true) (sym system_is) may.place;
    }

-- those of the next tick strike
pub begins_with : (all waiting these : List UpsetLine) (g : Machine) (done : ℕ) (now struck : Machine) → AreComing all (g.ticks + done) waiting → these ≡ due waiting (g.ticks + done) → struck ≡ ready (map upset_of these) now
    → struck ≡ ready (upsets_of (coming all g) done) now
begins_with all waiting these g done now struck comes are begins =
    begins ∙ ap (λ (lines : List UpsetLine). ready (map upset_of lines) now) (are ∙ comes.same (g.ticks + done) (omega arith))

-- and none before the tick of the first of the others
pub comes_next : (all waiting rest : List UpsetLine) (g : Machine) (done next ticks : ℕ) (now struck : Machine) → AreComing all (g.ticks + done) waiting → struck ≡ ready (upsets_of (coming all g) done) now
    → ((k : ℕ) → g.ticks + done < k → due rest k ≡ due waiting k) → ((k : ℕ) → k < next → due rest k ≡ []) → 0 < ticks → g.ticks + (done + ticks) ≤ next → IsNext (upsets_of (coming all g)) done ticks now struck
comes_next all waiting rest g done next ticks now struck is begins kept none some within = record {
  some = some;
  struck = begins;
  quiet = λ k above below.
      let after : g.ticks + done < g.ticks + k = omega (arith, above) in
      let least : g.ticks + done ≤ g.ticks + k = omega (arith, above) in
      let before : g.ticks + k < next = omega (arith, below, within) in
      ap (map upset_of) (sym (is.same (g.ticks + k) least) ∙ sym (kept (g.ticks + k) after) ∙ none (g.ticks + k) before);
}

-- and the others are to come
pub comes_after : (all waiting rest : List UpsetLine) (tick next later : ℕ) → AreComing all tick waiting → ((k : ℕ) → tick < k → due rest k ≡ due waiting k) → AreOrdered next rest → tick < later → later ≤ next
    → AreComing all later rest
comes_after all waiting rest tick next later is kept ordered some within = record {
  ordered = ordered_from later next rest within ordered;
  same = λ k above. kept k (omega (arith, above, some)) ∙ is.same k (omega (arith, above, some));
}

-- what is recorded of one partition
pub only_recorded : (s : Schedule) (g : Machine) (ticks p : ℕ) (first : Recording) (lent recordings : List Recording) → first.p ≡ p → lent ≡ first ∷ [] → map (λ recording. recording.p) recordings ≡ map (λ recording. recording.p) lent
    → All (IsRecorded s g ticks) recordings → ((get_or recordings 0 first).p ≡ p) × IsRecorded s g ticks (get_or recordings 0 first)
only_recorded s g ticks p first lent recordings of one same all =
    let parts : map (λ (recording : Recording). recording.p) recordings ≡ p ∷ [] = same ∙ ap (map (λ (recording : Recording). recording.p)) one ∙ ap (λ part. part ∷ []) of in
    let long : length recordings ≡ 1 = sym (length-map recordings (λ recording. recording.p)) ∙ ap (λ (parts : List ℕ). length parts) parts in
    let there : 0 < length recordings = omega (arith, long) in
    (sym (get_or-map (λ recording. recording.p) recordings 0 first p there) ∙ ap (λ parts. get_or parts 0 p) parts, all 0 first there)

-- the file of it, in a run without upsets
pub file_recorded : {X : Type 0} (view : X → List ℕ) (made : Result X ScriptFault) (s : Schedule) (g first : Machine) (ticks p : ℕ) (recording : Recording) → g ≡ first → ((k : ℕ) → s k ≡ []) → recording.p ≡ p → IsRecorded s g ticks recording
    → ((cues : List Cue) → IsWritten cues recording.writer → IsScriptFile view (script_text recording.p cues) made) → IsScriptFile view (script_text p (script first p ticks)) made
file_recorded view made s g first ticks p recording begins none same is finishes =
    subst (λ (m : Machine). IsScriptFile view (script_text p (script m p ticks)) made) begins
    (subst (λ part. IsScriptFile view (script_text part (script g part ticks)) made) same
    (subst (λ cues. IsScriptFile view (script_text recording.p cues) made) (quiet_script ticks s g recording.p none) (finishes (upset_script s g recording.p ticks) is.written)))

-- and its numbers
pub numbers_recorded : {X E : Type 0} (made : Result X E) (s : Schedule) (g first : Machine) (ticks p : ℕ) (recording : Recording) → g ≡ first → ((k : ℕ) → s k ≡ []) → recording.p ≡ p → IsRecorded s g ticks recording
    → IfOk made (λ _. AllByRecursion HasNumbers (script first p ticks))
numbers_recorded made s g first ticks p recording begins none same is =
    subst (λ (m : Machine). IfOk made (λ _. AllByRecursion HasNumbers (script m p ticks))) begins
    (are_numbered made (script g p ticks)
    (subst (λ part. AllByRecursion HasNumbers (script g part ticks)) same (subst (AllByRecursion HasNumbers) (quiet_script ticks s g recording.p none) is.numbers)))

-- one recording, of a partition of a machine that boots
pub only_inside : (recordings : List Recording) (recording : Recording) (p parts : ℕ) → recording.p ≡ p → recordings ≡ recording ∷ [] → p < parts → All (λ (r : Recording). r.p < parts) recordings
only_inside recordings recording p parts same only below =
    subst (All (λ (r : Recording). r.p < parts)) (sym only)
    (All-cons (λ (r : Recording). r.p < parts) recording [] (omega (arith, same, below)) (All-nil (λ (r : Recording). r.p < parts)))

pub boot_parts : (system : Loaded) (inputs : List (List ℕ)) (g : Machine) → g ≡ start (with_inputs system inputs) → length g.system.conf.parts ≡ length system.conf.parts
unfolding start
boot_parts system inputs g boots = ap (λ (m : Machine). length m.system.conf.parts) boots
