-- Replays with upsets: what a partition receives in a run with upsets is a script of it, and it can take that script alone with its own upsets.
use Rattle.std.proofs.Common.{◌≡◌, ℕ, zero, suc, ◌<◌, Bool, true, false, List, [], ◌∷◌, ◌++◌, length, map, Option, None, Some, refl, sym, ap, ◌∙◌, subst, arith}
use Rattle.std.specs.Prelude.{slice_get, ◌==◌, if◌then◌else◌}
use Rattle.std.specs.List.{AllByRecursion}
use Rattle.std.proofs.lemmas.Option.{same_Some, slice_get-get_or}
use Rattle.xm_base.specs.Options.{on}
use Rattle.xm_report.specs.Report.{ReportLine}
use Rattle.xm_conf.specs.Description.{described}
use Rattle.xm_conf.specs.Fits.{Fits}
use Rattle.machine_model.specs.Alone.{Alone, alone_from, alone_lines, alone_start, alone_step, alone_step_lines}
use Rattle.machine_model.specs.Cue.{Cue, cue, cue_in}
use Rattle.machine_model.specs.Emission.{AllHalted}
use Rattle.machine_model.specs.Facts.{AreFacts, BootsComplete, BootsWithFacts, BootsWithShapes, HasFacts, HasShapes, IsComplete, KeepsFacts, KeepsNumbers, KeepsShapes}
use Rattle.machine_model.specs.Laws.{BootsAlone, alone_part_at, part}
use Rattle.machine_model.specs.Machine.{Machine, after, booted_part, is_halt, start, step, step_unless}
use Rattle.machine_model.specs.Partition.{PartitionState}
use Rattle.machine_model.specs.View.{PartitionView, System, view_of}
use Rattle.machine_model.specs.lemmas.ListLemmas.{each_counted}
use Rattle.cue_scripts.specs.Script.{HaltsLast, IsCue}
use Rattle.range_model.specs.Laws.{BootsInRange, IsInRange, KeepsRanges}
use Rattle.range_model.specs.Ranges.{IsPartitionInRange}
use Rattle.replay_model.specs.Passes.{part_in}
use Rattle.replay_model.specs.ReceivingLaws.{IsSound, ReceivedIsTaken}
use Rattle.replay_model.specs.Taking.{first_untaken, takes_cue}
use Rattle.recording_model.specs.Receiving.{ReceivesCues}
use Rattle.recording_model.specs.Replayed.{first_refused, first_untaken_struck, strikes_in}
use Rattle.upset_files.specs.Fits.{AllFit}
use Rattle.upset_files.specs.Laws.{UpsetsMayStrike}
use Rattle.upset_model.specs.Places.{Timetable, due, is_place, schedule_of, strike_of, upset_of, upsets_of}
use Rattle.upset_model.specs.Reports.{alone_reported, own_due, received_in, struck_line}
use Rattle.upset_model.specs.Upsets.{Schedule, Strike, Upset, alone_struck, alone_upset_from, later, own_strikes, ready, struck_if, upset, upset_script, upsets}
use Rattle.upset_model.specs.declared.upset_line.UpsetLine.{UpsetLine}
use Rattle.upset_laws.specs.ReplayLaws.{PlainReplays, ReceivesUpsetScripts, UpsetScriptIsTaken}
use Rattle.upset_laws.specs.UpsetLaws.{OneUpsetTick}
use Rattle.upset_laws.proofs.FlipLemmas.{flip_in_range, flip_on_page, flips_keep_facts}
use Rattle.upset_laws.proofs.TableLemmas.{HaveTables, OnPage, start_tables, step_tables}
use Rattle.upset_laws.proofs.UpsetLemmas.{more_upset_script, no_upset_script, ready_halted, ready_runs, ready_system, script_short, upset_there}

-- What an upset keeps of a machine.

-- as many partitions, and channels
upset_count : (u : Upset) (g : Machine) → length (upset u g).parts ≡ length g.parts
unfolding upset
upset_count u g = each_counted (λ p ps. struck_if (u.part == p) u.strike ps) g.parts

upset_complete : (u : Upset) (g : Machine) → IsComplete g → IsComplete (upset u g)
unfolding upset
upset_complete u g complete = record { parts = upset_count u g ∙ complete.parts; channels = complete.channels }

-- a partition after an upset was one before it, and was struck or not
record WasThere (u : Upset) (g : Machine) (p : ℕ) (ps : PartitionState) : Type 0 where
  before : PartitionState
  there : slice_get g.parts p ≡ Some before
  is : struck_if (u.part == p) u.strike before ≡ ps

was_there : (u : Upset) (g : Machine) (p : ℕ) (ps : PartitionState) → slice_get (upset u g).parts p ≡ Some ps → WasThere u g p ps
was_there u g p ps there = at (slice_get g.parts p) refl
  where
    at : (o : Option PartitionState) → slice_get g.parts p ≡ o → WasThere u g p ps
    at None none = absurd (let both = sym (upset_there u g p ∙ ap (on (struck_if (u.part == p) u.strike)) none) ∙ there in cc)
    at (Some qs) some = record {
      before = qs;
      there = some;
      is = same_Some _ ps (sym (upset_there u g p ∙ ap (on (struck_if (u.part == p) u.strike)) some) ∙ there);
    }

-- a fact of a partition that a strike keeps
struck_keeps : (P : PartitionState → Type 0) (b : Bool) (strike : Strike) (ps : PartitionState) → (b ≡ true → P ps → P (strike ps)) → P ps → P (struck_if b strike ps)
struck_keeps P true strike ps keeps has = keeps refl has
struck_keeps P false strike ps keeps has = has

upset_keeps : (P : PartitionState → Type 0) (u : Upset) (g : Machine) (p : ℕ) → ((ps : PartitionState) → slice_get g.parts p ≡ Some ps → P ps)
    → ((ps : PartitionState) → (u.part == p) ≡ true → P ps → P (u.strike ps)) → (ps : PartitionState) → slice_get (upset u g).parts p ≡ Some ps → P ps
upset_keeps P u g p all keeps ps there =
    let its = was_there u g p ps there in
    subst P its.is (struck_keeps P (u.part == p) u.strike its.before (λ b. keeps its.before b) (all its.before its.there))

upset_facts : (line : UpsetLine) (g : Machine) → HasFacts g → HasFacts (upset (upset_of line) g)
unfolding upset
upset_facts line g facts p ps there =
    upset_keeps (AreFacts (view_of g.system p) g.ticks g.halted) (upset_of line) g p (facts p)
    (λ one its has. flips_keep_facts (view_of g.system p) g.ticks g.halted line.place line.bit one has) ps there

upset_shapes : (u : Upset) (g : Machine) → HasShapes g → HasShapes (upset u g)
unfolding upset
upset_shapes u g shapes = record { counted = shapes.counted; suited = shapes.suited }

upset_fits : (u : Upset) (g : Machine) → Fits (described g.system.conf) → Fits (described (upset u g).system.conf)
unfolding upset
upset_fits u g fits = fits

upset_sound : (line : UpsetLine) (g : Machine) → IsSound g → IsSound (upset (upset_of line) g)
upset_sound line g sound = record {
  fits = upset_fits (upset_of line) g sound.fits;
  complete = upset_complete (upset_of line) g sound.complete;
  facts = upset_facts line g sound.facts;
  shapes = upset_shapes (upset_of line) g sound.shapes;
}

upsets_sound : (lines : List UpsetLine) (g : Machine) → IsSound g → IsSound (upsets (map upset_of lines) g)
upsets_sound [] g sound = sound
upsets_sound (line ∷ lines) g sound = upsets_sound lines (upset (upset_of line) g) (upset_sound line g sound)

upsets_count : (us : List Upset) (g : Machine) → length (upsets us g).parts ≡ length g.parts
upsets_count [] g = refl
upsets_count (u ∷ us) g = upsets_count us (upset u g) ∙ upset_count u g

ready_sound : (lines : List UpsetLine) (g : Machine) → g.halted ≡ false → IsSound g → IsSound (ready (map upset_of lines) g)
ready_sound lines g runs sound = subst IsSound (sym (ready_runs (map upset_of lines) g runs)) (upsets_sound lines g sound)

ready_count : (lines : List UpsetLine) (g : Machine) → g.halted ≡ false → length (ready (map upset_of lines) g).parts ≡ length g.parts
ready_count lines g runs = ap (λ (m : Machine). length m.parts) (ready_runs (map upset_of lines) g runs) ∙ upsets_count (map upset_of lines) g

-- a tick leaves a sound machine
step_sound : KeepsNumbers → KeepsFacts → KeepsShapes → (g : Machine) → IsSound g → IsSound (step g)
step_sound numbers facts shapes g sound =
    let same = numbers g in
    record {
      fits = subst (λ (s : System). Fits (described s.conf)) (sym same.system) sound.fits;
      complete = record {
        parts = same.parts ∙ sound.complete.parts ∙ ap (λ (s : System). length s.conf.parts) (sym same.system);
        channels = same.channels ∙ sound.complete.channels ∙ ap (λ (s : System). length s.conf.chans) (sym same.system);
      };
      facts = facts g sound.facts;
      shapes = shapes g sound.fits sound.shapes;
    }

start_sound : BootsComplete → BootsWithFacts → BootsWithShapes → (system : System) → Fits (described system.conf) → IsSound (start system)
unfolding start
start_sound complete facts shapes system fits = record { fits = fits; complete = complete system; facts = facts system; shapes = shapes system }

-- A script can be taken.

-- a partition's part of the machine that is there
part_there : (g : Machine) (p : ℕ) (a : Alone) → p < length g.parts → alone_part_at g p ≡ Some a → part_in g p ≡ a
unfolding alone_part_at
part_there g p a below is = same_Some (part_in g p) a (sym (ap (on (part g p)) (slice_get-get_or g.parts p (booted_part g.system p) below)) ∙ is)

state_is : (g : Machine) (p : ℕ) (a : Alone) → p < length g.parts → part_in g p ≡ a → slice_get g.parts p ≡ Some a.state
unfolding part
state_is g p a below is = slice_get-get_or g.parts p (booted_part g.system p) below ∙ ap (λ (b : Alone). Some b.state) is

-- the first cue that is not taken, after one that is
after_taken : (view : PartitionView) (own : ℕ → List Strike) (a : Alone) (tick : ℕ) (now : Cue) (cues : List Cue) → takes_cue view (alone_struck (own 0) a) now ≡ true
    → first_untaken_struck view own a tick (now ∷ cues) ≡ first_untaken_struck view (later own) (alone_step view (alone_struck (own 0) a) now) (suc tick) cues
after_taken view own a tick now cues taken =
    ap (λ (b : Bool). if b then first_untaken_struck view (later own) (alone_step view (alone_struck (own 0) a) now) (suc tick) cues else Some tick) taken

module _ (receives : ReceivedIsTaken) (one_tick : OneUpsetTick) (numbers : KeepsNumbers) (facts : KeepsFacts) (shapes : KeepsShapes) where
  taken_from : (count : ℕ) (t : Timetable) (g : Machine) (p tick : ℕ) → IsSound g → p < length g.parts
      → first_untaken_struck (view_of g.system p) (own_strikes p (upsets_of t)) (part_in g p) tick (upset_script (upsets_of t) g p count) ≡ None
  unfolding part
  taken_from zero t g p tick sound below = refl
  taken_from (suc count) t g p tick sound below = at g.halted refl (taken_from count (later t) (step (ready (map upset_of (t 0)) g)) p (suc tick))
    where
      at : (b : Bool) → g.halted ≡ b
          → (IsSound (step (ready (map upset_of (t 0)) g)) → p < length (step (ready (map upset_of (t 0)) g)).parts
          → first_untaken_struck (view_of (step (ready (map upset_of (t 0)) g)).system p) (own_strikes p (upsets_of (later t))) (part_in (step (ready (map upset_of (t 0)) g)) p) (suc tick)
          (upset_script (upsets_of (later t)) (step (ready (map upset_of (t 0)) g)) p count) ≡ None)
          → first_untaken_struck (view_of g.system p) (own_strikes p (upsets_of t)) (part_in g p) tick (upset_script (upsets_of t) g p (suc count)) ≡ None
      at true halts rest =
          ap (first_untaken_struck (view_of g.system p) (own_strikes p (upsets_of t)) (part_in g p) tick) (no_upset_script (suc count) (upsets_of t) g p halts)
      at false runs rest =
          let us : List Upset = map upset_of (t 0) in
          let own : ℕ → List Strike = own_strikes p (upsets_of t) in
          let view : PartitionView = view_of g.system p in
          let hit : Machine = ready us g in
          let next : Machine = step hit in
          let now : Cue = cue hit p in
          let cues : List Cue = upset_script (upsets_of (later t)) next p count in
          let hit_sound : IsSound hit = ready_sound (t 0) g runs sound in
          let hit_below : p < length hit.parts = subst (λ (n : ℕ). p < n) (sym (ready_count (t 0) g runs)) below in
          let next_below : p < length next.parts = subst (λ (n : ℕ). p < n) (sym (numbers hit).parts) hit_below in
          let its = one_tick us g p (part_in g p).state runs (state_is g p (part_in g p) below refl) in
          let hit_part : part_in hit p ≡ alone_struck (own 0) (part_in g p) = part_there hit p (alone_struck (own 0) (part_in g p)) hit_below its.before in
          let next_part : part_in next p ≡ alone_step view (alone_struck (own 0) (part_in g p)) now =
          part_there next p (alone_step view (alone_struck (own 0) (part_in g p)) now) next_below its.state in
          let taken : takes_cue view (alone_struck (own 0) (part_in g p)) now ≡ true =
          sym (ap (λ (s : System). takes_cue (view_of s p) (alone_struck (own 0) (part_in g p)) now) (ready_system us g))
          ∙ sym (ap (λ (a : Alone). takes_cue (view_of hit.system p) a now) hit_part) ∙ receives hit p hit_sound hit_below in
          ap (first_untaken_struck view own (part_in g p) tick) (more_upset_script count (upsets_of t) g p runs)
          ∙ after_taken view own (part_in g p) tick now cues taken
          ∙ ap (λ (a : Alone). first_untaken_struck view (later own) a (suc tick) cues) (sym next_part)
          ∙ ap (λ (s : System). first_untaken_struck (view_of s p) (later own) (part_in next p) (suc tick) cues) (sym ((numbers hit).system ∙ ready_system us g))
          ∙ rest (step_sound numbers facts shapes hit hit_sound) next_below

start_view : (system : System) (p : ℕ) → view_of (start system).system p ≡ view_of system p
unfolding start
start_view system p = refl

start_parts : BootsComplete → (system : System) → length (start system).parts ≡ length system.conf.parts
unfolding start
start_parts complete system = (complete system).parts

own_refused : (lines : List UpsetLine) (system : System) (p : ℕ) (cues : List Cue)
    → first_refused lines (view_of system p) cues ≡ first_untaken_struck (view_of system p) (own_strikes p (schedule_of lines)) (alone_start (view_of system p)) 0 cues
unfolding view_of
own_refused lines system p cues = refl

pub upset_script_taken : ReceivedIsTaken → OneUpsetTick → KeepsNumbers → KeepsFacts → KeepsShapes → BootsAlone → BootsComplete → BootsWithFacts → BootsWithShapes → UpsetScriptIsTaken
upset_script_taken receives one_tick numbers keeps_facts keeps_shapes boots complete facts shapes lines system p count fits below =
    let inside : p < length (start system).parts = subst (λ (n : ℕ). p < n) (sym (start_parts complete system)) below in
    let same = part_there (start system) p (alone_start (view_of system p)) inside (boots system p below) in
    let cues : List Cue = received_in lines system p count in
    own_refused lines system p cues
    ∙ sym (ap (λ (view : PartitionView). first_untaken_struck view (own_strikes p (schedule_of lines)) (alone_start (view_of system p)) 0 cues) (start_view system p))
    ∙ ap (λ (a : Alone). first_untaken_struck (view_of (start system).system p) (own_strikes p (schedule_of lines)) a 0 cues) (sym same)
    ∙ taken_from receives one_tick numbers keeps_facts keeps_shapes count (due lines) (start system) p 0 (start_sound complete facts shapes system fits) inside

-- It is a script.

-- a line may strike its partition
abbrev MayStrike : System → UpsetLine → Type 0
MayStrike system line = is_place (view_of system line.part) line.place line.bit ≡ true

may_be_due : UpsetsMayStrike → (system : System) (ticks before : ℕ) (lines : List UpsetLine) → AllFit system.conf ticks before lines → (k : ℕ) → AllByRecursion (MayStrike system) (due lines k)
may_be_due may system ticks before [] fit k = tt
may_be_due may system ticks before (line ∷ lines) fit k = at (line.tick == k) (may_be_due may system ticks line.tick lines fit.1 k)
  where
    at : (b : Bool) → AllByRecursion (MayStrike system) (due lines k) → AllByRecursion (MayStrike system) (if b then line ∷ due lines k else due lines k)
    at true rest = (may system ticks before line fit.0, rest)
    at false rest = rest

-- what holds of a machine whose partitions receive scripts: it is sound, its numbers are in their ranges, and each table of traps begins at a multiple of its size
record IsRanged (g : Machine) : Type 0 where
  sound : IsSound g
  ranges : IsInRange g
  tables : HaveTables g

upset_in_range : (line : UpsetLine) (g : Machine) → MayStrike g.system line → IsRanged g → IsInRange (upset (upset_of line) g)
unfolding upset
upset_in_range line g here is = record {
  fits = is.ranges.fits;
  complete = upset_complete (upset_of line) g is.ranges.complete;
  images = is.ranges.images;
  numbers = record {
    parts = λ p ps there. (both p ps there).1;
    channels = is.ranges.numbers.channels;
  };
}
  where
    both : (p : ℕ) (ps : PartitionState) → slice_get (upset (upset_of line) g).parts p ≡ Some ps → OnPage ps × IsPartitionInRange ps
    both p ps there =
        upset_keeps (λ (one : PartitionState). OnPage one × IsPartitionInRange one) (upset_of line) g p (λ one some. (is.tables p one some, is.ranges.numbers.parts p one some))
        (λ one its has. (flip_on_page (view_of g.system line.part) line.place line.bit one here has.0, flip_in_range (view_of g.system line.part) line.place line.bit one here has.0 has.1)) ps there

upset_tables : (line : UpsetLine) (g : Machine) → MayStrike g.system line → HaveTables g → HaveTables (upset (upset_of line) g)
upset_tables line g here tables p ps there =
    upset_keeps OnPage (upset_of line) g p (tables p) (λ one its has. flip_on_page (view_of g.system line.part) line.place line.bit one here has) ps there

upset_ranged : (line : UpsetLine) (g : Machine) → MayStrike g.system line → IsRanged g → IsRanged (upset (upset_of line) g)
upset_ranged line g here is = record {
  sound = upset_sound line g is.sound;
  ranges = upset_in_range line g here is;
  tables = upset_tables line g here is.tables;
}

upset_same : (u : Upset) (g : Machine) → (upset u g).system ≡ g.system
unfolding upset
upset_same u g = refl

upsets_ranged : (lines : List UpsetLine) (g : Machine) → AllByRecursion (MayStrike g.system) lines → IsRanged g → IsRanged (upsets (map upset_of lines) g)
upsets_ranged [] g may is = is
upsets_ranged (line ∷ lines) g may is =
    upsets_ranged lines (upset (upset_of line) g) (subst (λ (s : System). AllByRecursion (MayStrike s) lines) (sym (upset_same (upset_of line) g)) may.1) (upset_ranged line g may.0 is)

ready_ranged : (lines : List UpsetLine) (g : Machine) → g.halted ≡ false → AllByRecursion (MayStrike g.system) lines → IsRanged g → IsRanged (ready (map upset_of lines) g)
ready_ranged lines g runs may is = subst IsRanged (sym (ready_runs (map upset_of lines) g runs)) (upsets_ranged lines g may is)

-- after a tick whose cue halts the whole system, nothing is received
halts_so : (g : Machine) (p : ℕ) → g.halted ≡ false → (cue g p).whole ≡ AllHalted → (step g).halted ≡ true
unfolding after cue cue_in step
halts_so g p runs is = ap (λ (b : Bool). (step_unless b g).halted) runs ∙ ap is_halt is

ready_still_runs : (us : List Upset) (g : Machine) → g.halted ≡ false → (ready us g).halted ≡ false
ready_still_runs us g runs = ready_halted us g ∙ runs

halts_last : (count : ℕ) (s : Schedule) (g : Machine) (p : ℕ) → HaltsLast (upset_script s g p count)
halts_last zero s g p = tt
halts_last (suc count) s g p = at g.halted refl (halts_last count (later s) (step (ready (s 0) g)) p)
  where
    at : (b : Bool) → g.halted ≡ b → HaltsLast (upset_script (later s) (step (ready (s 0) g)) p count) → HaltsLast (upset_script s g p (suc count))
    at true halts rest = subst HaltsLast (sym (no_upset_script (suc count) s g p halts)) tt
    at false runs rest =
        subst HaltsLast (sym (more_upset_script count s g p runs))
        ((λ whole. no_upset_script count (later s) (step (ready (s 0) g)) p (halts_so (ready (s 0) g) p (ready_still_runs (s 0) g runs) whole)), rest)

module _ (receives : ReceivesCues) (numbers : KeepsNumbers) (facts : KeepsFacts) (shapes : KeepsShapes) (ranges : KeepsRanges) where
  each_received : (count : ℕ) (t : Timetable) (g : Machine) (p : ℕ) → ((k : ℕ) → AllByRecursion (MayStrike g.system) (t k)) → IsRanged g
      → AllByRecursion (IsCue g.system.conf p) (upset_script (upsets_of t) g p count)
  each_received zero t g p may is = tt
  each_received (suc count) t g p may is = at g.halted refl (each_received count (later t) (step (ready (map upset_of (t 0)) g)) p)
    where
      at : (b : Bool) → g.halted ≡ b
          → (((k : ℕ) → AllByRecursion (MayStrike (step (ready (map upset_of (t 0)) g)).system) (later t k)) → IsRanged (step (ready (map upset_of (t 0)) g))
          → AllByRecursion (IsCue (step (ready (map upset_of (t 0)) g)).system.conf p) (upset_script (upsets_of (later t)) (step (ready (map upset_of (t 0)) g)) p count))
          → AllByRecursion (IsCue g.system.conf p) (upset_script (upsets_of t) g p (suc count))
      at true halts rest = subst (AllByRecursion (IsCue g.system.conf p)) (sym (no_upset_script (suc count) (upsets_of t) g p halts)) tt
      at false runs rest =
          let hit : Machine = ready (map upset_of (t 0)) g in
          let hit_is : IsRanged hit = ready_ranged (t 0) g runs (may 0) is in
          let same : (step hit).system ≡ g.system = (numbers hit).system ∙ ready_system (map upset_of (t 0)) g in
          let next_is : IsRanged (step hit) = record {
            sound = step_sound numbers facts shapes hit hit_is.sound;
            ranges = ranges hit hit_is.ranges;
            tables = step_tables hit hit_is.tables;
          } in
          let first : IsCue g.system.conf p (cue hit p) =
          subst (λ (s : System). IsCue s.conf p (cue hit p)) (ready_system (map upset_of (t 0)) g) (receives hit p hit_is.sound hit_is.ranges) in
          subst (AllByRecursion (IsCue g.system.conf p)) (sym (more_upset_script count (upsets_of t) g p runs)) (
            first,
            subst (λ (s : System). AllByRecursion (IsCue s.conf p) (upset_script (upsets_of (later t)) (step hit) p count)) same
                (rest (λ k. subst (λ (s : System). AllByRecursion (MayStrike s) (later t k)) (sym same) (may (suc k))) next_is),
          )

start_system : (system : System) → (start system).system ≡ system
unfolding start
start_system system = refl

pub receives_upset_scripts : UpsetsMayStrike → ReceivesCues → KeepsNumbers → KeepsFacts → KeepsShapes → KeepsRanges → BootsComplete → BootsWithFacts → BootsWithShapes → BootsInRange → ReceivesUpsetScripts
receives_upset_scripts may receives numbers keeps_facts keeps_shapes keeps_ranges complete facts shapes boots lines system p count fits images fit most =
    let is : IsRanged (start system) = record { sound = start_sound complete facts shapes system fits; ranges = boots system fits images; tables = start_tables system } in
    let here : (k : ℕ) → AllByRecursion (MayStrike (start system).system) (due lines k) =
    λ k. subst (λ (s : System). AllByRecursion (MayStrike s) (due lines k)) (sym (start_system system)) (may_be_due may system count 0 lines fit k) in
    record {
      few = (let few = script_short count (schedule_of lines) (start system) p in omega (arith, few, most));
      each = subst (λ (s : System). AllByRecursion (IsCue s.conf p) (received_in lines system p count)) (start_system system)
          (each_received receives numbers keeps_facts keeps_shapes keeps_ranges count (due lines) (start system) p here is);
      halts = halts_last count (schedule_of lines) (start system) p;
    }

-- Without upsets.

-- nothing strikes
none_strikes : (a : Alone) → alone_struck [] a ≡ a
unfolding alone_struck
none_strikes a = refl

plain_left : (view : PartitionView) (own : ℕ → List Strike) (a : Alone) (cues : List Cue) → ((k : ℕ) → own k ≡ []) → alone_upset_from view own a cues ≡ alone_from view a cues
plain_left view own a [] none = refl
plain_left view own a (now ∷ cues) none =
    ap (λ (strikes : List Strike). alone_upset_from view (later own) (alone_step view (alone_struck strikes a) now) cues) (none 0)
    ∙ ap (λ (b : Alone). alone_upset_from view (later own) (alone_step view b now) cues) (none_strikes a)
    ∙ plain_left view (later own) (alone_step view a now) cues (λ k. none (suc k))

plain_refuses : (view : PartitionView) (own : ℕ → List Strike) (a : Alone) (tick : ℕ) (cues : List Cue) → ((k : ℕ) → own k ≡ []) → first_untaken_struck view own a tick cues ≡ first_untaken view a tick cues
plain_refuses view own a tick [] none = refl
plain_refuses view own a tick (now ∷ cues) none =
    ap (λ (strikes : List Strike). if takes_cue view (alone_struck strikes a) now then first_untaken_struck view (later own) (alone_step view (alone_struck strikes a) now) (suc tick) cues else Some tick) (none 0)
    ∙ ap (λ (b : Alone). if takes_cue view b now then first_untaken_struck view (later own) (alone_step view b now) (suc tick) cues else Some tick) (none_strikes a)
    ∙ ap (λ (o : Option ℕ). if takes_cue view a now then o else Some tick) (plain_refuses view (later own) (alone_step view a now) (suc tick) cues (λ k. none (suc k)))

plain_prints : (view : PartitionView) (own : Timetable) (a : Alone) (cues : List Cue) → ((k : ℕ) → own k ≡ []) → alone_reported view own a cues ≡ alone_lines view a cues
plain_prints view own a [] none = refl
plain_prints view own a (now ∷ cues) none =
    ap (λ (lines : List UpsetLine). map struck_line lines ++ alone_step_lines view (alone_struck (map strike_of lines) a) now
    ++ alone_reported view (later own) (alone_step view (alone_struck (map strike_of lines) a) now) cues) (none 0)
    ∙ ap (λ (b : Alone). alone_step_lines view b now ++ alone_reported view (later own) (alone_step view b now) cues) (none_strikes a)
    ∙ ap (λ (rest : List ReportLine). alone_step_lines view a now ++ rest) (plain_prints view (later own) (alone_step view a now) cues (λ k. none (suc k)))

pub plain_replays : PlainReplays
plain_replays = record {
  left = λ view cues. plain_left view (strikes_in [] view) (alone_start view) cues (λ k. refl);
  prints = λ view cues. plain_prints view (own_due view.id []) (alone_start view) cues (λ k. refl);
  refuses = λ view cues. plain_refuses view (strikes_in [] view) (alone_start view) 0 cues (λ k. refl);
}
