-- A partition's own lines of what a run with upsets reports.
use Rattle.std.proofs.Common.{◌≡◌, ◌≢◌, ℕ, zero, suc, ◌<◌, ◌≤◌, Bool, true, false, cond, List, [], ◌∷◌, ◌++◌, length, map, Some, refl, sym, ap, ◌∙◌, arith}
use Rattle.std.specs.Prelude.{slice_get, ◌==◌, if◌then◌else◌}
use Rattle.std.specs.List.{filter}
use Rattle.std.proofs.lemmas.Bool.Decides.{nat_tests}
use Rattle.std.proofs.lemmas.List.{append-nil}
use Rattle.std.proofs.lemmas.Option.{same_Some}
use Rattle.xm_report.specs.Report.{EndWhole, ReportLine, SystemLine}
use Rattle.machine_model.specs.Alone.{Alone, alone_start, alone_step, alone_step_lines}
use Rattle.machine_model.specs.CoreFile.{core_file}
use Rattle.machine_model.specs.Cue.{Cue, cue}
use Rattle.machine_model.specs.Facts.{KeepsNumbers}
use Rattle.machine_model.specs.Laws.{BootsAlone, part}
use Rattle.machine_model.specs.Lines.{end_line, end_lines, lines, own, report, step_console, step_lines, tag_of}
use Rattle.machine_model.specs.Lists.{all_of, is_number}
use Rattle.machine_model.specs.Machine.{Machine, start, step}
use Rattle.machine_model.specs.Partition.{PartitionState}
use Rattle.machine_model.specs.View.{PartitionView, System, view_of}
use Rattle.upset_model.specs.Places.{Timetable, due, lines_for, schedule_of, strike_of, upset_of, upsets_of}
use Rattle.upset_model.specs.Reports.{after_run, alone_reported, own_due, received_in, reported, struck_line, struck_lines, upset_console, upset_report}
use Rattle.upset_model.specs.Upsets.{Upset, alone_struck, alone_upset_from, later, no_upsets, own_strikes, ready, strikes_on, upset_script}
use Rattle.upset_model.specs.declared.upset_line.UpsetLine.{UpsetLine}
use Rattle.upset_model.specs.lemmas.ReportLemmas.{halted_reported}
use Rattle.upset_laws.specs.ReportLaws.{OwnReports, PlainConsoles, PlainReports, SameUpsetCoreFile, SameUpsetPart, TicksReportAlone, TwoReports, alone_after}
use Rattle.upset_laws.specs.UpsetLaws.{AllUpsetTicks, OneUpsetTick, RunsPlain}
use Rattle.upset_laws.proofs.UpsetLemmas.{core_file_there, first_cues, more_upset_script, no_upset_script, own_append, own_nil, part_there, ready_none, script_begins, script_short, state_there, step_ready_view, upset_run_system}

-- the lines of upsets have the tags of the partitions that they strike
struck_own : (p : ℕ) (lines : List UpsetLine) → own p (map struck_line lines) ≡ map struck_line (lines_for p lines)
unfolding own
struck_own p [] = refl
struck_own p (line ∷ lines) = at (line.part == p) (struck_own p lines)
  where
    at : (b : Bool) → filter (λ l. is_number (tag_of l) p) (map struck_line lines) ≡ map struck_line (lines_for p lines)
        → cond b (struck_line line ∷ filter (λ l. is_number (tag_of l) p) (map struck_line lines)) (filter (λ l. is_number (tag_of l) p) (map struck_line lines))
        ≡ map struck_line (if b then line ∷ lines_for p lines else lines_for p lines)
    at true rest = ap (λ l. struck_line line ∷ l) rest
    at false rest = rest

-- what strikes a partition, of the upsets of lines, is what its own lines say
pub strikes_own : (p : ℕ) (lines : List UpsetLine) → strikes_on p (map upset_of lines) ≡ map strike_of (lines_for p lines)
strikes_own p [] = refl
strikes_own p (line ∷ lines) = at (line.part == p) (strikes_own p lines)
  where
    at : (b : Bool) → strikes_on p (map upset_of lines) ≡ map strike_of (lines_for p lines)
        → (if b then strike_of line ∷ strikes_on p (map upset_of lines) else strikes_on p (map upset_of lines)) ≡ map strike_of (if b then line ∷ lines_for p lines else lines_for p lines)
    at true rest = ap (λ strikes. strike_of line ∷ strikes) rest
    at false rest = rest

-- the lines of upsets, of a tick, and of the ticks after it
three_own : (p : ℕ) (a b c a' b' c' : List ReportLine) → own p a ≡ a' → own p b ≡ b' → own p c ≡ c' → own p (a ++ b ++ c) ≡ a' ++ b' ++ c'
three_own p a b c a' b' c' first second third =
    own_append p (a ++ b) c ∙ ap (λ l. l ++ own p c) (own_append p a b)
    ∙ ap (λ l. l ++ own p b ++ own p c) first ∙ ap (λ l. a' ++ l ++ own p c) second ∙ ap (λ l. a' ++ b' ++ l) third

-- one tick, and then the others
reported_further : OneUpsetTick → KeepsNumbers → (t : Timetable) (g : Machine) (p : ℕ) (ps next : PartitionState) (count : ℕ) → g.halted ≡ false → slice_get g.parts p ≡ Some ps
    → part (step (ready (map upset_of (t 0)) g)) p next ≡ alone_step (view_of g.system p) (alone_struck (strikes_on p (map upset_of (t 0))) (part g p ps)) (cue (ready (map upset_of (t 0)) g) p)
    → own p (reported (later t) (step (ready (map upset_of (t 0)) g)) count)
    ≡ alone_reported (view_of (step (ready (map upset_of (t 0)) g)).system p) (λ k. lines_for p (t (suc k))) (part (step (ready (map upset_of (t 0)) g)) p next)
    (upset_script (upsets_of (later t)) (step (ready (map upset_of (t 0)) g)) p count)
    → own p (reported t g (suc count)) ≡ alone_reported (view_of g.system p) (λ k. lines_for p (t k)) (part g p ps) (upset_script (upsets_of t) g p (suc count))
reported_further tick numbers t g p ps next count runs there same_part rest =
    let us : List Upset = map upset_of (t 0) in
    let after_it : Machine = step (ready us g) in
    let cues : List Cue = upset_script (upsets_of (later t)) after_it p count in
    let now : Cue = cue (ready us g) p in
    let v : PartitionView = view_of g.system p in
    let mine : ℕ → List UpsetLine = λ k. lines_for p (t (suc k)) in
    three_own p (struck_lines g.halted (t 0)) (step_lines (ready us g)) (reported (later t) after_it count)
    (map struck_line (lines_for p (t 0))) (alone_step_lines v (alone_struck (map strike_of (lines_for p (t 0))) (part g p ps)) now)
    (alone_reported v mine (alone_step v (alone_struck (map strike_of (lines_for p (t 0))) (part g p ps)) now) cues)
    (ap (λ b. own p (struck_lines b (t 0))) runs ∙ struck_own p (t 0))
    ((tick us g p ps runs there).lines ∙ ap (λ strikes. alone_step_lines v (alone_struck strikes (part g p ps)) now) (strikes_own p (t 0)))
    (rest ∙ ap (λ w. alone_reported w mine (part after_it p next) cues) (step_ready_view numbers us g p)
    ∙ ap (λ a. alone_reported v mine a cues) same_part
    ∙ ap (λ strikes. alone_reported v mine (alone_step v (alone_struck strikes (part g p ps)) now) cues) (strikes_own p (t 0)))
    ∙ ap (alone_reported v (λ k. lines_for p (t k)) (part g p ps)) (sym (more_upset_script count (upsets_of t) g p runs))

pub ticks_report_alone : OneUpsetTick → KeepsNumbers → TicksReportAlone
ticks_report_alone tick numbers t g p ps zero there = own_nil p
ticks_report_alone tick numbers t g p ps (suc count) there =
    at g.halted refl (λ next. ticks_report_alone tick numbers (later t) (step (ready (map upset_of (t 0)) g)) p next count)
  where
    at : (b : Bool) → g.halted ≡ b
        → ((next : PartitionState) → slice_get (step (ready (map upset_of (t 0)) g)).parts p ≡ Some next
        → own p (reported (later t) (step (ready (map upset_of (t 0)) g)) count)
        ≡ alone_reported (view_of (step (ready (map upset_of (t 0)) g)).system p) (λ k. lines_for p (t (suc k))) (part (step (ready (map upset_of (t 0)) g)) p next)
        (upset_script (upsets_of (later t)) (step (ready (map upset_of (t 0)) g)) p count))
        → own p (reported t g (suc count)) ≡ alone_reported (view_of g.system p) (λ k. lines_for p (t k)) (part g p ps) (upset_script (upsets_of t) g p (suc count))
    at true halts rest =
        ap (own p) (halted_reported (suc count) t g halts) ∙ own_nil p
        ∙ ap (alone_reported (view_of g.system p) (λ k. lines_for p (t k)) (part g p ps)) (sym (no_upset_script (suc count) (upsets_of t) g p halts))
    at false runs rest =
        let us : List Upset = map upset_of (t 0) in
        let a : Alone = alone_step (view_of g.system p) (alone_struck (strikes_on p us) (part g p ps)) (cue (ready us g) p) in
        let state = (tick us g p ps runs there).state in
        let next_there : slice_get (step (ready us g)).parts p ≡ Some a.state = state_there (step (ready us g)) p a state in
        reported_further tick numbers t g p ps a.state count runs there
        (same_Some _ _ (sym (part_there (step (ready us g)) p a.state next_there) ∙ state)) (rest a.state next_there)

-- the lines of the end: of those of all partitions one is a partition's own
ends_apart : (p : ℕ) (f : ℕ → PartitionState → List ReportLine) (xs : List PartitionState) → ((k : ℕ) (ps : PartitionState) → own p (f k ps) ≡ []) → own p (all_of f xs) ≡ []
ends_apart p f [] others = own_nil p
ends_apart p f (x ∷ xs) others =
    own_append p (f 0 x) (all_of (λ k. f (suc k)) xs)
    ∙ ap (λ l. l ++ own p (all_of (λ k. f (suc k)) xs)) (others 0 x)
    ∙ ends_apart p (λ k. f (suc k)) xs (λ k. others (suc k))

end_of_one : (p q : ℕ) (f : ℕ → PartitionState → List ReportLine) (xs : List PartitionState) (ps : PartitionState) → slice_get xs q ≡ Some ps
    → ((state : PartitionState) → own p (f q state) ≡ f q state) → ((k : ℕ) (other : PartitionState) → k ≢ q → own p (f k other) ≡ []) → own p (all_of f xs) ≡ f q ps
end_of_one p q f [] ps there its others = absurd cc
end_of_one p zero f (x ∷ xs) ps there its others =
    let same : x ≡ ps = same_Some x ps there in
    own_append p (f 0 x) (all_of (λ k. f (suc k)) xs)
    ∙ ap (λ l. own p (f 0 x) ++ l) (ends_apart p (λ k. f (suc k)) xs (λ k other. others (suc k) other (λ e. absurd (omega (arith, e)))))
    ∙ append-nil (own p (f 0 x)) ∙ its x ∙ ap (f 0) same
end_of_one p (suc q) f (x ∷ xs) ps there its others =
    own_append p (f 0 x) (all_of (λ k. f (suc k)) xs)
    ∙ ap (λ l. l ++ own p (all_of (λ k. f (suc k)) xs)) (others 0 x (λ e. absurd (omega (arith, e))))
    ∙ end_of_one p q (λ k. f (suc k)) xs ps there its (λ k other not_q. others (suc k) other (λ e. not_q (omega (arith, e))))

its_end : (p : ℕ) (ps : PartitionState) → own p (end_line p ps ∷ []) ≡ end_line p ps ∷ []
unfolding own
its_end p ps = (let its : (p == p) ≡ true = grind (arith, nat_tests) in rw its refl)

other_end : (p q : ℕ) (ps : PartitionState) → q ≢ p → own p (end_line q ps ∷ []) ≡ []
unfolding own
other_end p q ps differ = (let other : (q == p) ≡ false = grind (arith, nat_tests) in rw other refl)

last_own : (p : ℕ) (halted : Bool) (plan clock ticks : ℕ) → own p (EndWhole halted plan clock ticks ∷ []) ≡ []
unfolding own
last_own p halted plan clock ticks = refl

ends_own : (g : Machine) (p : ℕ) (ps : PartitionState) → slice_get g.parts p ≡ Some ps → own p (end_lines g) ≡ end_line p ps ∷ []
unfolding end_lines
ends_own g p ps there =
    own_append p (all_of (λ q other. end_line q other ∷ []) g.parts) (EndWhole g.halted g.clock.plan g.time g.ticks ∷ [])
    ∙ ap (λ l. own p (all_of (λ q other. end_line q other ∷ []) g.parts) ++ l) (last_own p g.halted g.clock.plan g.time g.ticks)
    ∙ append-nil (own p (all_of (λ q other. end_line q other ∷ []) g.parts))
    ∙ end_of_one p p (λ q other. end_line q other ∷ []) g.parts ps there (its_end p) (λ k other differ. other_end p k other differ)

first_own : (p parts plans ticks : ℕ) (rest : List ReportLine) → own p (SystemLine parts plans ticks ∷ rest) ≡ own p rest
unfolding own
first_own p parts plans ticks rest = refl

-- a system as it boots
start_system : (system : System) → (start system).system ≡ system
unfolding start
start_system system = refl

start_there : BootsAlone → (system : System) (p : ℕ) → p < length system.conf.parts → slice_get (start system).parts p ≡ Some (alone_start (view_of system p)).state
start_there boots system p below = state_there (start system) p (alone_start (view_of system p)) (boots system p below)

start_part : BootsAlone → (system : System) (p : ℕ) → p < length system.conf.parts → part (start system) p (alone_start (view_of system p)).state ≡ alone_start (view_of system p)
start_part boots system p below =
    same_Some _ _ (sym (part_there (start system) p (alone_start (view_of system p)).state (start_there boots system p below)) ∙ boots system p below)

start_view : (system : System) (p : ℕ) → view_of (start system).system p ≡ view_of system p
start_view system p = ap (λ s. view_of s p) (start_system system)

pub same_upset_part : AllUpsetTicks → BootsAlone → SameUpsetPart
same_upset_part all boots lines system p ticks below =
    let a : Alone = alone_start (view_of system p) in
    let cues : List Cue = received_in lines system p ticks in
    (all ticks (schedule_of lines) (start system) p a.state (start_there boots system p below)).state
    ∙ ap (λ v. Some (alone_upset_from v (own_strikes p (schedule_of lines)) (part (start system) p a.state) cues)) (start_view system p)
    ∙ ap (λ b. Some (alone_upset_from (view_of system p) (own_strikes p (schedule_of lines)) b cues)) (start_part boots system p below)

pub same_upset_core : KeepsNumbers → SameUpsetPart → SameUpsetCoreFile
same_upset_core numbers same lines system p ticks below =
    let a : Alone = alone_after lines system p ticks in
    core_file_there (after_run lines system ticks) p a (state_there (after_run lines system ticks) p a (same lines system p ticks below))
    ∙ ap (λ s. Some (core_file (view_of s p) a.state)) (upset_run_system numbers ticks (schedule_of lines) (start system) ∙ start_system system)

pub own_reports : TicksReportAlone → SameUpsetPart → BootsAlone → OwnReports
unfolding upset_report
own_reports ticks_law same boots lines system p ticks below =
    let a : Alone = alone_start (view_of system p) in
    let cues : List Cue = received_in lines system p ticks in
    let after_it : Machine = after_run lines system ticks in
    first_own p (length system.conf.parts) (length system.conf.plans) ticks (reported (due lines) (start system) ticks ++ end_lines after_it)
    ∙ own_append p (reported (due lines) (start system) ticks) (end_lines after_it)
    ∙ ap (λ l. l ++ own p (end_lines after_it)) (ticks_law (due lines) (start system) p a.state ticks (start_there boots system p below)
    ∙ ap (λ v. alone_reported v (own_due p lines) (part (start system) p a.state) cues) (start_view system p)
    ∙ ap (λ b. alone_reported (view_of system p) (own_due p lines) b cues) (start_part boots system p below))
    ∙ ap (λ l. alone_reported (view_of system p) (own_due p lines) a cues ++ l)
    (ends_own after_it p (alone_after lines system p ticks).state (state_there after_it p (alone_after lines system p ticks) (same lines system p ticks below)))

-- a run without upsets
plain_reported : (count : ℕ) (g : Machine) → reported (due []) g count ≡ lines g count
plain_reported zero g = refl
plain_reported (suc count) g =
    ap (λ l. l ++ step_lines (ready [] g) ++ reported (due []) (step (ready [] g)) count) (none g.halted)
    ∙ ap (λ m. step_lines m ++ reported (due []) (step m) count) (ready_none g) ∙ ap (λ l. step_lines g ++ l) (plain_reported count (step g))
  where
    none : (b : Bool) → struck_lines b [] ≡ []
    none true = refl
    none false = refl

pub plain_consoles : PlainConsoles
plain_consoles g zero uart = refl
plain_consoles g (suc count) uart =
    ap (λ m. step_console m uart ++ upset_console no_upsets (step m) count uart) (ready_none g) ∙ ap (λ l. step_console g uart ++ l) (plain_consoles (step g) count uart)

plain_report : RunsPlain → (system : System) (ticks : ℕ) → upset_report [] system ticks ≡ report system ticks
unfolding report upset_report
plain_report plain system ticks =
    ap (λ l. SystemLine (length system.conf.parts) (length system.conf.plans) ticks ∷ l ++ end_lines (after_run [] system ticks)) (plain_reported ticks (start system))
    ∙ ap (λ m. SystemLine (length system.conf.parts) (length system.conf.plans) ticks ∷ lines (start system) ticks ++ end_lines m) (plain (start system) ticks).state

pub plain_reports : RunsPlain → PlainReports
plain_reports plain = record {
  report = plain_report plain;
  after = λ system ticks. (plain (start system) ticks).state;
  received = λ system p ticks. (plain (start system) ticks).script p;
}

-- a partition alone, with the same lines of its own
same_alone : (cues : List Cue) (count : ℕ) (one other : Timetable) (view : PartitionView) (a : Alone) → length cues ≤ count → ((k : ℕ) → k < count → one k ≡ other k)
    → alone_reported view one a cues ≡ alone_reported view other a cues
same_alone [] count one other view a short same = refl
same_alone (now ∷ cues) zero one other view a short same = absurd (omega (arith, short))
same_alone (now ∷ cues) (suc count) one other view a short same =
    ap (λ (ls : List UpsetLine). map struck_line ls ++ alone_step_lines view (alone_struck (map strike_of ls) a) now
    ++ alone_reported view (later one) (alone_step view (alone_struck (map strike_of ls) a) now) cues) (same 0 (omega arith))
    ∙ ap (λ (rest : List ReportLine). map struck_line (other 0) ++ alone_step_lines view (alone_struck (map strike_of (other 0)) a) now ++ rest)
    (same_alone cues count (later one) (later other) view (alone_step view (alone_struck (map strike_of (other 0)) a) now) (omega (arith, short)) (λ k below. same (suc k) (omega (arith, below))))

-- two runs
pub two_reports : TicksReportAlone → TwoReports
two_reports ticks_law t one u other p count fewer below alike =
    let state : PartitionState = alike.state in
    let there_too : slice_get other.parts p ≡ Some (part one p state).state = state_there other p (part one p state) (sym alike.part ∙ part_there one p state alike.there) in
    let same_part : part one p state ≡ part other p (part one p state).state =
    same_Some _ _ (sym (part_there one p state alike.there) ∙ alike.part ∙ part_there other p (part one p state).state there_too) in
    let scripts : upset_script (upsets_of t) one p fewer ≡ upset_script (upsets_of u) other p fewer =
    script_begins fewer count (upsets_of t) one p below ∙ ap (first_cues fewer) alike.script ∙ sym (script_begins fewer count (upsets_of u) other p below) in
    let v : PartitionView = view_of other.system p in
    let cues : List Cue = upset_script (upsets_of u) other p fewer in
    ticks_law t one p state fewer alike.there
    ∙ ap (λ w. alone_reported w (λ k. lines_for p (t k)) (part one p state) (upset_script (upsets_of t) one p fewer)) alike.view
    ∙ ap (λ all. alone_reported v (λ k. lines_for p (t k)) (part one p state) all) scripts
    ∙ ap (λ a. alone_reported v (λ k. lines_for p (t k)) a cues) same_part
    ∙ same_alone cues fewer (λ k. lines_for p (t k)) (λ k. lines_for p (u k)) v (part other p (part one p state).state) (script_short fewer (upsets_of u) other p)
    (λ k less. alike.own_lines k (omega (arith, less, below)))
    ∙ sym (ticks_law u other p (part one p state).state fewer there_too)
