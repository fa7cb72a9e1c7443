-- What a tick leaves of a job.
use Rattle.std.proofs.Common.{◌≡◌, ℕ, ◌+◌, ◌-◌, ◌<◌, ◌≤◌, ◌==◌, Bool, true, false, cond, ◌&&◌, ◌||◌, List, [], ◌∷◌, map, Option, Some, None, ap, ap₂, sym, ◌∙◌, refl, arith}
use Rattle.std.proofs.lemmas.Bool.Decides.{nat_tests}
use Rattle.std.proofs.Math.Nat.{zero-div}
use Rattle.xm_conf.specs.declared.plan.Slot.{Slot}
use Rattle.plan_maker.specs.Course.{Course, course_after_tick, at_rest, job_at, jobs_at, run_slot, slots_so_far, window_start}
use Rattle.plan_maker.specs.lemmas.NeededTerms.{ArePossible}
use Rattle.plan_maker.specs.Served.{gives, runs_in, ticks_where, time_in}
use Rattle.plan_maker.specs.lemmas.Turns.{first_job, renewed, spent}
use Rattle.plan_maker.specs.declared.jobs.Job.{Job}
use Rattle.plan_maker.specs.declared.jobs.Requirement.{Requirement}
use Rattle.plan_maker.proofs.CourseLemmas.{Laid, runs_after, runs_no_more}
use Rattle.plan_maker.proofs.TimeLemmas.{window_holds, window_same, window_next, ticks_where_same, ticks_where_more}

-- whether the job that runs, where one does, is the partition's
abbrev pub is_turn : Option Job → ℕ → Bool
is_turn None part = false
is_turn (Some turn) part = part == turn.requirement.part

-- a job after a tick in which a job ran, or none
abbrev pub spent_by : Option Job → Job → Job
spent_by None job = job
spent_by (Some turn) job = spent turn.requirement.part 1 job

-- a job in the next tick
abbrev pub next_job : ℕ → Option Job → Job → Job
next_job tick turn job = renewed (tick + 1) (spent_by turn job)

-- a tick runs its partition, and leaves the other ticks as they were
pub runs_after_tick : (q tick t : ℕ) (turn : Option Job) (course : Course)
    → runs_in q (slots_so_far (course_after_tick tick turn course)) t ≡ (runs_in q (slots_so_far course) t || (is_turn turn q && t == tick))
runs_after_tick q tick t None course = sym (or_none (runs_in q (slots_so_far course) t))
  where
    or_none : (b : Bool) → (b || false) ≡ b
    or_none true = refl
    or_none false = refl
runs_after_tick q tick t (Some turn) course =
    runs_after q turn.requirement.part tick 1 t course
    ∙ ap (λ b. runs_in q (slots_so_far course) t || b) (one turn.requirement.part)
  where
    one : (part : ℕ) → gives q t (run_slot part tick 1) ≡ (q == part && t == tick)
    one part = grind (arith, nat_tests)

-- the ticks before it are as they were
runs_before : (q tick t : ℕ) (turn : Option Job) (course : Course) → t < tick
    → runs_in q (slots_so_far (course_after_tick tick turn course)) t ≡ runs_in q (slots_so_far course) t
runs_before q tick t turn course before = runs_after_tick q tick t turn course ∙ earlier (runs_in q (slots_so_far course) t) (is_turn turn q) t tick before
  where
    earlier : (a b : Bool) (t tick : ℕ) → t < tick → (a || (b && t == tick)) ≡ a
    earlier a b t tick before = grind (arith, nat_tests)

and_true : (b : Bool) → (b && true) ≡ b
and_true true = refl
and_true false = refl

-- in the tick the partition runs whose turn it is
runs_here : (q tick : ℕ) (turn : Option Job) (course : Course) → Laid 0 tick (slots_so_far course)
    → runs_in q (slots_so_far (course_after_tick tick turn course)) tick ≡ is_turn turn q
runs_here q tick turn course laid =
    runs_after_tick q tick tick turn course ∙ at (runs_in q (slots_so_far course) tick) (is_turn turn q) (runs_no_more q 0 tick tick (slots_so_far course) laid (omega arith))
  where
    at : (a b : Bool) → a ≡ false → (a || (b && tick == tick)) ≡ b
    at a b is = rw is (let same : (tick == tick) ≡ true = grind (arith, nat_tests) in rw same (and_true b))

-- the time in a window with one tick more
pub time_more : (q start count tick : ℕ) (turn : Option Job) (course : Course) → Laid 0 tick (slots_so_far course) → start + count ≡ tick
    → time_in q (slots_so_far (course_after_tick tick turn course)) start (count + 1) ≡ time_in q (slots_so_far course) start count + cond (is_turn turn q) 1 0
unfolding time_in
time_more q start count tick turn course laid ends =
    let new = slots_so_far (course_after_tick tick turn course) in
    let old = slots_so_far course in
    let same : ticks_where (runs_in q new) start count ≡ ticks_where (runs_in q old) start count =
    ticks_where_same (runs_in q new) (runs_in q old) start count (λ t from below. runs_before q tick t turn course (omega arith)) in
    let here : runs_in q new (start + count) ≡ is_turn turn q = rw ends (runs_here q tick turn course laid) in
    rw (ticks_where_more (runs_in q new) start count, same, here) refl

-- the time in a window that is over
pub time_stays : (q start count tick : ℕ) (turn : Option Job) (course : Course) → start + count ≤ tick
    → time_in q (slots_so_far (course_after_tick tick turn course)) start count ≡ time_in q (slots_so_far course) start count
unfolding time_in
time_stays q start count tick turn course ends =
    ticks_where_same (runs_in q (slots_so_far (course_after_tick tick turn course))) (runs_in q (slots_so_far course)) start count
    (λ t from below. runs_before q tick t turn course (omega arith))

-- the time that a requirement had of the window of a tick
abbrev pub had : ℕ → List Slot → Requirement → ℕ
had tick slots r = time_in r.part slots (window_start tick r.period) (tick - window_start tick r.period)

-- in a window that goes on
pub had_goes_on : (tick : ℕ) (turn : Option Job) (course : Course) (r : Requirement) → 0 < r.period → Laid 0 tick (slots_so_far course)
    → tick + 1 < window_start tick r.period + r.period
    → had (tick + 1) (slots_so_far (course_after_tick tick turn course)) r ≡ had tick (slots_so_far course) r + cond (is_turn turn r.part) 1 0
had_goes_on tick turn course r some laid goes =
    let start = window_start tick r.period in
    let new = slots_so_far (course_after_tick tick turn course) in
    let holds = window_holds tick r.period some in
    let begun : start ≤ tick = holds.begun in
    let more : tick + 1 - start ≡ tick - start + 1 = omega arith in
    ap (λ (from : ℕ). time_in r.part new from (tick + 1 - from)) (window_same tick r.period some goes)
    ∙ ap (λ (count : ℕ). time_in r.part new start count) more
    ∙ time_more r.part start (tick - start) tick turn course laid (omega arith)

-- in a window that begins
pub had_begins : (tick : ℕ) (slots : List Slot) (r : Requirement) → 0 < r.period → window_start tick r.period + r.period ≡ tick + 1 → had (tick + 1) slots r ≡ 0
unfolding time_in
had_begins tick slots r some ends =
    ap (λ (from : ℕ). time_in r.part slots from (tick + 1 - from)) (window_next tick r.period some (sym ends))
    ∙ ap (λ (count : ℕ). time_in r.part slots (tick + 1) count) (let e : tick + 1 - (tick + 1) ≡ 0 = omega arith in e)

-- in a window that ends
pub had_ends : (tick : ℕ) (turn : Option Job) (course : Course) (r : Requirement) → 0 < r.period → Laid 0 tick (slots_so_far course)
    → window_start tick r.period + r.period ≡ tick + 1
    → time_in r.part (slots_so_far (course_after_tick tick turn course)) (window_start tick r.period) r.period ≡ had tick (slots_so_far course) r + cond (is_turn turn r.part) 1 0
had_ends tick turn course r some laid ends =
    let start = window_start tick r.period in
    let new = slots_so_far (course_after_tick tick turn course) in
    let holds = window_holds tick r.period some in
    let begun : start ≤ tick = holds.begun in
    let whole : r.period ≡ tick - start + 1 = omega arith in
    ap (λ (count : ℕ). time_in r.part new start count) whole
    ∙ time_more r.part start (tick - start) tick turn course laid (omega arith)

-- a job by its numbers
abbrev pub numbered : Requirement → ℕ → ℕ → Job
numbered requirement left end = record { requirement = requirement; left = left; end = end }

-- the job of a tick by its numbers
pub job_numbers : (tick : ℕ) (slots : List Slot) (r : Requirement)
    → job_at tick slots r ≡ numbered r (r.duration - had tick slots r) (window_start tick r.period + r.period)
unfolding job_at
job_numbers tick slots r = refl

-- what a tick takes of a job
pub spent_numbers : (turn : Option Job) (r : Requirement) (left end : ℕ) → spent_by turn (numbered r left end) ≡ numbered r (left - cond (is_turn turn r.part) 1 0) end
spent_numbers None r left end = ap (λ (n : ℕ). numbered r n end) (let e : left ≡ left - 0 = omega arith in e)
spent_numbers (Some turn) r left end = at (r.part == turn.requirement.part)
  where
    at : (b : Bool) → cond b (numbered r (left - 1) end) (numbered r left end) ≡ numbered r (left - cond b 1 0) end
    at true = refl
    at false = ap (λ (n : ℕ). numbered r n end) (let e : left ≡ left - 0 = omega arith in e)

-- what a tick leaves of a job whose window goes on, and of one whose window ends
next_numbers : (tick : ℕ) (turn : Option Job) (r : Requirement) (left end : ℕ) (b : Bool) → (end == tick + 1) ≡ b
    → next_job tick turn (numbered r left end) ≡ cond b (numbered r r.duration (end + r.period)) (numbered r (left - cond (is_turn turn r.part) 1 0) end)
next_numbers tick turn r left end b is =
    ap (λ (job : Job). renewed (tick + 1) job) (spent_numbers turn r left end)
    ∙ ap (λ (ends : Bool). cond ends (numbered r r.duration (end + r.period)) (numbered r (left - cond (is_turn turn r.part) 1 0) end)) is

-- the job of a window that goes on
job_goes_on : (tick : ℕ) (turn : Option Job) (course : Course) (r : Requirement) → 0 < r.period → Laid 0 tick (slots_so_far course)
    → tick + 1 < window_start tick r.period + r.period
    → job_at (tick + 1) (slots_so_far (course_after_tick tick turn course)) r
    ≡ numbered r (r.duration - had tick (slots_so_far course) r - cond (is_turn turn r.part) 1 0) (window_start tick r.period + r.period)
job_goes_on tick turn course r some laid goes =
    let new = slots_so_far (course_after_tick tick turn course) in
    job_numbers (tick + 1) new r
    ∙ ap (λ (start : ℕ). numbered r (r.duration - had (tick + 1) new r) (start + r.period)) (window_same tick r.period some goes)
    ∙ ap (λ (time : ℕ). numbered r (r.duration - time) (window_start tick r.period + r.period)) (had_goes_on tick turn course r some laid goes)
    ∙ ap (λ (left : ℕ). numbered r left (window_start tick r.period + r.period))
    (let e : r.duration - (had tick (slots_so_far course) r + cond (is_turn turn r.part) 1 0) ≡ r.duration - had tick (slots_so_far course) r - cond (is_turn turn r.part) 1 0 = omega arith in e)

-- the job of a window that begins
job_begins : (tick : ℕ) (slots : List Slot) (r : Requirement) → 0 < r.period → window_start tick r.period + r.period ≡ tick + 1
    → job_at (tick + 1) slots r ≡ numbered r r.duration (window_start tick r.period + r.period + r.period)
job_begins tick slots r some ends =
    job_numbers (tick + 1) slots r
    ∙ ap (λ (start : ℕ). numbered r (r.duration - had (tick + 1) slots r) (start + r.period)) (window_next tick r.period some (sym ends) ∙ sym ends)
    ∙ ap (λ (time : ℕ). numbered r (r.duration - time) (window_start tick r.period + r.period + r.period)) (had_begins tick slots r some ends)
    ∙ ap (λ (left : ℕ). numbered r left (window_start tick r.period + r.period + r.period)) (let e : r.duration - 0 ≡ r.duration = omega arith in e)

-- the job of the next tick is what the tick leaves of it
pub job_next : (tick : ℕ) (turn : Option Job) (course : Course) (r : Requirement) → 0 < r.period → Laid 0 tick (slots_so_far course)
    → job_at (tick + 1) (slots_so_far (course_after_tick tick turn course)) r ≡ next_job tick turn (job_at tick (slots_so_far course) r)
job_next tick turn course r some laid =
    at (window_start tick r.period + r.period == tick + 1) refl
    ∙ sym (ap (λ (job : Job). next_job tick turn job) (job_numbers tick (slots_so_far course) r))
  where
    at : (b : Bool) → (window_start tick r.period + r.period == tick + 1) ≡ b
        → job_at (tick + 1) (slots_so_far (course_after_tick tick turn course)) r
        ≡ next_job tick turn (numbered r (r.duration - had tick (slots_so_far course) r) (window_start tick r.period + r.period))
    at true is =
        let ends : window_start tick r.period + r.period ≡ tick + 1 = grind (arith, nat_tests) in
        job_begins tick (slots_so_far (course_after_tick tick turn course)) r some ends ∙ sym (next_numbers tick turn r (r.duration - had tick (slots_so_far course) r) (window_start tick r.period + r.period) true is)
    at false is =
        let holds = window_holds tick r.period some in
        let inside : tick < window_start tick r.period + r.period = holds.inside in
        let goes : tick + 1 < window_start tick r.period + r.period = grind (arith, nat_tests) in
        job_goes_on tick turn course r some laid goes ∙ sym (next_numbers tick turn r (r.duration - had tick (slots_so_far course) r) (window_start tick r.period + r.period) false is)

-- the jobs of the next tick are what the tick leaves of them
pub jobs_next : (tick low : ℕ) (turn : Option Job) (course : Course) (rs : List Requirement) → ArePossible low rs → Laid 0 tick (slots_so_far course)
    → jobs_at rs (tick + 1) (course_after_tick tick turn course) ≡ map (next_job tick turn) (jobs_at rs tick course)
jobs_next tick low turn course [] possible laid = refl
jobs_next tick low turn course (r ∷ rest) possible laid =
    let rest_next : jobs_at rest (tick + 1) (course_after_tick tick turn course) ≡ map (next_job tick turn) (jobs_at rest tick course) =
    jobs_next tick (r.part + 1) turn course rest possible.2 laid in
    let some : 0 < r.duration = possible.1.some in
    let inside : r.duration ≤ r.period = possible.1.inside in
    let here : job_at (tick + 1) (slots_so_far (course_after_tick tick turn course)) r ≡ next_job tick turn (job_at tick (slots_so_far course) r) =
    job_next tick turn course r (omega arith) laid in
    rw (here, rest_next) refl

-- the job of the first tick is that of the first window
job_first : (r : Requirement) → job_at 0 [] r ≡ first_job r
unfolding job_at time_in
job_first r =
    let start : window_start 0 r.period ≡ 0 = rw (zero-div r.period) (omega arith) in
    let none : 0 - 0 ≡ 0 = omega arith in
    rw (start, none) (ap₂ (λ (left end : ℕ). numbered r left end) (let e : r.duration - 0 ≡ r.duration = omega arith in e) (let e : 0 + r.period ≡ r.period = omega arith in e))

-- the jobs of the first tick are those of the first windows
pub jobs_first : (rs : List Requirement) → jobs_at rs 0 at_rest ≡ map first_job rs
jobs_first [] = refl
jobs_first (r ∷ rest) = rw (job_first r, jobs_first rest) refl
