-- In each window each partition has exactly its duration.
use Rattle.std.proofs.Common.{◌≡◌, ℕ, zero, suc, ◌+◌, ◌-◌, ◌*◌, ◌<◌, ◌≤◌, ◌==◌, Bool, true, false, cond, List, [], ◌∷◌, map, Option, Some, None, ap, sym, ◌∙◌, subst, refl, arith}
use Rattle.std.proofs.lemmas.Bool.Decides.{nat_tests}
use Rattle.std.proofs.lemmas.Simd.{map-map}
use Rattle.xm_conf.specs.declared.plan.Slot.{Slot}
use Rattle.plan_maker.specs.Course.{Course, course_after_tick, course_of, earliest, job_at, jobs_at, slots_so_far, tick_done, window_start}
use Rattle.plan_maker.specs.lemmas.NeededTerms.{ArePossible, IsPossible}
use Rattle.plan_maker.specs.Needed.{demand}
use Rattle.plan_maker.specs.Served.{time_in, window_time}
use Rattle.plan_maker.specs.lemmas.Turns.{first_job, renewed}
use Rattle.plan_maker.specs.declared.jobs.Job.{Job}
use Rattle.plan_maker.specs.declared.jobs.Requirement.{Requirement}
use Rattle.plan_maker.proofs.CourseLemmas.{Laid, laid_after, laid_later}
use Rattle.plan_maker.proofs.EachLemmas.{Each, each_both, each_every, each_image, each_source, each_then}
use Rattle.plan_maker.proofs.EarliestLemmas.{IsAlone, Rising, earliest_one, earliest_wants, one_alone}
use Rattle.plan_maker.proofs.JobLemmas.{had, had_begins, had_ends, had_goes_on, is_turn, job_numbers, jobs_first, jobs_next, numbered, spent_by, spent_numbers, time_stays}
use Rattle.plan_maker.proofs.LoadLemmas.{Fits, IsAhead, IsDone, IsWhole, Spares, demand_fits, share_same, spares_done, spares_first, spares_renewed, spares_tick}
use Rattle.plan_maker.proofs.TimeLemmas.{window_holds, window_is}

-- the slots after this many ticks
abbrev pub slots_at : List Requirement → ℕ → List Slot
slots_at rs tick = slots_so_far (course_of rs tick)

-- the jobs in a tick
abbrev pub jobs_in : List Requirement → ℕ → List Job
jobs_in rs tick = jobs_at rs tick (course_of rs tick)

-- what runs in a tick
abbrev pub turn_in : List Requirement → ℕ → Option Job
turn_in rs tick = earliest (jobs_in rs tick)

-- the slots end by the next tick, and follow one another
pub course_laid : (rs : List Requirement) (tick : ℕ) → Laid 0 tick (slots_at rs tick)
course_laid rs zero = let none : 0 ≤ 0 = omega arith in none
course_laid rs (suc tick) = at (turn_in rs tick) (course_laid rs tick)
  where
    at : (turn : Option Job) → Laid 0 tick (slots_at rs tick) → Laid 0 (suc tick) (slots_so_far (course_after_tick tick turn (course_of rs tick)))
    at None laid = laid_later 0 tick (suc tick) (slots_at rs tick) laid (omega arith)
    at (Some turn) laid =
        let next : tick + 1 ≡ suc tick = omega arith in
        subst (λ (end : ℕ). Laid 0 end (slots_so_far (course_after_tick tick (Some turn) (course_of rs tick)))) next
        (laid_after turn.requirement.part tick 1 (course_of rs tick) (omega arith) laid)

-- requirements of different partitions
pub jobs_rising : (low tick : ℕ) (course : Course) (rs : List Requirement) → ArePossible low rs → Rising low (jobs_at rs tick course)
jobs_rising low tick course [] possible = tt
jobs_rising low tick course (r ∷ rest) possible =
    rw (job_numbers tick (slots_so_far course) r) (possible.0, jobs_rising (r.part + 1) tick course rest possible.2)

pub each_possible : (low : ℕ) (rs : List Requirement) → ArePossible low rs → Each IsPossible rs
each_possible low [] possible = tt
each_possible low (r ∷ rest) possible = (possible.1, each_possible (r.part + 1) rest possible.2)

-- a requirement has a period
pub possible_period : (r : Requirement) → IsPossible r → 0 < r.period
possible_period r possible = let some : 0 < r.duration = possible.some in let inside : r.duration ≤ r.period = possible.inside in omega arith

-- the jobs of a tick are ahead of it
pub jobs_ahead : (tick : ℕ) (course : Course) (rs : List Requirement) → Each IsPossible rs → Each (IsAhead tick) (jobs_at rs tick course)
jobs_ahead tick course rs possible = each_image (IsAhead tick) (job_at tick (slots_so_far course)) rs (each_then IsPossible (λ r. IsAhead tick (job_at tick (slots_so_far course) r)) rs ahead possible)
  where
    ahead : (r : Requirement) → IsPossible r → IsAhead tick (job_at tick (slots_so_far course) r)
    ahead r possible =
        let holds = window_holds tick r.period (possible_period r possible) in
        rw (job_numbers tick (slots_so_far course) r) (record { period = possible_period r possible; end = holds.inside })

jobs_requirements : (tick : ℕ) (course : Course) (rs : List Requirement) → map (λ job. job.requirement) (jobs_at rs tick course) ≡ rs
jobs_requirements tick course [] = refl
jobs_requirements tick course (r ∷ rest) = rw (job_numbers tick (slots_so_far course) r, jobs_requirements tick course rest) refl

first_requirements : (rs : List Requirement) → map (λ job. job.requirement) (map first_job rs) ≡ rs
first_requirements [] = refl
first_requirements (r ∷ rest) = rw (first_requirements rest) refl

jobs_fit : (tick : ℕ) (course : Course) (rs : List Requirement) → Fits (map first_job rs) → Fits (jobs_at rs tick course)
jobs_fit tick course rs fits = λ count.
    rw (share_same count (jobs_at rs tick course) (map first_job rs) (jobs_requirements tick course rs ∙ sym (first_requirements rs))) (fits count)

-- the jobs of the next tick, in two steps: one of them runs, and windows end
pub next_jobs : (low : ℕ) (rs : List Requirement) (tick : ℕ) → ArePossible low rs
    → jobs_at rs (tick + 1) (tick_done rs tick (course_of rs tick)) ≡ map (renewed (tick + 1)) (map (spent_by (turn_in rs tick)) (jobs_in rs tick))
next_jobs low rs tick possible =
    jobs_next tick low (turn_in rs tick) (course_of rs tick) rs possible (course_laid rs tick)
    ∙ sym (map-map (renewed (tick + 1)) (spent_by (turn_in rs tick)) (jobs_in rs tick))

-- jobs that ran have a period
jobs_timed : (tick : ℕ) (course : Course) (turn : Option Job) (rs : List Requirement) → Each IsPossible rs → Each (λ job. 0 < job.requirement.period) (map (spent_by turn) (jobs_at rs tick course))
jobs_timed tick course turn rs possible =
    each_image (λ job. 0 < job.requirement.period) (spent_by turn) (jobs_at rs tick course)
    (each_image (λ job. 0 < (spent_by turn job).requirement.period) (job_at tick (slots_so_far course)) rs
    (each_then IsPossible (λ r. 0 < (spent_by turn (job_at tick (slots_so_far course) r)).requirement.period) rs timed possible))
  where
    timed : (r : Requirement) → IsPossible r → 0 < (spent_by turn (job_at tick (slots_so_far course) r)).requirement.period
    timed r possible =
        rw (job_numbers tick (slots_so_far course) r, spent_numbers turn r (r.duration - had tick (slots_so_far course) r) (window_start tick r.period + r.period))
        (possible_period r possible)

-- after a tick the jobs that ran have their time
pub spent_spare : (low : ℕ) (rs : List Requirement) (tick : ℕ) → ArePossible low rs → Fits (map first_job rs) → Spares tick (jobs_in rs tick)
    → Spares (tick + 1) (map (spent_by (turn_in rs tick)) (jobs_in rs tick))
spent_spare low rs tick possible fits spares =
    spares_tick tick (jobs_in rs tick) (jobs_ahead tick (course_of rs tick) rs (each_possible low rs possible)) (jobs_fit tick (course_of rs tick) rs fits) spares

-- the jobs have their time in each tick
pub jobs_spare : (low : ℕ) (rs : List Requirement) (tick : ℕ) → ArePossible low rs → Fits (map first_job rs) → Spares tick (jobs_in rs tick)
jobs_spare low rs zero possible fits =
    rw (jobs_first rs) (spares_first rs (each_then IsPossible (λ r. 0 < r.period) rs possible_period (each_possible low rs possible)) fits)
jobs_spare low rs (suc tick) possible fits =
    let next : tick + 1 ≡ suc tick = omega arith in
    let spent = spent_spare low rs tick possible fits (jobs_spare low rs tick possible fits) in
    let renewed_too = spares_renewed (tick + 1) (map (spent_by (turn_in rs tick)) (jobs_in rs tick)) (jobs_timed tick (course_of rs tick) (turn_in rs tick) rs (each_possible low rs possible)) spent in
    subst (λ (n : ℕ). Spares n (jobs_at rs n (tick_done rs tick (course_of rs tick)))) next
    (subst (λ (jobs : List Job). Spares (tick + 1) jobs) (sym (next_jobs low rs tick possible)) renewed_too)

-- the partition that runs has ticks to get
abbrev pub Wants : List Requirement → ℕ → Requirement → Type 0
Wants rs tick r = is_turn (turn_in rs tick) r.part ≡ true → had tick (slots_at rs tick) r < r.duration

turn_wants : (low : ℕ) (rs : List Requirement) (tick : ℕ) → ArePossible low rs → Each (Wants rs tick) rs
turn_wants low rs tick possible = at (turn_in rs tick) refl
  where
    wants : (turn : Job) → turn_in rs tick ≡ Some turn → (r : Requirement) → IsAlone turn (job_at tick (slots_at rs tick) r) → is_turn (Some turn) r.part ≡ true → had tick (slots_at rs tick) r < r.duration
    wants turn is r alone runs =
        let part : r.part ≡ turn.requirement.part = grind (arith, nat_tests) in
        let numbers = job_numbers tick (slots_at rs tick) r in
        let own : (job_at tick (slots_at rs tick) r).requirement.part ≡ turn.requirement.part = ap (λ (job : Job). job.requirement.part) numbers ∙ part in
        let same : job_at tick (slots_at rs tick) r ≡ turn = alone own in
        let left : r.duration - had tick (slots_at rs tick) r ≡ turn.left = sym (ap (λ (job : Job). job.left) numbers) ∙ ap (λ (job : Job). job.left) same in
        let some : 0 < turn.left = earliest_wants (jobs_in rs tick) turn is in
        omega (arith, left, some)

    at : (turn : Option Job) → turn_in rs tick ≡ turn → Each (λ r. is_turn turn r.part ≡ true → had tick (slots_at rs tick) r < r.duration) rs
    at None is = each_then IsPossible (λ r. is_turn None r.part ≡ true → had tick (slots_at rs tick) r < r.duration) rs (λ r p never. absurd (let e : ⊥ = cc in e)) (each_possible low rs possible)
    at (Some turn) is =
        each_then (λ r. IsAlone turn (job_at tick (slots_at rs tick) r)) (λ r. is_turn (Some turn) r.part ≡ true → had tick (slots_at rs tick) r < r.duration) rs (wants turn is)
        (each_source (IsAlone turn) (job_at tick (slots_at rs tick)) rs (one_alone low (jobs_in rs tick) turn (jobs_rising low tick (course_of rs tick) rs possible) (earliest_one (jobs_in rs tick) turn is)))

-- a number that rises by one where it is below another one stays at most that
still_most : (b : Bool) (a most : ℕ) → a ≤ most → (b ≡ true → a < most) → a + cond b 1 0 ≤ most
still_most true a most below more = let less : a < most = more refl in omega arith
still_most false a most below more = omega arith

-- no partition has more than its duration
abbrev pub HasMost : List Requirement → ℕ → Requirement → Type 0
HasMost rs tick r = had tick (slots_at rs tick) r ≤ r.duration

-- what is known of a requirement in a tick
pub record IsTimely (rs : List Requirement) (tick : ℕ) (r : Requirement) : Type 0 where
  pub possible : IsPossible r
  pub most : had tick (slots_at rs tick) r ≤ r.duration
  pub wants : is_turn (turn_in rs tick) r.part ≡ true → had tick (slots_at rs tick) r < r.duration

timely : (low : ℕ) (rs : List Requirement) (tick : ℕ) → ArePossible low rs → Each (HasMost rs tick) rs → Each (IsTimely rs tick) rs
timely low rs tick possible most =
    each_both IsPossible (λ r. IsPossible r → IsTimely rs tick r) (IsTimely rs tick) rs (λ r p f. f p) (each_possible low rs possible)
    (each_both (HasMost rs tick) (Wants rs tick) (λ r. IsPossible r → IsTimely rs tick r) rs (λ r m w p. record { possible = p; most = m; wants = w }) most (turn_wants low rs tick possible))

most_next : (rs : List Requirement) (tick : ℕ) (r : Requirement) → IsTimely rs tick r → (b : Bool) → (window_start tick r.period + r.period == tick + 1) ≡ b
    → had (tick + 1) (slots_so_far (tick_done rs tick (course_of rs tick))) r ≤ r.duration
most_next rs tick r timely true is =
    let ends : window_start tick r.period + r.period ≡ tick + 1 = grind (arith, nat_tests) in
    rw (had_begins tick (slots_so_far (tick_done rs tick (course_of rs tick))) r (possible_period r timely.possible) ends) (omega arith)
most_next rs tick r timely false is =
    let holds = window_holds tick r.period (possible_period r timely.possible) in
    let inside : tick < window_start tick r.period + r.period = holds.inside in
    let goes : tick + 1 < window_start tick r.period + r.period = grind (arith, nat_tests) in
    rw (had_goes_on tick (turn_in rs tick) (course_of rs tick) r (possible_period r timely.possible) (course_laid rs tick) goes)
    (still_most (is_turn (turn_in rs tick) r.part) (had tick (slots_at rs tick) r) r.duration timely.most timely.wants)

first_most : (rs : List Requirement) (r : Requirement) → HasMost rs 0 r
unfolding time_in
first_most rs r =
    let none : 0 - window_start 0 r.period ≡ 0 = omega arith in
    rw none (omega arith)

pub had_most : (low : ℕ) (rs : List Requirement) (tick : ℕ) → ArePossible low rs → Each (HasMost rs tick) rs
had_most low rs zero possible = each_then IsPossible (HasMost rs 0) rs (λ r p. first_most rs r) (each_possible low rs possible)
had_most low rs (suc tick) possible =
    subst (λ (n : ℕ). Each (λ r. had n (slots_so_far (tick_done rs tick (course_of rs tick))) r ≤ r.duration) rs) (let e : tick + 1 ≡ suc tick = omega arith in e)
    (each_then (IsTimely rs tick) (λ r. had (tick + 1) (slots_so_far (tick_done rs tick (course_of rs tick))) r ≤ r.duration) rs
    (λ r known. most_next rs tick r known (window_start tick r.period + r.period == tick + 1) refl)
    (timely low rs tick possible (had_most low rs tick possible)))

-- a requirement whose window ends with a tick has its duration in it
abbrev pub EndsServed : List Requirement → ℕ → Requirement → Type 0
EndsServed rs tick r =
    window_start tick r.period + r.period ≡ tick + 1
    → time_in r.part (slots_so_far (tick_done rs tick (course_of rs tick))) (window_start tick r.period) r.period ≡ r.duration

-- a requirement whose window ends with a tick has nothing left after it
abbrev pub EndsDone : List Requirement → ℕ → Requirement → Type 0
EndsDone rs tick r = IsDone (tick + 1) (spent_by (turn_in rs tick) (job_at tick (slots_at rs tick) r))

end_served : (rs : List Requirement) (tick : ℕ) (r : Requirement) → IsTimely rs tick r → EndsDone rs tick r → EndsServed rs tick r
end_served rs tick r known done = λ ends.
    let turn = turn_in rs tick in
    let slots = slots_at rs tick in
    let numbers : spent_by turn (job_at tick slots r) ≡ numbered r (r.duration - had tick slots r - cond (is_turn turn r.part) 1 0) (window_start tick r.period + r.period) =
    ap (λ (job : Job). spent_by turn job) (job_numbers tick slots r) ∙ spent_numbers turn r (r.duration - had tick slots r) (window_start tick r.period + r.period) in
    let end : (spent_by turn (job_at tick slots r)).end ≡ tick + 1 = ap (λ (job : Job). job.end) numbers ∙ ends in
    let none : r.duration - had tick slots r - cond (is_turn turn r.part) 1 0 ≡ 0 = sym (ap (λ (job : Job). job.left) numbers) ∙ done end in
    let most : had tick slots r + cond (is_turn turn r.part) 1 0 ≤ r.duration = still_most (is_turn turn r.part) (had tick slots r) r.duration known.most known.wants in
    had_ends tick turn (course_of rs tick) r (possible_period r known.possible) (course_laid rs tick) ends ∙ omega (arith, none, most)

ends_served : (low : ℕ) (rs : List Requirement) (tick : ℕ) → ArePossible low rs → Fits (map first_job rs) → Each (EndsServed rs tick) rs
ends_served low rs tick possible fits =
    each_both (IsTimely rs tick) (EndsDone rs tick) (EndsServed rs tick) rs (end_served rs tick) (timely low rs tick possible (had_most low rs tick possible))
    (each_source (λ job. IsDone (tick + 1) (spent_by (turn_in rs tick) job)) (job_at tick (slots_at rs tick)) rs
    (each_source (IsDone (tick + 1)) (spent_by (turn_in rs tick)) (jobs_in rs tick)
    (spares_done (tick + 1) (map (spent_by (turn_in rs tick)) (jobs_in rs tick)) (spent_spare low rs tick possible fits (jobs_spare low rs tick possible fits)))))

-- the time in a window that is over stays
time_kept : (rs : List Requirement) (q start count tick more : ℕ) → start + count ≤ tick → time_in q (slots_at rs (tick + more)) start count ≡ time_in q (slots_at rs tick) start count
time_kept rs q start count tick zero ends = ap (λ (n : ℕ). time_in q (slots_at rs n) start count) (let e : tick + 0 ≡ tick = omega arith in e)
time_kept rs q start count tick (suc more) ends =
    ap (λ (n : ℕ). time_in q (slots_at rs n) start count) (let e : tick + suc more ≡ suc (tick + more) = omega arith in e)
    ∙ time_stays q start count (tick + more) (turn_in rs (tick + more)) (course_of rs (tick + more)) (omega arith)
    ∙ time_kept rs q start count tick more ends

-- a requirement has its duration in each window of a frame
abbrev pub HasWindows : List Requirement → ℕ → Requirement → Type 0
HasWindows rs frame r = (window : ℕ) → (window + 1) * r.period ≤ frame → window_time r.part (slots_at rs frame) r.period window ≡ r.duration

has_windows : (rs : List Requirement) (frame : ℕ) (r : Requirement) → IsPossible r → ((tick : ℕ) → EndsServed rs tick r) → HasWindows rs frame r
has_windows rs frame r possible served = λ window inside.
    let some : 0 < r.period = possible_period r possible in
    let tick = window * r.period + (r.period - 1) in
    let start : window_start tick r.period ≡ window * r.period = window_is tick window r.period (r.period - 1) refl (omega arith) in
    let ends : window_start tick r.period + r.period ≡ tick + 1 = rw start (omega arith) in
    let here : time_in r.part (slots_at rs (suc tick)) (window * r.period) r.period ≡ r.duration =
    subst (λ (from : ℕ). time_in r.part (slots_at rs (suc tick)) from r.period ≡ r.duration) start (served tick ends) in
    let whole : frame ≡ suc tick + (frame - suc tick) = omega arith in
    ap (λ (n : ℕ). time_in r.part (slots_at rs n) (window * r.period) r.period) whole
    ∙ time_kept rs r.part (window * r.period) r.period (suc tick) (frame - suc tick) (omega arith)
    ∙ here

-- where the demand is not too great, each requirement has its duration in each window
pub each_window : (low frame : ℕ) (rs : List Requirement) → ArePossible low rs → 0 < frame → Each (IsWhole frame) rs → demand frame rs ≤ frame → Each (HasWindows rs frame) rs
each_window low frame rs possible some whole less =
    each_both IsPossible (λ r. (tick : ℕ) → EndsServed rs tick r) (HasWindows rs frame) rs (has_windows rs frame) (each_possible low rs possible)
    (each_every (EndsServed rs) rs (λ tick. ends_served low rs tick possible (demand_fits frame rs some whole less)))
