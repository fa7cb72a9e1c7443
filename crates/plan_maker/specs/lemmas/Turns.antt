-- How a plan is made in turns: from a tick on to the next one in which something changes.
use Rattle.std.specs.Prelude.{◌≡◌, ℕ, ◌+◌, ◌-◌, ◌^◌, ◌<◌, ◌≤◌, ◌==◌, ◌&&◌, nat_lt, if◌then◌else◌, List, [], ◌∷◌, map, fold, min, All, Option, Some, None, IfSome}
use Rattle.plan_maker.specs.Course.{Course, at_rest, course_of, jobs_at, with_run}
use Rattle.plan_maker.specs.declared.jobs.Job.{Job}
use Rattle.plan_maker.specs.declared.jobs.Requirement.{Requirement}
use Rattle.plan_maker.specs.declared.jobs.Due.{Due}

-- how far a plan has been made: the next tick, the jobs in it, the slots before it, and the tick at which the next window
-- ends, or the frame
pub record Moment : Type 0 where
  pub tick : ℕ
  pub jobs : List Job
  pub course : Course
  pub end : ℕ

-- a job after a partition had this many ticks
abbrev pub spent : ℕ → ℕ → Job → Job
spent part ticks job = if job.requirement.part == part then record job { left = job.left - ticks } else job

-- a job in a tick: where its window ends there, the next one begins
abbrev pub renewed : ℕ → Job → Job
renewed tick job =
    if job.end == tick
    then record job { left = job.requirement.duration; end = job.end + job.requirement.period }
    else job

-- what is due to a job's partition in its current window
abbrev pub due_of : Job → Due
due_of job = record { part = job.requirement.part; left = job.left; end = job.end }

-- of what goes first and the next job, what goes first
abbrev pub sooner_due : Option Due → Job → Option Due
sooner_due None job = if nat_lt 0 job.left then Some (due_of job) else None
sooner_due (Some best) job = if nat_lt 0 job.left && nat_lt job.end best.end then Some (due_of job) else Some best

-- what is due to the job that goes first, where one has ticks to get
unfoldable pub job_due_first : List Job → Option Due
job_due_first jobs = fold sooner_due None jobs

-- the tick at which the next window ends, or the frame
abbrev pub next_end : ℕ → List Job → ℕ
next_end frame jobs = fold min frame (map (λ job. job.end) jobs)

-- the job of a requirement's first window
abbrev pub first_job : Requirement → Job
first_job requirement = record { requirement = requirement; left = requirement.duration; end = requirement.period }

-- the first tick
abbrev pub first_moment : ℕ → List Requirement → Moment
first_moment frame requirements =
    record { tick = 0; jobs = map first_job requirements; course = at_rest; end = next_end frame (map first_job requirements) }

-- a moment in the tick at which the next window ends
abbrev pub window_passed : ℕ → Moment → Moment
window_passed frame moment = record {
  tick = moment.end;
  jobs = map (renewed moment.end) moment.jobs;
  course = moment.course;
  end = next_end frame (map (renewed moment.end) moment.jobs);
}

-- a moment in a later tick, up to the one at which the next window ends
abbrev pub come : ℕ → ℕ → Moment → Moment
come frame tick moment = if tick == moment.end then window_passed frame moment else record moment { tick = tick }

-- jobs of which the first one of a partition had this many ticks
abbrev pub spent_first : ℕ → ℕ → List Job → List Job
spent_first part ticks [] = []
spent_first part ticks (job ∷ rest) =
    if job.requirement.part == part then record job { left = job.left - ticks } ∷ rest else job ∷ spent_first part ticks rest

-- a moment in which a partition has the next ticks
abbrev pub given : ℕ → ℕ → Moment → Moment
given part ticks moment = record {
  tick = moment.tick;
  jobs = spent_first part ticks moment.jobs;
  course = with_run part moment.tick ticks moment.course;
  end = moment.end;
}

-- a moment after a partition ran for this many ticks
abbrev pub moment_after_run : ℕ → ℕ → ℕ → Moment → Moment
moment_after_run frame part ticks moment = come frame (moment.tick + ticks) (given part ticks moment)

-- the ticks for which a job runs until an end: all that it has left, or those up to the end
abbrev pub ticks_running : ℕ → ℕ → Due → ℕ
ticks_running end tick due = min due.left (end - tick)

-- a moment after a job ran until the next window ends, or none
abbrev pub ran_until : ℕ → Option Due → Moment → Moment
ran_until frame None moment = window_passed frame moment
ran_until frame (Some due) moment = moment_after_run frame due.part (ticks_running moment.end moment.tick due) moment

-- the next moment in which something changes
unfoldable pub next_moment : ℕ → Moment → Moment
next_moment frame moment = ran_until frame (job_due_first moment.jobs) moment

-- a moment of the plan of requirements: the jobs, the slots and the next end are those of its tick
pub record IsMoment (frame : ℕ) (requirements : List Requirement) (moment : Moment) : Type 0 where
  pub course : moment.course ≡ course_of requirements moment.tick
  pub jobs : moment.jobs ≡ jobs_at requirements moment.tick moment.course
  pub ends : moment.end ≡ next_end frame moment.jobs

-- the next windows of jobs end below the greatest number
abbrev pub HaveWindowRoom : List Job → Type 0
HaveWindowRoom jobs = All (λ job. job.end + job.requirement.period < 2 ^ 32) jobs

-- the numbers of a moment have room: the next windows end below the greatest number, and the last slot by the tick
pub record HasMomentRoom (moment : Moment) : Type 0 where
  pub ends : HaveWindowRoom moment.jobs
  pub last : IfSome moment.course.last (λ slot. slot.start + slot.duration ≤ moment.tick)

-- a moment before the end of a frame
pub record IsGoing (moment : Moment) : Type 0 where
  pub before : moment.tick < moment.end
  pub room : HasMomentRoom moment
