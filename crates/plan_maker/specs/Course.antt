-- How a plan comes about, tick by tick: the partition whose window ends first runs.
use Rattle.std.specs.Prelude.{ℕ, zero, suc, ◌+◌, ◌-◌, ◌*◌, ◌/◌, ◌==◌, ◌&&◌, nat_lt, if◌then◌else◌, Bool, List, [], ◌∷◌, ◌++◌, map, fold, Option, Some, None, option_to_list}
use Rattle.xm_conf.specs.declared.plan.Slot.{Slot}
use Rattle.plan_maker.specs.declared.jobs.Requirement.{Requirement}
use Rattle.plan_maker.specs.declared.jobs.Job.{Job}
use Rattle.plan_maker.specs.Served.{time_in}

-- the slots so far: those that have ended, and the last one, which may go on
pub record Course : Type 0 where
  pub ended : List Slot
  pub last : Option Slot

-- the slots of a course
abbrev pub slots_so_far : Course → List Slot
slots_so_far course = course.ended ++ option_to_list course.last

-- the course before the first tick
abbrev pub at_rest : Course
at_rest = record { ended = []; last = None }

-- whether a run of a partition from a tick on continues a slot
abbrev pub continues : ℕ → ℕ → Slot → Bool
continues part tick slot = slot.part == part && slot.start + slot.duration == tick

-- the slot of a run of this many ticks
abbrev pub run_slot : ℕ → ℕ → ℕ → Slot
run_slot part tick count = record { start = tick; duration = count; part = part }

-- the slots after a run of this many ticks from a tick on: it makes the last slot longer, or it is the next one
abbrev pub run_after : ℕ → ℕ → ℕ → List Slot → Option Slot → Course
run_after part tick count ended None = record { ended = ended; last = Some (run_slot part tick count) }
run_after part tick count ended (Some slot) =
    if continues part tick slot
    then record { ended = ended; last = Some (record slot { duration = slot.duration + count }) }
    else record { ended = ended ++ slot ∷ []; last = Some (run_slot part tick count) }

-- the course after a partition ran for this many ticks from a tick on
abbrev pub with_run : ℕ → ℕ → ℕ → Course → Course
with_run part tick count course = run_after part tick count course.ended course.last

-- where the window of a tick begins
abbrev pub window_start : ℕ → ℕ → ℕ
window_start tick period = tick / period * period

-- what a requirement has to get of its current window, and where the window ends
unfoldable pub job_at : ℕ → List Slot → Requirement → Job
job_at tick slots requirement =
    let start = window_start tick requirement.period in
    record {
      requirement = requirement;
      left = requirement.duration - time_in requirement.part slots start (tick - start);
      end = start + requirement.period;
    }

-- of the job that goes first and the next one, the one that goes first: a job that has ticks to get, and whose window
-- ends first; of two whose windows end together, the earlier one
abbrev pub sooner : Option Job → Job → Option Job
sooner None job = if nat_lt 0 job.left then Some job else None
sooner (Some best) job = if nat_lt 0 job.left && nat_lt job.end best.end then Some job else Some best

-- the job that goes first, where one has ticks to get
unfoldable pub earliest : List Job → Option Job
earliest jobs = fold sooner None jobs

-- the jobs in a tick
abbrev pub jobs_at : List Requirement → ℕ → Course → List Job
jobs_at requirements tick course = map (job_at tick (slots_so_far course)) requirements

-- the course after a tick in which a job runs, or none
abbrev pub course_after_tick : ℕ → Option Job → Course → Course
course_after_tick tick None course = course
course_after_tick tick (Some job) course = with_run job.requirement.part tick 1 course

-- the course after a tick
abbrev pub tick_done : List Requirement → ℕ → Course → Course
tick_done requirements tick course = course_after_tick tick (earliest (jobs_at requirements tick course)) course

-- the course after this many ticks
abbrev pub course_of : List Requirement → ℕ → Course
course_of requirements zero = at_rest
course_of requirements (suc tick) = tick_done requirements tick (course_of requirements tick)
