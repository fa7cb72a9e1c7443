-- A turn is all the ticks from one change to the next.
use Rattle.std.proofs.Common.{◌≡◌, ℕ, zero, suc, ◌+◌, ◌-◌, ◌^◌, ◌<◌, ◌≤◌, ◌==◌, Bool, true, false, cond, min, List, [], ◌∷◌, ◌++◌, length, map, Option, Some, None, ap, sym, ◌∙◌, subst, refl, arith, add-one}
use Rattle.std.specs.Option.{option_map}
use Rattle.std.specs.Prelude.{IfSome}
use Rattle.std.proofs.lemmas.Bool.Decides.{nat_tests}
use Rattle.xm_conf.specs.declared.plan.Slot.{Slot}
use Rattle.xm_conf.specs.Rules.{longest}
use Rattle.plan_maker.specs.Course.{Course, course_after_tick, continues, course_of, earliest, job_at, jobs_at, run_after, run_slot, slots_so_far, tick_done, window_start, with_run}
use Rattle.plan_maker.specs.lemmas.NeededTerms.{ArePossible, IsPossible}
use Rattle.plan_maker.specs.Planned.{frame_slots}
use Rattle.plan_maker.specs.lemmas.Turns.{HaveWindowRoom, IsGoing, IsMoment, Moment, first_moment, come, given, next_end, window_passed, moment_after_run, ran_until, renewed, ticks_running, spent, spent_first, due_of, next_moment}
use Rattle.plan_maker.specs.declared.jobs.Job.{Job}
use Rattle.plan_maker.specs.declared.jobs.Requirement.{Requirement}
use Rattle.plan_maker.specs.declared.jobs.Due.{Due}
use Rattle.plan_maker.proofs.CourseLemmas.{laid_few, last_ends}
use Rattle.plan_maker.proofs.EachLemmas.{Each, all_from_each, each_image, each_then}
use Rattle.plan_maker.proofs.EarliestLemmas.{IsAlone, Keeps, Rising, earliest_one, earliest_spent, earliest_wants, first_is, one_alone, spent_end}
use Rattle.plan_maker.proofs.JobLemmas.{job_numbers, jobs_first, spent_by}
use Rattle.plan_maker.proofs.LoadLemmas.{IsAhead}
use Rattle.plan_maker.proofs.ServedLemmas.{course_laid, each_possible, jobs_ahead, jobs_in, jobs_rising, next_jobs, possible_period}
use Rattle.plan_maker.proofs.SpentLemmas.{end_spent, spent_rising}
use Rattle.plan_maker.proofs.TimeLemmas.{window_holds}

-- a run and one tick more are a longer run
pub run_longer : (part tick count : ℕ) (course : Course) → with_run part (tick + count) 1 (with_run part tick count course) ≡ with_run part tick (count + 1) course
run_longer part tick count course = at course.ended course.last
  where
    again : (ended : List Slot) → with_run part (tick + count) 1 (record { ended = ended; last = Some (run_slot part tick count) }) ≡ record { ended = ended; last = Some (run_slot part tick (count + 1)) }
    again ended =
        let goes : continues part (tick + count) (run_slot part tick count) ≡ true = grind (arith, nat_tests) in
        rw goes refl

    next : (ended : List Slot) (slot : Slot) (b : Bool) → continues part tick slot ≡ b
        → with_run part (tick + count) 1 (cond b (record { ended = ended; last = Some (record slot { duration = slot.duration + count }) }) (record { ended = ended ++ slot ∷ []; last = Some (run_slot part tick count) }))
        ≡ cond b (record { ended = ended; last = Some (record slot { duration = slot.duration + (count + 1) }) }) (record { ended = ended ++ slot ∷ []; last = Some (run_slot part tick (count + 1)) })
    next ended slot true is =
        let goes : continues part (tick + count) (record slot { duration = slot.duration + count }) ≡ true = grind (arith, nat_tests) in
        let sum : slot.duration + count + 1 ≡ slot.duration + (count + 1) = omega arith in
        rw (goes, sum) refl
    next ended slot false is = again (ended ++ slot ∷ [])

    at : (ended : List Slot) (last : Option Slot) → with_run part (tick + count) 1 (run_after part tick count ended last) ≡ run_after part tick (count + 1) ended last
    at ended None = again ended
    at ended (Some slot) = next ended slot (continues part tick slot) refl

-- no window ends before the next end
pub renew_none : (tick : ℕ) (jobs : List Job) → Each (λ job. tick < job.end) jobs → map (renewed tick) jobs ≡ jobs
renew_none tick [] later = refl
renew_none tick (job ∷ rest) later = rw (same, renew_none tick rest later.1) refl
  where
    same : renewed tick job ≡ job
    same =
        let after : tick < job.end = later.0 in
        let not : (job.end == tick) ≡ false = grind (arith, nat_tests) in
        rw not refl

spent_more : (part count : ℕ) (job : Job) → spent part 1 (spent part count job) ≡ spent part (count + 1) job
spent_more part count job = at (job.requirement.part == part) refl
  where
    at : (b : Bool) → (job.requirement.part == part) ≡ b → spent part 1 (cond b (record job { left = job.left - count }) job) ≡ cond b (record job { left = job.left - (count + 1) }) job
    at true is =
        let less : job.left - count - 1 ≡ job.left - (count + 1) = omega arith in
        rw (is, less) refl
    at false is = rw is refl

spend_more : (part count : ℕ) (jobs : List Job) → map (spent part 1) (map (spent part count) jobs) ≡ map (spent part (count + 1)) jobs
spend_more part count [] = refl
spend_more part count (job ∷ rest) = rw (spent_more part count job, spend_more part count rest) refl

spend_none : (jobs : List Job) → map (spent_by None) jobs ≡ jobs
spend_none [] = refl
spend_none (job ∷ rest) = rw (spend_none rest) refl

spent_part : (part count : ℕ) (job : Job) → (spent part count job).requirement.part ≡ job.requirement.part
spent_part part count job = at (job.requirement.part == part)
  where
    at : (b : Bool) → (let k : Job = cond b (record job { left = job.left - count }) job in k).requirement.part ≡ job.requirement.part
    at true = refl
    at false = refl

-- the course and the jobs of a tick
pub record IsAt (rs : List Requirement) (tick : ℕ) (course : Course) (jobs : List Job) : Type 0 where
  pub course_is : course_of rs tick ≡ course
  pub jobs_are : jobs_in rs tick ≡ jobs

-- one tick
one_tick : (low : ℕ) (rs : List Requirement) (tick : ℕ) (course : Course) (jobs : List Job) (turn : Option Job) → ArePossible low rs → IsAt rs tick course jobs → earliest jobs ≡ turn
    → IsAt rs (tick + 1) (course_after_tick tick turn course) (map (renewed (tick + 1)) (map (spent_by turn) jobs))
one_tick low rs tick course jobs turn possible here is = record {
  course_is =
      next
      ∙ ap (λ (jobs : List Job). course_after_tick tick (earliest jobs) (course_of rs tick)) here.jobs_are
      ∙ ap (λ (turn : Option Job). course_after_tick tick turn (course_of rs tick)) is
      ∙ ap (λ (course : Course). course_after_tick tick turn course) here.course_is;
  jobs_are =
      ap (λ (course : Course). jobs_at rs (tick + 1) course) next
      ∙ next_jobs low rs tick possible
      ∙ ap (λ (jobs : List Job). map (renewed (tick + 1)) (map (spent_by (earliest jobs)) jobs)) here.jobs_are
      ∙ ap (λ (turn : Option Job). map (renewed (tick + 1)) (map (spent_by turn) jobs)) is;
}
  where
    next : course_of rs (tick + 1) ≡ tick_done rs tick (course_of rs tick)
    next = rw add-one refl

at_number : (rs : List Requirement) (a b : ℕ) (course : Course) (jobs : List Job) → a ≡ b → IsAt rs a course jobs → IsAt rs b course jobs
at_number rs a b course jobs same here = subst (λ (n : ℕ). IsAt rs n course jobs) same here

-- ticks in which nothing runs
pub idle_ticks : (low : ℕ) (rs : List Requirement) (tick count : ℕ) (course : Course) (jobs : List Job) → ArePossible low rs → IsAt rs tick course jobs → earliest jobs ≡ None
    → Each (λ job. tick < job.end) jobs → Each (λ job. tick + count ≤ job.end) jobs → IsAt rs (tick + count) course (map (renewed (tick + count)) jobs)
idle_ticks low rs tick zero course jobs possible here none ahead before =
    let same : tick ≡ tick + 0 = omega arith in
    subst (λ (n : ℕ). IsAt rs n course (map (renewed n) jobs)) same
    (subst (λ (js : List Job). IsAt rs tick course js) (sym (renew_none tick jobs ahead)) here)
idle_ticks low rs tick (suc count) course jobs possible here none ahead before =
    let still : Each (λ job. tick + count < job.end) jobs = each_then (λ job. tick + suc count ≤ job.end) (λ job. tick + count < job.end) jobs (λ job b. omega arith) before in
    let sofar : IsAt rs (tick + count) course (map (renewed (tick + count)) jobs) =
    idle_ticks low rs tick count course jobs possible here none ahead (each_then (λ job. tick + suc count ≤ job.end) (λ job. tick + count ≤ job.end) jobs (λ job b. omega arith) before) in
    let same : IsAt rs (tick + count) course jobs = subst (λ (js : List Job). IsAt rs (tick + count) course js) (renew_none (tick + count) jobs still) sofar in
    let next : IsAt rs (tick + count + 1) course (map (renewed (tick + count + 1)) (map (spent_by None) jobs)) = one_tick low rs (tick + count) course jobs None possible same none in
    let number : tick + count + 1 ≡ tick + suc count = omega arith in
    subst (λ (n : ℕ). IsAt rs n course (map (renewed n) jobs)) number
    (subst (λ (js : List Job). IsAt rs (tick + count + 1) course (map (renewed (tick + count + 1)) js)) (spend_none jobs) next)

-- after a run
abbrev pub RanTo : List Requirement → ℕ → Course → List Job → ℕ → ℕ → Type 0
RanTo rs tick course jobs part count = IsAt rs (tick + count) (with_run part tick count course) (map (renewed (tick + count)) (map (spent part count) jobs))

-- ticks in which a job runs
pub run_ticks : (low : ℕ) (rs : List Requirement) (tick count : ℕ) (course : Course) (jobs : List Job) (turn : Job) → ArePossible low rs → IsAt rs tick course jobs → earliest jobs ≡ Some turn
    → Each (IsAlone turn) jobs → suc count ≤ turn.left → Each (λ job. tick + suc count ≤ job.end) jobs → RanTo rs tick course jobs turn.requirement.part (suc count)
run_ticks low rs tick zero course jobs turn possible here is alone enough before = one_tick low rs tick course jobs (Some turn) possible here is
run_ticks low rs tick (suc count) course jobs turn possible here is alone enough before =
    let part = turn.requirement.part in
    let sofar : RanTo rs tick course jobs part (suc count) =
    run_ticks low rs tick count course jobs turn possible here is alone (omega arith) (each_then (λ job. tick + suc (suc count) ≤ job.end) (λ job. tick + suc count ≤ job.end) jobs (λ job b. omega arith) before) in
    let still : Each (λ job. tick + suc count < job.end) (map (spent part (suc count)) jobs) =
    each_image (λ job. tick + suc count < job.end) (spent part (suc count)) jobs
    (each_then (λ job. tick + suc (suc count) ≤ job.end) (λ job. tick + suc count < (spent part (suc count) job).end) jobs (λ job b. rw (spent_end part (suc count) job) (omega arith)) before) in
    let same : IsAt rs (tick + suc count) (with_run part tick (suc count) course) (map (spent part (suc count)) jobs) =
    subst (λ (js : List Job). IsAt rs (tick + suc count) (with_run part tick (suc count) course) js) (renew_none (tick + suc count) (map (spent part (suc count)) jobs) still) sofar in
    let keeps : Each (Keeps part (suc count)) jobs = each_then (IsAlone turn) (Keeps part (suc count)) jobs (λ job one own. kept job (one own)) alone in
    let turns : earliest (map (spent part (suc count)) jobs) ≡ Some (spent part (suc count) turn) = earliest_spent part (suc count) jobs keeps ∙ ap (λ (o : Option Job). option_map (spent part (suc count)) o) is in
    let next = one_tick low rs (tick + suc count) (with_run part tick (suc count) course) (map (spent part (suc count)) jobs) (Some (spent part (suc count) turn)) possible same turns in
    let own : IsAt rs (tick + suc count + 1) (with_run part (tick + suc count) 1 (with_run part tick (suc count) course)) (map (renewed (tick + suc count + 1)) (map (spent part 1) (map (spent part (suc count)) jobs))) =
    subst (λ (q : ℕ). IsAt rs (tick + suc count + 1) (with_run q (tick + suc count) 1 (with_run part tick (suc count) course)) (map (renewed (tick + suc count + 1)) (map (spent q 1) (map (spent part (suc count)) jobs)))) (spent_part part (suc count) turn) next in
    let longer : IsAt rs (tick + suc count + 1) (with_run part tick (suc count + 1) course) (map (renewed (tick + suc count + 1)) (map (spent part (suc count + 1)) jobs)) =
    subst (λ (c : Course). IsAt rs (tick + suc count + 1) c (map (renewed (tick + suc count + 1)) (map (spent part (suc count + 1)) jobs))) (run_longer part tick (suc count) course)
    (subst (λ (js : List Job). IsAt rs (tick + suc count + 1) (with_run part (tick + suc count) 1 (with_run part tick (suc count) course)) (map (renewed (tick + suc count + 1)) js)) (spend_more part (suc count) jobs) own) in
    let sum : tick + suc count + 1 ≡ tick + (suc count + 1) = omega arith in
    let number : suc count + 1 ≡ suc (suc count) = omega arith in
    subst (λ (n : ℕ). RanTo rs tick course jobs part n) number
    (subst (λ (n : ℕ). IsAt rs n (with_run part tick (suc count + 1) course) (map (renewed n) (map (spent part (suc count + 1)) jobs))) sum longer)
  where
    kept : (job : Job) → job ≡ turn → suc count < job.left
    kept job same = let left : job.left ≡ turn.left = ap (λ (k : Job). k.left) same in omega arith

-- the next end is no later than the frame and the ends of the windows, and after the tick
end_most : (frame : ℕ) (jobs : List Job) → next_end frame jobs ≤ frame
end_most frame [] = omega arith
end_most frame (job ∷ rest) = let less : next_end (min frame job.end) rest ≤ min frame job.end = end_most (min frame job.end) rest in omega arith

end_before : (frame : ℕ) (jobs : List Job) → Each (λ job. next_end frame jobs ≤ job.end) jobs
end_before frame [] = tt
end_before frame (job ∷ rest) =
    (let less : next_end (min frame job.end) rest ≤ min frame job.end = end_most (min frame job.end) rest in omega arith, end_before (min frame job.end) rest)

end_after : (tick frame : ℕ) (jobs : List Job) → tick < frame → Each (λ job. tick < job.end) jobs → tick < next_end frame jobs
end_after tick frame [] before ahead = before
end_after tick frame (job ∷ rest) before ahead = let here : tick < job.end = ahead.0 in end_after tick (min frame job.end) rest (omega arith) ahead.1

-- a moment of the plan after another one
pub record IsNext (rs : List Requirement) (frame : ℕ) (before after : Moment) : Type 0 where
  pub moment : IsMoment frame rs after
  pub later : before.tick < after.tick
  pub inside : after.tick ≤ frame

moment_of : (frame : ℕ) (rs : List Requirement) (tick : ℕ) (course : Course) (jobs : List Job) (end : ℕ) → IsAt rs tick course jobs → end ≡ next_end frame jobs
    → IsMoment frame rs (record { tick = tick; jobs = jobs; course = course; end = end })
moment_of frame rs tick course jobs end at ends =
    record { course = sym at.course_is; jobs = sym at.jobs_are ∙ ap (λ (course : Course). jobs_at rs tick course) at.course_is; ends = ends }

come_tick : (frame tick : ℕ) (moment : Moment) → (come frame tick moment).tick ≡ tick
come_tick frame tick moment = at (tick == moment.end) refl
  where
    at : (b : Bool) → (tick == moment.end) ≡ b → (let m : Moment = cond b (window_passed frame moment) (record moment { tick = tick }) in m).tick ≡ tick
    at true is = grind (arith, nat_tests)
    at false is = refl

-- ticks in which a job runs, up to the next end, lead to a moment of the plan
ran_moment : (low frame : ℕ) (rs : List Requirement) (moment : Moment) (part ticks : ℕ) → Rising low moment.jobs → moment.end ≡ next_end frame moment.jobs → moment.tick + ticks ≤ moment.end
    → RanTo rs moment.tick moment.course moment.jobs part ticks → IsMoment frame rs (moment_after_run frame part ticks moment)
ran_moment low frame rs moment part ticks rising ends inside ran_to = at (moment.tick + ticks == moment.end) refl
  where
    course : Course
    course = with_run part moment.tick ticks moment.course

    first : map (spent part ticks) moment.jobs ≡ spent_first part ticks moment.jobs
    first = sym (spent_rising low part ticks moment.jobs rising)

    before : Each (λ job. moment.end ≤ job.end) moment.jobs
    before = rw ends (end_before frame moment.jobs)

    still : moment.tick + ticks < moment.end → Each (λ job. moment.tick + ticks < job.end) (map (spent part ticks) moment.jobs)
    still less =
        each_image (λ job. moment.tick + ticks < job.end) (spent part ticks) moment.jobs
        (each_then (λ job. moment.end ≤ job.end) (λ job. moment.tick + ticks < (spent part ticks job).end) moment.jobs (λ job b. rw (spent_end part ticks job) (omega arith)) before)

    at : (b : Bool) → (moment.tick + ticks == moment.end) ≡ b
        → IsMoment frame rs (cond b (window_passed frame (given part ticks moment)) (record { tick = moment.tick + ticks; jobs = spent_first part ticks moment.jobs; course = course; end = moment.end }))
    at true is =
        let number : moment.tick + ticks ≡ moment.end = grind (arith, nat_tests) in
        let there : IsAt rs moment.end course (map (renewed moment.end) (map (spent part ticks) moment.jobs)) =
        subst (λ (n : ℕ). IsAt rs n course (map (renewed n) (map (spent part ticks) moment.jobs))) number ran_to in
        let own : IsAt rs moment.end course (map (renewed moment.end) (spent_first part ticks moment.jobs)) =
        subst (λ (js : List Job). IsAt rs moment.end course (map (renewed moment.end) js)) first there in
        moment_of frame rs moment.end course (map (renewed moment.end) (spent_first part ticks moment.jobs)) (next_end frame (map (renewed moment.end) (spent_first part ticks moment.jobs))) own refl
    at false is =
        let less : moment.tick + ticks < moment.end = grind (arith, nat_tests) in
        let there : IsAt rs (moment.tick + ticks) course (map (spent part ticks) moment.jobs) =
        subst (λ (js : List Job). IsAt rs (moment.tick + ticks) course js) (renew_none (moment.tick + ticks) (map (spent part ticks) moment.jobs) (still less)) ran_to in
        let own : IsAt rs (moment.tick + ticks) course (spent_first part ticks moment.jobs) =
        subst (λ (js : List Job). IsAt rs (moment.tick + ticks) course js) first there in
        let end : moment.end ≡ next_end frame (spent_first part ticks moment.jobs) =
        ends ∙ sym (end_spent frame part ticks moment.jobs) ∙ ap (λ (js : List Job). next_end frame js) first in
        moment_of frame rs (moment.tick + ticks) course (spent_first part ticks moment.jobs) moment.end own end

-- a turn leads to a later moment of the plan
pub turned_next : (low frame : ℕ) (rs : List Requirement) (moment : Moment) → ArePossible low rs → IsMoment frame rs moment → moment.tick < frame → IsNext rs frame moment (next_moment frame moment)
unfolding next_moment
turned_next low frame rs moment possible is before =
    subst (λ (turn : Option Due). IsNext rs frame moment (ran_until frame turn moment)) (sym (first_is moment.jobs)) (at (earliest moment.jobs) refl)
  where
    here : IsAt rs moment.tick moment.course moment.jobs
    here = record { course_is = sym is.course; jobs_are = ap (λ (course : Course). jobs_at rs moment.tick course) (sym is.course) ∙ sym is.jobs }

    ahead : Each (λ job. moment.tick < job.end) moment.jobs
    ahead = rw is.jobs (each_then (IsAhead moment.tick) (λ job. moment.tick < job.end) (jobs_at rs moment.tick moment.course) (λ job a. a.end) (jobs_ahead moment.tick moment.course rs (each_possible low rs possible)))

    rising : Rising low moment.jobs
    rising = rw is.jobs (jobs_rising low moment.tick moment.course rs possible)

    later : moment.tick < moment.end
    later = rw is.ends (end_after moment.tick frame moment.jobs before ahead)

    inside : moment.end ≤ frame
    inside = rw is.ends (end_most frame moment.jobs)

    ends : Each (λ job. moment.end ≤ job.end) moment.jobs
    ends = rw is.ends (end_before frame moment.jobs)

    passes : earliest moment.jobs ≡ None → IsNext rs frame moment (window_passed frame moment)
    passes none =
        let number : moment.tick + (moment.end - moment.tick) ≡ moment.end = omega (arith, later) in
        let idle = idle_ticks low rs moment.tick (moment.end - moment.tick) moment.course moment.jobs possible here none ahead
        (each_then (λ job. moment.end ≤ job.end) (λ job. moment.tick + (moment.end - moment.tick) ≤ job.end) moment.jobs (λ job e. omega (arith, later)) ends) in
        let at_end : IsAt rs moment.end moment.course (map (renewed moment.end) moment.jobs) = subst (λ (n : ℕ). IsAt rs n moment.course (map (renewed n) moment.jobs)) number idle in
        record {
          moment = moment_of frame rs moment.end moment.course (map (renewed moment.end) moment.jobs) (next_end frame (map (renewed moment.end) moment.jobs)) at_end refl;
          later = later;
          inside = inside;
        }

    runs : (count : ℕ) (turn : Job) → suc count ≤ turn.left → moment.tick + suc count ≤ moment.end → earliest moment.jobs ≡ Some turn
        → IsNext rs frame moment (moment_after_run frame turn.requirement.part (suc count) moment)
    runs count turn enough within first =
        let part = turn.requirement.part in
        let ran_to : RanTo rs moment.tick moment.course moment.jobs part (suc count) =
        run_ticks low rs moment.tick count moment.course moment.jobs turn possible here first (one_alone low moment.jobs turn rising (earliest_one moment.jobs turn first)) enough
        (each_then (λ job. moment.end ≤ job.end) (λ job. moment.tick + suc count ≤ job.end) moment.jobs (λ job e. omega arith) ends) in
        let tick : (moment_after_run frame part (suc count) moment).tick ≡ moment.tick + suc count = come_tick frame (moment.tick + suc count) (given part (suc count) moment) in
        record {
          moment = ran_moment low frame rs moment part (suc count) rising is.ends within ran_to;
          later = subst (λ (n : ℕ). moment.tick < n) (sym tick) (omega arith);
          inside = subst (λ (n : ℕ). n ≤ frame) (sym tick) (omega (arith, inside));
        }

    runs_for : (ticks : ℕ) (turn : Job) → 0 < ticks → ticks ≤ turn.left → moment.tick + ticks ≤ moment.end → earliest moment.jobs ≡ Some turn
        → IsNext rs frame moment (moment_after_run frame turn.requirement.part ticks moment)
    runs_for zero turn some enough within first = absurd (omega arith)
    runs_for (suc count) turn some enough within first = runs count turn enough within first

    at : (turn : Option Job) → earliest moment.jobs ≡ turn → IsNext rs frame moment (ran_until frame (option_map due_of turn) moment)
    at None none = passes none
    at (Some turn) first =
        let wants : 0 < turn.left = earliest_wants moment.jobs turn first in
        runs_for (ticks_running moment.end moment.tick (due_of turn)) turn (omega (arith, later)) (omega arith) (omega (arith, later)) first

-- the first moment
pub begun_moment : (frame : ℕ) (rs : List Requirement) → IsMoment frame rs (first_moment frame rs)
begun_moment frame rs = record { course = refl; jobs = sym (jobs_first rs); ends = refl }

-- the last slot has room for more ticks
pub last_room : (last : Option Slot) (tick ticks : ℕ) → IfSome last (λ slot. slot.start + slot.duration ≤ tick) → tick + ticks < 2 ^ 32 → IfSome last (λ slot. slot.start + slot.duration + ticks < 2 ^ 32)
last_room None tick ticks ends fits = tt
last_room (Some slot) tick ticks ends fits = omega (arith, ends, fits)

room_for : (start period : ℕ) → start ≤ 1000000 → period ≤ longest → start + period + period < 2 ^ 32
unfolding longest
room_for start period early most = omega arith

-- a moment of the plan before the end of a frame
pub moment_going : (low frame : ℕ) (rs : List Requirement) (moment : Moment) → ArePossible low rs → IsMoment frame rs moment → frame ≤ 1000000 → moment.tick < frame → IsGoing moment
moment_going low frame rs moment possible is short before = record {
  before = rw is.ends (end_after moment.tick frame moment.jobs before
      (rw is.jobs (each_then (IsAhead moment.tick) (λ job. moment.tick < job.end) (jobs_at rs moment.tick moment.course) (λ job a. a.end) (jobs_ahead moment.tick moment.course rs (each_possible low rs possible)))));
  room = record {
    ends = subst (λ (jobs : List Job). HaveWindowRoom jobs) (sym is.jobs) (all_from_each (λ job. job.end + job.requirement.period < 2 ^ 32) (jobs_at rs moment.tick moment.course)
        (each_image (λ job. job.end + job.requirement.period < 2 ^ 32) (job_at moment.tick (slots_so_far moment.course)) rs
        (each_then IsPossible (λ r. (job_at moment.tick (slots_so_far moment.course) r).end + (job_at moment.tick (slots_so_far moment.course) r).requirement.period < 2 ^ 32) rs fits (each_possible low rs possible))));
    last = subst (λ (course : Course). IfSome course.last (λ slot. slot.start + slot.duration ≤ moment.tick)) (sym is.course) (last_ends moment.tick (course_of rs moment.tick) (course_laid rs moment.tick));
  };
}
  where
    fits : (r : Requirement) → IsPossible r → (job_at moment.tick (slots_so_far moment.course) r).end + (job_at moment.tick (slots_so_far moment.course) r).requirement.period < 2 ^ 32
    fits r possible =
        let holds = window_holds moment.tick r.period (possible_period r possible) in
        let begun : window_start moment.tick r.period ≤ moment.tick = holds.begun in
        let most : r.period ≤ longest = possible.most in
        rw (job_numbers moment.tick (slots_so_far moment.course) r) (room_for (window_start moment.tick r.period) r.period (omega arith) most)

-- at the end of a frame the slots are all that it has
pub frame_done : (rs : List Requirement) (frame : ℕ) (moment : Moment) → IsMoment frame rs moment → moment.tick ≡ frame → slots_so_far moment.course ≡ frame_slots rs frame
unfolding frame_slots
frame_done rs frame moment is ends = ap (λ (course : Course). slots_so_far course) is.course ∙ ap (λ (tick : ℕ). slots_so_far (course_of rs tick)) ends

-- a frame has at most as many slots as ticks
pub frame_few : (rs : List Requirement) (frame : ℕ) → length (frame_slots rs frame) ≤ frame
unfolding frame_slots
frame_few rs frame = let few : length (slots_so_far (course_of rs frame)) + 0 ≤ frame = laid_few 0 frame (slots_so_far (course_of rs frame)) (course_laid rs frame) in omega arith
