-- What jobs are after a partition had ticks.
use Rattle.std.proofs.Common.{◌≡◌, ℕ, zero, suc, ◌+◌, ◌-◌, ◌^◌, ◌<◌, ◌≤◌, ◌==◌, Bool, true, false, cond, min, List, [], ◌∷◌, ◌++◌, length, map, get_or, set, take, drop, ap, sym, ◌∙◌, subst, refl, arith}
use Rattle.std.proofs.lemmas.Bool.Decides.{nat_tests}
use Rattle.plan_maker.specs.lemmas.Turns.{HaveWindowRoom, next_end, spent, spent_first}
use Rattle.plan_maker.specs.declared.jobs.Job.{Job}
use Rattle.plan_maker.proofs.EachLemmas.{Each, all_from_each, each_from_all}
use Rattle.plan_maker.proofs.EarliestLemmas.{Rising, spent_end}

spent_there : (part ticks : ℕ) (jobs : List Job) (i : ℕ) (d : Job) → i < length jobs → (get_or jobs i d).requirement.part ≡ part
    → set jobs i (record (get_or jobs i d) { left = (get_or jobs i d).left - ticks }) ≡ take i jobs ++ spent_first part ticks (drop i jobs)
spent_there part ticks [] i d below is = absurd (omega arith)
spent_there part ticks (job ∷ rest) zero d below is =
    let own : (job.requirement.part == part) ≡ true = grind (arith, nat_tests) in
    rw own refl
spent_there part ticks (job ∷ rest) (suc i) d below is = ap (λ (js : List Job). job ∷ js) (spent_there part ticks rest i d (omega arith) is)

-- the job at a place has its ticks, where none before it is of the partition
pub spent_here : (part ticks : ℕ) (jobs ys : List Job) (i left : ℕ) (d : Job) → ys ≡ jobs → i < length jobs → (get_or ys i d).requirement.part ≡ part → left ≡ (get_or ys i d).left - ticks
    → spent_first part ticks jobs ≡ take i jobs ++ spent_first part ticks (drop i jobs)
    → set ys i (record (get_or ys i d) { left = left }) ≡ spent_first part ticks jobs
spent_here part ticks jobs ys i left d same below is less sofar =
    ap (λ (n : ℕ). set ys i (record (get_or ys i d) { left = n })) less
    ∙ at ys same is
    ∙ sym sofar
  where
    at : (ys : List Job) → ys ≡ jobs → (get_or ys i d).requirement.part ≡ part
        → set ys i (record (get_or ys i d) { left = (get_or ys i d).left - ticks }) ≡ take i jobs ++ spent_first part ticks (drop i jobs)
    at ys same is =
        subst (λ (zs : List Job). (get_or zs i d).requirement.part ≡ part → set zs i (record (get_or zs i d) { left = (get_or zs i d).left - ticks }) ≡ take i jobs ++ spent_first part ticks (drop i jobs))
        (sym same) (spent_there part ticks jobs i d below) is

-- the windows end as before
pub end_spent : (frame part ticks : ℕ) (jobs : List Job) → next_end frame (map (spent part ticks) jobs) ≡ next_end frame jobs
end_spent frame part ticks [] = refl
end_spent frame part ticks (job ∷ rest) = rw (spent_end part ticks job) (end_spent (min frame job.end) part ticks rest)

spent_below : (low part ticks : ℕ) (jobs : List Job) → Rising low jobs → part < low → map (spent part ticks) jobs ≡ jobs
spent_below low part ticks [] rising below = refl
spent_below low part ticks (job ∷ rest) rising below = rw (same, spent_below (job.requirement.part + 1) part ticks rest rising.1 (omega arith)) refl
  where
    above : low ≤ job.requirement.part
    above = rising.0

    same : spent part ticks job ≡ job
    same =
        let not : (job.requirement.part == part) ≡ false = grind (arith, nat_tests) in
        rw not refl

-- of jobs that rise, at most one is of a partition
pub spent_rising : (low part ticks : ℕ) (jobs : List Job) → Rising low jobs → spent_first part ticks jobs ≡ map (spent part ticks) jobs
spent_rising low part ticks [] rising = refl
spent_rising low part ticks (job ∷ rest) rising = at (job.requirement.part == part) refl (spent_rising (job.requirement.part + 1) part ticks rest rising.1)
  where
    at : (b : Bool) → (job.requirement.part == part) ≡ b → spent_first part ticks rest ≡ map (spent part ticks) rest
        → cond b (record job { left = job.left - ticks } ∷ rest) (job ∷ spent_first part ticks rest) ≡ cond b (record job { left = job.left - ticks }) job ∷ map (spent part ticks) rest
    at true is later =
        let own : job.requirement.part ≡ part = grind (arith, nat_tests) in
        ap (λ (js : List Job). record job { left = job.left - ticks } ∷ js) (sym (spent_below (job.requirement.part + 1) part ticks rest rising.1 (omega arith)))
    at false is later = ap (λ (js : List Job). job ∷ js) later

spent_fits : (part ticks : ℕ) (jobs : List Job) → Each (λ job. job.end + job.requirement.period < 2 ^ 32) jobs → Each (λ job. job.end + job.requirement.period < 2 ^ 32) (spent_first part ticks jobs)
spent_fits part ticks [] fits = tt
spent_fits part ticks (job ∷ rest) fits = at (job.requirement.part == part) (spent_fits part ticks rest fits.1)
  where
    at : (b : Bool) → Each (λ job. job.end + job.requirement.period < 2 ^ 32) (spent_first part ticks rest)
        → Each (λ job. job.end + job.requirement.period < 2 ^ 32) (cond b (record job { left = job.left - ticks } ∷ rest) (job ∷ spent_first part ticks rest))
    at true later = fits
    at false later = (fits.0, later)

-- jobs that spent ticks have room where they had it
pub spent_room : (part ticks : ℕ) (jobs : List Job) → HaveWindowRoom jobs → HaveWindowRoom (spent_first part ticks jobs)
spent_room part ticks jobs room =
    all_from_each (λ job. job.end + job.requirement.period < 2 ^ 32) (spent_first part ticks jobs)
    (spent_fits part ticks jobs (each_from_all (λ job. job.end + job.requirement.period < 2 ^ 32) jobs room))
