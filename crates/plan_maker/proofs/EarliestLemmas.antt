-- The job that goes first.
use Rattle.std.proofs.Common.{◌≡◌, ℕ, ◌+◌, ◌-◌, ◌<◌, ◌≤◌, ◌==◌, ◌⊎◌, inl, inr, Bool, true, false, cond, ◌&&◌, List, [], ◌∷◌, map, fold, Option, Some, None, ap, ◌∙◌, subst, refl, arith}
use Rattle.std.specs.Prelude.{nat_lt, IfSome}
use Rattle.std.specs.Option.{option_map}
use Rattle.std.proofs.lemmas.Bool.Decides.{nat_tests}
use Rattle.plan_maker.specs.Course.{earliest, sooner}
use Rattle.plan_maker.specs.lemmas.Turns.{job_due_first, sooner_due, spent, due_of}
use Rattle.plan_maker.specs.declared.jobs.Job.{Job}
use Rattle.plan_maker.specs.declared.jobs.Due.{Due}
use Rattle.plan_maker.proofs.EachLemmas.{Each}

-- the job is one of the jobs
abbrev pub Has : List Job → Job → Type 0
Has [] job = ⊥
Has (first ∷ rest) job = (first ≡ job) ⊎ Has rest job

-- what goes first is one of the two
sooner_one : (best : Option Job) (k job : Job) → sooner best k ≡ Some job → (best ≡ Some job) ⊎ (k ≡ job)
sooner_one None k job is = at (nat_lt 0 k.left) is
  where
    at : (b : Bool) → cond b (Some k) None ≡ Some job → (None ≡ Some job) ⊎ (k ≡ job)
    at true is = inr cc
    at false is = inl is
sooner_one (Some best) k job is = at (nat_lt 0 k.left && nat_lt k.end best.end) is
  where
    at : (b : Bool) → cond b (Some k) (Some best) ≡ Some job → (Some best ≡ Some job) ⊎ (k ≡ job)
    at true is = inr cc
    at false is = inl is

first_of : (best : Option Job) (jobs : List Job) (job : Job) → fold sooner best jobs ≡ Some job → (best ≡ Some job) ⊎ Has jobs job
first_of best [] job is = inl is
first_of best (k ∷ rest) job is = at (first_of (sooner best k) rest job is)
  where
    one : (best ≡ Some job) ⊎ (k ≡ job) → (best ≡ Some job) ⊎ Has (k ∷ rest) job
    one (inl e) = inl e
    one (inr e) = inr (inl e)

    at : (sooner best k ≡ Some job) ⊎ Has rest job → (best ≡ Some job) ⊎ Has (k ∷ rest) job
    at (inl e) = one (sooner_one best k job e)
    at (inr has) = inr (inr has)

-- the job that goes first is one of the jobs
pub earliest_one : (jobs : List Job) (job : Job) → earliest jobs ≡ Some job → Has jobs job
unfolding earliest
earliest_one jobs job is = at (first_of None jobs job is)
  where
    at : (None ≡ Some job) ⊎ Has jobs job → Has jobs job
    at (inl e) = absurd (let never : ⊥ = cc in never)
    at (inr has) = has

-- a job's window ends before those of others that have ticks to get, or together with them
abbrev pub GoesBefore : Job → Job → Type 0
GoesBefore job other = 0 < other.left → job.end ≤ other.end

sooner_before : (best : Option Job) (k job : Job) → IfSome (sooner best k) (λ b. job.end ≤ b.end) → GoesBefore job k × IfSome best (λ b. job.end ≤ b.end)
sooner_before None k job is = (at (nat_lt 0 k.left) refl is, tt)
  where
    at : (b : Bool) → nat_lt 0 k.left ≡ b → IfSome (cond b (Some k) None) (λ b. job.end ≤ b.end) → GoesBefore job k
    at true wants is = λ some. is
    at false wants is = λ some. absurd (grind (arith, nat_tests))
sooner_before (Some best) k job is = at (nat_lt 0 k.left && nat_lt k.end best.end) refl is
  where
    at : (b : Bool) → (nat_lt 0 k.left && nat_lt k.end best.end) ≡ b → IfSome (cond b (Some k) (Some best)) (λ b. job.end ≤ b.end) → GoesBefore job k × (job.end ≤ best.end)
    at true wants is = (λ some. is, let less : k.end < best.end = grind (arith, nat_tests) in omega (arith, is))
    at false wants is = (λ some. (let more : best.end ≤ k.end = grind (arith, nat_tests) in omega (arith, is)), is)

first_before : (best : Option Job) (jobs : List Job) (job : Job) → fold sooner best jobs ≡ Some job → Each (GoesBefore job) jobs × IfSome best (λ b. job.end ≤ b.end)
first_before best [] job is = (tt, rw is (omega arith))
first_before best (k ∷ rest) job is =
    let later = first_before (sooner best k) rest job is in
    let two = sooner_before best k job later.1 in
    ((two.0, later.0), two.1)

-- no job with ticks to get has a window that ends before that of the first
pub earliest_before : (jobs : List Job) (job : Job) → earliest jobs ≡ Some job → Each (GoesBefore job) jobs
unfolding earliest
earliest_before jobs job is = (first_before None jobs job is).0

sooner_wants : (best : Option Job) (k : Job) → IfSome best (λ b. 0 < b.left) → IfSome (sooner best k) (λ b. 0 < b.left)
sooner_wants None k wants = at (nat_lt 0 k.left) refl
  where
    at : (b : Bool) → nat_lt 0 k.left ≡ b → IfSome (cond b (Some k) None) (λ b. 0 < b.left)
    at true is = let some : 0 < k.left = grind (arith, nat_tests) in some
    at false is = tt
sooner_wants (Some best) k wants = at (nat_lt 0 k.left && nat_lt k.end best.end) refl
  where
    at : (b : Bool) → (nat_lt 0 k.left && nat_lt k.end best.end) ≡ b → IfSome (cond b (Some k) (Some best)) (λ b. 0 < b.left)
    at true is = let some : 0 < k.left = grind (arith, nat_tests) in some
    at false is = wants

first_wants : (best : Option Job) (jobs : List Job) → IfSome best (λ b. 0 < b.left) → IfSome (fold sooner best jobs) (λ b. 0 < b.left)
first_wants best [] wants = wants
first_wants best (k ∷ rest) wants = first_wants (sooner best k) rest (sooner_wants best k wants)

-- the job that goes first has ticks to get
pub earliest_wants : (jobs : List Job) (job : Job) → earliest jobs ≡ Some job → 0 < job.left
unfolding earliest
earliest_wants jobs job is = subst (λ (o : Option Job). IfSome o (λ b. 0 < b.left)) is (first_wants None jobs tt)

sooner_none : (best : Option Job) (k : Job) → sooner best k ≡ None → (best ≡ None) × (k.left ≡ 0)
sooner_none None k is = (refl, at (nat_lt 0 k.left) refl is)
  where
    at : (b : Bool) → nat_lt 0 k.left ≡ b → cond b (Some k) None ≡ None → k.left ≡ 0
    at true wants is = cc
    at false wants is = grind (arith, nat_tests)
sooner_none (Some best) k is = at (nat_lt 0 k.left && nat_lt k.end best.end) is
  where
    at : (b : Bool) → cond b (Some k) (Some best) ≡ None → (Some best ≡ None) × (k.left ≡ 0)
    at true is = cc
    at false is = cc

first_none : (best : Option Job) (jobs : List Job) → fold sooner best jobs ≡ None → (best ≡ None) × Each (λ k. k.left ≡ 0) jobs
first_none best [] is = (is, tt)
first_none best (k ∷ rest) is =
    let later = first_none (sooner best k) rest is in
    let two = sooner_none best k later.0 in
    (two.0, (two.1, later.1))

-- where no job goes first, none has ticks to get
pub earliest_none : (jobs : List Job) → earliest jobs ≡ None → Each (λ k. k.left ≡ 0) jobs
unfolding earliest
earliest_none jobs is = (first_none None jobs is).1

-- a job that keeps some of its ticks where its partition has this many
abbrev pub Keeps : ℕ → ℕ → Job → Type 0
Keeps part ticks job = job.requirement.part ≡ part → ticks < job.left

spent_wants : (part ticks : ℕ) (job : Job) → Keeps part ticks job → nat_lt 0 (spent part ticks job).left ≡ nat_lt 0 job.left
spent_wants part ticks job keeps = at (job.requirement.part == part) refl
  where
    at : (b : Bool) → (job.requirement.part == part) ≡ b → nat_lt 0 (let k : Job = cond b (record job { left = job.left - ticks }) job in k).left ≡ nat_lt 0 job.left
    at true is = let e : job.requirement.part ≡ part = grind (arith, nat_tests) in let more = keeps e in grind (arith, nat_tests)
    at false is = refl

pub spent_end : (part ticks : ℕ) (job : Job) → (spent part ticks job).end ≡ job.end
spent_end part ticks job = at (job.requirement.part == part)
  where
    at : (b : Bool) → (let k : Job = cond b (record job { left = job.left - ticks }) job in k).end ≡ job.end
    at true = refl
    at false = refl

sooner_spent : (part ticks : ℕ) (best : Option Job) (k : Job) → Keeps part ticks k → sooner (option_map (spent part ticks) best) (spent part ticks k) ≡ option_map (spent part ticks) (sooner best k)
sooner_spent part ticks None k keeps = rw (spent_wants part ticks k keeps) (at (nat_lt 0 k.left))
  where
    at : (b : Bool) → cond b (Some (spent part ticks k)) None ≡ option_map (spent part ticks) (cond b (Some k) None)
    at true = refl
    at false = refl
sooner_spent part ticks (Some best) k keeps = rw (spent_wants part ticks k keeps, spent_end part ticks k, spent_end part ticks best) (at (nat_lt 0 k.left && nat_lt k.end best.end))
  where
    at : (b : Bool) → cond b (Some (spent part ticks k)) (Some (spent part ticks best)) ≡ option_map (spent part ticks) (cond b (Some k) (Some best))
    at true = refl
    at false = refl

first_spent : (part ticks : ℕ) (best : Option Job) (jobs : List Job) → Each (Keeps part ticks) jobs
    → fold sooner (option_map (spent part ticks) best) (map (spent part ticks) jobs) ≡ option_map (spent part ticks) (fold sooner best jobs)
first_spent part ticks best [] keeps = refl
first_spent part ticks best (k ∷ rest) keeps =
    ap (λ (b : Option Job). fold sooner b (map (spent part ticks) rest)) (sooner_spent part ticks best k keeps.0)
    ∙ first_spent part ticks (sooner best k) rest keeps.1

-- the same job goes first as long as those of its partition have ticks left
pub earliest_spent : (part ticks : ℕ) (jobs : List Job) → Each (Keeps part ticks) jobs → earliest (map (spent part ticks) jobs) ≡ option_map (spent part ticks) (earliest jobs)
unfolding earliest
earliest_spent part ticks jobs keeps = first_spent part ticks None jobs keeps

due_sooner : (best : Option Job) (k : Job) → sooner_due (option_map due_of best) k ≡ option_map due_of (sooner best k)
due_sooner None k = at (nat_lt 0 k.left)
  where
    at : (b : Bool) → cond b (Some (due_of k)) None ≡ option_map due_of (cond b (Some k) None)
    at true = refl
    at false = refl
due_sooner (Some best) k = at (nat_lt 0 k.left && nat_lt k.end best.end)
  where
    at : (b : Bool) → cond b (Some (due_of k)) (Some (due_of best)) ≡ option_map due_of (cond b (Some k) (Some best))
    at true = refl
    at false = refl

due_first : (best : Option Job) (jobs : List Job) → fold sooner_due (option_map due_of best) jobs ≡ option_map due_of (fold sooner best jobs)
due_first best [] = refl
due_first best (k ∷ rest) = ap (λ (b : Option Due). fold sooner_due b rest) (due_sooner best k) ∙ due_first (sooner best k) rest

-- what is due first is that of the job that goes first
pub first_is : (jobs : List Job) → job_due_first jobs ≡ option_map due_of (earliest jobs)
unfolding job_due_first earliest
first_is jobs = due_first None jobs

-- the jobs are of partitions from a number on, in the order of their numbers
abbrev pub Rising : ℕ → List Job → Type 0
Rising low [] = Unit {0}
Rising low (first ∷ rest) = (low ≤ first.requirement.part) × Rising (first.requirement.part + 1) rest

rising_above : (low : ℕ) (jobs : List Job) (job : Job) → Rising low jobs → Has jobs job → low ≤ job.requirement.part
rising_above low [] job rising has = absurd has
rising_above low (first ∷ rest) job rising (inl e) = let above : low ≤ first.requirement.part = rising.0 in subst (λ (k : Job). low ≤ k.requirement.part) e above
rising_above low (first ∷ rest) job rising (inr has) =
    let later : first.requirement.part + 1 ≤ job.requirement.part = rising_above (first.requirement.part + 1) rest job rising.1 has in
    let above : low ≤ first.requirement.part = rising.0 in
    omega arith

-- a job of its partition is the job
abbrev pub IsAlone : Job → Job → Type 0
IsAlone job other = other.requirement.part ≡ job.requirement.part → other ≡ job

above_alone : (low : ℕ) (jobs : List Job) (job : Job) → Rising low jobs → job.requirement.part < low → Each (IsAlone job) jobs
above_alone low [] job rising below = tt
above_alone low (first ∷ rest) job rising below =
    let above : low ≤ first.requirement.part = rising.0 in
    (λ same. absurd (omega arith), above_alone (first.requirement.part + 1) rest job rising.1 (omega arith))

-- one job of a list that rises is alone in it
pub one_alone : (low : ℕ) (jobs : List Job) (job : Job) → Rising low jobs → Has jobs job → Each (IsAlone job) jobs
one_alone low [] job rising has = tt
one_alone low (first ∷ rest) job rising (inl e) =
    (λ same. e, above_alone (first.requirement.part + 1) rest job rising.1 (let part : first.requirement.part ≡ job.requirement.part = ap (λ (k : Job). k.requirement.part) e in omega arith))
one_alone low (first ∷ rest) job rising (inr has) =
    let later : first.requirement.part + 1 ≤ job.requirement.part = rising_above (first.requirement.part + 1) rest job rising.1 has in
    (λ same. absurd (omega arith), one_alone (first.requirement.part + 1) rest job rising.1 has)
