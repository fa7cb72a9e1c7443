-- The ticks that jobs need by a tick: the rule misses none where the demand is not too great.
use Rattle.std.proofs.Common.{◌≡◌, ℕ, zero, suc, ◌+◌, ◌-◌, ◌*◌, ◌/◌, ◌%◌, ◌<◌, ◌≤◌, ◌==◌, inl, inr, Bool, true, false, cond, List, [], ◌∷◌, map, sum_by, Option, Some, None, ap, sym, ◌∙◌, subst, refl, arith}
use Rattle.std.specs.Prelude.{nat_le}
use Rattle.std.proofs.Math.Nat.{add-mul-div_right, le_of_mul-le-mul_left, mul-le-mul_left, div-mul-le_self}
use Rattle.std.proofs.lemmas.Bool.Decides.{nat_tests}
use Rattle.std.proofs.lemmas.List.Sums.{sum_by-cons}
use Rattle.std.proofs.lemmas.Nat.{div-mul-add, div-add-mod', le-div}
use Rattle.plan_maker.specs.Course.{earliest}
use Rattle.plan_maker.specs.Needed.{demand, demanded}
use Rattle.plan_maker.specs.lemmas.Turns.{first_job, renewed, spent}
use Rattle.plan_maker.specs.declared.jobs.Job.{Job}
use Rattle.plan_maker.specs.declared.jobs.Requirement.{Requirement}
use Rattle.plan_maker.proofs.EachLemmas.{Each, each_then}
use Rattle.plan_maker.proofs.EarliestLemmas.{GoesBefore, Has, earliest_before, earliest_none, earliest_one, earliest_wants}
use Rattle.plan_maker.proofs.JobLemmas.{spent_by}

-- the ticks of the whole windows of a requirement in this many ticks
abbrev pub portion : ℕ → Requirement → ℕ
portion count requirement = requirement.duration * (count / requirement.period)

-- the ticks that a job needs by a tick: what is left of its window, where that ends by then, and its later whole windows
abbrev pub needs : ℕ → Job → ℕ
needs until job = cond (nat_le job.end until) (job.left + portion (until - job.end) job.requirement) 0

-- the ticks that jobs need by a tick
abbrev pub load : ℕ → List Job → ℕ
load until [] = 0
load until (job ∷ rest) = needs until job + load until rest

-- the ticks of all whole windows in this many ticks
abbrev pub share : ℕ → List Job → ℕ
share count [] = 0
share count (job ∷ rest) = portion count job.requirement + share count rest

-- a job never needs more after it ran
needs_spent : (until part ticks : ℕ) (job : Job) → needs until (spent part ticks job) ≤ needs until job
needs_spent until part ticks job = at (job.requirement.part == part)
  where
    less : (c : Bool) (a b x : ℕ) → a ≤ b → cond c (a + x) 0 ≤ cond c (b + x) 0
    less true a b x below = omega arith
    less false a b x below = omega arith

    at : (b : Bool) → needs until (cond b (record job { left = job.left - ticks }) job) ≤ needs until job
    at true = less (nat_le job.end until) (job.left - ticks) job.left (portion (until - job.end) job.requirement) (omega arith)
    at false = omega arith

load_spent : (until part ticks : ℕ) (jobs : List Job) → load until (map (spent part ticks) jobs) ≤ load until jobs
load_spent until part ticks [] = omega arith
load_spent until part ticks (job ∷ rest) =
    let later : load until (map (spent part ticks) rest) ≤ load until rest = load_spent until part ticks rest in
    let here : needs until (spent part ticks job) ≤ needs until job = needs_spent until part ticks job in
    omega (arith, later, here)

-- the job that ran needs one tick less
needs_less : (until : ℕ) (job : Job) → 0 < job.left → job.end ≤ until → needs until (spent job.requirement.part 1 job) + 1 ≤ needs until job
needs_less until job some ends =
    let same : (job.requirement.part == job.requirement.part) ≡ true = grind (arith, nat_tests) in
    let due : nat_le job.end until ≡ true = grind (arith, nat_tests) in
    rw (same, due) (omega arith)

load_less : (until : ℕ) (jobs : List Job) (job : Job) → Has jobs job → 0 < job.left → job.end ≤ until
    → load until (map (spent job.requirement.part 1) jobs) + 1 ≤ load until jobs
load_less until [] job has some ends = absurd has
load_less until (first ∷ rest) job (inl e) some ends =
    let later : load until (map (spent job.requirement.part 1) rest) ≤ load until rest = load_spent until job.requirement.part 1 rest in
    let here : needs until (spent job.requirement.part 1 first) + 1 ≤ needs until first =
    subst (λ (k : Job). needs until (spent job.requirement.part 1 k) + 1 ≤ needs until k) (sym e) (needs_less until job some ends) in
    omega (arith, later, here)
load_less until (first ∷ rest) job (inr has) some ends =
    let later : load until (map (spent job.requirement.part 1) rest) + 1 ≤ load until rest = load_less until rest job has some ends in
    let here : needs until (spent job.requirement.part 1 first) ≤ needs until first = needs_spent until job.requirement.part 1 first in
    omega (arith, later, here)

-- a job has a period, and its window ends after a tick
pub record IsAhead (tick : ℕ) (job : Job) : Type 0 where
  pub period : 0 < job.requirement.period
  pub end : tick < job.end

portion_less : (a b : ℕ) (r : Requirement) → 0 < r.period → a ≤ b → portion a r ≤ portion b r
portion_less a b r some less =
    let whole : a / r.period * r.period ≤ a = div-mul-le_self a r.period in
    mul-le-mul_left r.duration (le-div (a / r.period) b r.period some (omega arith))

-- a job that has nothing left needs at most its whole windows
needs_idle : (until tick : ℕ) (job : Job) → IsAhead tick job → (job.end ≤ until → job.left ≡ 0) → needs until job ≤ portion (until - (tick + 1)) job.requirement
needs_idle until tick job ahead idle = at (nat_le job.end until) refl
  where
    at : (b : Bool) → nat_le job.end until ≡ b → cond b (job.left + portion (until - job.end) job.requirement) 0 ≤ portion (until - (tick + 1)) job.requirement
    at true is =
        let due : job.end ≤ until = grind (arith, nat_tests) in
        let none : job.left ≡ 0 = idle due in
        let after : tick < job.end = ahead.end in
        let less : portion (until - job.end) job.requirement ≤ portion (until - (tick + 1)) job.requirement =
        portion_less (until - job.end) (until - (tick + 1)) job.requirement ahead.period (omega arith) in
        omega (arith, none, less)
    at false is = omega arith

load_idle : (until tick : ℕ) (jobs : List Job) → Each (IsAhead tick) jobs → Each (λ job. job.end ≤ until → job.left ≡ 0) jobs → load until jobs ≤ share (until - (tick + 1)) jobs
load_idle until tick [] ahead idle = omega arith
load_idle until tick (job ∷ rest) ahead idle =
    let later : load until rest ≤ share (until - (tick + 1)) rest = load_idle until tick rest ahead.1 idle.1 in
    let here : needs until job ≤ portion (until - (tick + 1)) job.requirement = needs_idle until tick job ahead.0 idle.0 in
    omega (arith, later, here)

load_same : (until : ℕ) (jobs : List Job) → load until (map (spent_by None) jobs) ≡ load until jobs
load_same until [] = refl
load_same until (job ∷ rest) = rw (load_same until rest) refl

-- the jobs need no more by any tick than there is time up to it
abbrev pub Spares : ℕ → List Job → Type 0
Spares tick jobs = (until : ℕ) → tick ≤ until → load until jobs + tick ≤ until

-- whole windows take no more ticks than there are
abbrev pub Fits : List Job → Type 0
Fits jobs = (count : ℕ) → share count jobs ≤ count

idle_by : (left : ℕ) → (0 < left → ⊥) → left ≡ 0
idle_by zero not = refl
idle_by (suc left) not = absurd (not (omega arith))

-- after a tick of the rule there is time for all that jobs need
pub spares_tick : (tick : ℕ) (jobs : List Job) → Each (IsAhead tick) jobs → Fits jobs → Spares tick jobs → Spares (tick + 1) (map (spent_by (earliest jobs)) jobs)
spares_tick tick jobs ahead fits spares = at (earliest jobs) refl
  where
    enough : (until : ℕ) → tick + 1 ≤ until → Each (λ job. job.end ≤ until → job.left ≡ 0) jobs → load until jobs + (tick + 1) ≤ until
    enough until later idle =
        let need : load until jobs ≤ share (until - (tick + 1)) jobs = load_idle until tick jobs ahead idle in
        let fit : share (until - (tick + 1)) jobs ≤ until - (tick + 1) = fits (until - (tick + 1)) in
        omega (arith, need, fit)

    run : (turn : Job) → earliest jobs ≡ Some turn → (until : ℕ) → tick + 1 ≤ until → (b : Bool) → nat_le turn.end until ≡ b
        → load until (map (spent turn.requirement.part 1) jobs) + (tick + 1) ≤ until
    run turn is until later true ends =
        let less : load until (map (spent turn.requirement.part 1) jobs) + 1 ≤ load until jobs =
        load_less until jobs turn (earliest_one jobs turn is) (earliest_wants jobs turn is) (let e : turn.end ≤ until = grind (arith, nat_tests) in e) in
        let had : load until jobs + tick ≤ until = spares until (omega arith) in
        omega (arith, less, had)
    run turn is until later false ends =
        let after : until < turn.end = grind (arith, nat_tests) in
        let none : (job : Job) → GoesBefore turn job → job.end ≤ until → job.left ≡ 0 = λ job before due. idle_by job.left (λ some. (let e : turn.end ≤ job.end = before some in omega arith)) in
        let less : load until (map (spent turn.requirement.part 1) jobs) ≤ load until jobs = load_spent until turn.requirement.part 1 jobs in
        let had : load until jobs + (tick + 1) ≤ until = enough until later (each_then (GoesBefore turn) (λ job. job.end ≤ until → job.left ≡ 0) jobs none (earliest_before jobs turn is)) in
        omega (arith, less, had)

    at : (turn : Option Job) → earliest jobs ≡ turn → Spares (tick + 1) (map (spent_by turn) jobs)
    at None is = λ until later. rw (load_same until jobs)
        (enough until later (each_then (λ job. job.left ≡ 0) (λ job. job.end ≤ until → job.left ≡ 0) jobs (λ job none due. none) (earliest_none jobs is)))
    at (Some turn) is = λ until later. run turn is until later (nat_le turn.end until) refl

-- a job whose window ends at a tick has no ticks left
abbrev pub IsDone : ℕ → Job → Type 0
IsDone tick job = job.end ≡ tick → job.left ≡ 0

load_done : (tick : ℕ) (jobs : List Job) → load tick jobs ≡ 0 → Each (IsDone tick) jobs
load_done tick [] none = tt
load_done tick (job ∷ rest) none = (λ ends. here ends, load_done tick rest (omega arith))
  where
    here : job.end ≡ tick → job.left ≡ 0
    here ends =
        let due : nat_le job.end tick ≡ true = grind (arith, nat_tests) in
        let all : needs tick job ≡ 0 = omega arith in
        let both : job.left + portion (tick - job.end) job.requirement ≡ 0 = rw due at all in
        omega (arith, both)

-- where there is time for all that jobs need, those whose windows end now have no ticks left
pub spares_done : (tick : ℕ) (jobs : List Job) → Spares tick jobs → Each (IsDone tick) jobs
spares_done tick jobs spares = load_done tick jobs (let e : load tick jobs + tick ≤ tick = spares tick (omega arith) in omega arith)

-- one window less
portion_next : (count : ℕ) (r : Requirement) → 0 < r.period → portion (count + r.period) r ≡ r.duration + portion count r
portion_next count r some =
    let more : (count + 1 * r.period) / r.period ≡ count / r.period + 1 = add-mul-div_right count 1 some in
    let same : count + r.period ≡ count + 1 * r.period = omega arith in
    rw (same, more) (omega arith)

portion_none : (count : ℕ) (r : Requirement) → count < r.period → portion count r ≡ 0
portion_none count r short =
    let none : (0 * r.period + count) / r.period ≡ 0 = div-mul-add 0 r.period count short in
    let same : count ≡ 0 * r.period + count = omega arith in
    rw (same, none) (omega arith)

-- a window that begins needs what was needed of it before
needs_renewed : (tick until : ℕ) (job : Job) → 0 < job.requirement.period → IsDone tick job → tick ≤ until → needs until (renewed tick job) ≡ needs until job
needs_renewed tick until job some done later = at (job.end == tick) refl
  where
    next : (b : Bool) → nat_le (job.end + job.requirement.period) until ≡ b → job.end ≤ until
        → cond b (job.requirement.duration + portion (until - (job.end + job.requirement.period)) job.requirement) 0 ≡ portion (until - job.end) job.requirement
    next true is due =
        let inside : job.end + job.requirement.period ≤ until = grind (arith, nat_tests) in
        let split : until - job.end ≡ until - (job.end + job.requirement.period) + job.requirement.period = omega arith in
        rw split (sym (portion_next (until - (job.end + job.requirement.period)) job.requirement some))
    next false is due =
        let short : until < job.end + job.requirement.period = grind (arith, nat_tests) in
        sym (portion_none (until - job.end) job.requirement (omega arith))

    at : (b : Bool) → (job.end == tick) ≡ b
        → needs until (cond b (record job { left = job.requirement.duration; end = job.end + job.requirement.period }) job) ≡ needs until job
    at true is =
        let ends : job.end ≡ tick = grind (arith, nat_tests) in
        let none : job.left ≡ 0 = done ends in
        let due : nat_le job.end until ≡ true = grind (arith, nat_tests) in
        next (nat_le (job.end + job.requirement.period) until) refl (omega arith)
        ∙ (let e : portion (until - job.end) job.requirement ≡ job.left + portion (until - job.end) job.requirement = omega arith in e)
        ∙ ap (λ (b : Bool). cond b (job.left + portion (until - job.end) job.requirement) 0) (sym due)
    at false is = refl

load_renewed : (tick until : ℕ) (jobs : List Job) → Each (λ job. 0 < job.requirement.period) jobs → Each (IsDone tick) jobs → tick ≤ until
    → load until (map (renewed tick) jobs) ≡ load until jobs
load_renewed tick until [] some done later = refl
load_renewed tick until (job ∷ rest) some done later =
    rw (needs_renewed tick until job some.0 done.0 later, load_renewed tick until rest some.1 done.1 later) refl

-- windows that begin leave the time that there is
pub spares_renewed : (tick : ℕ) (jobs : List Job) → Each (λ job. 0 < job.requirement.period) jobs → Spares tick jobs → Spares tick (map (renewed tick) jobs)
spares_renewed tick jobs some spares = λ until later. rw (load_renewed tick until jobs some (spares_done tick jobs spares) later) (spares until later)

-- the first windows are whole
needs_first : (until : ℕ) (r : Requirement) → 0 < r.period → needs until (first_job r) ≡ portion until r
needs_first until r some = at (nat_le r.period until) refl
  where
    at : (b : Bool) → nat_le r.period until ≡ b → cond b (r.duration + portion (until - r.period) r) 0 ≡ portion until r
    at true is =
        let inside : r.period ≤ until = grind (arith, nat_tests) in
        let split : until ≡ until - r.period + r.period = omega arith in
        sym (portion_next (until - r.period) r some) ∙ ap (λ (count : ℕ). portion count r) (sym split)
    at false is = let short : until < r.period = grind (arith, nat_tests) in sym (portion_none until r short)

load_first : (until : ℕ) (rs : List Requirement) → Each (λ r. 0 < r.period) rs → load until (map first_job rs) ≡ share until (map first_job rs)
load_first until [] some = refl
load_first until (r ∷ rest) some = rw (needs_first until r some.0, load_first until rest some.1) refl

-- in the first tick there is time for all that jobs need
pub spares_first : (rs : List Requirement) → Each (λ r. 0 < r.period) rs → Fits (map first_job rs) → Spares 0 (map first_job rs)
spares_first rs some fits = λ until later. rw (load_first until rs some) (let e : share until (map first_job rs) ≤ until = fits until in omega (arith, e))

-- a frame is whole windows of a requirement
pub record IsWhole (frame : ℕ) (requirement : Requirement) : Type 0 where
  pub period : 0 < requirement.period
  pub whole : frame % requirement.period ≡ 0

portion_fits : (frame count : ℕ) (r : Requirement) → IsWhole frame r → frame * portion count r ≤ count * demanded frame r
portion_fits frame count r whole =
    let split : frame / r.period * r.period + frame % r.period ≡ frame = div-add-mod' frame r.period in
    let none : frame % r.period ≡ 0 = whole.whole in
    let windows : frame ≡ frame / r.period * r.period = omega arith in
    let less : count / r.period * r.period ≤ count = div-mul-le_self count r.period in
    scaled frame (frame / r.period) r.period r.duration count (count / r.period) windows less
  where
    scaled : (frame h t d x q : ℕ) → frame ≡ h * t → q * t ≤ x → frame * (d * q) ≤ x * (h * d)
    scaled frame h t d x q is less =
        let more : h * d * (q * t) ≤ h * d * x = mul-le-mul_left (h * d) less in
        rw is (omega (arith, more))

share_fits : (frame count : ℕ) (rs : List Requirement) → Each (IsWhole frame) rs → frame * share count (map first_job rs) ≤ count * demand frame rs
unfolding demand
share_fits frame count [] whole = omega arith
share_fits frame count (r ∷ rest) whole =
    let later : frame * share count (map first_job rest) ≤ count * sum_by (demanded frame) rest = share_fits frame count rest whole.1 in
    let here : frame * portion count r ≤ count * demanded frame r = portion_fits frame count r whole.0 in
    rw (sum_by-cons (demanded frame) r rest) (sums frame count (portion count r) (share count (map first_job rest)) (demanded frame r) (sum_by (demanded frame) rest) here later)
  where
    sums : (f c a b d e : ℕ) → f * a ≤ c * d → f * b ≤ c * e → f * (a + b) ≤ c * (d + e)
    sums f c a b d e first second = omega arith

-- where the demand is at most the frame, whole windows take no more ticks than there are
pub demand_fits : (frame : ℕ) (rs : List Requirement) → 0 < frame → Each (IsWhole frame) rs → demand frame rs ≤ frame → Fits (map first_job rs)
demand_fits frame rs some whole less = λ count.
    let fits : frame * share count (map first_job rs) ≤ count * demand frame rs = share_fits frame count rs whole in
    let most : count * demand frame rs ≤ count * frame = mul-le-mul_left count less in
    let both : frame * share count (map first_job rs) ≤ frame * count = omega (arith, fits, most) in
    le_of_mul-le-mul_left both some

-- the ticks of all whole windows of requirements
shares : ℕ → List Requirement → ℕ
shares count [] = 0
shares count (r ∷ rest) = portion count r + shares count rest

share_of : (count : ℕ) (jobs : List Job) → share count jobs ≡ shares count (map (λ job. job.requirement) jobs)
unfolding shares
share_of count [] = refl
share_of count (job ∷ rest) = rw (share_of count rest) refl

-- a share is one of the requirements alone
pub share_same : (count : ℕ) (a b : List Job) → map (λ job. job.requirement) a ≡ map (λ job. job.requirement) b → share count a ≡ share count b
share_same count a b same = share_of count a ∙ ap (λ (rs : List Requirement). shares count rs) same ∙ sym (share_of count b)
