-- The time that slots give a partition is what they share with a window.
use Rattle.std.proofs.Common.{◌≡◌, ℕ, zero, suc, ◌+◌, ◌-◌, ◌*◌, ◌/◌, ◌%◌, ◌<◌, ◌≤◌, ◌==◌, ◌&&◌, ◌||◌, Bool, true, false, cond, min, max, List, [], ◌∷◌, sum_by, ap, sym, ◌∙◌, refl, arith}
use Rattle.std.specs.Prelude.{All, nat_le, nat_lt}
use Rattle.std.proofs.lemmas.Bool.Decides.{nat_tests}
use Rattle.std.proofs.lemmas.List.Sums.{sum_by-cons}
use Rattle.std.proofs.lemmas.Nat.{le-div}
use Rattle.std.proofs.Math.Nat.{div-mul-le_self, mul-le-mul_right}
use Rattle.xm_conf.specs.declared.plan.Slot.{Slot}
use Rattle.xm_conf.specs.Fits.{InFrame, InTurn}
use Rattle.xm_conf.specs.Configuration.{Plan}
use Rattle.xm_conf.specs.declared.part.Need.{Need}
use Rattle.plan_maker.specs.Planned.{IsEnough, IsMet, IsMissed}
use Rattle.plan_maker.specs.Served.{gives, runs_in, ticks_where, time_in, window_time}
use Rattle.plan_maker.specs.lemmas.ServedTerms.{shared}
use Rattle.plan_maker.proofs.CourseLemmas.{Laid}

-- no tick passes a test that fails at each
none_where : (test : ℕ → Bool) (start count : ℕ) → ((tick : ℕ) → test tick ≡ false) → ticks_where test start count ≡ 0
none_where test start zero fails = refl
none_where test start (suc count) fails = rw (none_where test start count fails, fails (start + count)) refl

-- ticks that pass one of two tests, of which at most one holds
either_where : (f g : ℕ → Bool) (start count : ℕ) → ((tick : ℕ) → f tick ≡ true → g tick ≡ false) → ticks_where (λ tick. f tick || g tick) start count ≡ ticks_where f start count + ticks_where g start count
either_where f g start zero apart = refl
either_where f g start (suc count) apart =
    let before : ticks_where (λ tick. f tick || g tick) start count ≡ ticks_where f start count + ticks_where g start count = either_where f g start count apart in
    at (f (start + count)) (g (start + count)) (ticks_where (λ tick. f tick || g tick) start count) (ticks_where f start count) (ticks_where g start count) before (apart (start + count))
  where
    at : (a b : Bool) (x y z : ℕ) → x ≡ y + z → (a ≡ true → b ≡ false) → x + cond (a || b) 1 0 ≡ (y + cond a 1 0) + (z + cond b 1 0)
    at true true x y z e apart = absurd (let n : ⊥ = cc (apart refl) in n)
    at true false x y z e apart = omega arith
    at false true x y z e apart = omega arith
    at false false x y z e apart = omega arith

-- the ticks that a slot gives
shared_where : (part start count : ℕ) (slot : Slot) → ticks_where (λ tick. gives part tick slot) start count ≡ shared part start (start + count) slot
shared_where part start zero slot = at (slot.part == part)
  where
    at : (b : Bool) → 0 ≡ cond b (min (slot.start + slot.duration) (start + 0) - max slot.start start) 0
    at true = omega arith
    at false = refl
shared_where part start (suc count) slot =
    let before : ticks_where (λ tick. gives part tick slot) start count ≡ shared part start (start + count) slot = shared_where part start count slot in
    rw before (at (slot.part == part) (nat_le slot.start (start + count)) (nat_lt (start + count) (slot.start + slot.duration)) refl refl)
  where
    at : (own begun going : Bool) → nat_le slot.start (start + count) ≡ begun → nat_lt (start + count) (slot.start + slot.duration) ≡ going
        → cond own (min (slot.start + slot.duration) (start + count) - max slot.start start) 0 + cond (own && (begun && going)) 1 0
        ≡ cond own (min (slot.start + slot.duration) (start + suc count) - max slot.start start) 0
    at false begun going b g = refl
    at true true true b g = let low : slot.start ≤ start + count = grind (arith, nat_tests) in let high : start + count < slot.start + slot.duration = grind (arith, nat_tests) in omega arith
    at true true false b g = let high : slot.start + slot.duration ≤ start + count = grind (arith, nat_tests) in omega arith
    at true false going b g = let low : start + count < slot.start = grind (arith, nat_tests) in omega arith

-- slots give no ticks before they begin
pub runs_not_yet : (part low high tick : ℕ) (slots : List Slot) → Laid low high slots → tick < low → runs_in part slots tick ≡ false
runs_not_yet part low high tick [] laid before = refl
runs_not_yet part low high tick (slot ∷ rest) laid before =
    let begins : low ≤ slot.start = laid.0 in
    rw (not_yet (omega arith), runs_not_yet part (slot.start + slot.duration) high tick rest laid.2 (omega arith)) refl
  where
    not_yet : tick < slot.start → gives part tick slot ≡ false
    not_yet before = grind (arith, nat_tests)

-- the time that slots give a partition is the sum of what they share
pub time_shared : (part low high start count : ℕ) (slots : List Slot) → Laid low high slots → time_in part slots start count ≡ sum_by (shared part start (start + count)) slots
unfolding time_in
time_shared part low high start count [] laid = none_where (runs_in part []) start count (λ tick. refl)
time_shared part low high start count (slot ∷ rest) laid =
    either_where (λ tick. gives part tick slot) (runs_in part rest) start count apart
    ∙ ap (λ (n : ℕ). n + ticks_where (runs_in part rest) start count) (shared_where part start count slot)
    ∙ ap (λ (n : ℕ). shared part start (start + count) slot + n) (time_shared part (slot.start + slot.duration) high start count rest laid.2)
    ∙ sym (sum_by-cons (shared part start (start + count)) slot rest)
  where
    apart : (tick : ℕ) → gives part tick slot ≡ true → runs_in part rest tick ≡ false
    apart tick runs = runs_not_yet part (slot.start + slot.duration) high tick rest laid.2 (let e : tick < slot.start + slot.duration = grind (arith, nat_tests) in e)

-- slots of a plan that keeps the rules follow one another
laid_from : (low frame : ℕ) (slot : Slot) (rest : List Slot) → low ≤ slot.start → All (InFrame frame) (slot ∷ rest) → InTurn (slot ∷ rest) → Laid low frame (slot ∷ rest)
laid_from low frame slot [] begins inside turn =
    let own : InFrame frame slot = inside 0 slot (omega arith) in
    (begins, own.lasts, own.inside)
laid_from low frame slot (next ∷ rest) begins inside turn =
    let own : InFrame frame slot = inside 0 slot (omega arith) in
    (begins, own.lasts, laid_from (slot.start + slot.duration) frame next rest (turn 0 slot (omega arith)) (λ k d below. inside (suc k) d (omega arith)) later)
  where
    later : InTurn (next ∷ rest)
    later n d below = let e : suc n + 1 ≡ suc (n + 1) = omega arith in rw e at (turn (suc n) d (omega arith))

pub laid_by_rules : (frame : ℕ) (slots : List Slot) → All (InFrame frame) slots → InTurn slots → Laid 0 frame slots
laid_by_rules frame [] inside turn = let e : 0 ≤ frame = omega arith in e
laid_by_rules frame (slot ∷ rest) inside turn = laid_from 0 frame slot rest (omega arith) inside turn

-- a window lies in the frame exactly if its number is below that of the windows
pub window_below : (window period frame : ℕ) → 0 < period → (window + 1) * period ≤ frame → window < frame / period
window_below window period frame some inside = let e : window + 1 ≤ frame / period = le-div (window + 1) frame period some inside in omega arith

pub window_inside : (window period frame : ℕ) → window < frame / period → (window + 1) * period ≤ frame
window_inside window period frame below =
    let more : (window + 1) * period ≤ frame / period * period = mul-le-mul_right period (let e : window + 1 ≤ frame / period = omega arith in e) in
    omega (arith, more, div-mul-le_self frame period)

-- what is lacking shows whether the time in a window is too little
pub lacks_window : (part frame window period duration lacking : ℕ) (slots : List Slot) → All (InFrame frame) slots → InTurn slots
    → lacking ≡ duration - sum_by (shared part (window * period) (window * period + period)) slots → nat_lt 0 lacking ≡ nat_lt (window_time part slots period window) duration
lacks_window part frame window period duration lacking slots inside turn is =
    compared lacking duration (window_time part slots period window) (sum_by (shared part (window * period) (window * period + period)) slots) is
    (time_shared part 0 frame (window * period) period slots (laid_by_rules frame slots inside turn))
  where
    compared : (lacking duration time sum : ℕ) → lacking ≡ duration - sum → time ≡ sum → nat_lt 0 lacking ≡ nat_lt time duration
    compared lacking duration time sum is same = grind (arith, nat_tests)

-- a requirement that no window misses is met
pub met_in_all : (plan : Plan) (part : ℕ) (need : Need) → 0 < need.period → plan.frame % need.period ≡ 0
    → ((window : ℕ) → window < plan.frame / need.period → IsEnough plan part need window) → IsMet plan part need
met_in_all plan part need some whole enough = record { whole = whole; each = λ window inside. enough window (window_below window need.period plan.frame some inside) }

-- a window that misses it
pub missed_in : (plan : Plan) (part : ℕ) (need : Need) (window : ℕ) → plan.frame % need.period ≡ 0 → window < plan.frame / need.period
    → window_time part plan.slots need.period window < need.duration → ((earlier : ℕ) → earlier < window → IsEnough plan part need earlier) → IsMissed plan part need window
missed_in plan part need window whole below short before = record { whole = whole; inside = window_inside window need.period plan.frame below; short = short; before = before }
