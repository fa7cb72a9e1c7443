-- Windows, and the ticks in them that pass a test.
use Rattle.std.proofs.Common.{◌≡◌, ℕ, zero, suc, ◌+◌, ◌*◌, ◌/◌, ◌%◌, ◌<◌, ◌≤◌, Bool, cond, ◌∙◌, refl, arith, add-one}
use Rattle.std.proofs.lemmas.Nat.{div-mul-add, div-add-mod'}
use Rattle.plan_maker.specs.Course.{window_start}
use Rattle.plan_maker.specs.Served.{ticks_where}

-- a tick of the window of a number
pub window_is : (tick window period into : ℕ) → tick ≡ window * period + into → into < period → window_start tick period ≡ window * period
window_is tick window period into is inside = rw (is, div-mul-add window period into inside) refl

-- a tick lies in its window
pub record InWindow (tick period : ℕ) : Type 0 where
  pub begun : window_start tick period ≤ tick
  pub inside : tick < window_start tick period + period

pub window_holds : (tick period : ℕ) → 0 < period → InWindow tick period
window_holds tick period some =
    let split : window_start tick period + tick % period ≡ tick = div-add-mod' tick period in
    let less : tick % period < period = omega arith in
    record { begun = omega arith; inside = omega arith }

-- the window of the next tick is the same before it ends
pub window_same : (tick period : ℕ) → 0 < period → tick + 1 < window_start tick period + period → window_start (tick + 1) period ≡ window_start tick period
window_same tick period some inside =
    let split : window_start tick period + tick % period ≡ tick = div-add-mod' tick period in
    window_is (tick + 1) (tick / period) period (tick % period + 1) (omega arith) (omega arith)

-- the window after it begins with its end
pub window_next : (tick period : ℕ) → 0 < period → tick + 1 ≡ window_start tick period + period → window_start (tick + 1) period ≡ tick + 1
window_next tick period some ends =
    let next : tick + 1 ≡ (tick / period + 1) * period + 0 = omega arith in
    window_is (tick + 1) (tick / period + 1) period 0 next some ∙ omega arith

-- tests that agree on the ticks count alike
pub ticks_where_same : (f g : ℕ → Bool) (start count : ℕ) → ((tick : ℕ) → start ≤ tick → tick < start + count → f tick ≡ g tick)
    → ticks_where f start count ≡ ticks_where g start count
ticks_where_same f g start zero same = refl
ticks_where_same f g start (suc count) same =
    let before : ticks_where f start count ≡ ticks_where g start count = ticks_where_same f g start count (λ tick from below. same tick from (omega arith)) in
    let last : f (start + count) ≡ g (start + count) = same (start + count) (omega arith) (omega arith) in
    rw (before, last) refl

-- one tick more
pub ticks_where_more : (f : ℕ → Bool) (start count : ℕ) → ticks_where f start (count + 1) ≡ ticks_where f start count + cond (f (start + count)) 1 0
ticks_where_more f start count = rw add-one refl
