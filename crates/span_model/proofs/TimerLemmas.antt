-- Timers that are looked at at two moments.
use Rattle.std.proofs.Common.{◌≡◌, ℕ, ◌+◌, ◌-◌, ◌*◌, ◌/◌, ◌<◌, ◌≤◌, Bool, true, false, Option, None, Some, refl, sym, ap, ◌∙◌, arith}
use Rattle.std.specs.Prelude.{◌^◌, ◌==◌, ◌||◌, if◌then◌else◌, IfSome, nat_le, nat_lt}
use Rattle.std.proofs.Math.Nat.{add-mul-div_right, div-eq_of_lt-le, div-mul-le_self, lt-div-mul-add}
use Rattle.std.proofs.lemmas.Bool.Decides.{nat_tests}
use Rattle.virt_clocks.specs.Clocks.{is_due, lesser, looked_at, rearmed, ticks_until}
use Rattle.virt_clocks.specs.declared.timer.Timer.{Timer}

-- what is reached at a moment is reached later, too
due_still : (d t1 t2 : ℕ) → t1 ≤ t2 → nat_le d t1 ≡ true → nat_le d t2 ≡ true
due_still d t1 t2 later due = at (nat_le d t2) refl
  where
    at : (b : Bool) → nat_le d t2 ≡ b → b ≡ true
    at b is = grind (arith, nat_tests)

-- what is past a limit stays so where it grows
over_still : (a b most : ℕ) → a ≤ b → nat_lt a most ≡ false → nat_lt b most ≡ false
over_still a b most grows over = at (nat_lt b most) refl
  where
    at : (t : Bool) → nat_lt b most ≡ t → t ≡ false
    at t is = grind (arith, nat_tests)

-- what is past a moment is not reached at it
past_not_reached : (d t : ℕ) → t < d → nat_le d t ≡ false
past_not_reached d t past = at (nat_le d t) refl
  where
    at : (b : Bool) → nat_le d t ≡ b → b ≡ false
    at b is = grind (arith, nat_tests)

-- a number that is not 0
above_zero : (n : ℕ) → (n == 0) ≡ false → 0 < n
above_zero n other = grind (arith, nat_tests)

-- the first of the deadlines that are past a moment, of those from d on in steps of i
abbrev first_past : ℕ → ℕ → ℕ → ℕ
first_past d i t = d + ((t - d) / i + 1) * i

-- from a later one of these deadlines on it is the same
same_from : (d i q t : ℕ) → 0 < i → d + q * i ≤ t → first_past (d + q * i) i t ≡ first_past d i t
same_from d i q t some before =
    let whole : t - d ≡ (t - (d + q * i)) + q * i = omega (arith, before) in
    let steps : (t - d) / i ≡ (t - (d + q * i)) / i + q = ap (λ n. n / i) whole ∙ add-mul-div_right (t - (d + q * i)) q some in
    rw steps (grind arith)

-- it is past the moment
is_past : (d i t : ℕ) → 0 < i → d ≤ t → t < first_past d i t
is_past d i t some begun =
    let past : t - d < (t - d) / i * i + i = lt-div-mul-add some in
    grind (arith, past)

-- the number of steps is that of an earlier moment, where the first deadline past that is past this one, too
same_steps : (d i t1 t2 : ℕ) → 0 < i → d ≤ t1 → t1 ≤ t2 → t2 < first_past d i t1 → (t2 - d) / i ≡ (t1 - d) / i
same_steps d i t1 t2 some begun later before =
    let low : (t1 - d) / i * i ≤ t1 - d = div-mul-le_self (t1 - d) i in
    let from : (t1 - d) / i * i ≤ t2 - d = omega (arith, low, begun, later) in
    let to : t2 - d < ((t1 - d) / i + 1) * i = omega (arith, before) in
    div-eq_of_lt-le i from to

-- a moment between has the same first deadline past it
same_until : (d i t1 t2 : ℕ) → 0 < i → d ≤ t1 → t1 ≤ t2 → t2 < first_past d i t1 → first_past d i t2 ≡ first_past d i t1
same_until d i t1 t2 some begun later before = ap (λ n. d + (n + 1) * i) (same_steps d i t1 t2 some begun later before)

-- what a timer is after a look: one below a limit
abbrev below_limit : ℕ → ℕ → ℕ → Option Timer
below_limit most interval deadline = if nat_lt deadline most then Some (record { deadline = deadline; interval = interval }) else None

abbrev moved_below : ℕ → ℕ → ℕ → ℕ → Option Timer
moved_below most t deadline interval = if interval == 0 then None else below_limit most interval (first_past deadline interval t)

abbrev looked_below : ℕ → ℕ → Option Timer → Option Timer
looked_below most t None = None
looked_below most t (Some timer) = if nat_le timer.deadline t then moved_below most t timer.deadline timer.interval else Some timer

-- a look is one below the limit of timers
looked_is : (t : ℕ) (x : Option Timer) → looked_at t x ≡ looked_below (2 ^ 63) t x
unfolding looked_at
looked_is t None = refl
looked_is t (Some timer) = refl

-- the first deadline past a later moment is no earlier
no_earlier : (d i t1 t2 : ℕ) → 0 < i → d ≤ t1 → t1 ≤ t2 → first_past d i t1 ≤ first_past d i t2
no_earlier d i t1 t2 some begun later = at (nat_lt t2 (first_past d i t1)) refl
  where
    at : (b : Bool) → nat_lt t2 (first_past d i t1) ≡ b → first_past d i t1 ≤ first_past d i t2
    at true before =
        let same : first_past d i t2 ≡ first_past d i t1 = same_until d i t1 t2 some begun later (grind (arith, nat_tests)) in
        omega (arith, same)
    at false past =
        let reached : first_past d i t1 ≤ t2 = grind (arith, nat_tests) in
        let further : t2 < first_past d i t2 = is_past d i t2 some (omega (arith, begun, later)) in
        omega (arith, reached, further)

-- a later look at a timer that was moved on
moved_twice : (most t1 t2 deadline interval : ℕ) → deadline ≤ t1 → t1 ≤ t2
    → looked_below most t2 (moved_below most t1 deadline interval) ≡ moved_below most t2 deadline interval
moved_twice most t1 t2 deadline interval begun later = once (interval == 0) refl
  where
    due_next : (b : Bool) → nat_le (first_past deadline interval t1) t2 ≡ b → nat_lt (first_past deadline interval t1) most ≡ true → (interval == 0) ≡ false → 0 < interval
        → (if b then moved_below most t2 (first_past deadline interval t1) interval else Some (record { deadline = first_past deadline interval t1; interval = interval }))
        ≡ below_limit most interval (first_past deadline interval t2)
    due_next true due less not_zero some =
        let reached : first_past deadline interval t1 ≤ t2 = grind (arith, nat_tests) in
        ap (λ (z : Bool). if z then None else below_limit most interval (first_past (first_past deadline interval t1) interval t2)) not_zero
        ∙ ap (below_limit most interval) (same_from deadline interval ((t1 - deadline) / interval + 1) t2 some reached)
    due_next false waits less not_zero some =
        let before : t2 < first_past deadline interval t1 = grind (arith, nat_tests) in
        sym (ap (below_limit most interval) (same_until deadline interval t1 t2 some begun later before)
        ∙ ap (λ (l : Bool). if l then Some (record { deadline = first_past deadline interval t1; interval = interval }) else None) less)

    limit : (b : Bool) → nat_lt (first_past deadline interval t1) most ≡ b → (interval == 0) ≡ false → 0 < interval
        → looked_below most t2 (if b then Some (record { deadline = first_past deadline interval t1; interval = interval }) else None) ≡ below_limit most interval (first_past deadline interval t2)
    limit true less not_zero some = due_next (nat_le (first_past deadline interval t1) t2) refl less not_zero some
    limit false more not_zero some =
        let grows : first_past deadline interval t1 ≤ first_past deadline interval t2 = no_earlier deadline interval t1 t2 some begun later in
        let over : nat_lt (first_past deadline interval t2) most ≡ false = over_still (first_past deadline interval t1) (first_past deadline interval t2) most grows more in
        sym (ap (λ (l : Bool). if l then Some (record { deadline = first_past deadline interval t2; interval = interval }) else None) over)

    once : (b : Bool) → (interval == 0) ≡ b → looked_below most t2 (if b then None else below_limit most interval (first_past deadline interval t1))
        ≡ (if b then None else below_limit most interval (first_past deadline interval t2))
    once true none = refl
    once false some = limit (nat_lt (first_past deadline interval t1) most) refl some (above_zero interval some)

-- a look, and a later one
looked_below_twice : (most t1 t2 : ℕ) (x : Option Timer) → t1 ≤ t2 → looked_below most t2 (looked_below most t1 x) ≡ looked_below most t2 x
looked_below_twice most t1 t2 None later = refl
looked_below_twice most t1 t2 (Some timer) later = at (nat_le timer.deadline t1) refl
  where
    at : (b : Bool) → nat_le timer.deadline t1 ≡ b → looked_below most t2 (if b then moved_below most t1 timer.deadline timer.interval else Some timer) ≡ looked_below most t2 (Some timer)
    at true due =
        let begun : timer.deadline ≤ t1 = grind (arith, nat_tests) in
        moved_twice most t1 t2 timer.deadline timer.interval begun later
        ∙ sym (ap (λ (b : Bool). if b then moved_below most t2 timer.deadline timer.interval else Some timer) (due_still timer.deadline t1 t2 later due))
    at false waits = refl

-- looking at a timer and later again is looking at it later
pub looked_twice : (t1 t2 : ℕ) (x : Option Timer) → t1 ≤ t2 → looked_at t2 (looked_at t1 x) ≡ looked_at t2 x
looked_twice t1 t2 x later =
    looked_is t2 (looked_at t1 x) ∙ ap (looked_below (2 ^ 63) t2) (looked_is t1 x) ∙ looked_below_twice (2 ^ 63) t1 t2 x later ∙ sym (looked_is t2 x)

-- a timer is due where it was due at an earlier look, or is due after it
pub due_twice : (t1 t2 : ℕ) (x : Option Timer) → t1 ≤ t2 → is_due t2 x ≡ (is_due t1 x || is_due t2 (looked_at t1 x))
unfolding looked_at
due_twice t1 t2 None later = refl
due_twice t1 t2 (Some timer) later = at (nat_le timer.deadline t1) refl
  where
    at : (b : Bool) → nat_le timer.deadline t1 ≡ b → nat_le timer.deadline t2 ≡ (b || is_due t2 (if b then rearmed t1 timer else Some timer))
    at true due = due_still timer.deadline t1 t2 later due
    at false waits = refl

-- a timer that was moved on is not due
moved_not_due : (most t deadline interval : ℕ) → deadline ≤ t → is_due t (moved_below most t deadline interval) ≡ false
moved_not_due most t deadline interval begun = once (interval == 0) refl
  where
    waits : 0 < interval → nat_le (first_past deadline interval t) t ≡ false
    waits some =
        let past : t < first_past deadline interval t = is_past deadline interval t some begun in
        past_not_reached (first_past deadline interval t) t past

    limit : (b : Bool) → 0 < interval
        → is_due t (if b then Some (record { deadline = first_past deadline interval t; interval = interval }) else None) ≡ false
    limit true some = waits some
    limit false some = refl

    once : (b : Bool) → (interval == 0) ≡ b → is_due t (if b then None else below_limit most interval (first_past deadline interval t)) ≡ false
    once true none = refl
    once false some = limit (nat_lt (first_past deadline interval t) most) (above_zero interval some)

-- nor is one that was looked at
pub looked_not_due : (t : ℕ) (x : Option Timer) → is_due t (looked_at t x) ≡ false
looked_not_due t None = ap (is_due t) (looked_is t None)
looked_not_due t (Some timer) = ap (is_due t) (looked_is t (Some timer)) ∙ at (nat_le timer.deadline t) refl
  where
    at : (b : Bool) → nat_le timer.deadline t ≡ b → is_due t (if b then moved_below (2 ^ 63) t timer.deadline timer.interval else Some timer) ≡ false
    at true due = moved_not_due (2 ^ 63) t timer.deadline timer.interval (grind (arith, nat_tests))
    at false waits = waits

-- a timer that is not due stays as it is
pub looked_same : (t : ℕ) (x : Option Timer) → is_due t x ≡ false → looked_at t x ≡ x
unfolding looked_at
looked_same t None waits = refl
looked_same t (Some timer) waits = ap (λ (b : Bool). if b then rearmed t timer else Some timer) waits

-- a timer with this many ticks left is not due before
far_off : (now k : ℕ) (timer : Timer) → k < timer.deadline - now → is_due (now + k) (Some timer) ≡ false
far_off now k timer far = past_not_reached timer.deadline (now + k) (omega (arith, far))

-- no timer is due before this many ticks
pub none_due : (now clock k : ℕ) (hardware execution : Option Timer) → IfSome (lesser (ticks_until now hardware) (ticks_until clock execution)) (λ ticks. k < ticks)
    → (is_due (now + k) hardware ≡ false) × (is_due (clock + k) execution ≡ false)
none_due now clock k None None far = (refl, refl)
none_due now clock k None (Some execution) far = (refl, far_off clock k execution far)
none_due now clock k (Some hardware) None far = (far_off now k hardware far, refl)
none_due now clock k (Some hardware) (Some execution) far =
    (far_off now k hardware (omega (arith, far)), far_off clock k execution (omega (arith, far)))
