-- A timer that is looked at twice.
use Rattle.std.proofs.Common.{◌≡◌, ℕ, ◌+◌, ◌-◌, ◌*◌, ◌/◌, ◌<◌, ◌≤◌, Bool, true, false, nat_lt, nat_le, ◌||◌, Option, Some, None, refl, sym, ap, ◌∙◌, arith}
use Rattle.std.proofs.lemmas.Bool.Decides.{nat_tests}
use Rattle.std.specs.Prelude.{◌==◌, ◌^◌, if◌then◌else◌, is_some}
use Rattle.std.proofs.Math.Nat.{add-mul-div_right, div-mul-le_self, lt-div-mul-add}
use Rattle.std.proofs.lemmas.Nat.{div-mul-add}
use Rattle.virt_clocks.specs.Clocks.{NoneCounted, PartitionClocks, if_counting, is_due, lesser, looked_at, moved_to, next_deadline, next_due, rearmed, ticks_until}
use Rattle.virt_clocks.specs.declared.timer.Timer.{Timer}

-- a timer that is not due stays as it is
pub stays_undue : (clock : ℕ) (timer : Option Timer) → is_due clock timer ≡ false → looked_at clock timer ≡ timer
unfolding looked_at
stays_undue clock None undue = refl
stays_undue clock (Some timer) undue = rw undue refl

-- none of two timers is armed
abbrev pub AreAbsent : Option Timer → Option Timer → Type 0
AreAbsent hardware execution = (is_some hardware || is_some execution) ≡ false

absent_first : (hardware execution : Option Timer) → AreAbsent hardware execution → hardware ≡ None
absent_first None execution absent = refl
absent_first (Some timer) execution absent = cc

absent_second : (hardware execution : Option Timer) → AreAbsent hardware execution → execution ≡ None
absent_second hardware None absent = refl
absent_second None (Some timer) absent = cc
absent_second (Some one) (Some timer) absent = cc

counted_none : (running : Bool) → if_counting running None ≡ None
counted_none true = refl
counted_none false = refl

-- no timer is counted then, and none is due
pub none_counted : (running : Bool) (clocks : PartitionClocks) → AreAbsent clocks.hardware_timer clocks.execution_timer → NoneCounted running clocks
none_counted running clocks absent = record {
  hardware = absent_first clocks.hardware_timer clocks.execution_timer absent;
  execution = ap (λ (timer : Option Timer). if_counting running timer) (absent_second clocks.hardware_timer clocks.execution_timer absent) ∙ counted_none running;
}

pub none_next : (now : ℕ) (running : Bool) (clocks : PartitionClocks) → AreAbsent clocks.hardware_timer clocks.execution_timer → None ≡ next_due now running clocks
unfolding next_due
none_next now running clocks absent =
    let none = none_counted running clocks absent in
    sym (ap (λ (timer : Option Timer). lesser (ticks_until now timer) (ticks_until clocks.execution (if_counting running clocks.execution_timer))) none.hardware
    ∙ ap (λ (timer : Option Timer). lesser None (ticks_until clocks.execution timer)) none.execution)

-- this many whole intervals, and less than one more
whole : (span count interval : ℕ) → count * interval ≤ span → span < (count + 1) * interval → span / interval ≡ count
whole span count interval at_least less =
    let apart : span ≡ count * interval + (span - count * interval) = omega (arith, at_least) in
    let short : span - count * interval < interval = omega (arith, at_least, less) in
    ap (λ (n : ℕ). n / interval) apart ∙ div-mul-add count interval (span - count * interval) short

-- the next deadline is past the clock
next_past : (clock : ℕ) (timer : Timer) → timer.deadline ≤ clock → 0 < timer.interval → clock < next_deadline clock timer
next_past clock timer due some =
    let more : clock - timer.deadline < (clock - timer.deadline) / timer.interval * timer.interval + timer.interval = lt-div-mul-add some in
    omega (arith, due, more)

-- it stays the next one as long as the clock is before it
next_stays : (first later : ℕ) (timer : Timer) → timer.deadline ≤ first → first ≤ later → 0 < timer.interval → later < next_deadline first timer
    → next_deadline later timer ≡ next_deadline first timer
next_stays first later timer due order some before =
    let least : (first - timer.deadline) / timer.interval * timer.interval ≤ first - timer.deadline = div-mul-le_self (first - timer.deadline) timer.interval in
    let same : (later - timer.deadline) / timer.interval ≡ (first - timer.deadline) / timer.interval =
    whole (later - timer.deadline) ((first - timer.deadline) / timer.interval) timer.interval (omega (arith, least, due, order)) (omega (arith, due, order, before)) in
    ap (λ (n : ℕ). timer.deadline + (n + 1) * timer.interval) same

-- this many intervals from a deadline, and this many more from there
together : (deadline count more interval : ℕ) → deadline + count * interval + (more + 1) * interval ≡ deadline + (more + count + 1) * interval
together deadline count more interval = omega arith

-- a timer that was moved on to it has the same next one at a later clock
next_moved : (first later : ℕ) (timer : Timer) → timer.deadline ≤ first → first ≤ later → 0 < timer.interval → next_deadline first timer ≤ later
    → next_deadline later (record timer { deadline = next_deadline first timer }) ≡ next_deadline later timer
next_moved first later timer due order some past =
    let span : later - timer.deadline ≡ (later - next_deadline first timer) + ((first - timer.deadline) / timer.interval + 1) * timer.interval = omega (arith, due, order, past) in
    let count : (later - timer.deadline) / timer.interval ≡ (later - next_deadline first timer) / timer.interval + ((first - timer.deadline) / timer.interval + 1) =
    ap (λ (n : ℕ). n / timer.interval) span
    ∙ add-mul-div_right (later - next_deadline first timer) ((first - timer.deadline) / timer.interval + 1) some in
    let ahead : next_deadline first timer + ((later - next_deadline first timer) / timer.interval + 1) * timer.interval
    ≡ timer.deadline + ((later - next_deadline first timer) / timer.interval + ((first - timer.deadline) / timer.interval + 1) + 1) * timer.interval =
    together timer.deadline ((first - timer.deadline) / timer.interval + 1) ((later - next_deadline first timer) / timer.interval) timer.interval in
    ahead ∙ ap (λ (n : ℕ). timer.deadline + (n + 1) * timer.interval) (sym count)

-- what a look leaves of a timer that was moved on
moved_again : (first later : ℕ) (timer : Timer) → timer.deadline ≤ first → first ≤ later → (timer.interval == 0) ≡ false
    → looked_at later (moved_to (next_deadline first timer) timer) ≡ moved_to (next_deadline later timer) timer
unfolding looked_at
moved_again first later timer due order armed = fits (nat_lt (next_deadline first timer) (2 ^ 63)) refl
  where
    some : 0 < timer.interval
    some = grind (arith, nat_tests)

    past : (b : Bool) → nat_le (next_deadline first timer) later ≡ b → nat_lt (next_deadline first timer) (2 ^ 63) ≡ true
        → (if b then rearmed later (record timer { deadline = next_deadline first timer }) else Some (record timer { deadline = next_deadline first timer }))
        ≡ moved_to (next_deadline later timer) timer
    past true is few =
        let at : next_deadline first timer ≤ later = grind (arith, nat_tests) in
        rw armed (ap (λ (n : ℕ). moved_to n timer) (next_moved first later timer due order some at))
    past false is few =
        let before : later < next_deadline first timer = grind (arith, nat_tests) in
        rw (next_stays first later timer due order some before, few)

    too_great : (b : Bool) → nat_le (next_deadline first timer) later ≡ b → nat_lt (next_deadline first timer) (2 ^ 63) ≡ false
        → nat_lt (next_deadline later timer) (2 ^ 63) ≡ false
    too_great true is many =
        let following : later < next_deadline later timer = next_past later timer (omega (arith, due, order)) some in
        grind (arith, nat_tests)
    too_great false is many =
        let before : later < next_deadline first timer = grind (arith, nat_tests) in
        rw (next_stays first later timer due order some before) many

    fits : (b : Bool) → nat_lt (next_deadline first timer) (2 ^ 63) ≡ b
        → looked_at later (if b then Some (record timer { deadline = next_deadline first timer }) else None) ≡ moved_to (next_deadline later timer) timer
    fits true is = past (nat_le (next_deadline first timer) later) refl is
    fits false is =
        let great : nat_lt (next_deadline later timer) (2 ^ 63) ≡ false = too_great (nat_le (next_deadline first timer) later) refl is in
        rw great refl

-- a later look leaves what it would leave without the first
pub looks_again : (first later : ℕ) (timer : Option Timer) → first ≤ later → looked_at later (looked_at first timer) ≡ looked_at later timer
unfolding looked_at
looks_again first later None order = refl
looks_again first later (Some timer) order = due (nat_le timer.deadline first) refl
  where
    rearms : (b : Bool) → (timer.interval == 0) ≡ b → timer.deadline ≤ first
        → looked_at later (if b then None else moved_to (next_deadline first timer) timer) ≡ (if b then None else moved_to (next_deadline later timer) timer)
    rearms true is at = refl
    rearms false is at = moved_again first later timer at order is

    due : (b : Bool) → nat_le timer.deadline first ≡ b → looked_at later (if b then rearmed first timer else Some timer) ≡ looked_at later (Some timer)
    due true is =
        let at : timer.deadline ≤ first = grind (arith, nat_tests) in
        let due_later : nat_le timer.deadline later ≡ true = grind (arith, nat_tests) in
        rw due_later (rearms (timer.interval == 0) refl at)
    due false is = refl

-- it finds the timer due exactly where it was due at one of the two looks
pub due_at_either : (first later : ℕ) (timer : Option Timer) → first ≤ later → is_due later timer ≡ (is_due first timer || is_due later (looked_at first timer))
unfolding looked_at
due_at_either first later None order = refl
due_at_either first later (Some timer) order = due (nat_le timer.deadline first) refl
  where
    due : (b : Bool) → nat_le timer.deadline first ≡ b → nat_le timer.deadline later ≡ (b || is_due later (if b then rearmed first timer else Some timer))
    due true is = grind (arith, nat_tests)
    due false is = refl
