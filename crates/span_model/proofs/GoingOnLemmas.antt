-- A slot or gap that goes on after a part of its ticks.
use Rattle.std.proofs.Common.{◌≡◌, ℕ, zero, suc, ◌+◌, ◌≤◌, Bool, true, false, List, [], ◌∷◌, ◌++◌, None, refl, sym, ap, subst, ◌∙◌, arith}
use Rattle.std.specs.Prelude.{if◌then◌else◌}
use Rattle.cyclic_plans.specs.PlanClock.{slot_at}
use Rattle.machine_model.specs.Lines.{console, has_console, said, step_console, step_said}
use Rattle.machine_model.specs.Machine.{Machine, step, turn_of}
use Rattle.machine_model.specs.Partition.{PartitionState, rested}
use Rattle.span_model.specs.GoingOn.{GapGoesOn, LeftAreSpan, SilentConsoles, SlotGoesOn, SpanGoesOn}
use Rattle.span_model.specs.SpanLaws.{others_rested}
use Rattle.span_model.specs.Spans.{IsSlotOf, IsSpan, inside}
use Rattle.span_model.proofs.InsideLemmas.{gap_inside, turn_inside}
use Rattle.span_model.proofs.ListLemmas.{none_of}
use Rattle.span_model.proofs.PassLemmas.{get_set_map}
use Rattle.span_model.proofs.SpanLemmas.{span_inside}

-- each tick that is left ends a span
pub left_are_span : LeftAreSpan
left_are_span g count last runs frame left below =
    let within = left.within in
    record {
      running = runs;
      begun = frame.begun;
      within = omega (arith, within, below);
      alike = λ k up_to. left.alike k (omega (arith, up_to, below));
    }

-- the ticks that are left inside a span
inside_goes_on : (g : Machine) (end done more : ℕ) (parts : List PartitionState) → IsSpan g end → done + more ≤ end → IsSpan (inside done parts g) more
inside_goes_on g end done more parts span fits =
    let begun = span.begun in
    let within = span.within in
    record {
      running = span.running;
      begun = omega (arith, begun);
      within = omega (arith, within, fits);
      alike = λ k up_to.
          let together : g.time + done + k ≡ g.time + (done + k) = omega arith in
          ap (slot_at g.system.conf g.clock) together ∙ span.alike (done + k) (omega (arith, fits, up_to)) ∙ sym (span.alike done (omega (arith, fits)));
    }

-- the ticks after a part of a span
pub span_goes_on : SpanGoesOn
span_goes_on g end last more parts span fits =
    subst (λ (m : Machine). IsSpan m more) (sym (span_inside g last end parts span (omega (arith, fits))))
    (inside_goes_on g end (suc last) more parts span (omega (arith, fits)))

-- they are in the slot of the same partition
pub slot_goes_on : SlotGoesOn
slot_goes_on g end last p first ps new span below slot =
    subst (λ (m : Machine). IsSlotOf m p false new) (sym (span_inside g last end (others_rested last p new g) span below))
    (record {
      turn = turn_inside g (suc last) end p first (others_rested last p new g) span (omega (arith, below)) slot.turn;
      there = get_set_map (rested (g.time + last)) g.parts p ps new slot.there;
    })

-- or in the same gap
pub gap_goes_on : GapGoesOn
gap_goes_on g end last parts span below gap =
    subst (λ (m : Machine). turn_of m ≡ None) (sym (span_inside g last end parts span below))
    (gap_inside g (suc last) end parts span (omega (arith, below)) gap)

-- two lists that are empty
first_none : {X : Type 0} (a b : List X) → a ++ b ≡ [] → a ≡ []
first_none [] b none = refl
first_none (x ∷ a) b none = absurd cc

second_none : {X : Type 0} (a b : List X) → a ++ b ≡ [] → b ≡ []
second_none [] b none = none
second_none (x ∷ a) b none = absurd cc

-- the bytes of a partition that has this console, where there are none
none_if : (b : Bool) (bytes : List ℕ) → bytes ≡ [] → (if b then bytes else []) ≡ []
none_if true bytes none = none
none_if false bytes none = refl

-- in one tick
silent_tick : (g : Machine) (uart : ℕ) → ((p : ℕ) → step_said g p ≡ []) → step_console g uart ≡ []
unfolding step_console
silent_tick g uart none = none_of (λ p ps. if has_console g uart p then step_said g p else []) g.parts (λ p ps. none_if (has_console g uart p) (step_said g p) (none p))

-- where no partition writes to a console, no UART gets a byte
pub silent_consoles : SilentConsoles
silent_consoles g zero uart none = refl
silent_consoles g (suc count) uart none =
    ap (λ bytes. bytes ++ console (step g) count uart) (silent_tick g uart (λ p. first_none (step_said g p) (said (step g) count p) (none p)))
    ∙ silent_consoles (step g) count uart (λ p. second_none (step_said g p) (said (step g) count p) (none p))
