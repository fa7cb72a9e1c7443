-- The laws on a slot or gap that goes on: ticks of it that are left are ticks of it, too.
use Rattle.std.specs.Prelude.{◌≡◌, ℕ, ◌+◌, ◌<◌, ◌≤◌, Bool, false, List, [], None}
use Rattle.cyclic_plans.specs.PlanClock.{IsInFrame}
use Rattle.machine_model.specs.Lines.{console, said}
use Rattle.machine_model.specs.Machine.{Machine, turn_of}
use Rattle.machine_model.specs.Partition.{PartitionState}
use Rattle.span_model.specs.SpanLaws.{others_rested}
use Rattle.span_model.specs.Spans.{IsSlotOf, IsSpan, IsStretch, after_span}

-- each of this many ticks of one slot or gap ends a span
abbrev pub LeftAreSpan : Type 0
LeftAreSpan =
    (g : Machine) (count last : ℕ) → g.halted ≡ false → IsInFrame g.system.conf g.clock g.time → IsStretch g count → last < count → IsSpan g last

-- the ticks after a part of a span
abbrev pub SpanGoesOn : Type 0
SpanGoesOn = (g : Machine) (end last more : ℕ) (parts : List PartitionState) → IsSpan g end → last + 1 + more ≤ end → IsSpan (after_span last parts g) more

-- they are in the slot of the same partition, and the slot does not begin
abbrev pub SlotGoesOn : Type 0
SlotGoesOn =
    (g : Machine) (end last p : ℕ) (first : Bool) (ps new : PartitionState) → IsSpan g end → last < end → IsSlotOf g p first ps →
    IsSlotOf (after_span last (others_rested last p new g) g) p false new

-- or in the same gap
abbrev pub GapGoesOn : Type 0
GapGoesOn = (g : Machine) (end last : ℕ) (parts : List PartitionState) → IsSpan g end → last < end → turn_of g ≡ None → turn_of (after_span last parts g) ≡ None

-- where no partition writes to a console, no UART gets a byte
abbrev pub SilentConsoles : Type 0
SilentConsoles = (g : Machine) (count uart : ℕ) → ((p : ℕ) → said g count p ≡ []) → console g count uart ≡ []
