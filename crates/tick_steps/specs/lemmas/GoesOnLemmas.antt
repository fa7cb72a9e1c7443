-- Where a program goes on after an instruction that called.
use Rattle.std.proofs.Common.{◌≡◌, ℕ, ◌+◌, Bool, true, false, List, refl, sym, ap, ◌∙◌}
use Rattle.std.specs.Prelude.{◌%◌, ◌^◌, ◌==◌, if◌then◌else◌, Result, Ok, Err}
use Rattle.guest_bus.specs.Memory.{Area, Memory, is_readable, is_writable}
use Rattle.sparc_step.specs.Execution.{refused as trapped, turned}
use Rattle.sparc_step.specs.Registers.{Registers, advanced}
use Rattle.sparc_step.specs.lemmas.UndoneLemmas.{turned-IsOrderly}
use Rattle.sparc_step.specs.declared.outcome.Turn.{Turn}
use Rattle.sparc_step.specs.declared.outcome.Turn.TheVariants.{Went, Trap, Call}
use Rattle.virt_traps.specs.Moves.{Moved, fill_address, filled, move_made, move_refused, spill_address, spill_window, spilled}
use Rattle.virt_traps.specs.SaveArea.{is_usable}
use Rattle.virt_traps.specs.Settled.{GoesOn, after_trap, again_or_trap, answered, made_again, settled}
use Rattle.virt_traps.specs.declared.windows.StackFault.{StackFault}

-- the program counter after a call is that of the next instruction
advanced_goes_on : (core before after : Registers) → before.pc ≡ core.pc → before.npc ≡ core.npc → after ≡ advanced before → GoesOn core after
unfolding advanced
advanced_goes_on core before after pc npc is = (ap (λ (r : Registers). r.pc) is ∙ npc, ap (λ (r : Registers). r.npc) is ∙ ap (λ n. (n + 4) % 2 ^ 32) npc)

-- a spill and a fill leave the program counters
abbrev KeepsCounters : Registers → Moved → Type 0
KeepsCounters core moved = (moved.core.pc ≡ core.pc) × (moved.core.npc ≡ core.npc)

spilled_stands : (areas : List Area) (core : Registers) (memory : Memory) → KeepsCounters core (spilled areas core memory)
unfolding spilled
spilled_stands areas core memory = at (is_usable (is_writable areas) (spill_address core)) _
  where
    at : (usable : Bool) (new : Memory) → KeepsCounters core (if usable then move_made (record core { inv = spill_window core }) new else move_refused core memory)
    at true new = (refl, refl)
    at false new = (refl, refl)

filled_stands : (areas : List Area) (core : Registers) (memory : Memory) → KeepsCounters core (filled areas core memory)
unfolding filled
filled_stands areas core memory = at (is_usable (is_readable areas) (fill_address core)) _
  where
    at : (usable : Bool) (windows : List ℕ) → KeepsCounters core (if usable then move_made (record core { windows = windows; inv = (core.inv + 1) % 8 }) memory else move_refused core memory)
    at true windows = (refl, refl)
    at false windows = (refl, refl)

-- where it goes on after a spill or a fill
again_goes_on : (type : ℕ) (areas : List Area) (core : Registers) (moved : Moved) → KeepsCounters core moved → (made_again type areas moved).turn ≡ Call
    → GoesOn core (made_again type areas moved).core
unfolding made_again
again_goes_on type areas core moved stands calls = at moved.answer calls
  where
    at : (answer : Result (Unit {0}) StackFault) → (again_or_trap answer type areas moved.core moved.memory).turn ≡ Call
        → GoesOn core (again_or_trap answer type areas moved.core moved.memory).core
    at (Ok made) calls = advanced_goes_on core moved.core _ stands.0 stands.1 ((turned-IsOrderly areas moved.core moved.memory).called calls)
    at (Err fault) calls = absurd cc

trap_goes_on : (type : ℕ) (areas : List Area) (core : Registers) (memory : Memory) → (after_trap type areas core memory).turn ≡ Call
    → GoesOn core (after_trap type areas core memory).core
unfolding after_trap
trap_goes_on type areas core memory calls = at (type == 5) (type == 6) calls
  where
    at : (overflow underflow : Bool)
        → (if overflow then made_again 5 areas (spilled areas core memory) else if underflow then made_again 6 areas (filled areas core memory) else trapped type core memory).turn ≡ Call
        → GoesOn core (if overflow then made_again 5 areas (spilled areas core memory) else if underflow then made_again 6 areas (filled areas core memory) else trapped type core memory).core
    at true underflow calls = again_goes_on 5 areas core (spilled areas core memory) (spilled_stands areas core memory) calls
    at false true calls = again_goes_on 6 areas core (filled areas core memory) (filled_stands areas core memory) calls
    at false false calls = absurd cc

-- where it goes on after an instruction that called
pub call_goes_on : (areas : List Area) (core : Registers) (memory : Memory) → (settled areas core memory).turn ≡ Call → GoesOn core (settled areas core memory).core
unfolding settled
call_goes_on areas core memory calls = at (turned areas core memory).turn refl calls
  where
    at : (t : Turn) → (turned areas core memory).turn ≡ t → (answered t (turned areas core memory) areas core memory).turn ≡ Call
        → GoesOn core (answered t (turned areas core memory) areas core memory).core
    at Went is calls = absurd (no (sym is ∙ calls))
      where
        no : Went ≡ Call → ⊥
        no e = cc
    at (Trap type) is calls = trap_goes_on type areas core memory calls
    at Call is calls = advanced_goes_on core core _ refl refl ((turned-IsOrderly areas core memory).called calls)
