-- Steps of a processor, one after another.
use Rattle.std.proofs.Common.{◌≡◌, ◌≢◌, ℕ, zero, suc, ◌+◌, ◌%◌, ◌<◌, List, refl, sym, ap, ◌∙◌, subst, arith}
use Rattle.std.proofs.lemmas.Bool.Decides.{nat_tests}
use Rattle.std.specs.Prelude.{◌==◌, true, false, IsErr, Ok, Err, Result}
use Rattle.guest_bus.specs.Memory.{Area, Memory, Others}
use Rattle.guest_memory.specs.Memories.{AreMemories, Memories, areas_at, map_at, others_of, with_map, with_selected}
use Rattle.guest_memory.specs.lemmas.SelectedLemmas.{changed_selected}
use Rattle.machine_model.specs.Partition.{PartitionState}
use Rattle.sparc_step.specs.Execution.{Turned}
use Rattle.sparc_step.specs.Registers.{Registers, advanced}
use Rattle.sparc_step.specs.declared.outcome.Turn.{Turn}
use Rattle.sparc_step.specs.declared.outcome.Turn.TheVariants.{Call, Trap, Went}
use Rattle.fast_loop.specs.Runs.{AreSteps, IsCall}
use Rattle.fast_loop.specs.lemmas.RunsLemmas.{steps_then}
use Rattle.virt_traps.specs.Stepping.{stepped, then_settled}
use Rattle.machine_model.specs.OwnEffects.{flushed, flushed_after}
use Rattle.virt_traps.specs.Moves.{Moved, move_made, spilled}
use Rattle.virt_traps.specs.Settled.{GoesOn, IsUndoneButSpill, settled}
use Rattle.virt_traps.specs.declared.windows.StackFault.{StackFault}
use Rattle.system_state.specs.Stepping.{IsGone, with_turned}
use Rattle.system_state.specs.lemmas.SteppingTerms.{IsMoved}

-- after a step that went, one more is settled
then_is : (t : Turned) (areas : List Area) → t.turn ≡ Went → then_settled t.turn areas t ≡ settled areas t.core t.memory
then_is t areas went = ap (λ (turn : Turn). then_settled turn areas t) went

-- the outcome of the next one
pub next_step : (count : ℕ) (areas here : List Area) (core after : Registers) (memory new : Memory) → here ≡ areas → AreSteps count areas core memory after new → settled here after new ≡ stepped (suc count) areas core memory
next_step count areas here core after memory new same steps =
    let t = stepped count areas core memory in
    ap (λ (a : List Area). settled a after new) same
    ∙ ap (λ (r : Registers). settled areas r new) steps.registers ∙ ap (λ (m : Memory). settled areas t.core m) steps.bytes
    ∙ sym (then_is t areas steps.went)

-- one more that went
pub one_step_more : (count next : ℕ) (areas here : List Area) (core after last : Registers) (memory new newest : Memory) (turn : Turn) → next ≡ suc count → here ≡ areas → AreSteps count areas core memory after new → turn ≡ Went → turn ≡ (settled here after new).turn → last ≡ (settled here after new).core → newest ≡ (settled here after new).memory
    → AreSteps next areas core memory last newest
one_step_more count next areas here core after last memory new newest turn next_is same steps went turn_is last_is newest_is =
    let one = next_step count areas here core after memory new same steps in
    subst (λ (n : ℕ). AreSteps n areas core memory last newest) (sym next_is) (record {
      went = sym (ap (λ (x : Turned). x.turn) one) ∙ sym turn_is ∙ went;
      registers = last_is ∙ ap (λ (x : Turned). x.core) one;
      bytes = newest_is ∙ ap (λ (x : Turned). x.memory) one;
    })

-- the steps of a straight run after others
pub run_more : (count ran total : ℕ) (areas here : List Area) (core after last : Registers) (memory new newest : Memory) → total ≡ ran + count → here ≡ areas → AreSteps count areas core memory after new → AreSteps ran here after new last newest
    → AreSteps total areas core memory last newest
run_more count ran total areas here core after last memory new newest is same steps more =
    subst (λ (n : ℕ). AreSteps n areas core memory last newest) (sym is)
    (steps_then ran count areas core after last memory new newest steps (subst (λ (a : List Area). AreSteps ran a after new last newest) same more))

-- what is known of a step is known of the one after others
step_after : (P : List Area → Registers → Memory → Type 0) (count : ℕ) (areas here : List Area) (core after : Registers) (memory new : Memory) → here ≡ areas → AreSteps count areas core memory after new → P here after new
    → P areas (stepped count areas core memory).core (stepped count areas core memory).memory
step_after P count areas here core after memory new same steps known =
    subst (λ (m : Memory). P areas (stepped count areas core memory).core m) steps.bytes
    (subst (λ (r : Registers). P areas r new) steps.registers (subst (λ (a : List Area). P a after new) same known))

-- a step that trapped, after others
pub trapped_after : (count most type : ℕ) (areas here : List Area) (core after last : Registers) (memory new newest : Memory) → count < most → here ≡ areas → AreSteps count areas core memory after new
    → Trap type ≡ (settled here after new).turn → last ≡ (settled here after new).core → newest ≡ (settled here after new).memory → IsUndoneButSpill (Trap type) here after last new newest
    → IsGone (Trap type) count most areas (stepped count areas core memory) last newest
trapped_after count most type areas here core after last memory new newest below same steps turn_is last_is newest_is undone =
    let known = step_after (λ a r m. ((settled a r m).turn ≡ Trap type) × (last ≡ (settled a r m).core) × (newest ≡ (settled a r m).memory) × IsUndoneButSpill (Trap type) a r last m newest)
    count areas here core after memory new same steps (sym turn_is, last_is, newest_is, undone) in
    (below, known.0, known.1, known.2, known.3)

-- a step that called
pub called_after : (count most : ℕ) (areas here : List Area) (core after last : Registers) (memory new newest : Memory) → count < most → here ≡ areas → AreSteps count areas core memory after new
    → Call ≡ (settled here after new).turn → last ≡ (settled here after new).core → newest ≡ (settled here after new).memory
    → IsGone Call count most areas (stepped count areas core memory) last newest
called_after count most areas here core after last memory new newest below same steps turn_is last_is newest_is =
    let known = step_after (λ a r m. ((settled a r m).turn ≡ Call) × (last ≡ (settled a r m).core) × (newest ≡ (settled a r m).memory))
    count areas here core after memory new same steps (sym turn_is, last_is, newest_is) in
    (below, known.0, known.1, known.2)

-- a call that a straight run met
pub call_met : (turn : Turn) (went count most : ℕ) (areas here : List Area) (core after last : Registers) (memory new : Memory) → turn ≡ Call → went ≡ count → count < most → here ≡ areas → AreSteps count areas core memory after new
    → IsCall here after new → last ≡ advanced after → IsGone turn went most areas (stepped went areas core memory) last new
call_met turn went count most areas here core after last memory new turn_is went_is below same steps call last_is =
    subst (λ (t : Turn). IsGone t went most areas (stepped went areas core memory) last new) (sym turn_is)
    (subst (λ (n : ℕ). IsGone Call n most areas (stepped n areas core memory) last new) (sym went_is)
    (called_after count most areas here core after last memory new new below same steps
    (sym (ap (λ (t : Turned). t.turn) call)) (last_is ∙ sym (ap (λ (t : Turned). t.core) call)) (sym (ap (λ (t : Turned). t.memory) call))))

-- the steps before it went, and left its program counter
pub call_went : (went count : ℕ) (areas : List Area) (core : Registers) (memory : Memory) (after : Registers) (new : Memory) → went ≡ count → AreSteps count areas core memory after new → (stepped went areas core memory).turn ≡ Went
call_went went count areas core memory after new went_is steps = ap (λ (n : ℕ). (stepped n areas core memory).turn) went_is ∙ steps.went

pub call_at : (went count : ℕ) (areas : List Area) (core : Registers) (memory : Memory) (after : Registers) (new : Memory) → went ≡ count → AreSteps count areas core memory after new → after.pc ≡ (stepped went areas core memory).core.pc
call_at went count areas core memory after new went_is steps = ap (λ (r : Registers). r.pc) steps.registers ∙ sym (ap (λ (n : ℕ). (stepped n areas core memory).core.pc) went_is)

-- what steps leave of all memories, where partition p was selected for them
pub selected_changed : (p : ℕ) (old mid new : Memories) → mid ≡ with_selected p old → AreMemories mid → AreMemories new → others_of new ≡ others_of mid → areas_at new.selected new ≡ areas_at mid.selected mid → new ≡ with_selected p (with_map p (map_at p new) old)
selected_changed p old mid new is were are same areas_same =
    let number : new.selected ≡ p = ap (λ (o : Others). o.number) same ∙ ap (λ (m : Memories). m.selected) is in
    changed_selected mid new were are same areas_same
    ∙ ap (λ (k : ℕ). with_map mid.selected (map_at k new) mid) number
    ∙ ap (λ (m : Memories). with_map m.selected (map_at p new) m) is

-- and where what it leaves of the selected memory is known
pub selected_became : (p : ℕ) (old mid new : Memories) (memory : Memory) → mid ≡ with_selected p old → AreMemories mid → AreMemories new → others_of new ≡ others_of mid → areas_at new.selected new ≡ areas_at mid.selected mid
    → map_at new.selected new ≡ memory → new ≡ with_selected p (with_map p memory old)
selected_became p old mid new memory is were are same areas_same became =
    let number : new.selected ≡ p = ap (λ (o : Others). o.number) same ∙ ap (λ (m : Memories). m.selected) is in
    selected_changed p old mid new is were are same areas_same
    ∙ ap (λ (m : Memory). with_selected p (with_map p m old)) (ap (λ (k : ℕ). map_at k new) (sym number) ∙ became)

-- the outcome of steps, of a partition as it is seen
pub gone_seen : (turn : Turn) (went most : ℕ) (here areas : List Area) (before after seen_before seen_after : PartitionState) → here ≡ areas → seen_before ≡ before → seen_after ≡ after
    → IsGone turn went most here (stepped went here before.core before.memory) after.core after.memory → IsGone turn went most areas (stepped went areas seen_before.core seen_before.memory) seen_after.core seen_after.memory
gone_seen turn went most here areas before after seen_before seen_after same before_is after_is gone =
    subst (λ (x : PartitionState). IsGone turn went most areas (stepped went areas seen_before.core seen_before.memory) x.core x.memory) (sym after_is)
    (subst (λ (x : PartitionState). IsGone turn went most areas (stepped went areas x.core x.memory) after.core after.memory) (sym before_is)
    (subst (λ (a : List Area). IsGone turn went most a (stepped went a before.core before.memory) after.core after.memory) same gone))

-- what they leave of it
pub turned_seen : (before after seen_before seen_after : PartitionState) → seen_before ≡ before → seen_after ≡ after → after ≡ with_turned after.core after.memory before → after ≡ with_turned seen_after.core seen_after.memory seen_before
turned_seen before after seen_before seen_after before_is after_is turned =
    turned
    ∙ ap (λ (x : PartitionState). with_turned x.core x.memory before) (sym after_is)
    ∙ ap (λ (x : PartitionState). with_turned seen_after.core seen_after.memory x) (sym before_is)

-- a call's registers, of a partition as it is seen
pub called_seen : (turn : Turn) (before after seen_before seen_after : PartitionState) → seen_before ≡ before → seen_after ≡ after → (turn ≡ Call → GoesOn before.core after.core) → turn ≡ Call → GoesOn seen_before.core seen_after.core
called_seen turn before after seen_before seen_after before_is after_is goes call =
    subst (λ (x : PartitionState). GoesOn x.core seen_after.core) (sym before_is)
    (subst (λ (x : PartitionState). GoesOn before.core x.core) (sym after_is) (goes call))

-- the outcome of a spill or a fill, by its parts
moved_is : (moved : Moved) (core : Registers) (memory : Memory) → moved.answer ≡ Ok tt → core ≡ moved.core → memory ≡ moved.memory → moved ≡ move_made core memory
moved_is moved core memory answer core_is memory_is = λ i. record { answer = answer i; core = sym core_is i; memory = sym memory_is i }

-- a flush ends where all windows but the current one are spilled
pub flush_ended : (count : ℕ) (areas : List Area) (core : Registers) (memory : Memory) → (core.cwp + 1) % 8 ≡ core.inv → flushed count areas (move_made core memory) ≡ move_made core memory
flush_ended zero areas core memory all = refl
flush_ended (suc count) areas core memory all =
    let test : ((core.cwp + 1) % 8 == core.inv) ≡ true = grind (arith, nat_tests) in
    rw test

-- otherwise it spills one
flush_spills : (left count : ℕ) (areas : List Area) (core : Registers) (memory : Memory) → left ≡ suc count → (core.cwp + 1) % 8 ≢ core.inv
    → flushed left areas (move_made core memory) ≡ flushed_after (flushed count areas) (spilled areas core memory) (spilled areas core memory).answer
flush_spills left count areas core memory left_is some =
    let test : ((core.cwp + 1) % 8 == core.inv) ≡ false = grind (arith, nat_tests) in
    rw (left_is, test)

-- and goes on after it
pub flush_more : (left count : ℕ) (areas : List Area) (core new : Registers) (memory newest : Memory) → left ≡ suc count → (core.cwp + 1) % 8 ≢ core.inv
    → (spilled areas core memory).answer ≡ Ok tt → new ≡ (spilled areas core memory).core → newest ≡ (spilled areas core memory).memory
    → flushed left areas (move_made core memory) ≡ flushed count areas (move_made new newest)
flush_more left count areas core new memory newest left_is some answer core_is memory_is =
    flush_spills left count areas core memory left_is some
    ∙ ap (flushed_after (flushed count areas) (spilled areas core memory)) answer
    ∙ ap (flushed count areas) (moved_is (spilled areas core memory) new newest answer core_is memory_is)

-- unless its stack cannot be used
pub flush_refused : (left count : ℕ) (areas : List Area) (core : Registers) (memory : Memory) (fault : StackFault) → left ≡ suc count → (core.cwp + 1) % 8 ≢ core.inv
    → (spilled areas core memory).answer ≡ Err fault → flushed left areas (move_made core memory) ≡ spilled areas core memory
flush_refused left count areas core memory fault left_is some answer =
    flush_spills left count areas core memory left_is some
    ∙ ap (flushed_after (flushed count areas) (spilled areas core memory)) answer

-- there is one fault only
pub fault_is : (answer : Result (Unit {0}) StackFault) (fault : StackFault) → IsErr answer → answer ≡ Err fault
fault_is (Ok all) fault is = let none : false ≡ true = is in cc
fault_is (Err other) fault is = refl

-- what is moved, stated otherwise
pub moved_as : (answer : Result (Unit {0}) StackFault) (core : Registers) (memory : Memory) (moved stated : Moved) → moved ≡ stated → IsMoved answer core memory moved → IsMoved answer core memory stated
moved_as answer core memory moved stated same is = subst (IsMoved answer core memory) same is
