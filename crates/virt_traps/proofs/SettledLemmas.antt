-- What a step with its spill or fill leaves, by cases on the outcome of its instruction.
use Rattle.std.specs.Prelude.{◌≡◌, ◌≢◌, ℕ, ◌+◌, ◌%◌, ◌^◌, Bool, true, false, if◌then◌else◌, ◌==◌, List, Result, Ok, Err, IsErr, IsOk, is_err, is_ok}
use Rattle.std.proofs.Common.{refl, sym, ◌∙◌, ap, subst, inl, inr, arith}
use Rattle.std.proofs.lemmas.Bool.Decides.{nat_tests}
use Rattle.guest_bus.specs.Access.{fetched}
use Rattle.guest_bus.specs.Memory.{Area, Memory, is_readable, is_writable}
use Rattle.sparc_step.specs.Execution.{Turned, refused as trapped, turned}
use Rattle.sparc_step.specs.Registers.{Registers, advanced}
use Rattle.sparc_step.specs.Undone.{IsUndone}
use Rattle.sparc_step.specs.lemmas.UndoneLemmas.{turned-IsOrderly}
use Rattle.sparc_step.specs.lemmas.WindowTraps.{HasWindowTraps, turned-HasWindowTraps}
use Rattle.sparc_step.specs.declared.outcome.Turn.{Turn}
use Rattle.sparc_step.specs.declared.outcome.Turn.TheVariants.{Went, Trap, Call}
use Rattle.virt_traps.specs.Moves.{Moved, fill_address, filled, move_made, move_refused, spill_address, spill_window, spilled}
use Rattle.virt_traps.specs.SaveArea.{is_usable}
use Rattle.virt_traps.specs.Settled.{FailsAlone, GoesOn, IsUndoneButSpill, Unchanged, after_trap, again_or_trap, answered, made_again, settled}
use Rattle.virt_traps.specs.declared.windows.StackFault.{StackFault}

-- what a spill or a fill leaves as it was, and which window is the invalid one after it
pub record Keeps (core : Registers) (memory : Memory) (invalid : ℕ) (moved : Moved) : Type 0 where
  pub pc : moved.core.pc ≡ core.pc
  pub npc : moved.core.npc ≡ core.npc
  pub cwp : moved.core.cwp ≡ core.cwp
  pub inv : IsOk moved.answer → moved.core.inv ≡ invalid
  pub refused : IsErr moved.answer → Unchanged core moved.core memory moved.memory

-- so does a spill
pub spilled_keeps : (areas : List Area) (core : Registers) (memory : Memory) → Keeps core memory ((core.inv + 7) % 8) (spilled areas core memory)
unfolding spilled
spilled_keeps areas core memory = at (is_usable (is_writable areas) (spill_address core)) _
  where
    at : (usable : Bool) (new : Memory) → Keeps core memory ((core.inv + 7) % 8) (if usable then move_made (record core { inv = spill_window core }) new else move_refused core memory)
    at true new = record { pc = refl; npc = refl; cwp = refl; inv = λ is. refl; refused = λ is. absurd (no_fault is) }
      where
        no_fault : false ≡ true → ⊥
        no_fault e = cc
    at false new = record { pc = refl; npc = refl; cwp = refl; inv = λ is. absurd (no_value is); refused = λ is. (refl, refl) }
      where
        no_value : false ≡ true → ⊥
        no_value e = cc

-- so does a fill, which writes nothing
pub record KeepsBytes (core : Registers) (memory : Memory) (invalid : ℕ) (moved : Moved) : Type 0 where
  pub keeps : Keeps core memory invalid moved
  pub bytes : moved.memory ≡ memory

pub filled_keeps : (areas : List Area) (core : Registers) (memory : Memory) → KeepsBytes core memory ((core.inv + 1) % 8) (filled areas core memory)
unfolding filled
filled_keeps areas core memory = at (is_usable (is_readable areas) (fill_address core)) _
  where
    at : (usable : Bool) (windows : List ℕ) → KeepsBytes core memory ((core.inv + 1) % 8) (if usable then move_made (record core { windows = windows; inv = (core.inv + 1) % 8 }) memory else move_refused core memory)
    at true windows = record { keeps = record { pc = refl; npc = refl; cwp = refl; inv = λ is. refl; refused = λ is. absurd (no_fault is) }; bytes = refl }
      where
        no_fault : false ≡ true → ⊥
        no_fault e = cc
    at false windows = record { keeps = record { pc = refl; npc = refl; cwp = refl; inv = λ is. absurd (no_value is); refused = λ is. (refl, refl) }; bytes = refl }
      where
        no_value : false ≡ true → ⊥
        no_value e = cc

-- what is promised of a step
pub record IsSettled (areas : List Area) (core : Registers) (memory : Memory) (t : Turned) : Type 0 where
  pub failed : FailsAlone t.turn areas core t.core memory t.memory
  pub trapped : IsUndoneButSpill t.turn areas core t.core memory t.memory
  pub called : t.turn ≡ Call → GoesOn core t.core

-- a call goes on after its instruction
advanced_goes_on : (core before after : Registers) → before.pc ≡ core.pc → before.npc ≡ core.npc → after ≡ advanced before → GoesOn core after
unfolding advanced
advanced_goes_on core before after pc npc is = (ap (λ (r : Registers). r.pc) is ∙ npc, ap (λ (r : Registers). r.npc) is ∙ ap (λ n. (n + 4) % 2 ^ 32) npc)

-- a trap left all as before, a case at a time
undone_but_spill : (t : Turn) (areas : List Area) (core after : Registers) (old new : Memory) → IsUndone t core after old new → IsUndoneButSpill t areas core after old new
undone_but_spill Went areas core after old new undone = tt
undone_but_spill (Trap type) areas core after old new undone = inl undone
undone_but_spill Call areas core after old new undone = tt

module _ (areas : List Area) (core : Registers) (memory : Memory) where
  -- the instruction alone, where its outcome is no window trap
  alone : (turned areas core memory).turn ≢ Trap 5 → (turned areas core memory).turn ≢ Trap 6 → IsSettled areas core memory (turned areas core memory)
  alone no_overflow no_underflow =
      let orderly = turned-IsOrderly areas core memory in
      record {
        failed = record { overflow = λ is. absurd (no_overflow is); underflow = λ is. absurd (no_underflow is) };
        trapped = undone_but_spill _ areas core _ memory _ orderly.undone;
        called = λ is. advanced_goes_on core core _ refl refl (orderly.called is);
      }

  -- where a spill was made and the instruction came again
  pub again_spilled : (turned areas core memory).turn ≡ Trap 5 → IsOk (spilled areas core memory).answer → IsSettled areas core memory (turned areas (spilled areas core memory).core (spilled areas core memory).memory)
  again_spilled overflow made =
      let keeps = spilled_keeps areas core memory in
      let first = turned-HasWindowTraps areas core memory in
      let second = turned-HasWindowTraps areas (spilled areas core memory).core (spilled areas core memory).memory in
      let orderly = turned-IsOrderly areas (spilled areas core memory).core (spilled areas core memory).memory in
      record {
        failed = record { overflow = λ is. absurd (no_overflow (first.overflow overflow) keeps.cwp (keeps.inv made) (second.overflow is)); underflow = λ is. absurd (no_underflow (first.overflow overflow) keeps.cwp (keeps.inv made) (second.underflow is)) };
        trapped = at _ refl;
        called = λ is. advanced_goes_on core (spilled areas core memory).core _ keeps.pc keeps.npc (orderly.called is);
      }
    where
      no_overflow : {cwp inv new_cwp new_inv : ℕ} → (cwp + 7) % 8 ≡ inv → new_cwp ≡ cwp → new_inv ≡ (inv + 7) % 8 → (new_cwp + 7) % 8 ≡ new_inv → ⊥
      no_overflow a b d e = omega arith

      no_underflow : {cwp inv new_cwp new_inv : ℕ} → (cwp + 7) % 8 ≡ inv → new_cwp ≡ cwp → new_inv ≡ (inv + 7) % 8 → (new_cwp + 1) % 8 ≡ new_inv → ⊥
      no_underflow a b d e = omega arith

      at : (t : Turn) → (turned areas (spilled areas core memory).core (spilled areas core memory).memory).turn ≡ t → IsUndoneButSpill t areas core (turned areas (spilled areas core memory).core (spilled areas core memory).memory).core memory (turned areas (spilled areas core memory).core (spilled areas core memory).memory).memory
      at Went is = tt
      at (Trap type) is = inr (record { overflow = overflow; made = made; registers = undone.0; bytes = undone.1; overwritten = overwritten })
        where
          undone : Unchanged (spilled areas core memory).core (turned areas (spilled areas core memory).core (spilled areas core memory).memory).core (spilled areas core memory).memory (turned areas (spilled areas core memory).core (spilled areas core memory).memory).memory
          undone = subst (λ t. IsUndone t (spilled areas core memory).core (turned areas (spilled areas core memory).core (spilled areas core memory).memory).core (spilled areas core memory).memory (turned areas (spilled areas core memory).core (spilled areas core memory).memory).memory) is (turned-IsOrderly areas (spilled areas core memory).core (spilled areas core memory).memory).undone

          valid : {cwp inv new_cwp new_inv : ℕ} → (cwp + 7) % 8 ≡ inv → new_cwp ≡ cwp → new_inv ≡ (inv + 7) % 8 → (new_cwp + 7) % 8 ≢ new_inv
          valid a b d = omega arith

          went_on : Trap type ≡ Went → ⊥
          went_on e = cc

          overwritten : fetched areas (turned areas (spilled areas core memory).core (spilled areas core memory).memory).memory core.pc ≢ fetched areas memory core.pc
          overwritten same =
              let keeps = spilled_keeps areas core memory in
              let first = turned-HasWindowTraps areas core memory in
              let word = ap (fetched areas (spilled areas core memory).memory) keeps.pc ∙ ap (λ m. fetched areas m core.pc) (sym undone.1) ∙ same in
              went_on (sym is ∙ first.after_overflow overflow (spilled areas core memory).core (spilled areas core memory).memory word (valid (first.overflow overflow) keeps.cwp (keeps.inv made)))
      at Call is = tt

  -- where it was refused
  spill_refused : (turned areas core memory).turn ≡ Trap 5 → IsErr (spilled areas core memory).answer → IsSettled areas core memory (trapped 5 (spilled areas core memory).core (spilled areas core memory).memory)
  spill_refused overflow refused =
      let unchanged = (spilled_keeps areas core memory).refused refused in
      record {
        failed = record { overflow = λ is. (overflow, refused, unchanged); underflow = λ is. absurd (other is) };
        trapped = inl unchanged;
        called = λ is. absurd (no_call is);
      }
    where
      other : Trap 5 ≡ Trap 6 → ⊥
      other e = cc

      no_call : Trap 5 ≡ Call → ⊥
      no_call e = cc

  -- where a fill was made and the instruction came again
  again_filled : (turned areas core memory).turn ≡ Trap 6 → IsOk (filled areas core memory).answer → IsSettled areas core memory (turned areas (filled areas core memory).core (filled areas core memory).memory)
  again_filled underflow made = record {
    failed = record { overflow = λ is. absurd (no_trap (sym went ∙ is)); underflow = λ is. absurd (no_trap (sym went ∙ is)) };
    trapped = subst (λ t. IsUndoneButSpill t areas core (turned areas (filled areas core memory).core (filled areas core memory).memory).core memory (turned areas (filled areas core memory).core (filled areas core memory).memory).memory) (sym went) tt;
    called = λ is. absurd (no_call (sym went ∙ is));
  }
    where
      no_trap : {type : ℕ} → Went ≡ Trap type → ⊥
      no_trap e = cc

      no_call : Went ≡ Call → ⊥
      no_call e = cc

      valid : {cwp inv new_cwp new_inv : ℕ} → (cwp + 1) % 8 ≡ inv → new_cwp ≡ cwp → new_inv ≡ (inv + 1) % 8 → (new_cwp + 1) % 8 ≢ new_inv
      valid a b d = omega arith

      went : (turned areas (filled areas core memory).core (filled areas core memory).memory).turn ≡ Went
      went =
          let keeps = filled_keeps areas core memory in
          let first = turned-HasWindowTraps areas core memory in
          let word = ap (fetched areas (filled areas core memory).memory) keeps.keeps.pc ∙ ap (λ m. fetched areas m core.pc) keeps.bytes in
          first.after_underflow underflow (filled areas core memory).core (filled areas core memory).memory word (valid (first.underflow underflow) keeps.keeps.cwp (keeps.keeps.inv made))

  -- where it was refused
  fill_refused : (turned areas core memory).turn ≡ Trap 6 → IsErr (filled areas core memory).answer → IsSettled areas core memory (trapped 6 (filled areas core memory).core (filled areas core memory).memory)
  fill_refused underflow refused =
      let unchanged = (filled_keeps areas core memory).keeps.refused refused in
      record {
        failed = record { overflow = λ is. absurd (other is); underflow = λ is. (underflow, refused, unchanged) };
        trapped = inl unchanged;
        called = λ is. absurd (no_call is);
      }
    where
      other : Trap 6 ≡ Trap 5 → ⊥
      other e = cc

      no_call : Trap 6 ≡ Call → ⊥
      no_call e = cc

  -- after a spill
  by_spill : (turned areas core memory).turn ≡ Trap 5 → (answer : Result (Unit {0}) StackFault) → (spilled areas core memory).answer ≡ answer → IsSettled areas core memory (again_or_trap answer 5 areas (spilled areas core memory).core (spilled areas core memory).memory)
  by_spill overflow (Ok made) is = again_spilled overflow (ap is_ok is)
  by_spill overflow (Err fault) is = spill_refused overflow (ap is_err is)

  -- after a fill
  by_fill : (turned areas core memory).turn ≡ Trap 6 → (answer : Result (Unit {0}) StackFault) → (filled areas core memory).answer ≡ answer → IsSettled areas core memory (again_or_trap answer 6 areas (filled areas core memory).core (filled areas core memory).memory)
  by_fill underflow (Ok made) is = again_filled underflow (ap is_ok is)
  by_fill underflow (Err fault) is = fill_refused underflow (ap is_err is)

  -- another trap changed nothing
  by_other : (type : ℕ) → type ≢ 5 → type ≢ 6 → IsSettled areas core memory (trapped type core memory)
  by_other type no_five no_six = record {
    failed = record { overflow = λ is. absurd (no_five (one_type is)); underflow = λ is. absurd (no_six (one_type is)) };
    trapped = inl (refl, refl);
    called = λ is. absurd (no_call is);
  }
    where
      one_type : {one other : ℕ} → Trap one ≡ Trap other → one ≡ other
      one_type e = cc

      no_call : Trap type ≡ Call → ⊥
      no_call e = cc

  -- whatever the trap was
  by_trap : (type : ℕ) → (turned areas core memory).turn ≡ Trap type → IsSettled areas core memory (after_trap type areas core memory)
  unfolding made_again after_trap
  by_trap type is = on_overflow (type == 5) refl
    where
      on_underflow : (type == 5) ≡ false → (is_six : Bool) → (type == 6) ≡ is_six → IsSettled areas core memory (if is_six then made_again 6 areas (filled areas core memory) else trapped type core memory)
      on_underflow no_five true six = let type_is : type ≡ 6 = grind (arith, nat_tests) in by_fill (is ∙ ap Trap type_is) _ refl
      on_underflow no_five false six = by_other type (grind (arith, nat_tests)) (grind (arith, nat_tests))

      on_overflow : (is_five : Bool) → (type == 5) ≡ is_five → IsSettled areas core memory (if is_five then made_again 5 areas (spilled areas core memory) else if type == 6 then made_again 6 areas (filled areas core memory) else trapped type core memory)
      on_overflow true five = let type_is : type ≡ 5 = grind (arith, nat_tests) in by_spill (is ∙ ap Trap type_is) _ refl
      on_overflow false five = on_underflow five (type == 6) refl

  -- whatever the outcome of the instruction was
  by_turn : (t : Turn) → (turned areas core memory).turn ≡ t → IsSettled areas core memory (answered t (turned areas core memory) areas core memory)
  by_turn Went is = alone (λ e. no_trap (sym is ∙ e)) (λ e. no_trap (sym is ∙ e))
    where
      no_trap : {type : ℕ} → Went ≡ Trap type → ⊥
      no_trap e = cc
  by_turn (Trap type) is = by_trap type is
  by_turn Call is = alone (λ e. no_trap (sym is ∙ e)) (λ e. no_trap (sym is ∙ e))
    where
      no_trap : {type : ℕ} → Call ≡ Trap type → ⊥
      no_trap e = cc

  pub settled-IsSettled : IsSettled areas core memory (settled areas core memory)
  unfolding settled
  settled-IsSettled = by_turn _ refl

  -- piece by piece
  pub settled_pieces : (turn : Turn) (after : Registers) (new : Memory) → turn ≡ (settled areas core memory).turn → after ≡ (settled areas core memory).core → new ≡ (settled areas core memory).memory → IsSettled areas core memory record { turn = turn; core = after; memory = new }
  settled_pieces turn after new turn_is after_is new_is = rw (turn_is, after_is, new_is) settled-IsSettled

-- what is known after an instruction that trapped: nothing changed, and a window trap came only where its window is the invalid one
pub record HasTrapped (areas : List Area) (before : Registers) (old : Memory) (type : ℕ) (after : Registers) (new : Memory) : Type 0 where
  pub registers : after ≡ before
  pub bytes : new ≡ old
  pub overflow : type ≡ 5 → (after.cwp + 7) % 8 ≡ after.inv
  pub underflow : type ≡ 6 → (after.cwp + 1) % 8 ≡ after.inv

pub turned_trap : (areas : List Area) (before : Registers) (old : Memory) (type : ℕ) (after : Registers) (new : Memory) → Trap type ≡ (turned areas before old).turn → after ≡ (turned areas before old).core → new ≡ (turned areas before old).memory → HasTrapped areas before old type after new
turned_trap areas before old type after new turn_is after_is new_is = record {
  registers = same.0;
  bytes = same.1;
  overflow = λ is. subst (λ (r : Registers). (r.cwp + 7) % 8 ≡ r.inv) (sym same.0) (window.overflow (sym turn_is ∙ ap Trap is));
  underflow = λ is. subst (λ (r : Registers). (r.cwp + 1) % 8 ≡ r.inv) (sym same.0) (window.underflow (sym turn_is ∙ ap Trap is));
}
  where
    window : HasWindowTraps areas before old
    window = turned-HasWindowTraps areas before old

    undone : IsUndone (Trap type) before (turned areas before old).core old (turned areas before old).memory
    undone = subst (λ t. IsUndone t before (turned areas before old).core old (turned areas before old).memory) (sym turn_is) (turned-IsOrderly areas before old).undone

    same : (after ≡ before) × (new ≡ old)
    same = (after_is ∙ undone.0, new_is ∙ undone.1)
