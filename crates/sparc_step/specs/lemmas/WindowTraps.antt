-- The window traps: where they come, and that an instruction which met one is executed where its window may be entered.
use Rattle.std.proofs.Common.{◌∙◌, sym, ap, subst, arith}
use Rattle.std.proofs.lemmas.Bool.{eqb-true}
use Rattle.std.specs.Prelude.{◌≡◌, ◌≢◌, ℕ, ◌+◌, ◌%◌, ◌≤◌, List, Result, Ok, Err, Bool, true, false, refl, ◌==◌, if◌then◌else◌}
use Rattle.guest_bus.specs.Access.{fetched}
use Rattle.guest_bus.specs.Memory.{Area, Memory}
use Rattle.guest_bus.specs.declared.bus.BusFault.{BusFault}
use Rattle.sparc_code.specs.Decoded.{decoded}
use Rattle.sparc_code.specs.declared.instruction.Instr.{Instr}
use Rattle.sparc_code.specs.declared.instruction.Instr.TheVariants as instr
use Rattle.sparc_code.specs.declared.instruction.Src.{Src}
use Rattle.sparc_step.specs.Conditions.{holds}
use Rattle.sparc_step.specs.Execution.{executed, turned, turned_after}
use Rattle.sparc_step.specs.Flow.{moved, trap_turn, trap_type, turn_of_type, window_above, window_below}
use Rattle.sparc_step.specs.Operands.{sum_of, value_of}
use Rattle.sparc_step.specs.Outcome.{trapped, went}
use Rattle.sparc_step.specs.Registers.{Registers, register_at}
use Rattle.sparc_step.specs.lemmas.UndoneLemmas.{NoWindowTrap, jumped_plain, transfer_plain, worked_plain}
use Rattle.sparc_step.specs.declared.outcome.Turn.{Turn}
use Rattle.sparc_step.specs.declared.outcome.Turn.TheVariants.{Went, Trap, Call}

-- the word that stands at pc is the one that stood there before
abbrev pub SameWord : List Area → Registers → Memory → Registers → Memory → Type 0
SameWord areas core memory other new = fetched areas new other.pc ≡ fetched areas memory core.pc

-- overflow comes where the window below the current one is the invalid one, underflow where the window above it is;
-- the same word does not trap where that window is valid
pub record HasWindowTraps (areas : List Area) (core : Registers) (memory : Memory) : Type 0 where
  pub overflow : (turned areas core memory).turn ≡ Trap 5 → (core.cwp + 7) % 8 ≡ core.inv
  pub underflow : (turned areas core memory).turn ≡ Trap 6 → (core.cwp + 1) % 8 ≡ core.inv
  pub after_overflow : (turned areas core memory).turn ≡ Trap 5 → (other : Registers) (new : Memory) → SameWord areas core memory other new → (other.cwp + 7) % 8 ≢ other.inv → (turned areas other new).turn ≡ Went
  pub after_underflow : (turned areas core memory).turn ≡ Trap 6 → (other : Registers) (new : Memory) → SameWord areas core memory other new → (other.cwp + 1) % 8 ≢ other.inv → (turned areas other new).turn ≡ Went

-- none is a software trap, whose type is 128 or more
type_none : (type : ℕ) → 128 ≤ type → NoWindowTrap (turn_of_type type)
type_none type large = at (type == 0xf0) refl
  where
    at : (is_call : Bool) → (type == 0xf0) ≡ is_call → NoWindowTrap (if is_call then Call else Trap type)
    at true is = tt
    at false is = (omega arith, omega arith)

taken_none : (taken : Bool) (number : ℕ) → NoWindowTrap (if taken then turn_of_type (trap_type number) else Went)
unfolding trap_type
taken_none true number = type_none (0x80 + number % 128) (omega arith)
taken_none false number = tt

-- the window traps of an instruction, whatever the state
record WindowTrapsOf (turn_of : List Area → Registers → Memory → Turn) : Type 0 where
  overflow : (areas : List Area) (core : Registers) (m : Memory) → turn_of areas core m ≡ Trap 5 → (core.cwp + 7) % 8 ≡ core.inv
  underflow : (areas : List Area) (core : Registers) (m : Memory) → turn_of areas core m ≡ Trap 6 → (core.cwp + 1) % 8 ≡ core.inv
  after_overflow : (areas : List Area) (core : Registers) (m : Memory) → turn_of areas core m ≡ Trap 5 → (other : Registers) (new : Memory) → (other.cwp + 7) % 8 ≢ other.inv → turn_of areas other new ≡ Went
  after_underflow : (areas : List Area) (core : Registers) (m : Memory) → turn_of areas core m ≡ Trap 6 → (other : Registers) (new : Memory) → (other.cwp + 1) % 8 ≢ other.inv → turn_of areas other new ≡ Went

-- an instruction that knows no windows has none
without : (turn_of : List Area → Registers → Memory → Turn) → ((areas : List Area) (core : Registers) (m : Memory) → NoWindowTrap (turn_of areas core m)) → WindowTrapsOf turn_of
without turn_of none = record {
  overflow = λ areas core m is. absurd ((subst NoWindowTrap is (none areas core m)).0 refl);
  underflow = λ areas core m is. absurd ((subst NoWindowTrap is (none areas core m)).1 refl);
  after_overflow = λ areas core m is other new valid. absurd ((subst NoWindowTrap is (none areas core m)).0 refl);
  after_underflow = λ areas core m is other new valid. absurd ((subst NoWindowTrap is (none areas core m)).1 refl);
}

-- a move that traps with its type was to the invalid window
chosen_invalid : (b : Bool) (window type : ℕ) (core after : Registers) → (window == core.inv) ≡ b → (if b then trapped type core else went after).turn ≡ Trap type → window ≡ core.inv
chosen_invalid true window type core after is trap = eqb-true _ _ is
chosen_invalid false window type core after is trap = absurd cc

moved_invalid : (window type rd value : ℕ) (core : Registers) → (moved window type rd value core).turn ≡ Trap type → window ≡ core.inv
unfolding moved
moved_invalid window type rd value core = chosen_invalid (window == core.inv) window type core _ refl

-- it traps with no other type
chosen_type : (b : Bool) (type found : ℕ) (core after : Registers) → (if b then trapped type core else went after).turn ≡ Trap found → found ≡ type
chosen_type true type found core after trap = cc
chosen_type false type found core after trap = absurd cc

moved_type : (window type found rd value : ℕ) (core : Registers) → (moved window type rd value core).turn ≡ Trap found → found ≡ type
unfolding moved
moved_type window type found rd value core = chosen_type (window == core.inv) type found core _

-- a move to a valid window goes
chosen_valid : (b : Bool) (window type : ℕ) (core after : Registers) → (window == core.inv) ≡ b → window ≢ core.inv → (if b then trapped type core else went after).turn ≡ Went
chosen_valid true window type core after is valid = absurd (valid (eqb-true _ _ is))
chosen_valid false window type core after is valid = refl

moved_valid : (window type rd value : ℕ) (core : Registers) → window ≢ core.inv → (moved window type rd value core).turn ≡ Went
unfolding moved
moved_valid window type rd value core valid = chosen_valid (window == core.inv) window type core _ refl valid

-- the types of the two window traps are two
six_is_five : (six five : ℕ) → six ≡ 6 → five ≡ 5 → six ≡ five → ⊥
six_is_five six five a b same = absurd (omega arith)

-- SAVE
save_traps : (rd rs1 : ℕ) (source : Src) → WindowTrapsOf (λ areas core m. (executed (instr.Save rd rs1 source) areas core m).turn)
unfolding window_below
save_traps rd rs1 source = record {
  overflow = λ areas core m is. moved_invalid (window_below core) 5 rd (sum_of rs1 source core) core is;
  underflow = λ areas core m is. absurd (six_is_five 6 5 refl refl (moved_type (window_below core) 5 6 rd (sum_of rs1 source core) core is));
  after_overflow = λ areas core m is other new valid. moved_valid (window_below other) 5 rd (sum_of rs1 source other) other valid;
  after_underflow = λ areas core m is other new valid. absurd (six_is_five 6 5 refl refl (moved_type (window_below core) 5 6 rd (sum_of rs1 source core) core is));
}

-- RESTORE
restore_traps : (rd rs1 : ℕ) (source : Src) → WindowTrapsOf (λ areas core m. (executed (instr.Restore rd rs1 source) areas core m).turn)
unfolding window_above
restore_traps rd rs1 source = record {
  overflow = λ areas core m is. absurd (six_is_five 6 5 refl refl (sym (moved_type (window_above core) 6 5 rd (sum_of rs1 source core) core is)));
  underflow = λ areas core m is. moved_invalid (window_above core) 6 rd (sum_of rs1 source core) core is;
  after_overflow = λ areas core m is other new valid. absurd (six_is_five 6 5 refl refl (sym (moved_type (window_above core) 6 5 rd (sum_of rs1 source core) core is)));
  after_underflow = λ areas core m is other new valid. moved_valid (window_above other) 6 rd (sum_of rs1 source other) other valid;
}

-- each instruction
executed_traps : (i : Instr) → WindowTrapsOf (λ areas core m. (executed i areas core m).turn)
unfolding trap_turn
executed_traps (instr.Call disp) = without _ (λ areas core m. tt)
executed_traps (instr.Branch condition annul disp) = without _ (λ areas core m. tt)
executed_traps (instr.Sethi rd imm) = without _ (λ areas core m. tt)
executed_traps (instr.Arith operation rd rs1 source) = without _ (λ areas core m. (worked_plain operation rd (register_at core rs1) (value_of source core) core m).windows)
executed_traps (instr.ReadY rd) = without _ (λ areas core m. tt)
executed_traps instr.Barrier = without _ (λ areas core m. tt)
executed_traps (instr.WriteY rs1 source) = without _ (λ areas core m. tt)
executed_traps (instr.Jump rd rs1 source) = without _ (λ areas core m. (jumped_plain rd (sum_of rs1 source core) core m).windows)
executed_traps (instr.Trap condition rs1 source) = without _ (λ areas core m. taken_none (holds condition core.icc) (sum_of rs1 source core))
executed_traps instr.Flush = without _ (λ areas core m. tt)
executed_traps (instr.Save rd rs1 source) = save_traps rd rs1 source
executed_traps (instr.Restore rd rs1 source) = restore_traps rd rs1 source
executed_traps (instr.Mem operation rd rs1 source) = without _ (λ areas core m. (transfer_plain operation rd (sum_of rs1 source core) areas core m).windows)
executed_traps instr.Privileged = without _ (λ areas core m. (λ is. cc, λ is. cc))
executed_traps instr.Float = without _ (λ areas core m. (λ is. cc, λ is. cc))
executed_traps instr.Coproc = without _ (λ areas core m. (λ is. cc, λ is. cc))
executed_traps instr.Illegal = without _ (λ areas core m. (λ is. cc, λ is. cc))

-- whatever was fetched
fetched_traps : (r : Result ℕ BusFault) → WindowTrapsOf (λ areas core m. (turned_after r areas core m).turn)
fetched_traps (Ok word) = executed_traps (decoded word)
fetched_traps (Err fault) = without _ (λ areas core m. (λ is. cc, λ is. cc))

-- each instruction has its window traps so
pub turned-HasWindowTraps : (areas : List Area) (core : Registers) (memory : Memory) → HasWindowTraps areas core memory
unfolding turned
turned-HasWindowTraps areas core memory =
    let traps = fetched_traps (fetched areas memory core.pc) in
    record {
      overflow = traps.overflow areas core memory;
      underflow = traps.underflow areas core memory;
      after_overflow = λ is other new same valid. ap (λ (r : Result ℕ BusFault). (turned_after r areas other new).turn) same ∙ traps.after_overflow areas core memory is other new valid;
      after_underflow = λ is other new same valid. ap (λ (r : Result ℕ BusFault). (turned_after r areas other new).turn) same ∙ traps.after_underflow areas core memory is other new valid;
    }
