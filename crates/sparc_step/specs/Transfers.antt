-- Loads, stores and exchanges, by the rows of appendix B of the SPARC V8 manual.
use Rattle.std.specs.Prelude.{ℕ, ◌+◌, ◌*◌, ◌/◌, ◌%◌, ◌^◌, List, Option, Some, None, Result, Ok, Err}
use Rattle.std.specs.Int.{w8, w16, cast_signed}
use Rattle.guest_bus.specs.Access.{after_store, loaded, store_fault}
use Rattle.guest_bus.specs.Memory.{Area, Memory}
use Rattle.guest_bus.specs.declared.bus.BusFault.{BusFault}
use Rattle.guest_bus.specs.declared.bus.BusFault.TheVariants.{Outside, Unaligned}
use Rattle.guest_bus.specs.declared.bus.Size.{Size}
use Rattle.guest_bus.specs.declared.bus.Size.TheVariants.{One, Two, Four, Eight}
use Rattle.sparc_code.specs.declared.instruction.MemOp.{MemOp}
use Rattle.sparc_code.specs.declared.instruction.MemOp.TheVariants.{Ld, LdUb, LdUh, LdD, St, StB, StH, StD, LdSb, LdSh, LdStUb, Swap}
use Rattle.sparc_code.specs.declared.instruction.Src.{Src}
use Rattle.sparc_step.specs.Operands.{sum_of}
use Rattle.sparc_step.specs.Registers.{Registers, advanced, register_at, with_register}
use Rattle.sparc_step.specs.Outcome.{with_result}
use Rattle.sparc_step.specs.Words.{residue}
use Rattle.sparc_step.specs.declared.outcome.Turn.{Turn}
use Rattle.sparc_step.specs.declared.outcome.Turn.TheVariants.{Went, Trap}

-- the outcome of an instruction, and what it left
pub record Turned : Type 0 where
  pub turn : Turn
  pub core : Registers
  pub memory : Memory

-- an instruction that was executed
abbrev pub done : Registers → Memory → Turned
done core memory = record { turn = Went; core = core; memory = memory }

-- an instruction that trapped and changed nothing
abbrev pub refused : ℕ → Registers → Memory → Turned
refused type core memory = record { turn = Trap type; core = core; memory = memory }

-- the trap type of a refused access
abbrev pub fault_type : BusFault → ℕ
fault_type Unaligned = 7
fault_type Outside = 9

-- the low byte of a value, and its low half word, with their signs, as words
unfoldable pub signed_byte : ℕ → ℕ
signed_byte value = residue 32 (cast_signed w8 (value % 2 ^ 8))

unfoldable pub signed_half : ℕ → ℕ
signed_half value = residue 32 (cast_signed w16 (value % 2 ^ 16))

-- what a load leaves: the value goes to a register, changed by its sign
abbrev pub loaded_into : Result ℕ BusFault → (ℕ → ℕ) → ℕ → Registers → Memory → Turned
loaded_into (Ok value) extended rd core memory = done (with_result rd (extended value) core) memory
loaded_into (Err fault) extended rd core memory = refused (fault_type fault) core memory

-- the registers with a double word in a pair: its high half in the even one
unfoldable pub with_pair : ℕ → ℕ → Registers → Registers
with_pair rd value core = with_register (with_register core rd (value / 2 ^ 32)) (rd + 1) (value % 2 ^ 32)

-- what LDD leaves
abbrev pub pair_loaded : Result ℕ BusFault → ℕ → Registers → Memory → Turned
pair_loaded (Ok value) rd core memory = done (advanced (with_pair rd value core)) memory
pair_loaded (Err fault) rd core memory = refused (fault_type fault) core memory

-- the double word in a pair of registers
unfoldable pub pair_at : Registers → ℕ → ℕ
pair_at core rd = register_at core rd * 2 ^ 32 + register_at core (rd + 1)

-- what a store leaves
abbrev pub stored_from : Option BusFault → Registers → Memory → Memory → Turned
stored_from None core old new = done (advanced core) new
stored_from (Some fault) core old new = refused (fault_type fault) core old

-- a store of a value at an address
unfoldable pub store_of : ℕ → ℕ → Size → List Area → Registers → Memory → Turned
store_of value address size areas core memory =
    stored_from (store_fault areas address size) core memory (after_store areas memory address size value)

-- what an exchange leaves, of which the store is not refused
abbrev pub exchanged_with : Option BusFault → ℕ → ℕ → Registers → Memory → Memory → Turned
exchanged_with None found rd core old new = done (with_result rd (found % 2 ^ 32) core) new
exchanged_with (Some fault) found rd core old new = refused (fault_type fault) core old

-- what an exchange leaves, of which the load is not refused
abbrev pub exchanged : Result ℕ BusFault → Option BusFault → ℕ → Registers → Memory → Memory → Turned
exchanged (Ok found) refusal rd core old new = exchanged_with refusal found rd core old new
exchanged (Err fault) refusal rd core old new = refused (fault_type fault) core old

-- an exchange of a register with what stands at an address
unfoldable pub exchange_of : ℕ → ℕ → Size → ℕ → List Area → Registers → Memory → Turned
exchange_of value address size rd areas core memory =
    exchanged (loaded areas memory address size) (store_fault areas address size) rd core memory
    (after_store areas memory address size value)

-- the low half of a loaded value, which is all of a word
abbrev pub low_word : ℕ → ℕ
low_word value = value % 2 ^ 32

-- work on memory, at an address
abbrev pub transfer : MemOp → ℕ → ℕ → List Area → Registers → Memory → Turned
transfer Ld rd address areas core memory = loaded_into (loaded areas memory address Four) low_word rd core memory
transfer LdUb rd address areas core memory = loaded_into (loaded areas memory address One) low_word rd core memory
transfer LdUh rd address areas core memory = loaded_into (loaded areas memory address Two) low_word rd core memory
transfer LdD rd address areas core memory = pair_loaded (loaded areas memory address Eight) rd core memory
transfer St rd address areas core memory = store_of (register_at core rd) address Four areas core memory
transfer StB rd address areas core memory = store_of (register_at core rd) address One areas core memory
transfer StH rd address areas core memory = store_of (register_at core rd) address Two areas core memory
transfer StD rd address areas core memory = store_of (pair_at core rd) address Eight areas core memory
transfer LdSb rd address areas core memory = loaded_into (loaded areas memory address One) signed_byte rd core memory
transfer LdSh rd address areas core memory = loaded_into (loaded areas memory address Two) signed_half rd core memory
transfer LdStUb rd address areas core memory = exchange_of 0xFF address One rd areas core memory
transfer Swap rd address areas core memory = exchange_of (register_at core rd) address Four rd areas core memory

-- work on memory
abbrev pub transfer_row : MemOp → ℕ → ℕ → Src → List Area → Registers → Memory → Turned
transfer_row operation rd rs1 source areas core memory = transfer operation rd (sum_of rs1 source core) areas core memory
