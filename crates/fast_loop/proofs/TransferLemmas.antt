-- Loads and stores are the same wherever they stand.
use Rattle.std.proofs.Common.{◌≡◌, ◌≢◌, ℕ, ◌+◌, ◌/◌, ◌%◌, ◌^◌, Bool, true, false, List, Result, Ok, Err, Option, Some, None, refl, sym, ap, ◌∙◌}
use Rattle.guest_bus.specs.Access.{Stores, after_store, loaded, memory_unless_refused, store_fault}
use Rattle.guest_bus.specs.Memory.{Area, Memory}
use Rattle.guest_bus.specs.declared.bus.BusFault.{BusFault}
use Rattle.guest_bus.specs.declared.bus.Size.{Size}
use Rattle.guest_bus.specs.declared.bus.Size.TheVariants.{One, Two, Four, Eight}
use Rattle.sparc_code.specs.declared.instruction.MemOp.{MemOp}
use Rattle.sparc_code.specs.declared.instruction.MemOp.TheVariants.{LdD}
use Rattle.sparc_step.specs.Registers.{Registers, advanced, placed, register_at, with_register}
use Rattle.sparc_step.specs.Transfers.{done, loaded_into, pair_at, pair_loaded, store_of, stored_from, transfer, with_pair}
use Rattle.fast_loop.specs.lemmas.Effects.{IsTransferred, extended_by, load_by_size, store_by_size}
use Rattle.fast_loop.specs.lemmas.PlacedLemmas.{advanced-placed, with_register-placed, with_result-placed}

-- the load of a size below a double word, and the store
pub load_row : (signed : Bool) (size : Size) (rd address : ℕ) (areas : List Area) (core : Registers) (memory : Memory) → size ≢ Eight → transfer (load_by_size signed size) rd address areas core memory ≡ loaded_into (loaded areas memory address size) (extended_by signed size) rd core memory
load_row true One rd address areas core memory single = refl
load_row false One rd address areas core memory single = refl
load_row true Two rd address areas core memory single = refl
load_row false Two rd address areas core memory single = refl
load_row true Four rd address areas core memory single = refl
load_row false Four rd address areas core memory single = refl
load_row signed Eight rd address areas core memory single = absurd (single refl)

pub store_row : (size : Size) (rd address : ℕ) (areas : List Area) (core : Registers) (memory : Memory) → size ≢ Eight → transfer (store_by_size size) rd address areas core memory ≡ store_of (register_at core rd) address size areas core memory
store_row One rd address areas core memory single = refl
store_row Two rd address areas core memory single = refl
store_row Four rd address areas core memory single = refl
store_row Eight rd address areas core memory single = absurd (single refl)

-- a load that was answered
pub load-IsTransferred : (operation : MemOp) (size : Size) (extended : ℕ → ℕ) (rd address value : ℕ) (areas : List Area) (old new : Registers) (memory after : Memory)
    → ((core : Registers) → transfer operation rd address areas core memory ≡ loaded_into (loaded areas memory address size) extended rd core memory)
    → Ok value ≡ loaded areas memory address size → new ≡ with_register old rd (extended value) → after ≡ memory → IsTransferred operation rd address areas old new memory after
load-IsTransferred operation size extended rd address value areas old new memory after row answered left same = λ pc npc.
    row (placed pc npc old)
    ∙ ap (λ (r : Result ℕ BusFault). loaded_into r extended rd (placed pc npc old) memory) (sym answered)
    ∙ ap (λ (core : Registers). done core memory) (with_result-placed old pc npc rd (extended value))
    ∙ ap (λ (core : Registers). done (placed npc ((npc + 4) % 2 ^ 32) core) memory) (sym left)
    ∙ ap (done (placed npc ((npc + 4) % 2 ^ 32) new)) (sym same)

-- a pair of registers
with_pair-placed : (core : Registers) (pc npc rd value : ℕ) → with_pair rd value (placed pc npc core) ≡ placed pc npc (with_pair rd value core)
unfolding with_pair
with_pair-placed core pc npc rd value =
    ap (λ (r : Registers). with_register r (rd + 1) (value % 2 ^ 32)) (with_register-placed core pc npc rd (value / 2 ^ 32))
    ∙ with_register-placed (with_register core rd (value / 2 ^ 32)) pc npc (rd + 1) (value % 2 ^ 32)

pub pair_at-placed : (core : Registers) (pc npc rd : ℕ) → pair_at (placed pc npc core) rd ≡ pair_at core rd
unfolding pair_at register_at placed
pair_at-placed core pc npc rd = refl

-- LDD
pub pair-IsTransferred : (rd address value : ℕ) (areas : List Area) (old new : Registers) (memory after : Memory)
    → Ok value ≡ loaded areas memory address Eight → new ≡ with_pair rd value old → after ≡ memory → IsTransferred LdD rd address areas old new memory after
pair-IsTransferred rd address value areas old new memory after answered left same = λ pc npc.
    ap (λ (r : Result ℕ BusFault). pair_loaded r rd (placed pc npc old) memory) (sym answered)
    ∙ ap (λ (core : Registers). done (advanced core) memory) (with_pair-placed old pc npc rd value)
    ∙ ap (λ (core : Registers). done core memory) (advanced-placed (with_pair rd value old) pc npc)
    ∙ ap (λ (core : Registers). done (placed npc ((npc + 4) % 2 ^ 32) core) memory) (sym left)
    ∙ ap (done (placed npc ((npc + 4) % 2 ^ 32) new)) (sym same)

-- a store that was not refused
pub store-IsTransferred : (operation : MemOp) (size : Size) (value_in : Registers → ℕ) (rd address value : ℕ) (areas : List Area) (old new : Registers) (memory after : Memory)
    → ((core : Registers) → transfer operation rd address areas core memory ≡ store_of (value_in core) address size areas core memory)
    → ((pc npc : ℕ) → value_in (placed pc npc old) ≡ value_in old)
    → value ≡ value_in old → store_fault areas address size ≡ None → after ≡ after_store areas memory address size value → new ≡ old → IsTransferred operation rd address areas old new memory after
unfolding store_of
store-IsTransferred operation size value_in rd address value areas old new memory after row same_value is free left same = λ pc npc.
    row (placed pc npc old)
    ∙ ap (λ (v : ℕ). store_of v address size areas (placed pc npc old) memory) (same_value pc npc ∙ sym is)
    ∙ ap (λ (o : Option BusFault). stored_from o (placed pc npc old) memory (after_store areas memory address size value)) free
    ∙ ap (λ (core : Registers). done core (after_store areas memory address size value)) (advanced-placed old pc npc ∙ ap (placed npc ((npc + 4) % 2 ^ 32)) (sym same))
    ∙ ap (done (placed npc ((npc + 4) % 2 ^ 32) new)) (sym left)

-- a store that was refused
pub untouched : (refusal : Option BusFault) (fault : BusFault) (old stored new : Memory) → Stores {T = Unit {0}} (Err fault) refusal → new ≡ memory_unless_refused refusal old stored → new ≡ old
untouched None fault old stored new is left = absurd is
untouched (Some other) fault old stored new is left = left
