-- Branches that are taken, calls and jumps, and whole steps.
use Rattle.std.proofs.Common.{◌≡◌, ℕ, ◌%◌, ℤ, Bool, true, false, List, Result, Ok, refl, ap, ◌∙◌, arith}
use Rattle.std.proofs.lemmas.Bool.Decides.{nat_tests}
use Rattle.std.specs.Prelude.{if◌then◌else◌, ◌&&◌, ◌==◌}
use Rattle.guest_bus.specs.Access.{fetched}
use Rattle.guest_bus.specs.Memory.{Area, Memory}
use Rattle.guest_bus.specs.declared.bus.BusFault.{BusFault}
use Rattle.sparc_code.specs.Decoded.{decoded}
use Rattle.sparc_code.specs.declared.instruction.Instr.TheVariants as instr
use Rattle.sparc_code.specs.declared.instruction.Src.{Src}
use Rattle.sparc_step.specs.Conditions.{holds}
use Rattle.sparc_step.specs.Execution.{Turned, keeping_memory, done, executed, turned, turned_after}
use Rattle.sparc_step.specs.Flow.{branch_row, call_row, jumped, passed, taken, branch_target}
use Rattle.sparc_step.specs.Operands.{sum_of}
use Rattle.sparc_step.specs.Outcome.{trapped, went}
use Rattle.sparc_step.specs.Registers.{Registers, branched, placed, sent, with_register}
use Rattle.fast_loop.specs.lemmas.PlacedLemmas.{sum_of-placed, with_register-placed}

-- a target
branched-placed : (core : Registers) (pc npc to : ℕ) → branched (placed pc npc core) to ≡ placed npc to core
unfolding branched placed
branched-placed core pc npc to = refl

-- where a taken branch annuls nothing, it goes on to its target after its delay slot
taken-placed : (condition to pc npc : ℕ) (annul : Bool) (core : Registers) → (annul && (condition == 8)) ≡ false → taken condition annul to (placed pc npc core) ≡ placed npc to core
unfolding taken
taken-placed condition to pc npc annul core none =
    ap (λ (t : Bool). if t then sent (placed pc npc core) to else branched (placed pc npc core) to) none ∙ branched-placed core pc npc to

pub branch_taken : (condition pc npc : ℕ) (annul : Bool) (disp : ℤ) (areas : List Area) (core : Registers) (memory : Memory)
    → holds condition core.icc ≡ true → (annul && (condition == 8)) ≡ false
    → executed (instr.Branch condition annul disp) areas (placed pc npc core) memory ≡ done (placed npc (branch_target pc disp) core) memory
unfolding branch_row placed
branch_taken condition pc npc annul disp areas core memory holding none =
    ap (λ (t : Bool). done (if t then taken condition annul (branch_target pc disp) (placed pc npc core) else passed annul (placed pc npc core)) memory) holding
    ∙ ap (λ (r : Registers). done r memory) (taken-placed condition (branch_target pc disp) pc npc annul core none)

-- a call
pub call_taken : (pc npc : ℕ) (disp : ℤ) (areas : List Area) (core : Registers) (memory : Memory)
    → executed (instr.Call disp) areas (placed pc npc core) memory ≡ done (placed npc (branch_target pc disp) (with_register core 15 pc)) memory
unfolding call_row placed
call_taken pc npc disp areas core memory =
    ap (λ (r : Registers). done (branched r (branch_target pc disp)) memory) (with_register-placed core pc npc 15 pc)
    ∙ ap (λ (r : Registers). done r memory) (branched-placed (with_register core 15 pc) pc npc (branch_target pc disp))

-- a jump to where an instruction can stand
pub jump_taken : (rd rs1 pc npc : ℕ) (source : Src) (areas : List Area) (core : Registers) (memory : Memory)
    → sum_of rs1 source core % 4 ≡ 0
    → executed (instr.Jump rd rs1 source) areas (placed pc npc core) memory ≡ done (placed npc (sum_of rs1 source core) (with_register core rd pc)) memory
unfolding jumped placed
jump_taken rd rs1 pc npc source areas core memory aligned =
    let to = sum_of rs1 source core in
    let test : (to % 4 == 0) ≡ true = grind (arith, nat_tests) in
    ap (λ (n : ℕ). keeping_memory memory (jumped rd n (placed pc npc core))) (sum_of-placed rs1 source core pc npc)
    ∙ ap (λ (t : Bool). keeping_memory memory (if t then went (branched (with_register (placed pc npc core) rd pc) to) else trapped 0x07 (placed pc npc core))) test
    ∙ ap (λ (r : Registers). done (branched r to) memory) (with_register-placed core pc npc rd pc)
    ∙ ap (λ (r : Registers). done r memory) (branched-placed (with_register core rd pc) pc npc to)

-- the instruction at pc, by its word
pub turned-word : (word pc npc : ℕ) (areas : List Area) (core : Registers) (memory : Memory) (t : Turned)
    → fetched areas memory pc ≡ Ok word → executed (decoded word) areas (placed pc npc core) memory ≡ t → turned areas (placed pc npc core) memory ≡ t
unfolding turned placed
turned-word word pc npc areas core memory t there is = ap (λ (r : Result ℕ BusFault). turned_after r areas (placed pc npc core) memory) there ∙ is
