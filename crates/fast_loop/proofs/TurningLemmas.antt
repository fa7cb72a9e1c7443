-- Where branches that are taken, calls and jumps go, by what their rows do.
use Rattle.std.proofs.Common.{◌≡◌, ◌≢◌, ℕ, ◌+◌, ◌*◌, ◌%◌, ◌^◌, ℤ, Bool, true, false, List, refl, sym, ap, ◌∙◌, arith}
use Rattle.std.proofs.lemmas.Bool.Decides.{nat_tests}
use Rattle.std.specs.Prelude.{if◌then◌else◌, ◌&&◌, ◌==◌}
use Rattle.guest_bus.specs.Memory.{Area, Memory}
use Rattle.guest_bus.specs.Words.{word_address}
use Rattle.sparc_code.specs.declared.instruction.Instr.{Instr}
use Rattle.sparc_code.specs.declared.instruction.Instr.TheVariants as instr
use Rattle.sparc_code.specs.declared.instruction.Src.{Src}
use Rattle.sparc_step.specs.Cached.{register_of}
use Rattle.sparc_step.specs.Conditions.{holds, holds_below_eight}
use Rattle.sparc_step.specs.Execution.{done, executed, keeping_memory}
use Rattle.sparc_step.specs.Flow.{branch_row, branch_target, left_by, passed, taken, trap_turn, trap_type, turn_of_type}
use Rattle.sparc_step.specs.Operands.{sum_of}
use Rattle.sparc_step.specs.Registers.{Registers, branched, placed, register_at, sent, skipped, with_register}
use Rattle.sparc_step.specs.Words.{residue}
use Rattle.sparc_step.specs.declared.outcome.Turn.{Turn}
use Rattle.sparc_step.specs.declared.outcome.Turn.TheVariants.{Call, Went}
use Rattle.predecode.specs.Kinds.{Does, Unmade, Leaves, Idles, Works, Compares, Sets, Moves, ReadsY, WritesY, Saves, Restores, Calls, Jumps, BranchesAlways, Branches, Annuls, AnnulsAlways, Traps, Sum}
use Rattle.predecode.specs.Rows.{DoesSo, IsFormed}
use Rattle.predecode.specs.declared.rows.Row.{Row}
use Rattle.fast_loop.specs.Turning.{calling}
use Rattle.fast_loop.specs.lemmas.Effects.{address_so}
use Rattle.fast_loop.specs.lemmas.PlacedLemmas.{sum_of-placed}
use Rattle.fast_loop.specs.lemmas.Places.{at_place, at_slot}
use Rattle.fast_loop.specs.lemmas.Steps.{HasCalled, HasJumped, HasTaken}
use Rattle.fast_loop.specs.lemmas.TurnLemmas.{branch_taken, call_taken, jump_taken}
use Rattle.fast_loop.proofs.DoesLemmas.{address_is}

-- the address of the next word
pub next_address : (origin place : ℕ) → (word_address origin place + 4) % 2 ^ 32 ≡ word_address origin (place + 1)
unfolding word_address
next_address origin place = omega arith

-- and of the one after it
after_next : (origin place : ℕ) → (word_address origin place + 8) % 2 ^ 32 ≡ word_address origin (place + 2)
unfolding word_address
after_next origin place = omega arith

-- and of one at a displacement
pub address_at : (origin at displacement : ℕ) → word_address origin (at + displacement) ≡ (word_address origin at + 4 * displacement) % 2 ^ 32
unfolding word_address
address_at origin at displacement = omega arith

-- a target, by its place
target_place : (origin at to number : ℕ) (disp : ℤ) → word_address origin to ≡ (word_address origin at + 4 * number) % 2 ^ 32 → number ≡ residue 32 disp → branch_target (word_address origin at) disp ≡ word_address origin to
unfolding branch_target
target_place origin at to number disp is same = ap (λ (n : ℕ). (word_address origin at + 4 * n) % 2 ^ 32) (sym same) ∙ sym is

-- a branch that is taken, and does not annul its delay slot
branch_to : (origin at to number condition : ℕ) (annul : Bool) (disp : ℤ) (areas : List Area) (core : Registers) (memory : Memory)
    → holds condition core.icc ≡ true → (annul && (condition == 8)) ≡ false
    → word_address origin to ≡ (word_address origin at + 4 * number) % 2 ^ 32 → number ≡ residue 32 disp
    → executed (instr.Branch condition annul disp) areas (at_place origin at core) memory ≡ done (at_slot origin (at + 1) to core) memory
branch_to origin at to number condition annul disp areas core memory holding none is same =
    branch_taken condition (word_address origin at) (word_address origin (at + 1)) annul disp areas core memory holding none
    ∙ ap (λ (t : ℕ). done (placed (word_address origin (at + 1)) t core) memory) (target_place origin at to number disp is same)

-- a branch that is taken always, and annuls its delay slot
sent-placed : (core : Registers) (pc npc to : ℕ) → sent (placed pc npc core) to ≡ placed to ((to + 4) % 2 ^ 32) core
unfolding sent placed
sent-placed core pc npc to = refl

always_taken : (condition pc npc : ℕ) (disp : ℤ) (areas : List Area) (core : Registers) (memory : Memory)
    → holds condition core.icc ≡ true → condition ≡ 8
    → executed (instr.Branch condition true disp) areas (placed pc npc core) memory ≡ done (placed (branch_target pc disp) ((branch_target pc disp + 4) % 2 ^ 32) core) memory
unfolding branch_row taken placed
always_taken condition pc npc disp areas core memory holding always =
    let test : (condition == 8) ≡ true = grind (arith, nat_tests) in
    ap (λ (t : Bool). done (if t then taken condition true (branch_target pc disp) (placed pc npc core) else passed true (placed pc npc core)) memory) holding
    ∙ ap (λ (t : Bool). done (if t then sent (placed pc npc core) (branch_target pc disp) else branched (placed pc npc core) (branch_target pc disp)) memory) test
    ∙ ap (λ (r : Registers). done r memory) (sent-placed core pc npc (branch_target pc disp))

always_to : (origin at to number condition : ℕ) (disp : ℤ) (areas : List Area) (core : Registers) (memory : Memory)
    → holds condition core.icc ≡ true → condition ≡ 8
    → word_address origin to ≡ (word_address origin at + 4 * number) % 2 ^ 32 → number ≡ residue 32 disp
    → executed (instr.Branch condition true disp) areas (at_place origin at core) memory ≡ done (at_place origin to core) memory
always_to origin at to number condition disp areas core memory holding always is same =
    always_taken condition (word_address origin at) (word_address origin (at + 1)) disp areas core memory holding always
    ∙ ap (λ (t : ℕ). done (placed t ((t + 4) % 2 ^ 32) core) memory) (target_place origin at to number disp is same)
    ∙ ap (λ (t : ℕ). done (placed (word_address origin to) t core) memory) (next_address origin to)

-- a branch that is not taken, and annuls its delay slot
skipped-placed : (core : Registers) (pc npc : ℕ) → skipped (placed pc npc core) ≡ placed ((npc + 4) % 2 ^ 32) ((npc + 8) % 2 ^ 32) core
unfolding skipped placed
skipped-placed core pc npc = refl

not_taken : (condition pc npc : ℕ) (disp : ℤ) (areas : List Area) (core : Registers) (memory : Memory)
    → holds condition core.icc ≡ false
    → executed (instr.Branch condition true disp) areas (placed pc npc core) memory ≡ done (placed ((npc + 4) % 2 ^ 32) ((npc + 8) % 2 ^ 32) core) memory
unfolding branch_row passed placed
not_taken condition pc npc disp areas core memory holding =
    ap (λ (t : Bool). done (if t then taken condition true (branch_target pc disp) (placed pc npc core) else passed true (placed pc npc core)) memory) holding
    ∙ ap (λ (r : Registers). done r memory) (skipped-placed core pc npc)

skipped_to : (origin at condition : ℕ) (disp : ℤ) (areas : List Area) (core : Registers) (memory : Memory)
    → holds condition core.icc ≡ false
    → executed (instr.Branch condition true disp) areas (at_place origin at core) memory ≡ done (at_place origin (at + 2) core) memory
skipped_to origin at condition disp areas core memory holding =
    not_taken condition (word_address origin at) (word_address origin (at + 1)) disp areas core memory holding
    ∙ ap (λ (t : ℕ). done (placed t ((word_address origin (at + 1) + 8) % 2 ^ 32) core) memory) (next_address origin (at + 1) ∙ ap (word_address origin) two)
    ∙ ap (λ (t : ℕ). done (placed (word_address origin (at + 2)) t core) memory) (after_next origin (at + 1) ∙ ap (word_address origin) three)
  where
    two : at + 1 + 1 ≡ at + 2
    two = omega arith

    three : at + 1 + 2 ≡ at + 2 + 1
    three = omega arith

-- a call
call_to : (origin at to number : ℕ) (disp : ℤ) (areas : List Area) (core new : Registers) (memory : Memory)
    → new ≡ with_register core 15 (word_address origin at)
    → word_address origin to ≡ (word_address origin at + 4 * number) % 2 ^ 32 → number ≡ residue 32 disp
    → executed (instr.Call disp) areas (at_place origin at core) memory ≡ done (at_slot origin (at + 1) to new) memory
call_to origin at to number disp areas core new memory left is same =
    call_taken (word_address origin at) (word_address origin (at + 1)) disp areas core memory
    ∙ ap (λ (t : ℕ). done (placed (word_address origin (at + 1)) t (with_register core 15 (word_address origin at))) memory) (target_place origin at to number disp is same)
    ∙ ap (λ (r : Registers). done (at_slot origin (at + 1) to r) memory) (sym left)

-- a jump
jump_to : (origin at to rd rs1 : ℕ) (source : Src) (areas : List Area) (core new : Registers) (memory : Memory)
    → new ≡ with_register core rd (word_address origin at) → word_address origin to ≡ sum_of rs1 source core → sum_of rs1 source core % 4 ≡ 0
    → executed (instr.Jump rd rs1 source) areas (at_place origin at core) memory ≡ done (at_slot origin (at + 1) to new) memory
jump_to origin at to rd rs1 source areas core new memory left is aligned =
    jump_taken rd rs1 (word_address origin at) (word_address origin (at + 1)) source areas core memory aligned
    ∙ ap (λ (t : ℕ). done (placed (word_address origin (at + 1)) t (with_register core rd (word_address origin at))) memory) (sym is)
    ∙ ap (λ (r : Registers). done (at_slot origin (at + 1) to r) memory) (sym left)

-- a condition that is not always met
not_always : (condition : ℕ) → condition ≢ 8 → (true && (condition == 8)) ≡ false
not_always condition other = grind (arith, nat_tests)

-- a trap of the call's number, which is taken always
trap_calling : (condition rs1 number : ℕ) (source : Src) (core : Registers) → condition ≡ 8 → number ≡ sum_of rs1 source core → number % 128 ≡ 112 → trap_turn condition rs1 source core ≡ Call
unfolding trap_turn trap_type holds holds_below_eight
trap_calling condition rs1 number source core always sum is =
    let type : 128 + sum_of rs1 source core % 128 ≡ 240 = omega (arith, sum, is) in
    ap (λ (c : ℕ). if holds c core.icc then turn_of_type (trap_type (sum_of rs1 source core)) else Went) always
    ∙ ap turn_of_type type

trap_to : (condition rs1 pc npc number : ℕ) (source : Src) (areas : List Area) (core : Registers) (memory : Memory) → condition ≡ 8 → number ≡ sum_of rs1 source core → number % 128 ≡ 112
    → executed (instr.Trap condition rs1 source) areas (placed pc npc core) memory ≡ calling (placed pc npc core) memory
trap_to condition rs1 pc npc number source areas core memory always sum is =
    ap (λ (t : Turn). keeping_memory memory (record { turn = t; core = left_by t (placed pc npc core) }))
    (trap_calling condition rs1 number source (placed pc npc core) always (sum ∙ sym (sum_of-placed rs1 source core pc npc)) is)

-- a branch on condition 8 is taken always
always : (core : Registers) → holds 8 core.icc ≡ true
unfolding holds holds_below_eight
always core = refl

-- a row that goes by a displacement
taken_row : (row : Row) (i : Instr) (origin at displacement : ℕ) (areas : List Area) (old new : Registers) (memory : Memory) → new ≡ old
    → executed i areas (at_place origin at old) memory ≡ done (at_slot origin (at + 1) (at + row.number) old) memory → displacement ≡ row.number
    → executed i areas (at_place origin at old) memory ≡ done (at_slot origin (at + 1) (at + displacement) new) memory
taken_row row i origin at displacement areas old new memory left is same =
    is ∙ ap (λ (n : ℕ). done (at_slot origin (at + 1) (at + n) old) memory) (sym same) ∙ ap (λ (r : Registers). done (at_slot origin (at + 1) (at + displacement) r) memory) (sym left)

pub taken_so : (d : Does) (row : Row) (i : Instr) (origin at displacement : ℕ) (areas : List Area) (old new : Registers) (memory : Memory) → DoesSo d row i → IsFormed d row → register_at old 0 ≡ 0
    → HasTaken d row origin at displacement old new → executed i areas (at_place origin at old) memory ≡ done (at_slot origin (at + 1) (at + displacement) new) memory
taken_so BranchesAlways row i origin at displacement areas old new memory so formed zero (left, same) = taken_row row i origin at displacement areas old new memory left
    (ap (λ (j : Instr). executed j areas (at_place origin at old) memory) so.is ∙ branch_to origin at (at + row.number) row.number 8 false so.displacement areas old memory (always old) refl (address_at origin at row.number) so.number) same
taken_so Branches row i origin at displacement areas old new memory so formed zero (holding, left, same) = taken_row row i origin at displacement areas old new memory left
    (ap (λ (j : Instr). executed j areas (at_place origin at old) memory) so.is ∙ branch_to origin at (at + row.number) row.number row.rs1 false so.displacement areas old memory holding refl (address_at origin at row.number) so.number) same
taken_so Annuls row i origin at displacement areas old new memory (so, some) formed zero (holding, left, same) = taken_row row i origin at displacement areas old new memory left
    (ap (λ (j : Instr). executed j areas (at_place origin at old) memory) so.is ∙ branch_to origin at (at + row.number) row.number row.rs1 true so.displacement areas old memory holding (not_always row.rs1 some) (address_at origin at row.number) so.number) same
taken_so Calls row i origin at displacement areas old new memory so formed zero (left, same) =
    ap (λ (j : Instr). executed j areas (at_place origin at old) memory) so.is
    ∙ call_to origin at (at + row.number) row.number so.displacement areas old new memory left (address_at origin at row.number) so.number
    ∙ ap (λ (n : ℕ). done (at_slot origin (at + 1) (at + n) new) memory) (sym same)
taken_so Jumps row i origin at displacement areas old new memory so formed zero (left, target) =
    let sum = address_is Sum so.source row old formed so.second zero in
    ap (λ (j : Instr). executed j areas (at_place origin at old) memory) so.is
    ∙ jump_to origin at (at + displacement) (register_of row.rd) row.rs1 so.source areas old new memory left (target.there ∙ sum) (ap (λ (n : ℕ). n % 4) (sym sum) ∙ target.aligned)
taken_so Unmade row i origin at displacement areas old new memory so formed zero is = absurd is
taken_so Leaves row i origin at displacement areas old new memory so formed zero is = absurd is
taken_so Idles row i origin at displacement areas old new memory so formed zero is = absurd is
taken_so (Works operation form) row i origin at displacement areas old new memory so formed zero is = absurd is
taken_so (Compares form) row i origin at displacement areas old new memory so formed zero is = absurd is
taken_so (Sets form) row i origin at displacement areas old new memory so formed zero is = absurd is
taken_so (Moves operation form) row i origin at displacement areas old new memory so formed zero is = absurd is
taken_so ReadsY row i origin at displacement areas old new memory so formed zero is = absurd is
taken_so WritesY row i origin at displacement areas old new memory so formed zero is = absurd is
taken_so Saves row i origin at displacement areas old new memory so formed zero is = absurd is
taken_so Restores row i origin at displacement areas old new memory so formed zero is = absurd is
taken_so AnnulsAlways row i origin at displacement areas old new memory so formed zero is = absurd is
taken_so Traps row i origin at displacement areas old new memory so formed zero is = absurd is

-- a row whose delay slot is annulled
pub jumped_so : (d : Does) (row : Row) (i : Instr) (origin at displacement : ℕ) (areas : List Area) (old : Registers) (memory : Memory) → DoesSo d row i
    → HasJumped d row displacement old → executed i areas (at_place origin at old) memory ≡ done (at_place origin (at + displacement) old) memory
jumped_so Annuls row i origin at displacement areas old memory (so, some) (holding, same) =
    ap (λ (j : Instr). executed j areas (at_place origin at old) memory) so.is ∙ skipped_to origin at row.rs1 so.displacement areas old memory holding
    ∙ ap (λ (n : ℕ). done (at_place origin (at + n) old) memory) (sym same)
jumped_so AnnulsAlways row i origin at displacement areas old memory so same =
    ap (λ (j : Instr). executed j areas (at_place origin at old) memory) so.is
    ∙ always_to origin at (at + row.number) row.number 8 so.displacement areas old memory (always old) refl (address_at origin at row.number) so.number
    ∙ ap (λ (n : ℕ). done (at_place origin (at + n) old) memory) (sym same)
jumped_so Unmade row i origin at displacement areas old memory so is = absurd is
jumped_so Leaves row i origin at displacement areas old memory so is = absurd is
jumped_so Idles row i origin at displacement areas old memory so is = absurd is
jumped_so (Works operation form) row i origin at displacement areas old memory so is = absurd is
jumped_so (Compares form) row i origin at displacement areas old memory so is = absurd is
jumped_so (Sets form) row i origin at displacement areas old memory so is = absurd is
jumped_so (Moves operation form) row i origin at displacement areas old memory so is = absurd is
jumped_so ReadsY row i origin at displacement areas old memory so is = absurd is
jumped_so WritesY row i origin at displacement areas old memory so is = absurd is
jumped_so Saves row i origin at displacement areas old memory so is = absurd is
jumped_so Restores row i origin at displacement areas old memory so is = absurd is
jumped_so Calls row i origin at displacement areas old memory so is = absurd is
jumped_so Jumps row i origin at displacement areas old memory so is = absurd is
jumped_so BranchesAlways row i origin at displacement areas old memory so is = absurd is
jumped_so Branches row i origin at displacement areas old memory so is = absurd is
jumped_so Traps row i origin at displacement areas old memory so is = absurd is

-- a trap that calls the hypervisor
pub called_so : (d : Does) (row : Row) (i : Instr) (origin at : ℕ) (areas : List Area) (old : Registers) (memory : Memory) → DoesSo d row i → IsFormed d row → register_at old 0 ≡ 0
    → HasCalled d row old → executed i areas (at_place origin at old) memory ≡ calling (at_place origin at old) memory
called_so Traps row i origin at areas old memory so formed zero is =
    ap (λ (j : Instr). executed j areas (at_place origin at old) memory) so.is
    ∙ trap_to 8 row.rs1 (word_address origin at) (word_address origin (at + 1)) (address_so Sum row old) so.source areas old memory refl (address_is Sum so.source row old formed so.second zero) is
called_so Unmade row i origin at areas old memory so formed zero is = absurd is
called_so Leaves row i origin at areas old memory so formed zero is = absurd is
called_so Idles row i origin at areas old memory so formed zero is = absurd is
called_so (Works operation form) row i origin at areas old memory so formed zero is = absurd is
called_so (Compares form) row i origin at areas old memory so formed zero is = absurd is
called_so (Sets form) row i origin at areas old memory so formed zero is = absurd is
called_so (Moves operation form) row i origin at areas old memory so formed zero is = absurd is
called_so ReadsY row i origin at areas old memory so formed zero is = absurd is
called_so WritesY row i origin at areas old memory so formed zero is = absurd is
called_so Saves row i origin at areas old memory so formed zero is = absurd is
called_so Restores row i origin at areas old memory so formed zero is = absurd is
called_so Calls row i origin at areas old memory so formed zero is = absurd is
called_so Jumps row i origin at areas old memory so formed zero is = absurd is
called_so BranchesAlways row i origin at areas old memory so formed zero is = absurd is
called_so Branches row i origin at areas old memory so formed zero is = absurd is
called_so Annuls row i origin at areas old memory so formed zero is = absurd is
called_so AnnulsAlways row i origin at areas old memory so formed zero is = absurd is
