-- For proofs and private clauses: steps of a run, one after another.
use Rattle.std.proofs.Common.{◌≡◌, ℕ, zero, suc, ◌+◌, ◌%◌, ◌^◌, List, Ok, refl, sym, ap, ◌∙◌, arith}
use Rattle.guest_bus.specs.Access.{fetched}
use Rattle.guest_bus.specs.Memory.{Area, Memory}
use Rattle.sparc_code.specs.Decoded.{decoded}
use Rattle.sparc_step.specs.Execution.{Turned, done, executed, turned}
use Rattle.sparc_step.specs.Registers.{Registers, placed}
use Rattle.sparc_step.specs.declared.outcome.Turn.{Turn}
use Rattle.sparc_step.specs.declared.outcome.Turn.TheVariants.{Went}
use Rattle.virt_traps.specs.Stepping.{stepped, then_settled}
use Rattle.fast_loop.specs.lemmas.Steps.{Goes}
use Rattle.fast_loop.specs.lemmas.TurnLemmas.{turned-word}
use Rattle.fast_loop.specs.Turning.{calling}
use Rattle.virt_traps.specs.Settled.{answered, settled}
use Rattle.fast_loop.specs.Runs.{AreSteps, IsCall}

-- none
pub no_steps : (areas : List Area) (core : Registers) (memory : Memory) → AreSteps 0 areas core memory core memory
no_steps areas core memory = record { went = refl; registers = refl; bytes = refl }

-- an instruction that goes needs no window
pub settled-went : (areas : List Area) (core : Registers) (memory : Memory) (after : Registers) (new : Memory) → turned areas core memory ≡ done after new → settled areas core memory ≡ done after new
unfolding settled
settled-went areas core memory after new is = ap (λ (t : Turned). answered t.turn t areas core memory) is

-- one more
next_settled : (t : Turned) (areas : List Area) → t.turn ≡ Went → then_settled t.turn areas t ≡ settled areas t.core t.memory
next_settled t areas went = ap (λ (turn : Turn). then_settled turn areas t) went

pub one_settled : (count : ℕ) (areas : List Area) (core here after : Registers) (memory there new : Memory)
    → AreSteps count areas core memory here there → settled areas here there ≡ done after new → AreSteps (suc count) areas core memory after new
one_settled count areas core here after memory there new steps is =
    let t = stepped count areas core memory in
    let one : stepped (suc count) areas core memory ≡ done after new =
    next_settled t areas steps.went
    ∙ ap (λ (r : Registers). settled areas r t.memory) (sym steps.registers)
    ∙ ap (λ (m : Memory). settled areas here m) (sym steps.bytes)
    ∙ is
    in
    record { went = ap (λ (x : Turned). x.turn) one; registers = sym (ap (λ (x : Turned). x.core) one); bytes = sym (ap (λ (x : Turned). x.memory) one) }

-- one that needed no window
pub one_more : (count : ℕ) (areas : List Area) (core here after : Registers) (memory there new : Memory)
    → AreSteps count areas core memory here there → turned areas here there ≡ done after new → AreSteps (suc count) areas core memory after new
one_more count areas core here after memory there new steps is =
    one_settled count areas core here after memory there new steps (settled-went areas here there after new is)

-- the word at pc goes on to the next one
pub word_more : (count word pc npc : ℕ) (areas : List Area) (core old new : Registers) (memory there after : Memory)
    → AreSteps count areas core memory (placed pc npc old) there → fetched areas there pc ≡ Ok word → Goes (decoded word) areas old new there after
    → AreSteps (suc count) areas core memory (placed npc ((npc + 4) % 2 ^ 32) new) after
word_more count word pc npc areas core old new memory there after steps stands goes =
    one_more count areas core (placed pc npc old) (placed npc ((npc + 4) % 2 ^ 32) new) memory there after steps (turned-word word pc npc areas old there _ stands (goes pc npc))

-- the word at pc turns to a target, after its delay slot
pub turn_more : (count word pc npc to : ℕ) (areas : List Area) (core old new : Registers) (memory there : Memory)
    → AreSteps count areas core memory (placed pc npc old) there → fetched areas there pc ≡ Ok word
    → executed (decoded word) areas (placed pc npc old) there ≡ done (placed npc to new) there
    → AreSteps (suc count) areas core memory (placed npc to new) there
turn_more count word pc npc to areas core old new memory there steps stands turns =
    one_more count areas core (placed pc npc old) (placed npc to new) memory there there steps (turned-word word pc npc areas old there _ stands turns)

-- numbers of steps
zero_add : (a : ℕ) → 0 + a ≡ a
zero_add a = omega arith

suc_add : (b a : ℕ) → suc b + a ≡ suc (b + a)
suc_add b a = omega arith

-- steps after steps
went_eta : (t : Turned) → t.turn ≡ Went → t ≡ done t.core t.memory
went_eta t went = ap (λ (turn : Turn). record { turn = turn; core = t.core; memory = t.memory }) went

stepped_then : (b a : ℕ) (areas : List Area) (core : Registers) (memory : Memory) → (stepped a areas core memory).turn ≡ Went
    → stepped (b + a) areas core memory ≡ stepped b areas (stepped a areas core memory).core (stepped a areas core memory).memory
stepped_then zero a areas core memory went = ap (λ (n : ℕ). stepped n areas core memory) (zero_add a) ∙ went_eta (stepped a areas core memory) went
stepped_then (suc b) a areas core memory went =
    ap (λ (n : ℕ). stepped n areas core memory) (suc_add b a) ∙ ap (λ (t : Turned). then_settled t.turn areas t) (stepped_then b a areas core memory went)

pub steps_then : (b a : ℕ) (areas : List Area) (core here after : Registers) (memory there new : Memory)
    → AreSteps a areas core memory here there → AreSteps b areas here there after new → AreSteps (b + a) areas core memory after new
steps_then b a areas core here after memory there new one two =
    let t = stepped a areas core memory in
    let joined : stepped (b + a) areas core memory ≡ stepped b areas here there =
    stepped_then b a areas core memory one.went
    ∙ ap (λ (r : Registers). stepped b areas r t.memory) (sym one.registers)
    ∙ ap (λ (m : Memory). stepped b areas here m) (sym one.bytes)
    in
    record {
      went = ap (λ (x : Turned). x.turn) joined ∙ two.went;
      registers = two.registers ∙ sym (ap (λ (x : Turned). x.core) joined);
      bytes = two.bytes ∙ sym (ap (λ (x : Turned). x.memory) joined);
    }

-- an instruction that calls needs no window
pub settled-call : (areas : List Area) (core : Registers) (memory : Memory) → turned areas core memory ≡ calling core memory → IsCall areas core memory
unfolding settled
settled-call areas core memory is = ap (λ (t : Turned). answered t.turn t areas core memory) is
