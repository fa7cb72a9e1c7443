-- Windows that a spill or a fill makes valid.
use Rattle.std.specs.Prelude.{◌≡◌, ◌≢◌, ◌+◌, ◌%◌, ◌<◌, List, Result, Ok, Err, OnOk, is_ok}
use Rattle.std.proofs.Common.{sym, ◌∙◌, ap, arith}
use Rattle.guest_bus.specs.Memory.{Area, Memory}
use Rattle.sparc_step.specs.Registers.{Registers}
use Rattle.virt_traps.specs.Moves.{filled, spilled}
use Rattle.virt_traps.specs.declared.windows.StackFault.{StackFault}
use Rattle.virt_traps.proofs.SettledLemmas.{filled_keeps, spilled_keeps}

-- after a spill the window that was the invalid one is not
pub spilled_frees : (areas : List Area) (core new : Registers) (memory : Memory) (result : Result (Unit {0}) StackFault) → core.inv < 8 → (core.cwp + 7) % 8 ≡ core.inv → result ≡ (spilled areas core memory).answer → new ≡ (spilled areas core memory).core → OnOk result ((new.cwp + 7) % 8 ≢ new.inv)
spilled_frees areas core new memory (Err fault) small invalid answers is = tt
spilled_frees areas core new memory (Ok made) small invalid answers is = λ same.
    let keeps = spilled_keeps areas core memory in
    let moved = keeps.inv (ap is_ok (sym answers)) in
    let cwp : new.cwp ≡ core.cwp = ap (λ (r : Registers). r.cwp) is ∙ keeps.cwp in
    let inv : new.inv ≡ (core.inv + 7) % 8 = ap (λ (r : Registers). r.inv) is ∙ moved in
    absurd (omega arith)

-- after a fill the window that was the invalid one is not
pub filled_brings : (areas : List Area) (core new : Registers) (memory : Memory) (result : Result (Unit {0}) StackFault) → core.inv < 8 → (core.cwp + 1) % 8 ≡ core.inv → result ≡ (filled areas core memory).answer → new ≡ (filled areas core memory).core → OnOk result ((new.cwp + 1) % 8 ≢ new.inv)
filled_brings areas core new memory (Err fault) small invalid answers is = tt
filled_brings areas core new memory (Ok made) small invalid answers is = λ same.
    let keeps = (filled_keeps areas core memory).keeps in
    let moved = keeps.inv (ap is_ok (sym answers)) in
    let cwp : new.cwp ≡ core.cwp = ap (λ (r : Registers). r.cwp) is ∙ keeps.cwp in
    let inv : new.inv ≡ (core.inv + 1) % 8 = ap (λ (r : Registers). r.inv) is ∙ moved in
    absurd (omega arith)
