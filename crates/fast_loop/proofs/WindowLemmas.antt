-- SAVE and RESTORE to a valid window are the same wherever they stand.
use Rattle.std.proofs.Common.{◌≡◌, ◌≢◌, ℕ, ◌+◌, ◌%◌, ◌^◌, Bool, false, refl, ap, ◌∙◌, arith}
use Rattle.std.proofs.lemmas.Bool.Decides.{nat_tests}
use Rattle.std.specs.Prelude.{if◌then◌else◌, ◌==◌}
use Rattle.sparc_step.specs.Flow.{window_entered, moved, window_above, window_below}
use Rattle.sparc_step.specs.Outcome.{trapped, went, with_result}
use Rattle.sparc_step.specs.Registers.{Registers, in_window, placed, with_register}
use Rattle.fast_loop.specs.lemmas.PlacedLemmas.{with_result-placed}

in_window-placed : (core : Registers) (pc npc window : ℕ) → in_window (placed pc npc core) window ≡ placed pc npc (in_window core window)
unfolding in_window placed
in_window-placed core pc npc window = refl

entered-placed : (core : Registers) (pc npc window rd value : ℕ) → window_entered window rd value (placed pc npc core) ≡ placed npc ((npc + 4) % 2 ^ 32) (with_register (in_window core window) rd value)
unfolding window_entered
entered-placed core pc npc window rd value =
    ap (with_result rd value) (in_window-placed core pc npc window) ∙ with_result-placed (in_window core window) pc npc rd value

-- a window that is not the invalid one is entered
pub moved-placed : (core : Registers) (pc npc window type rd value : ℕ) → window ≢ core.inv
    → moved window type rd value (placed pc npc core) ≡ went (placed npc ((npc + 4) % 2 ^ 32) (with_register (in_window core window) rd value))
unfolding moved placed
moved-placed core pc npc window type rd value valid =
    let test : (window == core.inv) ≡ false = grind (arith, nat_tests) in
    ap (λ (t : Bool). if t then trapped type (placed pc npc core) else went (window_entered window rd value (placed pc npc core))) test
    ∙ ap went (entered-placed core pc npc window rd value)

-- the windows are those of the registers
pub window_below-placed : (core : Registers) (pc npc : ℕ) → window_below (placed pc npc core) ≡ window_below core
unfolding window_below placed
window_below-placed core pc npc = refl

pub window_above-placed : (core : Registers) (pc npc : ℕ) → window_above (placed pc npc core) ≡ window_above core
unfolding window_above placed
window_above-placed core pc npc = refl
