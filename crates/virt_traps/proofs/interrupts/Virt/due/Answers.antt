use Rattle.std.specs.Prelude.{◌≡◌, true, false}
use Rattle.std.proofs.Common.{refl, sym, arith}
use Rattle.virt_traps.specs.contracts.interrupts.Virt.{the_view}
use Rattle.virt_traps.proofs.InterruptLemmas.{due-lowest, due-none, lowest_waiting, none_waiting, some_due}
use Rattle.virt_traps.proofs.interrupts.Virt.due.Goals as goal

pub returns-then-waiting-eq0-clause-value : goal.returns-then-waiting-eq0-clause-value
returns-then-waiting-eq0-clause-value c =
    let none = none_waiting (the_view c.self.inside) (omega arith) (omega arith) c.if-waiting-eq0.true in
    rw (← c.self.view_is) (sym (due-none _ none))

pub returns-then-waiting-eq0-clause-none : goal.returns-then-waiting-eq0-clause-none
returns-then-waiting-eq0-clause-none c =
    let none = none_waiting (the_view c.self.inside) (omega arith) (omega arith) c.if-waiting-eq0.true in
    rw (← c.self.view_is) (λ is. none, λ is. refl)

pub returns-else-waiting-eq0-clause-lowest : goal.returns-else-waiting-eq0-clause-lowest
returns-else-waiting-eq0-clause-lowest c = rw (← c.self.view_is) (lowest_waiting (the_view c.self.inside) (omega arith) (omega arith) (omega arith))

pub returns-else-waiting-eq0-clause-value : goal.returns-else-waiting-eq0-clause-value
returns-else-waiting-eq0-clause-value c =
    let lowest = lowest_waiting (the_view c.self.inside) (omega arith) (omega arith) (omega arith) in
    rw (← c.self.view_is) (sym (due-lowest _ _ lowest))

pub returns-else-waiting-eq0-clause-none : goal.returns-else-waiting-eq0-clause-none
returns-else-waiting-eq0-clause-none c =
    let lowest = lowest_waiting (the_view c.self.inside) (omega arith) (omega arith) (omega arith) in
    rw (← c.self.view_is) (λ is. absurd (no is), λ none. some_due _ _ lowest none)
  where
    no : true ≡ false → ⊥
    no e = cc
