use Rattle.std.proofs.Common.{refl, sym, ◌∙◌}
use Rattle.std.proofs.lemmas.Bool.{OnTrue_at, OnTrue_from}
use Rattle.fast_loop.proofs.ComingLemmas.{shift_from, with_row, word_done, word_shifted}
use Rattle.fast_loop.proofs.one.in_slot.Goals as goal

pub returns-in-Next-clause-done : goal.returns-in-Next-clause-done
returns-in-Next-clause-done g c =
    with_row c.args.rows.now c.args.at c.requires.place (λ row there.
    word_done c.args.rows.now c.args.origin c.args.at (g.B.Bus.areas c.args.bus.now) (g.B.Bus.memory c.args.bus.now) c.requires.rows c.requires.place row there c.args.own.now c.execute.new.own (g.B.Bus.memory c.execute.new.bus)
    (sym c.get-zero.ensures.value ∙ c.get-zero.ensures.zero refl) (c.in-Next.ensures.step row there))

pub returns-in-Shifts-clause-done : goal.returns-in-Shifts-clause-done
returns-in-Shifts-clause-done g c = OnTrue_from c.shift.result _ (λ yes.
    with_row c.args.rows.now c.args.at c.requires.place (λ row there.
    word_shifted c.args.rows.now c.args.origin c.args.at (g.B.Bus.areas c.args.bus.now) (g.B.Bus.memory c.args.bus.now) c.requires.rows c.requires.place row there c.args.own.now c.shift.new.own (g.B.Bus.memory c.shift.new.bus)
    (OnTrue_at yes c.shift.ensures.used row there)
    (shift_from row _ _ (g.B.Bus.areas c.args.bus.now) c.args.own.now _ c.shift.new.own (g.B.Bus.memory c.args.bus.now) _ (g.B.Bus.memory c.shift.new.bus) c.execute.ensures.areas (c.in-Shifts.ensures.step row there).0 (c.in-Shifts.ensures.step row there).1
    (OnTrue_at yes c.shift.ensures.done row there))))

pub returns-in-Shifts-clause-registers : goal.returns-in-Shifts-clause-registers
returns-in-Shifts-clause-registers g c = λ no.
    with_row c.args.rows.now c.args.at c.requires.place (λ row there. c.shift.ensures.registers no ∙ (c.in-Shifts.ensures.step row there).0)

pub returns-in-Shifts-clause-memory : goal.returns-in-Shifts-clause-memory
returns-in-Shifts-clause-memory g c = λ no.
    with_row c.args.rows.now c.args.at c.requires.place (λ row there. c.shift.ensures.bytes no ∙ (c.in-Shifts.ensures.step row there).1)

pub returns-in-Passed-clause-done : goal.returns-in-Passed-clause-done
returns-in-Passed-clause-done g c = absurd (c.in-Passed.ensures.alone refl)

pub returns-in-Compared-clause-done : goal.returns-in-Compared-clause-done
returns-in-Compared-clause-done g c = absurd (c.in-Compared.ensures.alone refl)

pub returns-in-Taken-clause-memory : goal.returns-in-Taken-clause-memory
returns-in-Taken-clause-memory g c = λ left. with_row c.args.rows.now c.args.at c.requires.place (λ row there. (c.in-Taken.ensures.step row there).1)

pub returns-in-Jumped-clause-memory : goal.returns-in-Jumped-clause-memory
returns-in-Jumped-clause-memory g c = λ left. with_row c.args.rows.now c.args.at c.requires.place (λ row there. (c.in-Jumped.ensures.step row there).2)

pub returns-in-Calls-clause-registers : goal.returns-in-Calls-clause-registers
returns-in-Calls-clause-registers g c = λ left. with_row c.args.rows.now c.args.at c.requires.place (λ row there. (c.in-Calls.ensures.step row there).1)

pub returns-in-Calls-clause-memory : goal.returns-in-Calls-clause-memory
returns-in-Calls-clause-memory g c = λ left. with_row c.args.rows.now c.args.at c.requires.place (λ row there. (c.in-Calls.ensures.step row there).2)

pub returns-in-Stays-clause-registers : goal.returns-in-Stays-clause-registers
returns-in-Stays-clause-registers g c = λ left. with_row c.args.rows.now c.args.at c.requires.place (λ row there. (c.in-Stays.ensures.step row there).0)

pub returns-in-Stays-clause-memory : goal.returns-in-Stays-clause-memory
returns-in-Stays-clause-memory g c = λ left. with_row c.args.rows.now c.args.at c.requires.place (λ row there. (c.in-Stays.ensures.step row there).1)
