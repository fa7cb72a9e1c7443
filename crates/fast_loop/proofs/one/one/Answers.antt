use Rattle.std.proofs.Common.{◌+◌, refl, sym, ◌∙◌}
use Rattle.predecode.specs.Kinds.{does}
use Rattle.std.specs.Prelude.{true, false}
use Rattle.fast_loop.proofs.ComingLemmas.{called_step, done_step, jumped_step, shift_from, slot_not, slot_then, taken_step, with_row, word_done, word_shifted}
use Rattle.fast_loop.proofs.DoesLemmas.{goes_on}
use Rattle.fast_loop.proofs.PairLemmas.{came_pair, came_passed, first_on, second_on, under_of, under_pair}
use Rattle.fast_loop.proofs.one.one.Goals as goal

pub returns-in-Next-clause-came : goal.returns-in-Next-clause-came
returns-in-Next-clause-came g c =
    done_step c.args.origin c.args.at (g.B.Bus.areas c.args.bus.now) c.args.own.now c.execute_first.new.own (g.B.Bus.memory c.args.bus.now) (g.B.Bus.memory c.execute_first.new.bus)
    (with_row c.args.rows.now c.args.at (under_of c.args.rows.now c.args.at c.requires.ahead) (λ row there.
    word_done c.args.rows.now c.args.origin c.args.at (g.B.Bus.areas c.args.bus.now) (g.B.Bus.memory c.args.bus.now) c.requires.rows (under_of c.args.rows.now c.args.at c.requires.ahead) row there c.args.own.now c.execute_first.new.own (g.B.Bus.memory c.execute_first.new.bus) (sym c.get-zero.ensures.value ∙ c.get-zero.ensures.zero refl) (c.in-Next.ensures.step row there)))

pub returns-in-Next-clause-on : goal.returns-in-Next-clause-on
returns-in-Next-clause-on g c = λ row there.
    goes_on (does row.kind) row (g.B.Bus.areas c.args.bus.now) c.args.own.now c.execute_first.new.own (g.B.Bus.memory c.args.bus.now) (g.B.Bus.memory c.execute_first.new.bus) (c.in-Next.ensures.step row there)

pub returns-in-Passed-clause-came : goal.returns-in-Passed-clause-came
returns-in-Passed-clause-came g c = came_passed false c.args.rows.now c.args.origin c.args.at (g.B.Bus.areas c.args.bus.now) c.args.own.now c.execute_first.new.own (g.B.Bus.memory c.args.bus.now) (g.B.Bus.memory c.execute_first.new.bus) c.requires.rows c.execute_first.ensures.rows c.requires.ahead (sym c.get-zero.ensures.value ∙ c.get-zero.ensures.zero refl) (sym c.get-then.ensures.value ∙ c.get-then.ensures.zero refl) c.in-Passed.ensures.step refl

pub returns-in-Passed-clause-on : goal.returns-in-Passed-clause-on
returns-in-Passed-clause-on g c = (
  first_on false c.args.rows.now c.args.origin c.args.at (g.B.Bus.areas c.args.bus.now) c.args.own.now c.execute_first.new.own (g.B.Bus.memory c.args.bus.now) (g.B.Bus.memory c.execute_first.new.bus) c.requires.rows c.execute_first.ensures.rows c.requires.ahead (sym c.get-zero.ensures.value ∙ c.get-zero.ensures.zero refl) (sym c.get-then.ensures.value ∙ c.get-then.ensures.zero refl) c.in-Passed.ensures.step,
  second_on false c.args.rows.now c.args.origin c.args.at (g.B.Bus.areas c.args.bus.now) c.args.own.now c.execute_first.new.own (g.B.Bus.memory c.args.bus.now) (g.B.Bus.memory c.execute_first.new.bus) c.requires.rows c.execute_first.ensures.rows c.requires.ahead (sym c.get-zero.ensures.value ∙ c.get-zero.ensures.zero refl) (sym c.get-then.ensures.value ∙ c.get-then.ensures.zero refl) c.in-Passed.ensures.step,
)

pub returns-in-Jumped-clause-came : goal.returns-in-Jumped-clause-came
returns-in-Jumped-clause-came g c =
    with_row c.args.rows.now c.args.at (under_of c.args.rows.now c.args.at c.requires.ahead) (λ row there.
    jumped_step c.args.rows.now c.args.origin c.args.at (g.B.Bus.areas c.args.bus.now) (g.B.Bus.memory c.args.bus.now) c.requires.rows (under_of c.args.rows.now c.args.at c.requires.ahead) row there c.in-Jumped.displacement c.args.own.now c.execute_first.new.own (g.B.Bus.memory c.execute_first.new.bus) (c.in-Jumped.ensures.step row there).0 (c.in-Jumped.ensures.step row there).1 (c.in-Jumped.ensures.step row there).2)

pub returns-in-Calls-clause-came : goal.returns-in-Calls-clause-came
returns-in-Calls-clause-came g c =
    with_row c.args.rows.now c.args.at (under_of c.args.rows.now c.args.at c.requires.ahead) (λ row there.
    called_step c.args.rows.now c.args.origin c.args.at (g.B.Bus.areas c.args.bus.now) (g.B.Bus.memory c.args.bus.now) c.requires.rows (under_of c.args.rows.now c.args.at c.requires.ahead) row there c.args.own.now c.execute_first.new.own (g.B.Bus.memory c.execute_first.new.bus) (sym c.get-zero.ensures.value ∙ c.get-zero.ensures.zero refl) (c.in-Calls.ensures.step row there).0 (c.in-Calls.ensures.step row there).1 (c.in-Calls.ensures.step row there).2)

pub in_slot-requires-clause-place : goal.in_slot-requires-clause-place
in_slot-requires-clause-place g c = under_pair c.args.rows.now c.args.at c.requires.ahead (first_on true c.args.rows.now c.args.origin c.args.at (g.B.Bus.areas c.args.bus.now) c.args.own.now c.execute_first.new.own (g.B.Bus.memory c.args.bus.now) (g.B.Bus.memory c.execute_first.new.bus) c.requires.rows c.execute_first.ensures.rows c.requires.ahead (sym c.get-zero.ensures.value ∙ c.get-zero.ensures.zero refl) (sym c.get-then-in-Compared.ensures.value ∙ c.get-then-in-Compared.ensures.zero refl) c.in-Compared.ensures.step) (second_on true c.args.rows.now c.args.origin c.args.at (g.B.Bus.areas c.args.bus.now) c.args.own.now c.execute_first.new.own (g.B.Bus.memory c.args.bus.now) (g.B.Bus.memory c.execute_first.new.bus) c.requires.rows c.execute_first.ensures.rows c.requires.ahead (sym c.get-zero.ensures.value ∙ c.get-zero.ensures.zero refl) (sym c.get-then-in-Compared.ensures.value ∙ c.get-then-in-Compared.ensures.zero refl) c.in-Compared.ensures.step)

pub returns-then-in_slot-clause-came : goal.returns-then-in_slot-clause-came
returns-then-in_slot-clause-came g c =
    slot_then 2 c.args.origin (c.args.at + 2) (c.args.at + 1 + c.number_at-displacement.result) (g.B.Bus.areas c.execute_first.new.bus) (g.B.Bus.areas c.args.bus.now) _ c.execute_first.new.own c.in_slot.new.own (g.B.Bus.memory c.args.bus.now) (g.B.Bus.memory c.execute_first.new.bus) (g.B.Bus.memory c.in_slot.new.bus) c.execute_first.ensures.areas
    (came_pair true c.args.rows.now c.args.origin c.args.at (g.B.Bus.areas c.args.bus.now) c.args.own.now c.execute_first.new.own (g.B.Bus.memory c.args.bus.now) (g.B.Bus.memory c.execute_first.new.bus) c.requires.rows c.execute_first.ensures.rows c.requires.ahead (sym c.get-zero.ensures.value ∙ c.get-zero.ensures.zero refl) (sym c.get-then-in-Compared.ensures.value ∙ c.get-then-in-Compared.ensures.zero refl) c.in-Compared.ensures.step c.number_at-displacement.result refl c.number_at-displacement.ensures) c.if-in_slot.ensures.done

pub returns-then-in_slot-clause-on : goal.returns-then-in_slot-clause-on
returns-then-in_slot-clause-on g c = (first_on true c.args.rows.now c.args.origin c.args.at (g.B.Bus.areas c.args.bus.now) c.args.own.now c.execute_first.new.own (g.B.Bus.memory c.args.bus.now) (g.B.Bus.memory c.execute_first.new.bus) c.requires.rows c.execute_first.ensures.rows c.requires.ahead (sym c.get-zero.ensures.value ∙ c.get-zero.ensures.zero refl) (sym c.get-then-in-Compared.ensures.value ∙ c.get-then-in-Compared.ensures.zero refl) c.in-Compared.ensures.step, second_on true c.args.rows.now c.args.origin c.args.at (g.B.Bus.areas c.args.bus.now) c.args.own.now c.execute_first.new.own (g.B.Bus.memory c.args.bus.now) (g.B.Bus.memory c.execute_first.new.bus) c.requires.rows c.execute_first.ensures.rows c.requires.ahead (sym c.get-zero.ensures.value ∙ c.get-zero.ensures.zero refl) (sym c.get-then-in-Compared.ensures.value ∙ c.get-then-in-Compared.ensures.zero refl) c.in-Compared.ensures.step)

pub returns-else-in_slot-clause-came : goal.returns-else-in_slot-clause-came
returns-else-in_slot-clause-came g c =
    slot_not 2 c.args.origin (c.args.at + 2) (c.args.at + 1 + c.number_at-displacement.result) (g.B.Bus.areas c.args.bus.now) _ c.execute_first.new.own c.in_slot.new.own (g.B.Bus.memory c.args.bus.now) (g.B.Bus.memory c.execute_first.new.bus) (g.B.Bus.memory c.in_slot.new.bus) (c.in_slot.ensures.registers c.if-in_slot.false) (c.in_slot.ensures.memory c.if-in_slot.false)
    (came_pair true c.args.rows.now c.args.origin c.args.at (g.B.Bus.areas c.args.bus.now) c.args.own.now c.execute_first.new.own (g.B.Bus.memory c.args.bus.now) (g.B.Bus.memory c.execute_first.new.bus) c.requires.rows c.execute_first.ensures.rows c.requires.ahead (sym c.get-zero.ensures.value ∙ c.get-zero.ensures.zero refl) (sym c.get-then-in-Compared.ensures.value ∙ c.get-then-in-Compared.ensures.zero refl) c.in-Compared.ensures.step c.number_at-displacement.result refl c.number_at-displacement.ensures)

pub returns-else-in_slot-clause-on : goal.returns-else-in_slot-clause-on
returns-else-in_slot-clause-on g c = (first_on true c.args.rows.now c.args.origin c.args.at (g.B.Bus.areas c.args.bus.now) c.args.own.now c.execute_first.new.own (g.B.Bus.memory c.args.bus.now) (g.B.Bus.memory c.execute_first.new.bus) c.requires.rows c.execute_first.ensures.rows c.requires.ahead (sym c.get-zero.ensures.value ∙ c.get-zero.ensures.zero refl) (sym c.get-then-in-Compared.ensures.value ∙ c.get-then-in-Compared.ensures.zero refl) c.in-Compared.ensures.step, second_on true c.args.rows.now c.args.origin c.args.at (g.B.Bus.areas c.args.bus.now) c.args.own.now c.execute_first.new.own (g.B.Bus.memory c.args.bus.now) (g.B.Bus.memory c.execute_first.new.bus) c.requires.rows c.execute_first.ensures.rows c.requires.ahead (sym c.get-zero.ensures.value ∙ c.get-zero.ensures.zero refl) (sym c.get-then-in-Compared.ensures.value ∙ c.get-then-in-Compared.ensures.zero refl) c.in-Compared.ensures.step)

pub returns-in-Stays-clause-came : goal.returns-in-Stays-clause-came
returns-in-Stays-clause-came g c = with_row c.args.rows.now c.args.at (under_of c.args.rows.now c.args.at c.requires.ahead) (λ row there. c.in-Stays.ensures.step row there)

pub returns-then-in_slot-2-clause-came : goal.returns-then-in_slot-2-clause-came
returns-then-in_slot-2-clause-came g c =
    slot_then 1 c.args.origin (c.args.at + 1) (c.args.at + c.in-Taken.displacement) (g.B.Bus.areas c.execute_first.new.bus) (g.B.Bus.areas c.args.bus.now) _ c.execute_first.new.own c.in_slot-in-Taken.new.own (g.B.Bus.memory c.args.bus.now) (g.B.Bus.memory c.execute_first.new.bus) (g.B.Bus.memory c.in_slot-in-Taken.new.bus) c.execute_first.ensures.areas (with_row c.args.rows.now c.args.at (under_of c.args.rows.now c.args.at c.requires.ahead) (λ row there. taken_step c.args.rows.now c.args.origin c.args.at (g.B.Bus.areas c.args.bus.now) (g.B.Bus.memory c.args.bus.now) c.requires.rows (under_of c.args.rows.now c.args.at c.requires.ahead) row there c.in-Taken.displacement c.args.own.now c.execute_first.new.own (g.B.Bus.memory c.execute_first.new.bus) (sym c.get-zero.ensures.value ∙ c.get-zero.ensures.zero refl) (c.in-Taken.ensures.step row there).0 (c.in-Taken.ensures.step row there).1)) c.if-in_slot-2.ensures.done

pub returns-else-in_slot-2-clause-came : goal.returns-else-in_slot-2-clause-came
returns-else-in_slot-2-clause-came g c =
    slot_not 1 c.args.origin (c.args.at + 1) (c.args.at + c.in-Taken.displacement) (g.B.Bus.areas c.args.bus.now) _ c.execute_first.new.own c.in_slot-in-Taken.new.own (g.B.Bus.memory c.args.bus.now) (g.B.Bus.memory c.execute_first.new.bus) (g.B.Bus.memory c.in_slot-in-Taken.new.bus)
    (c.in_slot-in-Taken.ensures.registers c.if-in_slot-2.false) (c.in_slot-in-Taken.ensures.memory c.if-in_slot-2.false) (with_row c.args.rows.now c.args.at (under_of c.args.rows.now c.args.at c.requires.ahead) (λ row there. taken_step c.args.rows.now c.args.origin c.args.at (g.B.Bus.areas c.args.bus.now) (g.B.Bus.memory c.args.bus.now) c.requires.rows (under_of c.args.rows.now c.args.at c.requires.ahead) row there c.in-Taken.displacement c.args.own.now c.execute_first.new.own (g.B.Bus.memory c.execute_first.new.bus) (sym c.get-zero.ensures.value ∙ c.get-zero.ensures.zero refl) (c.in-Taken.ensures.step row there).0 (c.in-Taken.ensures.step row there).1))

pub returns-then-shift-clause-came : goal.returns-then-shift-clause-came
returns-then-shift-clause-came g c =
    done_step c.args.origin c.args.at (g.B.Bus.areas c.args.bus.now) c.args.own.now c.shift.new.own (g.B.Bus.memory c.args.bus.now) (g.B.Bus.memory c.shift.new.bus)
    (with_row c.args.rows.now c.args.at (under_of c.args.rows.now c.args.at c.requires.ahead) (λ row there.
    word_shifted c.args.rows.now c.args.origin c.args.at (g.B.Bus.areas c.args.bus.now) (g.B.Bus.memory c.args.bus.now) c.requires.rows (under_of c.args.rows.now c.args.at c.requires.ahead) row there c.args.own.now c.shift.new.own (g.B.Bus.memory c.shift.new.bus) (c.if-shift.ensures.used row there)
    (shift_from row _ _ (g.B.Bus.areas c.args.bus.now) c.args.own.now _ c.shift.new.own (g.B.Bus.memory c.args.bus.now) _ (g.B.Bus.memory c.shift.new.bus) c.execute_first.ensures.areas (c.in-Shifts.ensures.step row there).0 (c.in-Shifts.ensures.step row there).1 (c.if-shift.ensures.done row there))))

pub returns-else-shift-clause-came : goal.returns-else-shift-clause-came
returns-else-shift-clause-came g c =
    with_row c.args.rows.now c.args.at (under_of c.args.rows.now c.args.at c.requires.ahead) (λ row there. (c.shift.ensures.registers c.if-shift.false ∙ (c.in-Shifts.ensures.step row there).0, c.shift.ensures.bytes c.if-shift.false ∙ (c.in-Shifts.ensures.step row there).1))
