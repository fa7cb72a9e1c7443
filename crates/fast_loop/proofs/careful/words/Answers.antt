use Rattle.std.proofs.Common.{◌+◌, refl, sym, ◌∙◌, arith}
use Rattle.fast_loop.specs.declared.simple.Step.TheVariants as step
use Rattle.fast_loop.specs.declared.ways.Way.TheVariants as way
use Rattle.fast_loop.proofs.BlockLemmas.{same_rows, words_called, words_ended, words_left, words_moved, words_next, words_slot}
use Rattle.fast_loop.proofs.ComingLemmas.{called_step, done_step, jumped_step, same_step, slot_not, slot_then, shift_from, taken_step, with_row, word_done, word_shifted}
use Rattle.fast_loop.proofs.careful.words.Goals as goal

pub loop-at-preserved-in-Next : goal.loop-at-preserved-in-Next
loop-at-preserved-in-Next g c = record {
  words = words_next c.args.origin c.args.from c.loop-at.at (g.B.Bus.areas c.args.bus.now) c.args.own.now c.loop-at.own c.execute.new.own (g.B.Bus.memory c.args.bus.now) (g.B.Bus.memory c.loop-at.bus) (g.B.Bus.memory c.execute.new.bus) c.loop-at.invariant.words (done_step c.args.origin c.loop-at.at (g.B.Bus.areas c.args.bus.now) c.loop-at.own c.execute.new.own (g.B.Bus.memory c.loop-at.bus) (g.B.Bus.memory c.execute.new.bus) (with_row c.args.rows.now c.loop-at.at (omega (arith, c.loop-at-test.true, c.min-stop.ensures)) (λ row there. word_done c.args.rows.now c.args.origin c.loop-at.at (g.B.Bus.areas c.args.bus.now) (g.B.Bus.memory c.loop-at.bus) c.loop-at.invariant.rows (omega (arith, c.loop-at-test.true, c.min-stop.ensures)) row there c.loop-at.own c.execute.new.own (g.B.Bus.memory c.execute.new.bus) (sym c.get-zero.ensures.value ∙ c.get-zero.ensures.zero refl) (same_step (step.Next way.Idle) row c.args.origin c.loop-at.at (g.B.Bus.areas c.loop-at.bus) (g.B.Bus.areas c.args.bus.now) c.loop-at.own c.execute.new.own (g.B.Bus.memory c.loop-at.bus) (g.B.Bus.memory c.execute.new.bus) c.loop-at.invariant.areas (c.in-Next.ensures.step row there)))));
  rows = same_rows c.args.rows.now (g.B.Bus.areas c.loop-at.bus) (g.B.Bus.areas c.args.bus.now) (g.B.Bus.memory c.execute.new.bus) c.args.origin c.loop-at.invariant.areas c.execute.ensures.rows;
  reach = omega (arith, c.loop-at-test.true);
  areas = c.execute.ensures.areas ∙ c.loop-at.invariant.areas;
  others = c.execute.ensures.others ∙ c.loop-at.invariant.others;
}

pub returns-then-at-stop-clause-part : goal.returns-then-at-stop-clause-part
returns-then-at-stop-clause-part g c = words_slot c.args.origin c.args.from c.loop-at.at c.args.limit (g.B.Bus.areas c.args.bus.now) c.args.own.now c.loop-at.own c.execute.new.own (g.B.Bus.memory c.args.bus.now) (g.B.Bus.memory c.loop-at.bus) (g.B.Bus.memory c.execute.new.bus) c.loop-at.invariant.words c.requires.limit c.of.result c.in-Taken.displacement (omega (arith, c.loop-at-test.true, c.min-stop.ensures)) c.of.ensures
    (with_row c.args.rows.now c.loop-at.at (omega (arith, c.loop-at-test.true, c.min-stop.ensures)) (λ row there. let is = (same_step (step.Taken c.in-Taken.displacement) row c.args.origin c.loop-at.at (g.B.Bus.areas c.loop-at.bus) (g.B.Bus.areas c.args.bus.now) c.loop-at.own c.execute.new.own (g.B.Bus.memory c.loop-at.bus) (g.B.Bus.memory c.execute.new.bus) c.loop-at.invariant.areas (c.in-Taken.ensures.step row there)) in taken_step c.args.rows.now c.args.origin c.loop-at.at (g.B.Bus.areas c.args.bus.now) (g.B.Bus.memory c.loop-at.bus) c.loop-at.invariant.rows (omega (arith, c.loop-at-test.true, c.min-stop.ensures)) row there c.in-Taken.displacement c.loop-at.own c.execute.new.own (g.B.Bus.memory c.execute.new.bus) (sym c.get-zero.ensures.value ∙ c.get-zero.ensures.zero refl) is.0 is.1))

pub returns-then-in_slot-clause-part : goal.returns-then-in_slot-clause-part
returns-then-in_slot-clause-part g c = words_moved c.args.origin c.args.from c.loop-at.at c.args.limit (g.B.Bus.areas c.args.bus.now) c.args.own.now c.loop-at.own c.in_slot.new.own (g.B.Bus.memory c.args.bus.now) (g.B.Bus.memory c.loop-at.bus) (g.B.Bus.memory c.in_slot.new.bus) c.loop-at.invariant.words c.requires.limit c.moved.result 2 c.in-Taken.displacement (omega (arith, c.if-at-stop.false, c.min-stop.ensures)) c.moved.ensures
    (slot_then 1 c.args.origin (c.loop-at.at + 1) (c.loop-at.at + c.in-Taken.displacement) (g.B.Bus.areas c.execute.new.bus) (g.B.Bus.areas c.args.bus.now) _ c.execute.new.own c.in_slot.new.own (g.B.Bus.memory c.loop-at.bus) (g.B.Bus.memory c.execute.new.bus) (g.B.Bus.memory c.in_slot.new.bus) (c.execute.ensures.areas ∙ c.loop-at.invariant.areas)
    (with_row c.args.rows.now c.loop-at.at (omega (arith, c.loop-at-test.true, c.min-stop.ensures)) (λ row there. let is = (same_step (step.Taken c.in-Taken.displacement) row c.args.origin c.loop-at.at (g.B.Bus.areas c.loop-at.bus) (g.B.Bus.areas c.args.bus.now) c.loop-at.own c.execute.new.own (g.B.Bus.memory c.loop-at.bus) (g.B.Bus.memory c.execute.new.bus) c.loop-at.invariant.areas (c.in-Taken.ensures.step row there)) in taken_step c.args.rows.now c.args.origin c.loop-at.at (g.B.Bus.areas c.args.bus.now) (g.B.Bus.memory c.loop-at.bus) c.loop-at.invariant.rows (omega (arith, c.loop-at-test.true, c.min-stop.ensures)) row there c.in-Taken.displacement c.loop-at.own c.execute.new.own (g.B.Bus.memory c.execute.new.bus) (sym c.get-zero.ensures.value ∙ c.get-zero.ensures.zero refl) is.0 is.1)) c.if-in_slot.ensures.done)

pub returns-else-in_slot-clause-part : goal.returns-else-in_slot-clause-part
returns-else-in_slot-clause-part g c = words_slot c.args.origin c.args.from c.loop-at.at c.args.limit (g.B.Bus.areas c.args.bus.now) c.args.own.now c.loop-at.own c.in_slot.new.own (g.B.Bus.memory c.args.bus.now) (g.B.Bus.memory c.loop-at.bus) (g.B.Bus.memory c.in_slot.new.bus) c.loop-at.invariant.words c.requires.limit c.of-else-in_slot.result c.in-Taken.displacement (omega (arith, c.loop-at-test.true, c.min-stop.ensures)) c.of-else-in_slot.ensures
    (slot_not 1 c.args.origin (c.loop-at.at + 1) (c.loop-at.at + c.in-Taken.displacement) (g.B.Bus.areas c.args.bus.now) _ c.execute.new.own c.in_slot.new.own (g.B.Bus.memory c.loop-at.bus) (g.B.Bus.memory c.execute.new.bus) (g.B.Bus.memory c.in_slot.new.bus) (c.in_slot.ensures.registers c.if-in_slot.false) (c.in_slot.ensures.memory c.if-in_slot.false)
    (with_row c.args.rows.now c.loop-at.at (omega (arith, c.loop-at-test.true, c.min-stop.ensures)) (λ row there. let is = (same_step (step.Taken c.in-Taken.displacement) row c.args.origin c.loop-at.at (g.B.Bus.areas c.loop-at.bus) (g.B.Bus.areas c.args.bus.now) c.loop-at.own c.execute.new.own (g.B.Bus.memory c.loop-at.bus) (g.B.Bus.memory c.execute.new.bus) c.loop-at.invariant.areas (c.in-Taken.ensures.step row there)) in taken_step c.args.rows.now c.args.origin c.loop-at.at (g.B.Bus.areas c.args.bus.now) (g.B.Bus.memory c.loop-at.bus) c.loop-at.invariant.rows (omega (arith, c.loop-at-test.true, c.min-stop.ensures)) row there c.in-Taken.displacement c.loop-at.own c.execute.new.own (g.B.Bus.memory c.execute.new.bus) (sym c.get-zero.ensures.value ∙ c.get-zero.ensures.zero refl) is.0 is.1)))

pub returns-in-Jumped-clause-part : goal.returns-in-Jumped-clause-part
returns-in-Jumped-clause-part g c = words_moved c.args.origin c.args.from c.loop-at.at c.args.limit (g.B.Bus.areas c.args.bus.now) c.args.own.now c.loop-at.own c.execute.new.own (g.B.Bus.memory c.args.bus.now) (g.B.Bus.memory c.loop-at.bus) (g.B.Bus.memory c.execute.new.bus) c.loop-at.invariant.words c.requires.limit c.moved-in-Jumped.result 1 c.in-Jumped.displacement (omega (arith, c.loop-at-test.true, c.min-stop.ensures)) c.moved-in-Jumped.ensures
    (with_row c.args.rows.now c.loop-at.at (omega (arith, c.loop-at-test.true, c.min-stop.ensures)) (λ row there. let is = (same_step (step.Jumped c.in-Jumped.displacement) row c.args.origin c.loop-at.at (g.B.Bus.areas c.loop-at.bus) (g.B.Bus.areas c.args.bus.now) c.loop-at.own c.execute.new.own (g.B.Bus.memory c.loop-at.bus) (g.B.Bus.memory c.execute.new.bus) c.loop-at.invariant.areas (c.in-Jumped.ensures.step row there)) in jumped_step c.args.rows.now c.args.origin c.loop-at.at (g.B.Bus.areas c.args.bus.now) (g.B.Bus.memory c.loop-at.bus) c.loop-at.invariant.rows (omega (arith, c.loop-at-test.true, c.min-stop.ensures)) row there c.in-Jumped.displacement c.loop-at.own c.execute.new.own (g.B.Bus.memory c.execute.new.bus) is.0 is.1 is.2))

pub returns-in-Calls-clause-part : goal.returns-in-Calls-clause-part
returns-in-Calls-clause-part g c =
    let is = (with_row c.args.rows.now c.loop-at.at (omega (arith, c.loop-at-test.true, c.min-stop.ensures)) (λ row there. let is = (same_step step.Calls row c.args.origin c.loop-at.at (g.B.Bus.areas c.loop-at.bus) (g.B.Bus.areas c.args.bus.now) c.loop-at.own c.execute.new.own (g.B.Bus.memory c.loop-at.bus) (g.B.Bus.memory c.execute.new.bus) c.loop-at.invariant.areas (c.in-Calls.ensures.step row there)) in called_step c.args.rows.now c.args.origin c.loop-at.at (g.B.Bus.areas c.args.bus.now) (g.B.Bus.memory c.loop-at.bus) c.loop-at.invariant.rows (omega (arith, c.loop-at-test.true, c.min-stop.ensures)) row there c.loop-at.own c.execute.new.own (g.B.Bus.memory c.execute.new.bus) (sym c.get-zero.ensures.value ∙ c.get-zero.ensures.zero refl) is.0 is.1 is.2)) in
    words_called c.args.origin c.args.from c.loop-at.at c.args.limit (g.B.Bus.areas c.args.bus.now) c.args.own.now c.loop-at.own c.execute.new.own (g.B.Bus.memory c.args.bus.now) (g.B.Bus.memory c.loop-at.bus) (g.B.Bus.memory c.execute.new.bus) c.loop-at.invariant.words c.requires.limit c.of-in-Calls.result (omega (arith, c.loop-at-test.true, c.min-stop.ensures)) c.of-in-Calls.ensures is.0 is.1 is.2

pub returns-then-not-shift-clause-part : goal.returns-then-not-shift-clause-part
returns-then-not-shift-clause-part g c =
    with_row c.args.rows.now c.loop-at.at (omega (arith, c.loop-at-test.true, c.min-stop.ensures)) (λ row there.
    words_left c.args.origin c.args.from c.loop-at.at c.args.limit (g.B.Bus.areas c.args.bus.now) c.args.own.now c.loop-at.own c.shift.new.own (g.B.Bus.memory c.args.bus.now) (g.B.Bus.memory c.loop-at.bus) (g.B.Bus.memory c.shift.new.bus) c.loop-at.invariant.words c.requires.limit c.of-then-not-shift.result (omega (arith, c.loop-at-test.true, c.min-stop.ensures)) c.of-then-not-shift.ensures
    (c.if-not-shift.ensures.registers refl ∙ (c.in-Shifts.ensures.step row there).0) (c.if-not-shift.ensures.bytes refl ∙ (c.in-Shifts.ensures.step row there).1))

pub loop-at-preserved : goal.loop-at-preserved
loop-at-preserved g c = record {
  words = words_next c.args.origin c.args.from c.loop-at.at (g.B.Bus.areas c.args.bus.now) c.args.own.now c.loop-at.own c.shift.new.own (g.B.Bus.memory c.args.bus.now) (g.B.Bus.memory c.loop-at.bus) (g.B.Bus.memory c.shift.new.bus) c.loop-at.invariant.words (done_step c.args.origin c.loop-at.at (g.B.Bus.areas c.args.bus.now) c.loop-at.own c.shift.new.own (g.B.Bus.memory c.loop-at.bus) (g.B.Bus.memory c.shift.new.bus) (with_row c.args.rows.now c.loop-at.at (omega (arith, c.loop-at-test.true, c.min-stop.ensures)) (λ row there. word_shifted c.args.rows.now c.args.origin c.loop-at.at (g.B.Bus.areas c.args.bus.now) (g.B.Bus.memory c.loop-at.bus) c.loop-at.invariant.rows (omega (arith, c.loop-at-test.true, c.min-stop.ensures)) row there c.loop-at.own c.shift.new.own (g.B.Bus.memory c.shift.new.bus) (c.if-not-shift.ensures.used row there) (shift_from row _ _ (g.B.Bus.areas c.args.bus.now) c.loop-at.own _ c.shift.new.own (g.B.Bus.memory c.loop-at.bus) _ (g.B.Bus.memory c.shift.new.bus) (c.execute.ensures.areas ∙ c.loop-at.invariant.areas) (c.in-Shifts.ensures.step row there).0 (c.in-Shifts.ensures.step row there).1 (c.if-not-shift.ensures.done row there)))));
  rows = same_rows c.args.rows.now (g.B.Bus.areas c.loop-at.bus) (g.B.Bus.areas c.args.bus.now) (g.B.Bus.memory c.shift.new.bus) c.args.origin c.loop-at.invariant.areas (same_rows c.args.rows.now (g.B.Bus.areas c.execute.new.bus) (g.B.Bus.areas c.loop-at.bus) (g.B.Bus.memory c.shift.new.bus) c.args.origin c.execute.ensures.areas c.shift.ensures.rows);
  reach = omega (arith, c.loop-at-test.true);
  areas = c.shift.ensures.areas ∙ c.execute.ensures.areas ∙ c.loop-at.invariant.areas;
  others = c.shift.ensures.others ∙ c.execute.ensures.others ∙ c.loop-at.invariant.others;
}

pub returns-in-Stays-clause-part : goal.returns-in-Stays-clause-part
returns-in-Stays-clause-part g c =
    with_row c.args.rows.now c.loop-at.at (omega (arith, c.loop-at-test.true, c.min-stop.ensures)) (λ row there.
    words_left c.args.origin c.args.from c.loop-at.at c.args.limit (g.B.Bus.areas c.args.bus.now) c.args.own.now c.loop-at.own c.execute.new.own (g.B.Bus.memory c.args.bus.now) (g.B.Bus.memory c.loop-at.bus) (g.B.Bus.memory c.execute.new.bus) c.loop-at.invariant.words c.requires.limit c.of-in-Stays.result (omega (arith, c.loop-at-test.true, c.min-stop.ensures)) c.of-in-Stays.ensures (c.in-Stays.ensures.step row there).0 (c.in-Stays.ensures.step row there).1)

pub returns-clause-part : goal.returns-clause-part
returns-clause-part g c = words_ended c.args.origin c.args.from c.loop-at.at c.args.limit (g.B.Bus.areas c.args.bus.now) c.args.own.now c.loop-at.own c.loop-at.own (g.B.Bus.memory c.args.bus.now) (g.B.Bus.memory c.loop-at.bus) (g.B.Bus.memory c.loop-at.bus) c.loop-at.invariant.words c.requires.limit c.of-2.result (omega (arith, c.loop-at-test.false, c.requires.from, c.requires.room, c.min-stop.ensures)) (omega (arith, c.loop-at.invariant.reach, c.min-stop.ensures)) c.of-2.ensures refl refl
