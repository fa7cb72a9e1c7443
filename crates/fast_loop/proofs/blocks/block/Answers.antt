use Rattle.std.proofs.Common.{◌∙◌, arith}
use Rattle.fast_loop.specs.declared.one.Came.TheVariants as came
use Rattle.fast_loop.specs.declared.ways.Way.TheVariants as way
use Rattle.fast_loop.proofs.BlockLemmas.{block_called, block_left, block_moved, block_next, block_pair, block_pair_slot, block_slot, block_two, more_dropped, same_came, same_rows}
use Rattle.fast_loop.proofs.blocks.block.Goals as goal

pub loop-at-preserved-in-Next-Idle : goal.loop-at-preserved-in-Next-Idle
loop-at-preserved-in-Next-Idle g c = record {
  words = block_next c.args.rows.now c.args.origin c.args.from c.loop-at.at c.args.limit (g.B.Bus.areas c.args.bus.now) c.args.own.now c.loop-at.own c.one.new.own (g.B.Bus.memory c.args.bus.now) (g.B.Bus.memory c.loop-at.bus) (g.B.Bus.memory c.one.new.bus) c.loop-at.invariant.words c.in-Next-Idle.ensures.on (same_came (came.Next way.Idle) c.args.origin c.loop-at.at (g.B.Bus.areas c.loop-at.bus) (g.B.Bus.areas c.args.bus.now) c.loop-at.own c.one.new.own (g.B.Bus.memory c.loop-at.bus) (g.B.Bus.memory c.one.new.bus) c.loop-at.invariant.areas c.in-Next-Idle.ensures.came);
  rest = more_dropped c.args.rows.now c.loop-at.rest.now c.after-rest-in-Next-Idle.result.now c.loop-at.at 1 c.loop-at.invariant.rest c.after-rest-in-Next-Idle.ensures;
  rows = same_rows c.args.rows.now (g.B.Bus.areas c.loop-at.bus) (g.B.Bus.areas c.args.bus.now) (g.B.Bus.memory c.one.new.bus) c.args.origin c.loop-at.invariant.areas c.one.ensures.rows;
  areas = c.one.ensures.areas ∙ c.loop-at.invariant.areas;
  others = c.one.ensures.others ∙ c.loop-at.invariant.others;
}

pub loop-at-preserved-in-Next-Sums : goal.loop-at-preserved-in-Next-Sums
loop-at-preserved-in-Next-Sums g c = record {
  words = block_next c.args.rows.now c.args.origin c.args.from c.loop-at.at c.args.limit (g.B.Bus.areas c.args.bus.now) c.args.own.now c.loop-at.own c.one.new.own (g.B.Bus.memory c.args.bus.now) (g.B.Bus.memory c.loop-at.bus) (g.B.Bus.memory c.one.new.bus) c.loop-at.invariant.words c.in-Next-Sums.ensures.on (same_came (came.Next way.Sums) c.args.origin c.loop-at.at (g.B.Bus.areas c.loop-at.bus) (g.B.Bus.areas c.args.bus.now) c.loop-at.own c.one.new.own (g.B.Bus.memory c.loop-at.bus) (g.B.Bus.memory c.one.new.bus) c.loop-at.invariant.areas c.in-Next-Sums.ensures.came);
  rest = more_dropped c.args.rows.now c.loop-at.rest.now c.after-rest-in-Next-Sums.result.now c.loop-at.at 1 c.loop-at.invariant.rest c.after-rest-in-Next-Sums.ensures;
  rows = same_rows c.args.rows.now (g.B.Bus.areas c.loop-at.bus) (g.B.Bus.areas c.args.bus.now) (g.B.Bus.memory c.one.new.bus) c.args.origin c.loop-at.invariant.areas c.one.ensures.rows;
  areas = c.one.ensures.areas ∙ c.loop-at.invariant.areas;
  others = c.one.ensures.others ∙ c.loop-at.invariant.others;
}

pub loop-at-preserved-in-Next-Bits : goal.loop-at-preserved-in-Next-Bits
loop-at-preserved-in-Next-Bits g c = record {
  words = block_next c.args.rows.now c.args.origin c.args.from c.loop-at.at c.args.limit (g.B.Bus.areas c.args.bus.now) c.args.own.now c.loop-at.own c.one.new.own (g.B.Bus.memory c.args.bus.now) (g.B.Bus.memory c.loop-at.bus) (g.B.Bus.memory c.one.new.bus) c.loop-at.invariant.words c.in-Next-Bits.ensures.on (same_came (came.Next way.Bits) c.args.origin c.loop-at.at (g.B.Bus.areas c.loop-at.bus) (g.B.Bus.areas c.args.bus.now) c.loop-at.own c.one.new.own (g.B.Bus.memory c.loop-at.bus) (g.B.Bus.memory c.one.new.bus) c.loop-at.invariant.areas c.in-Next-Bits.ensures.came);
  rest = more_dropped c.args.rows.now c.loop-at.rest.now c.after-rest-in-Next-Bits.result.now c.loop-at.at 1 c.loop-at.invariant.rest c.after-rest-in-Next-Bits.ensures;
  rows = same_rows c.args.rows.now (g.B.Bus.areas c.loop-at.bus) (g.B.Bus.areas c.args.bus.now) (g.B.Bus.memory c.one.new.bus) c.args.origin c.loop-at.invariant.areas c.one.ensures.rows;
  areas = c.one.ensures.areas ∙ c.loop-at.invariant.areas;
  others = c.one.ensures.others ∙ c.loop-at.invariant.others;
}

pub loop-at-preserved-in-Next-Tests : goal.loop-at-preserved-in-Next-Tests
loop-at-preserved-in-Next-Tests g c = record {
  words = block_next c.args.rows.now c.args.origin c.args.from c.loop-at.at c.args.limit (g.B.Bus.areas c.args.bus.now) c.args.own.now c.loop-at.own c.one.new.own (g.B.Bus.memory c.args.bus.now) (g.B.Bus.memory c.loop-at.bus) (g.B.Bus.memory c.one.new.bus) c.loop-at.invariant.words c.in-Next-Tests.ensures.on (same_came (came.Next way.Tests) c.args.origin c.loop-at.at (g.B.Bus.areas c.loop-at.bus) (g.B.Bus.areas c.args.bus.now) c.loop-at.own c.one.new.own (g.B.Bus.memory c.loop-at.bus) (g.B.Bus.memory c.one.new.bus) c.loop-at.invariant.areas c.in-Next-Tests.ensures.came);
  rest = more_dropped c.args.rows.now c.loop-at.rest.now c.after-rest-in-Next-Tests.result.now c.loop-at.at 1 c.loop-at.invariant.rest c.after-rest-in-Next-Tests.ensures;
  rows = same_rows c.args.rows.now (g.B.Bus.areas c.loop-at.bus) (g.B.Bus.areas c.args.bus.now) (g.B.Bus.memory c.one.new.bus) c.args.origin c.loop-at.invariant.areas c.one.ensures.rows;
  areas = c.one.ensures.areas ∙ c.loop-at.invariant.areas;
  others = c.one.ensures.others ∙ c.loop-at.invariant.others;
}

pub loop-at-preserved-in-Next-Shifts : goal.loop-at-preserved-in-Next-Shifts
loop-at-preserved-in-Next-Shifts g c = record {
  words = block_next c.args.rows.now c.args.origin c.args.from c.loop-at.at c.args.limit (g.B.Bus.areas c.args.bus.now) c.args.own.now c.loop-at.own c.one.new.own (g.B.Bus.memory c.args.bus.now) (g.B.Bus.memory c.loop-at.bus) (g.B.Bus.memory c.one.new.bus) c.loop-at.invariant.words c.in-Next-Shifts.ensures.on (same_came (came.Next way.Shifts) c.args.origin c.loop-at.at (g.B.Bus.areas c.loop-at.bus) (g.B.Bus.areas c.args.bus.now) c.loop-at.own c.one.new.own (g.B.Bus.memory c.loop-at.bus) (g.B.Bus.memory c.one.new.bus) c.loop-at.invariant.areas c.in-Next-Shifts.ensures.came);
  rest = more_dropped c.args.rows.now c.loop-at.rest.now c.after-rest-in-Next-Shifts.result.now c.loop-at.at 1 c.loop-at.invariant.rest c.after-rest-in-Next-Shifts.ensures;
  rows = same_rows c.args.rows.now (g.B.Bus.areas c.loop-at.bus) (g.B.Bus.areas c.args.bus.now) (g.B.Bus.memory c.one.new.bus) c.args.origin c.loop-at.invariant.areas c.one.ensures.rows;
  areas = c.one.ensures.areas ∙ c.loop-at.invariant.areas;
  others = c.one.ensures.others ∙ c.loop-at.invariant.others;
}

pub loop-at-preserved-in-Next-Loads : goal.loop-at-preserved-in-Next-Loads
loop-at-preserved-in-Next-Loads g c = record {
  words = block_next c.args.rows.now c.args.origin c.args.from c.loop-at.at c.args.limit (g.B.Bus.areas c.args.bus.now) c.args.own.now c.loop-at.own c.one.new.own (g.B.Bus.memory c.args.bus.now) (g.B.Bus.memory c.loop-at.bus) (g.B.Bus.memory c.one.new.bus) c.loop-at.invariant.words c.in-Next-Loads.ensures.on (same_came (came.Next way.Loads) c.args.origin c.loop-at.at (g.B.Bus.areas c.loop-at.bus) (g.B.Bus.areas c.args.bus.now) c.loop-at.own c.one.new.own (g.B.Bus.memory c.loop-at.bus) (g.B.Bus.memory c.one.new.bus) c.loop-at.invariant.areas c.in-Next-Loads.ensures.came);
  rest = more_dropped c.args.rows.now c.loop-at.rest.now c.after-rest-in-Next-Loads.result.now c.loop-at.at 1 c.loop-at.invariant.rest c.after-rest-in-Next-Loads.ensures;
  rows = same_rows c.args.rows.now (g.B.Bus.areas c.loop-at.bus) (g.B.Bus.areas c.args.bus.now) (g.B.Bus.memory c.one.new.bus) c.args.origin c.loop-at.invariant.areas c.one.ensures.rows;
  areas = c.one.ensures.areas ∙ c.loop-at.invariant.areas;
  others = c.one.ensures.others ∙ c.loop-at.invariant.others;
}

pub loop-at-preserved-in-Next-Stores : goal.loop-at-preserved-in-Next-Stores
loop-at-preserved-in-Next-Stores g c = record {
  words = block_next c.args.rows.now c.args.origin c.args.from c.loop-at.at c.args.limit (g.B.Bus.areas c.args.bus.now) c.args.own.now c.loop-at.own c.one.new.own (g.B.Bus.memory c.args.bus.now) (g.B.Bus.memory c.loop-at.bus) (g.B.Bus.memory c.one.new.bus) c.loop-at.invariant.words c.in-Next-Stores.ensures.on (same_came (came.Next way.Stores) c.args.origin c.loop-at.at (g.B.Bus.areas c.loop-at.bus) (g.B.Bus.areas c.args.bus.now) c.loop-at.own c.one.new.own (g.B.Bus.memory c.loop-at.bus) (g.B.Bus.memory c.one.new.bus) c.loop-at.invariant.areas c.in-Next-Stores.ensures.came);
  rest = more_dropped c.args.rows.now c.loop-at.rest.now c.after-rest-in-Next-Stores.result.now c.loop-at.at 1 c.loop-at.invariant.rest c.after-rest-in-Next-Stores.ensures;
  rows = same_rows c.args.rows.now (g.B.Bus.areas c.loop-at.bus) (g.B.Bus.areas c.args.bus.now) (g.B.Bus.memory c.one.new.bus) c.args.origin c.loop-at.invariant.areas c.one.ensures.rows;
  areas = c.one.ensures.areas ∙ c.loop-at.invariant.areas;
  others = c.one.ensures.others ∙ c.loop-at.invariant.others;
}

pub loop-at-preserved : goal.loop-at-preserved
loop-at-preserved g c = record {
  words = block_two c.args.rows.now c.args.origin c.args.from c.loop-at.at c.args.limit (g.B.Bus.areas c.args.bus.now) c.args.own.now c.loop-at.own c.one.new.own (g.B.Bus.memory c.args.bus.now) (g.B.Bus.memory c.loop-at.bus) (g.B.Bus.memory c.one.new.bus) c.loop-at.invariant.words c.in-Passed.ensures.on.0 c.in-Passed.ensures.on.1 (same_came (came.Passed) c.args.origin c.loop-at.at (g.B.Bus.areas c.loop-at.bus) (g.B.Bus.areas c.args.bus.now) c.loop-at.own c.one.new.own (g.B.Bus.memory c.loop-at.bus) (g.B.Bus.memory c.one.new.bus) c.loop-at.invariant.areas c.in-Passed.ensures.came);
  rest = more_dropped c.args.rows.now c.loop-at.rest.now c.after-rest-in-Passed.result.now c.loop-at.at 2 c.loop-at.invariant.rest c.after-rest-in-Passed.ensures;
  rows = same_rows c.args.rows.now (g.B.Bus.areas c.loop-at.bus) (g.B.Bus.areas c.args.bus.now) (g.B.Bus.memory c.one.new.bus) c.args.origin c.loop-at.invariant.areas c.one.ensures.rows;
  areas = c.one.ensures.areas ∙ c.loop-at.invariant.areas;
  others = c.one.ensures.others ∙ c.loop-at.invariant.others;
}

pub returns-in-Jump-clause-part : goal.returns-in-Jump-clause-part
returns-in-Jump-clause-part g c = block_moved c.args.rows.now c.args.origin c.args.from c.loop-at.at c.args.limit (g.B.Bus.areas c.args.bus.now) c.args.own.now c.loop-at.own c.one.new.own (g.B.Bus.memory c.args.bus.now) (g.B.Bus.memory c.loop-at.bus) (g.B.Bus.memory c.one.new.bus) c.loop-at.invariant.words c.requires.limit c.moved.result 1 c.in-Jump.displacement (omega arith) c.moved.ensures (same_came (came.Jump c.in-Jump.displacement) c.args.origin c.loop-at.at (g.B.Bus.areas c.loop-at.bus) (g.B.Bus.areas c.args.bus.now) c.loop-at.own c.one.new.own (g.B.Bus.memory c.loop-at.bus) (g.B.Bus.memory c.one.new.bus) c.loop-at.invariant.areas c.in-Jump.ensures.came)

pub returns-in-Turn-clause-part : goal.returns-in-Turn-clause-part
returns-in-Turn-clause-part g c = block_moved c.args.rows.now c.args.origin c.args.from c.loop-at.at c.args.limit (g.B.Bus.areas c.args.bus.now) c.args.own.now c.loop-at.own c.one.new.own (g.B.Bus.memory c.args.bus.now) (g.B.Bus.memory c.loop-at.bus) (g.B.Bus.memory c.one.new.bus) c.loop-at.invariant.words c.requires.limit c.moved-in-Turn.result 2 c.in-Turn.displacement (omega arith) c.moved-in-Turn.ensures (same_came (came.Turn c.in-Turn.displacement) c.args.origin c.loop-at.at (g.B.Bus.areas c.loop-at.bus) (g.B.Bus.areas c.args.bus.now) c.loop-at.own c.one.new.own (g.B.Bus.memory c.loop-at.bus) (g.B.Bus.memory c.one.new.bus) c.loop-at.invariant.areas c.in-Turn.ensures.came)

pub returns-in-PairTurn-clause-part : goal.returns-in-PairTurn-clause-part
returns-in-PairTurn-clause-part g c = block_pair c.args.rows.now c.args.origin c.args.from c.loop-at.at c.args.limit (g.B.Bus.areas c.args.bus.now) c.args.own.now c.loop-at.own c.one.new.own (g.B.Bus.memory c.args.bus.now) (g.B.Bus.memory c.loop-at.bus) (g.B.Bus.memory c.one.new.bus) c.loop-at.invariant.words c.requires.limit c.moved-in-PairTurn.result c.in-PairTurn.displacement c.in-PairTurn.ensures.on.0 c.in-PairTurn.ensures.on.1 c.moved-in-PairTurn.ensures (same_came (came.PairTurn c.in-PairTurn.displacement) c.args.origin c.loop-at.at (g.B.Bus.areas c.loop-at.bus) (g.B.Bus.areas c.args.bus.now) c.loop-at.own c.one.new.own (g.B.Bus.memory c.loop-at.bus) (g.B.Bus.memory c.one.new.bus) c.loop-at.invariant.areas c.in-PairTurn.ensures.came)

pub returns-in-Slot-clause-part : goal.returns-in-Slot-clause-part
returns-in-Slot-clause-part g c = block_slot c.args.rows.now c.args.origin c.args.from c.loop-at.at c.args.limit (g.B.Bus.areas c.args.bus.now) c.args.own.now c.loop-at.own c.one.new.own (g.B.Bus.memory c.args.bus.now) (g.B.Bus.memory c.loop-at.bus) (g.B.Bus.memory c.one.new.bus) c.loop-at.invariant.words c.requires.limit c.of.result c.in-Slot.displacement c.of.ensures (same_came (came.Slot c.in-Slot.displacement) c.args.origin c.loop-at.at (g.B.Bus.areas c.loop-at.bus) (g.B.Bus.areas c.args.bus.now) c.loop-at.own c.one.new.own (g.B.Bus.memory c.loop-at.bus) (g.B.Bus.memory c.one.new.bus) c.loop-at.invariant.areas c.in-Slot.ensures.came)

pub returns-in-PairSlot-clause-part : goal.returns-in-PairSlot-clause-part
returns-in-PairSlot-clause-part g c = block_pair_slot c.args.rows.now c.args.origin c.args.from c.loop-at.at c.args.limit (g.B.Bus.areas c.args.bus.now) c.args.own.now c.loop-at.own c.one.new.own (g.B.Bus.memory c.args.bus.now) (g.B.Bus.memory c.loop-at.bus) (g.B.Bus.memory c.one.new.bus) c.loop-at.invariant.words c.requires.limit c.of-in-PairSlot.result c.in-PairSlot.displacement c.in-PairSlot.ensures.on.0 c.in-PairSlot.ensures.on.1 c.of-in-PairSlot.ensures (same_came (came.PairSlot c.in-PairSlot.displacement) c.args.origin c.loop-at.at (g.B.Bus.areas c.loop-at.bus) (g.B.Bus.areas c.args.bus.now) c.loop-at.own c.one.new.own (g.B.Bus.memory c.loop-at.bus) (g.B.Bus.memory c.one.new.bus) c.loop-at.invariant.areas c.in-PairSlot.ensures.came)

pub returns-in-Calls-clause-part : goal.returns-in-Calls-clause-part
returns-in-Calls-clause-part g c = let is = same_came (came.Calls) c.args.origin c.loop-at.at (g.B.Bus.areas c.loop-at.bus) (g.B.Bus.areas c.args.bus.now) c.loop-at.own c.one.new.own (g.B.Bus.memory c.loop-at.bus) (g.B.Bus.memory c.one.new.bus) c.loop-at.invariant.areas c.in-Calls.ensures.came in
    block_called c.args.rows.now c.args.origin c.args.from c.loop-at.at c.args.limit (g.B.Bus.areas c.args.bus.now) c.args.own.now c.loop-at.own c.one.new.own (g.B.Bus.memory c.args.bus.now) (g.B.Bus.memory c.loop-at.bus) (g.B.Bus.memory c.one.new.bus) c.loop-at.invariant.words c.requires.limit c.of-in-Calls.result c.of-in-Calls.ensures is.0 is.1 is.2

pub returns-in-Stays-clause-part : goal.returns-in-Stays-clause-part
returns-in-Stays-clause-part g c = block_left c.args.rows.now c.args.origin c.args.from c.loop-at.at c.args.limit (g.B.Bus.areas c.args.bus.now) c.args.own.now c.loop-at.own c.one.new.own (g.B.Bus.memory c.args.bus.now) (g.B.Bus.memory c.loop-at.bus) (g.B.Bus.memory c.one.new.bus) c.loop-at.invariant.words c.requires.limit c.of-in-Stays.result c.of-in-Stays.ensures c.in-Stays.ensures.came.0 c.in-Stays.ensures.came.1
