use Rattle.std.proofs.Common.{rules}
use Rattle.machine_model.specs.Partition.{ordered}
use Rattle.machine_model.specs.View.{view_of}
use Rattle.span_model.specs.Passes.{part_at}
use Rattle.span_engine.proofs.EndLemmas.{order_then}
use Rattle.span_engine.proofs.ending.end_beyond.Goals as goal

pub returns-in-Order : goal.returns-in-Order
returns-in-Order c = record {
  state = search rules;
  lines = rw c.in-Order.is (order_then c.in-Order.id c.in-Order.order
      (ordered (view_of c.args.sys.now.machine.system c.in-Order.id) c.in-Order.order (part_at c.in-Order.id c.args.sys.now.machine))
      c.args.sys.now c.obey.new.sys c.args.lines.now c.obey.new.lines _ (search rules) (search rules));
  few = search rules;
}
