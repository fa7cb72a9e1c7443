use Rattle.std.proofs.Common.{arith}
use Rattle.guest_bus.specs.declared.bus.Size.TheVariants.{Eight}
use Rattle.sparc_step.specs.Transfers.{pair_at}
use Rattle.fast_loop.proofs.KeptLemmas.{stored_rows}
use Rattle.fast_loop.proofs.moving.store_double.Goals as goal

pub returns-then-store_pair-clause-rows : goal.returns-then-store_pair-clause-rows
returns-then-store_pair-clause-rows g c =
    stored_rows c.args.rows.now (g.B.Bus.areas c.args.bus.now) (g.B.Bus.memory c.args.bus.now) (g.B.Bus.memory c.store_pair.new.bus) c.args.origin c.args.address Eight (pair_at c.args.own.now c.args.rd)
    (c.have_two.ensures c.if-have_two.false) (omega (arith, c.ranges.address)) c.if-store_pair.ensures.stored c.requires.rows
