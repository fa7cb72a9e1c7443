use Rattle.std.proofs.Common.{subst, sym}
use Rattle.predecode.specs.Rows.{AreRegisterNumbers}
use Rattle.predecode.specs.declared.kinds.Kind.TheVariants as kind
use Rattle.predecode.specs.declared.rows.Row.{Row}
use Rattle.fast_loop.proofs.ComingLemmas.{with_row}
use Rattle.fast_loop.proofs.KeptLemmas.{first_is}
use Rattle.fast_loop.specs.lemmas.Steps.{IsStep}
use Rattle.fast_loop.proofs.simple.execute_first.Goals as goal

pub do_row-requires-clause-registers : goal.do_row-requires-clause-registers
do_row-requires-clause-registers g c =
    with_row c.args.rows.now c.args.at c.requires.place (λ row there.
    subst AreRegisterNumbers (sym (first_is c.args.rows.now c.args.rest.now c.args.at (record { number = 0; kind = kind.Empty; rd = 0; rs1 = 0; rs2 = 0 }) row c.requires.rest there)) (c.requires.rows.each c.args.at row there).registers)

pub returns-clause-step : goal.returns-clause-step
returns-clause-step g c = λ row there.
    subst (λ (r : Row). IsStep c.do_row.result r c.args.origin c.args.at (g.B.Bus.areas c.args.bus.now) c.args.own.now c.do_row.new.own (g.B.Bus.memory c.args.bus.now) (g.B.Bus.memory c.do_row.new.bus))
    (first_is c.args.rows.now c.args.rest.now c.args.at (record { number = 0; kind = kind.Empty; rd = 0; rs1 = 0; rs2 = 0 }) row c.requires.rest there) c.do_row.ensures.step
