use Rattle.xmcf_check.proofs.NumberLemmas.{all_parts, parts_more}
use Rattle.std.proofs.Common.{◌≡◌, ◌-◌, Some, arith}
use Rattle.std.proofs.lemmas.Grind.{common_steps}
use Rattle.std.specs.Prelude.{slice_get}
use Rattle.std.proofs.lemmas.Option.{gets}
use Rattle.xmcf_check.proofs.numbers.port_numbers.Goals as goal

pub loop-left-preserved : goal.loop-left-preserved
loop-left-preserved c =
    let here : slice_get c.args.parts.now (c.loop-left.left - 1) ≡ Some c.index-parts-left.result = grind (arith, common_steps, gets, c.index-parts-left.is) in
    (omega arith, parts_more c.loop-left.left c.args.parts.now c.index-parts-left.result c.loop-left.numbers c.add_ports.new.numbers c.loop-left-test.true here c.loop-left.invariant.1 (rw (← c.ports_of.ensures) c.in_ok-add_ports.ensures))

pub returns : goal.returns
returns c = all_parts c.loop-left.left c.args.parts.now c.loop-left.numbers (omega arith) c.loop-left.invariant.1
