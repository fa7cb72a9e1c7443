use Rattle.std.proofs.Common.{◌<◌, length, arith}
use Rattle.system_state.specs.State.{areas_in}
use Rattle.machine_restore.proofs.GivenLemmas.{given_areas, given_more, given_none, given_within, values_there}
use Rattle.machine_restore.proofs.parts.put_parts.Goals as goal

pub loop-p-init : goal.loop-p-init
loop-p-init c = given_none c.args.sys.now c.args.parts.now

pub put_part-requires-clause-there : goal.put_part-requires-clause-there
put_part-requires-clause-there c =
    let below : c.loop-p.p < length c.args.sys.now.machine.parts = omega (arith, c.loop-p-test.true, c.count-p-end.ensures.value) in
    given_within c.args.sys.now c.loop-p.sys c.loop-p.p c.loop-p.p c.args.parts.now c.loop-p.invariant below

pub put_part-requires-clause-values : goal.put_part-requires-clause-values
put_part-requires-clause-values c =
    let here = rw c.from.ensures at c.index-parts-from.is in
    let below : c.loop-p.p < length c.args.sys.now.machine.parts = omega (arith, c.loop-p-test.true, c.count-p-end.ensures.value) in
    let within : c.loop-p.p < length c.args.parts.now = omega (arith, below, c.requires.counted) in
    values_there c.args.parts.now (λ q. areas_in q c.args.sys.now.machine) (areas_in c.loop-p.p c.loop-p.sys.machine) (length c.args.sys.now.machine.parts) c.loop-p.p c.index-parts-from.result c.requires.values below within here
    (given_areas c.args.sys.now c.loop-p.sys c.loop-p.p c.loop-p.p c.args.parts.now c.loop-p.invariant)

pub loop-p-preserved : goal.loop-p-preserved
loop-p-preserved c =
    let here = rw c.from.ensures at c.index-parts-from.is in
    let below : c.loop-p.p < length c.args.sys.now.machine.parts = omega (arith, c.loop-p-test.true, c.count-p-end.ensures.value) in
    let within : c.loop-p.p < length c.args.parts.now = omega (arith, c.loop-p-test.true, c.count-p-end.ensures.value, c.requires.counted) in
    given_more c.args.sys.now c.loop-p.sys c.put_part.new.sys c.loop-p.p c.args.parts.now c.index-parts-from.result below within c.loop-p.invariant here c.in_ok-put_part.ensures
