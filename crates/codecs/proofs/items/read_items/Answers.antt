use Rattle.std.proofs.Common.{◌<◌, ◌≤◌, arith}
use Rattle.codecs.specs.lemmas.LoopLemmas.{items_done, items_fail, items_on}
use Rattle.codecs.proofs.items.read_items.Goals as goal

pub returns-in-Err : goal.returns-in-Err
returns-in-Err g c = record {
  value = λ item step each steps.
      let below : c.loop.counter < c.args.count = omega (arith, c.loop-test.true) in
      items_fail item step c.loop.found.items c.args.count c.loop.counter c.loop.state c.loop.cursor c.args.memory c.in-Err.fault _ below (each _ _ _ _ c.in-Err.ensures) (c.loop.invariant item step each steps);
}

pub loop-preserved : goal.loop-preserved
loop-preserved g c = λ item step each steps.
    let below : c.loop.counter < c.args.count = omega (arith, c.loop-test.true) in
    rw (c.in-Ok-push.ensures.items, steps _ _ _ c.next-state.ensures)
    (items_on item step c.loop.found.items c.args.count c.loop.counter c.loop.state c.loop.cursor c.in-Ok.one c.element.new.arg2 _ below (each _ _ _ _ c.in-Ok.ensures) (c.loop.invariant item step each steps))

pub returns : goal.returns
returns g c = record {
  value = λ item step each steps.
      let past : c.args.count ≤ c.loop.counter = omega (arith, c.loop-test.false) in
      items_done item step c.loop.found.items c.args.count c.loop.counter c.loop.state c.loop.cursor _ past (c.loop.invariant item step each steps);
}
