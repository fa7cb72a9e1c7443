use Rattle.std.proofs.Common.{◌≤◌, ◌<◌, length, ◌∙◌, arith}
use Rattle.std.proofs.lemmas.List.{length-set}
use Rattle.saved_machines.proofs.ReadLemmas.{flags_done, flags_more}
use Rattle.saved_machines.proofs.store.put_flags.Goals as goal

pub loop-place-preserved : goal.loop-place-preserved
loop-place-preserved c =
    let below : c.loop-place.place < length c.args.flags.now = omega (arith, c.loop-place-test.true, c.loop-place.invariant.0) in (
      length-set c.loop-place.flags c.loop-place.place _ ∙ c.loop-place.invariant.0,
      flags_more c.loop-place.flags c.loop-place.place (length c.args.flags.now) c.loop-place.rest _ c.loop-place.invariant.0 below c.loop-place.invariant.1,
    )

pub returns : goal.returns
returns c =
    let all : length c.args.flags.now ≤ c.loop-place.place = omega (arith, c.loop-place-test.false) in
    flags_done c.loop-place.flags c.loop-place.place (length c.args.flags.now) c.loop-place.rest _ c.loop-place.invariant.0 all c.loop-place.invariant.1
