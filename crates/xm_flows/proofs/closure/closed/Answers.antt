use Rattle.std.proofs.Common.{◌≡◌, ◌<◌, ◌≤◌, ◌^◌, arith}
use Rattle.xm_flows.proofs.ClosureLemmas.{last_round, low, next_round, rounds_rise}
use Rattle.xm_flows.proofs.closure.closed.Goals as goal

pub loop-wider-smaller : goal.loop-wider-smaller
loop-wider-smaller c =
    let rises : c.loop-wider.members ≤ c.loop-wider.wider =
    rounds_rise c.args.chans.now c.args.links.now c.args.mask c.loop-wider.members c.loop-wider.wider (low c.requires.ends c.requires.sources) c.loop-wider.invariant.round
    in
    let fits : c.loop-wider.wider < 2 ^ 32 = c.loop-wider.invariant.fits in
    omega (arith, rises, fits, c.loop-wider-test.true)

pub loop-wider-preserved : goal.loop-wider-preserved
loop-wider-preserved c = record {
  round = next_round c.args.chans.now c.args.links.now c.args.mask c.loop-wider.members c.loop-wider.wider c.widened_all-wider-in-loop-wider.result (low c.requires.ends c.requires.sources) c.loop-wider.invariant.round
      c.widened_all-wider-in-loop-wider.ensures;
  fits = c.widened_all-wider-in-loop-wider.type_inv;
}

pub returns : goal.returns
returns c =
    let same : c.loop-wider.wider ≡ c.loop-wider.members = omega (arith, c.loop-wider-test.false) in
    last_round c.args.chans.now c.args.links.now c.args.mask c.loop-wider.members c.loop-wider.wider (low c.requires.ends c.requires.sources) c.loop-wider.invariant.round same
