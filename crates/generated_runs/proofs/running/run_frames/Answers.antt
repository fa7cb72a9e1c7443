use Rattle.std.proofs.Common.{arith}
use Rattle.generated_system.specs.Reported.{run_length}
use Rattle.generated_runs.proofs.RunLemmas.{never_rose}
use Rattle.generated_runs.proofs.running.run_frames.Goals as goal

pub unreachable-requires : goal.unreachable-requires
unreachable-requires c = never_rose c.in_default.ensures.cause

pub run-requires-clause-most : goal.run-requires-clause-most
unfolding run_length
run-requires-clause-most c =
    let asked = c.requires.length in
    omega (arith, asked)

pub returns : goal.returns
returns c = rw (← c.requires.length) (record { state = c.in-Ok.ensures.run.state; lines = c.in-Ok.ensures.run.lines })
