use Rattle.std.proofs.Common.{None, rules, arith}
use Rattle.bin_config.proofs.ReadLemmas.{given_spelled, only_spelled}
use Rattle.bin_config.proofs.reading.read_xmc.Goals as goal

pub returns-clause-exact : goal.returns-clause-exact
returns-clause-exact c = search rules

pub returns-clause-found : goal.returns-clause-found
returns-clause-found c = given_spelled c.read_is_spelled.ensures.law c.args.bytes.now c.read_within.result (λ i. omega (arith, c.type_inv.bytes i)) (returns-clause-exact c)

pub returns-clause-only : goal.returns-clause-only
returns-clause-only c = λ v conf spelled. only_spelled c.spelled_is_read.ensures.law None v c.args.bytes.now conf c.read_within.result tt spelled (returns-clause-exact c)
