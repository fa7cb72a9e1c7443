use Rattle.std.proofs.Common.{Some, refl, rules, arith}
use Rattle.bin_config.proofs.ReadLemmas.{given_in, only_spelled}
use Rattle.bin_config.proofs.reading.read_version.Goals as goal

pub returns-clause-exact : goal.returns-clause-exact
returns-clause-exact c = search rules

pub returns-clause-found : goal.returns-clause-found
returns-clause-found c = given_in c.read_is_spelled.ensures.law c.args.version c.args.bytes.now c.read_within.result (λ i. omega (arith, c.type_inv.bytes i)) (returns-clause-exact c)

pub returns-clause-only : goal.returns-clause-only
returns-clause-only c = λ conf spelled.
    only_spelled c.spelled_is_read.ensures.law (Some c.args.version) c.args.version c.args.bytes.now conf c.read_within.result refl spelled (returns-clause-exact c)
