use Rattle.builders.specs.Parsing.{upgraded_of}
use Rattle.builders.specs.lemmas.ParsingLemmas.{configuration_unmade}
use Rattle.builders.proofs.upgrading.make_upgraded.Goals as goal

pub returns-in-Err-clause-exact : goal.returns-in-Err-clause-exact
unfolding upgraded_of
returns-in-Err-clause-exact c = configuration_unmade c.in-Err.fault _ c.no_configuration.result c.in-Err.ensures.exact c.no_configuration.ensures.text c.no_configuration.ensures.memory
