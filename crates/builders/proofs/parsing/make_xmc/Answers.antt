use Rattle.std.proofs.Common.{Ok}
use Rattle.bin_config.specs.Xmc.{xmc}
use Rattle.bin_config.specs.declared.version.Version.TheVariants.{Two}
use Rattle.builders.specs.Parsing.{conf_of, xmc_of}
use Rattle.builders.specs.lemmas.ParsingLemmas.{unmade_of}
use Rattle.builders.proofs.parsing.make_xmc.Goals as goal

pub returns-in-Err : goal.returns-in-Err
unfolding xmc_of
returns-in-Err c = unmade_of (λ conf. Ok (xmc Two conf)) c.in-Err.why (conf_of c.args.text.now) c.in-Err.ensures
