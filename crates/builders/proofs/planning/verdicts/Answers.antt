use Rattle.builders.specs.Parsing.{conf_of}
use Rattle.builders.specs.Planning.{verdicts_for, verdicts_of}
use Rattle.builders.specs.lemmas.ParsingLemmas.{unmade_of}
use Rattle.builders.proofs.planning.verdicts.Goals as goal

pub returns-in-Err : goal.returns-in-Err
unfolding verdicts_of
returns-in-Err c = unmade_of verdicts_for c.in-Err.why (conf_of c.args.text.now) c.in-Err.ensures
