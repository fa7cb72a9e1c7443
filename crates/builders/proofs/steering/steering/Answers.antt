use Rattle.builders.specs.Parsing.{conf_of}
use Rattle.builders.specs.Steering.{steering_for, steering_of}
use Rattle.builders.specs.lemmas.ParsingLemmas.{unmade_of}
use Rattle.builders.proofs.steering.steering.Goals as goal

pub returns-in-Err : goal.returns-in-Err
unfolding steering_of
returns-in-Err c = unmade_of steering_for c.in-Err.why (conf_of c.args.text.now) c.in-Err.ensures
