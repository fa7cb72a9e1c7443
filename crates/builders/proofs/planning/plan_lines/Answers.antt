use Rattle.builders.specs.Parsing.{conf_of}
use Rattle.builders.specs.Planning.{plan_lines_for, plan_lines_of}
use Rattle.builders.specs.lemmas.ParsingLemmas.{unmade_of}
use Rattle.builders.proofs.planning.plan_lines.Goals as goal

pub returns-in-Err : goal.returns-in-Err
unfolding plan_lines_of
returns-in-Err c = unmade_of plan_lines_for c.in-Err.why (conf_of c.args.text.now) c.in-Err.ensures
