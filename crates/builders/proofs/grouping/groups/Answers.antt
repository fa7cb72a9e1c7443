use Rattle.builders.specs.Parsing.{conf_of}
use Rattle.builders.specs.Grouping.{groups_for, groups_of}
use Rattle.builders.specs.lemmas.ParsingLemmas.{unmade_of}
use Rattle.builders.proofs.grouping.groups.Goals as goal

pub returns-in-Err : goal.returns-in-Err
unfolding groups_of
returns-in-Err c = unmade_of groups_for c.in-Err.why (conf_of c.args.text.now) c.in-Err.ensures
