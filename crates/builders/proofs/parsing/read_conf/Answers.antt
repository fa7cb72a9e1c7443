use Rattle.builders.specs.lemmas.ParsingLemmas.{unread_makes}
use Rattle.builders.proofs.parsing.read_conf.Goals as goal

pub returns-in-Err : goal.returns-in-Err
returns-in-Err c = unread_makes c.in-Err.fault c.args.text.now c.unread.result c.in-Err.ensures.refused c.unread.ensures.text c.unread.ensures.memory
