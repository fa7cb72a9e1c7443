use Rattle.builders.specs.lemmas.ParsingLemmas.{unfit_makes}
use Rattle.builders.proofs.parsing.checked.Goals as goal

pub returns-in-Err : goal.returns-in-Err
returns-in-Err c = unfit_makes c.in-Err.fault c.args.draft.now c.unfit.result c.in-Err.ensures.verdict c.unfit.ensures.text c.unfit.ensures.memory
