use Rattle.upset_files.proofs.NumberLemmas.{no_text}
use Rattle.upset_files.proofs.numbers.number.Goals as goal

pub returns-in-Err-clause-value : goal.returns-in-Err-clause-value
returns-in-Err-clause-value c = no_text c.args.limit c.args.word.now c.in-Err.ensures.cases.0
