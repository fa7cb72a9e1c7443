use Rattle.predecode.proofs.SourceLemmas.{row_spelled}
use Rattle.predecode.proofs.made.row_for.Goals as goal

pub returns-clause-row : goal.returns-clause-row
returns-clause-row c = row_spelled c.args.word c.decode.result c.row_of.result c.decode.ensures.spelled c.row_of.ensures.row c.row_of.ensures.registers
