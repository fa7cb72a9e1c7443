use Rattle.std.proofs.Common.{arith}
use Rattle.xmcf_reader.proofs.FrontSpells.{cut_spelled}
use Rattle.xmcf_reader.proofs.law.spelled.Goals as goal

pub returns : goal.returns
returns c = λ text. cut_spelled 0 0 text (omega arith)
