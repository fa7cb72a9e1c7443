use Rattle.std.proofs.Common.{sym, subst}
use Rattle.sparc_code.specs.lemmas.DecodedLemmas.{spells-decoded}
use Rattle.sparc_code.proofs.RangeLemmas.{in_range-spells}
use Rattle.sparc_code.specs.Spells.{Spells}
use Rattle.sparc_code.proofs.decoding.decode.Goals as goal

pub returns-clause-spelled : goal.returns-clause-spelled
returns-clause-spelled c = subst (Spells c.args.word) (sym c.decoded.ensures) (spells-decoded c.args.word)

pub returns-clause-in_range : goal.returns-clause-in_range
returns-clause-in_range c = in_range-spells c.args.word _ (returns-clause-spelled c)
