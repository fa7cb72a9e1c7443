use Rattle.sparc_code.specs.Decoded.{decoded}
use Rattle.sparc_code.specs.lemmas.Encoded.{encoded}
use Rattle.sparc_code.specs.lemmas.DecodedLemmas.{spells-decoded, spells-unique, illegal-spells}
use Rattle.sparc_code.proofs.EncodedLemmas.{spells-encoded}
use Rattle.sparc_code.proofs.RangeLemmas.{in_range-spells}
use Rattle.sparc_code.proofs.law.spelling.Goals as goal

pub returns-clause-some : goal.returns-clause-some
returns-clause-some c = λ word. (decoded word, spells-decoded word)

pub returns-clause-decoded : goal.returns-clause-decoded
returns-clause-decoded c = spells-decoded

pub returns-clause-unique : goal.returns-clause-unique
returns-clause-unique c = spells-unique

pub returns-clause-has_word : goal.returns-clause-has_word
returns-clause-has_word c = λ instruction. (λ fits. (encoded instruction, spells-encoded instruction fits), λ spelled. in_range-spells spelled.0 instruction spelled.1)

pub returns-clause-unassigned : goal.returns-clause-unassigned
returns-clause-unassigned c = illegal-spells
