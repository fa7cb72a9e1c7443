use Rattle.std.proofs.Common.{sym, ◌∙◌}
use Rattle.xmcf_reader.proofs.CutLemmas.{letter_counts}
use Rattle.xmcf_reader.proofs.lexer.front.Goals as goal

pub attribute_name-requires-clause-some : goal.attribute_name-requires-clause-some
attribute_name-requires-clause-some c = rw c.name_size.ensures.count (letter_counts c.args.bytes.now (sym c.is_letter.ensures ∙ c.if-is_letter.true))
