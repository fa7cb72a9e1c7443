use Rattle.std.proofs.Common.{rules}
use Rattle.xm_base.specs.lemmas.BytesLemmas.{number_2}
use Rattle.xm_base.proofs.cursor.half_word.Goals as goal

pub returns : goal.returns
returns c = number_2 c.args.bytes.now _ c.requires (search rules) c.read_u16.ensures
