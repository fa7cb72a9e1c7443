use Rattle.std.proofs.Common.{rules}
use Rattle.xm_base.specs.lemmas.BytesLemmas.{number_8}
use Rattle.xm_base.proofs.cursor.double_word.Goals as goal

pub returns : goal.returns
returns c = number_8 c.args.bytes.now _ c.requires (search rules) c.read_u64.ensures
