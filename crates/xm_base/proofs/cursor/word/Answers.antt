use Rattle.std.proofs.Common.{rules}
use Rattle.xm_base.specs.lemmas.BytesLemmas.{number_4}
use Rattle.xm_base.proofs.cursor.word.Goals as goal

pub returns : goal.returns
returns c = number_4 c.args.bytes.now _ c.requires (search rules) c.read_u32.ensures
