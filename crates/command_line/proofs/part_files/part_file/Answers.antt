use Rattle.std.proofs.Common.{None, arith}
use Rattle.std.proofs.lemmas.Str.Pattern.{split_once_first}
use Rattle.command_line.proofs.PartFileLemmas.{no_equals}
use Rattle.command_line.proofs.part_files.part_file.Goals as goal

pub returns-in-None : goal.returns-in-None
returns-in-None c = record { value = no_equals c.args.word.now (split_once_first 61 c.args.word.now None c.in-None.ensures.cases (omega arith)) }
