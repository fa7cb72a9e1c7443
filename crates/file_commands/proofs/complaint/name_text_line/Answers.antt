use Rattle.std.proofs.Common.{◌++◌}
use Rattle.xm_outside.specs.lemmas.GrowthLemmas.{writes_then}
use Rattle.file_commands.specs.Ending.{after_file}
use Rattle.file_commands.proofs.complaint.name_text_line.Goals as goal

pub returns-clause-line : goal.returns-clause-line
returns-clause-line g c =
    writes_then c.text_after_file.result (g.E.Sink.got c.args.err.now) (g.E.Sink.got c.write_two.new.err) (g.E.Sink.got c.text_after_file.new.err)
    (c.args.program.now ++ c.args.file.now) (after_file c.args.text.now) c.in_ok-write_two.ensures.text c.text_after_file.ensures.line
