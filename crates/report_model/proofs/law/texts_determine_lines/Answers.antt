use Rattle.report_model.proofs.FrameLemmas.{line_determined, lines_determined}
use Rattle.report_model.proofs.law.texts_determine_lines.Goals as goal

pub returns-clause-line : goal.returns-clause-line
returns-clause-line c = line_determined

pub returns-clause-lines : goal.returns-clause-lines
returns-clause-lines c = lines_determined
