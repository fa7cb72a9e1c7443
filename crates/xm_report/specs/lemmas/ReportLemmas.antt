-- For proofs and private clauses: the lines of the report: what each says, and its text.
use Rattle.std.specs.Prelude.{◌≡◌, List, ◌++◌}
use Rattle.std.proofs.lemmas.Grind.{flat_map-append}
use Rattle.xm_report.specs.Report.{ReportLine, text_of, texts}

-- the text of lines and more lines
pub texts-append : (a b : List ReportLine) → texts (a ++ b) ≡ texts a ++ texts b
texts-append a b = flat_map-append text_of a b
