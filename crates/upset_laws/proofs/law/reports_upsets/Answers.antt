use Rattle.upset_laws.specs.ReportLaws.{SameUpsetPart, TicksReportAlone}
use Rattle.upset_laws.proofs.ReportLemmas.{own_reports, plain_consoles, plain_reports, same_upset_core, same_upset_part, ticks_report_alone, two_reports}
use Rattle.upset_laws.proofs.law.reports_upsets.Goals as goal

pub returns : goal.returns
returns c =
    let own : TicksReportAlone = ticks_report_alone c.contains_upsets.ensures.tick c.keeps_numbers.ensures.ticks in
    let same : SameUpsetPart = same_upset_part c.contains_upsets.ensures.ticks c.boots_alone.ensures.law in
    record {
      own = own;
      run = own_reports own same c.boots_alone.ensures.law;
      part = same;
      core = same_upset_core c.keeps_numbers.ensures.ticks same;
      plain = plain_reports c.contains_upsets.ensures.plain;
      console = plain_consoles;
      alike = two_reports own;
    }
