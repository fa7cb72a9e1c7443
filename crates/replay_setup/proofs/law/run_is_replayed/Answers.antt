use Rattle.replay_setup.proofs.OfRunLemmas.{runs_replayed}
use Rattle.replay_setup.proofs.law.run_is_replayed.Goals as goal

pub returns : goal.returns
returns c =
    let upsets = c.upsets_are_spelled.ensures in
    let reports = c.reports_upsets.ensures in
    let replays = c.replays_with_upsets.ensures in
    record {
      law = runs_replayed c.contains_upsets.ensures.ticks c.boots_alone.ensures.law c.broken_unless_fits.ensures.law reports.run reports.core replays.taken replays.script upsets.spelled upsets.read
          c.written_is_read.ensures;
    }
