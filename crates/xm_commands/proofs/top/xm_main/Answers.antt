use Rattle.file_commands.specs.Ending.{complaint}
use Rattle.file_commands.specs.EndingValues.{ending_of}
use Rattle.xm_commands.proofs.ContinuedLemmas.{ContinuedLaws}
use Rattle.xm_commands.proofs.PageLemmas.{is_answer}
use Rattle.xm_commands.proofs.SeparationLemmas.{ShowsAloneLaws}
use Rattle.xm_commands.proofs.TopLemmas.{done_is_finished, said}
use Rattle.xm_commands.proofs.top.xm_main.Goals as goal

pub returns : goal.returns
returns g c =
    let ending = ending_of c.work-ending.result in
    let account = c.work-ending.ensures.accounted in
    let alone : ShowsAloneLaws = record {
      boots = c.boots_are_beginnings.ensures.law;
      lines = c.reports_upsets.ensures.run;
      core = c.reports_upsets.ensures.core;
      onward = record { numbers = c.keeps_numbers.ensures.ticks; ticks = c.contains_upsets.ensures.ticks; reports = c.reports_upsets.ensures.own };
    } in
    let continued : ContinuedLaws = record {
      keep = record {
        flips = c.flips_bits.ensures.facts;
        numbers = c.keeps_numbers.ensures.ticks;
        facts = c.keeps_facts.ensures.ticks;
        timed = c.keeps_hardware_clock.ensures.ticks;
        clocked = c.keeps_plans.ensures.ticks;
        shapes = c.keeps_shapes.ensures.ticks;
        booted_complete = c.keeps_numbers.ensures.boots;
        booted_facts = c.keeps_facts.ensures.boots;
        booted_timed = c.keeps_hardware_clock.ensures.boots;
        booted_clocked = c.keeps_plans.ensures.boots;
        booted_shapes = c.keeps_shapes.ensures.boots;
      };
      rules = c.broken_unless_fits.ensures.law;
      reads_back = c.savable_machines_have_files.ensures.read;
      restores = c.restores_what_was_saved.ensures.law;
      conf = c.restores_what_was_saved.ensures.conf;
      spelled = c.upsets_are_spelled.ensures.spelled;
      goes_on = c.runs_go_on.ensures.law;
      core = c.reports_upsets.ensures.core;
    } in
    rw c.status_of.ensures (record {
      call = is_answer alone c.run_is_replayed.ensures.law continued c.grammar.ensures.commands ending account.contents c.args.words.now
          (record { disk = _; errors = _; board = record { places = _; marks = _ } }) (record { disk = _; errors = _; board = record { places = _; marks = _ } })
          account.works account.plays c.work-ending.ensures.numbers c.work-ending.ensures.stored
          (said c.complain.result (complaint ending) _ _ _ _ c.complain.ensures.line c.complain.ensures.cause);
      silent = λ done. c.complain.ensures.silent (done_is_finished ending done);
    })
