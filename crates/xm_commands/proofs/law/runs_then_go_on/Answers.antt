use Rattle.xm_commands.proofs.ContinuedLemmas.{ContinuedLaws}
use Rattle.xm_commands.proofs.RunThenOnwardLemmas.{run_then_on}
use Rattle.xm_commands.proofs.law.runs_then_go_on.Goals as goal

pub returns : goal.returns
returns c =
    let continued : ContinuedLaws = record {
      keep = record {
        flips = c.flips_bits.ensures.facts;
        numbers = c.keeps_numbers.ensures.ticks;
        facts = c.keeps_facts.ensures.ticks;
        timed = c.keeps_hardware_clock.ensures.ticks;
        clocked = c.keeps_plans.ensures.ticks;
        shapes = c.keeps_shapes.ensures.ticks;
        booted_complete = c.keeps_numbers.ensures.boots;
        booted_facts = c.keeps_facts.ensures.boots;
        booted_timed = c.keeps_hardware_clock.ensures.boots;
        booted_clocked = c.keeps_plans.ensures.boots;
        booted_shapes = c.keeps_shapes.ensures.boots;
      };
      rules = c.broken_unless_fits.ensures.law;
      reads_back = c.savable_machines_have_files.ensures.read;
      restores = c.restores_what_was_saved.ensures.law;
      conf = c.restores_what_was_saved.ensures.conf;
      spelled = c.upsets_are_spelled.ensures.spelled;
      goes_on = c.runs_go_on.ensures.law;
      core = c.reports_upsets.ensures.core;
    } in
    record { law = run_then_on continued c.boots_are_beginnings.ensures.law c.grammar.ensures.commands }
