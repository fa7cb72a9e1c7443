use Rattle.xm_commands.proofs.RunThenAloneLemmas.{run_then_alone}
use Rattle.xm_commands.proofs.law.runs_then_alone.Goals as goal

pub returns : goal.returns
returns c = record { law = run_then_alone c.run_is_replayed.ensures.law c.boots_are_beginnings.ensures.law c.grammar.ensures.commands }
