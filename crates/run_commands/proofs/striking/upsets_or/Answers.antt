use Rattle.run_commands.proofs.StrikingLemmas.{upsets_unmade}
use Rattle.run_commands.proofs.striking.upsets_or.Goals as goal

pub returns-in-Err-clause-value : goal.returns-in-Err-clause-value
returns-in-Err-clause-value c =
    upsets_unmade c.args.file.now c.in-Err.fault _ c.no_upsets.result _ c.in-Err.ensures.exact c.no_upsets.ensures.text c.no_upsets.ensures.memory c.unmade.ensures
