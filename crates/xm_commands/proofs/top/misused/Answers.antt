use Rattle.std.proofs.Common.{refl}
use Rattle.file_commands.specs.Ending.{Usage, complaint}
use Rattle.xm_commands.proofs.TopLemmas.{said}
use Rattle.xm_commands.proofs.top.misused.Goals as goal

pub returns : goal.returns
returns g c = rw c.status_of.ensures (record {
  usage = refl;
  line = said c.complain.result (complaint Usage) _ _ _ _ c.complain.ensures.line c.complain.ensures.cause;
})
