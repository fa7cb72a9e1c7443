use Rattle.std.proofs.Common.{◌∙◌}
use Rattle.xm_alone.proofs.BootLemmas.{core-same}
use Rattle.xm_alone.proofs.alone.Alone.core_into.Goals as goal

pub returns : goal.returns
returns c = record { file = c.core_into.ensures.file ∙ core-same c.args.self.now c.self.inside.machine.state c.self.inside.p c.self.view_is }
