use Rattle.std.proofs.Common.{◌∙◌, ap, length}
use Rattle.xm_alone.proofs.BootLemmas.{core-same}
use Rattle.xm_alone.proofs.alone.Alone.core_length.Goals as goal

pub returns-clause-length : goal.returns-clause-length
returns-clause-length c = c.core_length.ensures.length ∙ ap length (core-same c.args.self.now c.self.inside.machine.state c.self.inside.p c.self.view_is)
