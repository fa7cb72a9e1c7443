use Rattle.system_state.proofs.InsideLemmas.{is_known}
use Rattle.system_state.proofs.sys.engine.is_known_untimed.Goals as goal

pub returns : goal.returns
returns c = is_known c.sys.inside c.args.sys.now c.sys.invariant c.sys.view_is
