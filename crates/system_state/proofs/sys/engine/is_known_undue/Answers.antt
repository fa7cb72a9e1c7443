use Rattle.system_state.proofs.InsideLemmas.{none_due_seen}
use Rattle.system_state.proofs.sys.engine.is_known_undue.Goals as goal

pub returns-clause-due : goal.returns-clause-due
returns-clause-due c =
    let stays = rw c.deref.ensures.value at c.least_but-sys-inside.ensures in
    none_due_seen c.sys.inside c.args.sys.now c.args.working c.least_but-sys-inside.result c.args.time c.sys.view_is (stays c.sys.invariant.due)
