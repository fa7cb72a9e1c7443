use Rattle.std.proofs.Common.{sym, ◌∙◌}
use Rattle.system_state.proofs.InsideLemmas.{is_timed_seen}
use Rattle.system_state.proofs.sys.engine.is_timed.Goals as goal

pub returns-then-any_timed-clause-value : goal.returns-then-any_timed-clause-value
returns-then-any_timed-clause-value c =
    let looked = rw c.deref.ensures.value at c.any_timed.ensures in
    sym c.if-any_timed.true ∙ looked ∙ is_timed_seen c.sys.inside c.args.sys.now c.sys.invariant c.sys.view_is

pub returns-clause-value : goal.returns-clause-value
returns-clause-value c =
    let looked = rw c.deref.ensures.value at c.any_timed.ensures in
    sym c.if-any_timed.false ∙ looked ∙ is_timed_seen c.sys.inside c.args.sys.now c.sys.invariant c.sys.view_is
