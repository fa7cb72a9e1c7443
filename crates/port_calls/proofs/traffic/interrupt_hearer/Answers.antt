use Rattle.port_calls.proofs.HearingLemmas.{heard_kept}
use Rattle.port_calls.proofs.traffic.interrupt_hearer.Goals as goal

pub returns-then-is_pending : goal.returns-then-is_pending
returns-then-is_pending c = heard_kept c.args.sys.now c.args.chan c.args.interrupt c.args.q c.if-is_pending.ensures
