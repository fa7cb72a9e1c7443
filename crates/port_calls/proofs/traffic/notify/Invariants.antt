use Rattle.std.proofs.Common.{◌≡◌}
use Rattle.system_state.specs.State.{with_machine}
use Rattle.port_calls.proofs.HearingLemmas.{ends_in, notified_to}
use Rattle.port_calls.proofs.traffic.notify.Given as goal

abbrev pub invariant-loop-k : goal.invariant-loop-k
invariant-loop-k l = l.sys ≡ with_machine (notified_to (ends_in l.fn.sys l.chan) l.chan l.interrupt l.k l.fn.sys.machine) l.fn.sys
