use Rattle.std.proofs.Common.{◌≡◌, drop}
use Rattle.system_state.specs.State.{part_at}
use Rattle.port_calls.specs.lemmas.Traffic.{hears_from, is_on}
use Rattle.port_calls.proofs.traffic.one_hears.Given as goal

abbrev pub invariant-loop-r : goal.invariant-loop-r
invariant-loop-r l =
    let on = is_on l.sys.machine.system.conf l.q l.chan (part_at l.q l.sys.machine).made in
    hears_from on l.r (drop l.r l.ports) ≡ hears_from on 0 l.ports
