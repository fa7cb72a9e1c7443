use Rattle.std.proofs.Common.{◌≡◌, ◌++◌, drop}
use Rattle.xm_base.specs.Options.{on}
use Rattle.xm_conf.specs.declared.port.Way.TheVariants as way
use Rattle.xmcf_check.specs.lemmas.Capped.{capped_end}
use Rattle.xmcf_check.specs.Described.{among, end_of_way, port_names, with_parent}
use Rattle.xmcf_check.proofs.gathering.channels.dests.Given as goal

abbrev pub invariant-loop-entry : goal.invariant-loop-entry
invariant-loop-entry l =
    l.dests.items ++ among (λ element. on capped_end (end_of_way way.Destination (port_names l.parts) element)) (with_parent l.number (drop l.entry-index l.inside)) ≡ among (λ element. on capped_end (end_of_way way.Destination (port_names l.parts) element)) (with_parent l.number l.inside)
