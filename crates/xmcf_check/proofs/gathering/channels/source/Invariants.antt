use Rattle.std.proofs.Common.{◌≡◌, drop}
use Rattle.xm_base.specs.Options.{on}
use Rattle.xm_conf.specs.declared.port.Way.TheVariants as way
use Rattle.xmcf_check.specs.lemmas.Capped.{capped_end}
use Rattle.xmcf_check.specs.Described.{end_of_way, first_among, port_names, with_parent}
use Rattle.xmcf_check.proofs.gathering.channels.source.Given as goal

abbrev pub invariant-loop-entry : goal.invariant-loop-entry
invariant-loop-entry l =
    first_among (λ element. on capped_end (end_of_way way.Source (port_names l.parts) element)) (with_parent l.number (drop l.entry-index l.inside)) ≡ first_among (λ element. on capped_end (end_of_way way.Source (port_names l.parts) element)) (with_parent l.number l.inside)
