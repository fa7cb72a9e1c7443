use Rattle.system_state.proofs.BootLemmas.{boots_kept, machine_boots}
use Rattle.system_state.proofs.sys.Sys.new.Goals as goal

pub returns-clause-machine : goal.returns-clause-machine
returns-clause-machine c =
    let channels = rw c.conf.ensures.value at c.in_ok-channels.ensures.value in
    machine_boots c.args.system c.args.inputs c.in_ok-parts.parts.items c.in_ok-ram.ram c.in_ok-channels.channels c.start.result c.conf.ensures.system c.requires c.in_ok-parts.ensures c.in_ok-ram.ensures.maps channels c.start.ensures.value

pub invariant_of-result : goal.invariant_of-result
invariant_of-result c =
    boots_kept c.args.system c.args.inputs c.in_ok-parts.parts.items c.in_ok-ram.ram _ c.conf.ensures.system c.requires c.in_ok-parts.ensures c.in_ok-ram.ensures.areas c.in_ok-ram.ensures.maps
