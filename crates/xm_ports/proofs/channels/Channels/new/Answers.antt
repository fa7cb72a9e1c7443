use Rattle.xm_ports.specs.Channels.{shapes_of}
use Rattle.xm_ports.proofs.TableLemmas.{kept_new}
use Rattle.xm_ports.proofs.channels.Channels.new.Goals as goal

pub invariant_of-result : goal.invariant_of-result
unfolding shapes_of
invariant_of-result c =
    let few = rw c.chans_of.ensures.value at c.chans_of.ensures.few in
    let chans = rw c.chans_of.ensures.value at c.chans_of.ensures.chans in
    rw (c.in_ok-channels.ensures.table, c.chans_of.ensures.value) (kept_new c.args.conf.now few chans)

pub returns : goal.returns
unfolding shapes_of
returns c = record { value = rw (c.in_ok-channels.ensures.table, c.chans_of.ensures.value) }
