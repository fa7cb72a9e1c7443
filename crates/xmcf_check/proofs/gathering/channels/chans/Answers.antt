use Rattle.std.proofs.Common.{◌∙◌, ap, map, arith}
use Rattle.xmcf_check.specs.lemmas.Capped.{capped_chan}
use Rattle.xmcf_check.specs.Described.{described_chan, chan_with, chans_by, children, port_names}
use Rattle.xmcf_check.specs.Elements.{carried_of}
use Rattle.xmcf_check.proofs.PassLemmas.{each-all, one_pass}
use Rattle.xmcf_check.proofs.ChanLemmas.{chan_makes}
use Rattle.xmcf_check.proofs.gathering.channels.chans.Goals as goal

pub loop-number-preserved : goal.loop-number-preserved
loop-number-preserved c =
    one_pass capped_chan (described_chan (port_names c.args.parts.now) c.args.entries.now) (λ n. chan_with (port_names c.args.parts.now) (children n c.args.entries.now)) carried_of c.loop-number.number c.args.entries.now _ _
    (chan_makes (port_names c.args.parts.now) c.args.entries.now) c.loop-number.invariant c.in_ok-push_chan.ensures

pub returns : goal.returns
unfolding chans_by
returns c = c.loop-number.invariant ∙ ap (map capped_chan) (each-all (described_chan (port_names c.args.parts.now) c.args.entries.now) c.loop-number.number c.args.entries.now (omega arith))
