use Rattle.std.proofs.Common.{map, ◌∙◌}
use Rattle.std.proofs.lemmas.List.{length-map}
use Rattle.xm_ports.specs.Channels.{shape_of, shapes_of}
use Rattle.xm_ports.specs.Contents.{content_of}
use Rattle.xm_ports.proofs.FilledLemmas.{kept_filled}
use Rattle.xm_ports.proofs.channels.Channels.resumed.Goals as goal

pub invariant_of-result : goal.invariant_of-result
unfolding shapes_of
invariant_of-result c =
    let few = rw c.chans_of.ensures.value at c.chans_of.ensures.few in
    let chans = rw c.chans_of.ensures.value at c.chans_of.ensures.chans in
    rw (c.in_ok-channels.ensures.table, c.chans_of.ensures.value) (kept_filled c.args.conf.now (map content_of c.args.contents.now) few chans (length-map c.args.contents.now content_of ∙ c.requires.counted) c.requires.suits)

pub returns : goal.returns
unfolding shapes_of
returns c = record { value = rw (c.in_ok-channels.ensures.table, c.chans_of.ensures.value) }

pub filled-requires-clause-counted : goal.filled-requires-clause-counted
unfolding shapes_of
filled-requires-clause-counted c = rw c.chans_of.ensures.value (c.requires.counted ∙ length-map c.args.conf.now.chans shape_of)

pub filled-requires-clause-suits : goal.filled-requires-clause-suits
unfolding shapes_of
filled-requires-clause-suits c = rw c.chans_of.ensures.value c.requires.suits
