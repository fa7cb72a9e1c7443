use Rattle.std.proofs.Common.{◌∙◌, ap, arith, length, refl}
use Rattle.std.proofs.lemmas.Option.{slice_get_read}
use Rattle.saved_machines.specs.Savable.{IsSavedContent}
use Rattle.xm_conf.specs.Configuration.{Conf}
use Rattle.xm_ports.specs.Channels.{shapes_of}
use Rattle.machine_saves.proofs.PutLemmas.{content_there, kind_there}
use Rattle.machine_saves.proofs.RangeLemmas.{each_more}
use Rattle.machine_saves.proofs.ranges.look_at_contents.Goals as goal

pub look_at_content-requires : goal.look_at_content-requires
unfolding shapes_of
look_at_content-requires c =
    let same = c.chans_of-chans.ensures.value ∙ ap (λ (conf : Conf). conf.chans) c.conf.ensures.value in
    let there = rw same at (slice_get_read c.chans_of-chans.result.now _ c.loop-c.c c.index-chans-c.result refl c.loop-c-test.true c.index-chans-c.is) in
    rw c.kind_of-kind.ensures (kind_there c.args.sys.now.machine.system.conf.chans c.channels.result.now.shapes c.loop-c.c c.index-chans-c.result (c.channels.ensures.shapes ∙ c.requires.shapes) there)

pub loop-c-preserved : goal.loop-c-preserved
unfolding shapes_of
loop-c-preserved c =
    let g = c.args.sys.now.machine in
    let chan = c.index-chans-c.result in
    let same = c.chans_of-chans.ensures.value ∙ ap (λ (conf : Conf). conf.chans) c.conf.ensures.value in
    let there = rw same at (slice_get_read c.chans_of-chans.result.now _ c.loop-c.c chan refl c.loop-c-test.true c.index-chans-c.is) in
    let kind = kind_there g.system.conf.chans c.channels.result.now.shapes c.loop-c.c chan (c.channels.ensures.shapes ∙ c.requires.shapes) there in
    let held = rw c.channels.ensures.contents at (content_there c.channels.result.now c.loop-c.c chan.kind c.look_at_content.ensures.table kind) in
    each_more IsSavedContent g.channels c.loop-c.c _ held (rw c.channels.ensures.contents at c.look_at_content.ensures.content) c.loop-c.invariant

pub returns : goal.returns
returns c =
    let same = c.chans_of-chans.ensures.value ∙ ap (λ (conf : Conf). conf.chans) c.conf.ensures.value in
    λ k content below there. c.loop-c.invariant k content (omega (arith, below, c.loop-c-test.false, ap length same)) there
