use Rattle.std.proofs.Common.{◌≡◌, ◌++◌, [], length, ap, refl, ◌∙◌, arith}
use Rattle.std.specs.Prelude.{unwrap_or, slice_get}
use Rattle.std.proofs.lemmas.Option.{slice_get_read}
use Rattle.xm_conf.specs.Configuration.{Conf}
use Rattle.xm_ports.specs.Channels.{Queuing, shapes_of}
use Rattle.machine_saves.specs.lemmas.SaveTerms.{channels_text}
use Rattle.machine_saves.proofs.PutLemmas.{content_put, content_there, contents_end, kind_there}
use Rattle.machine_saves.proofs.channels.put_channels.Goals as goal

pub look_at-requires : goal.look_at-requires
unfolding shapes_of
look_at-requires c =
    let same = c.chans_of-chans.ensures.value ∙ ap (λ (conf : Conf). conf.chans) c.conf.ensures.value in
    let there = rw same at (slice_get_read c.chans_of-chans.result.now _ c.loop-c.c c.index-chans-c.result refl c.loop-c-test.true c.index-chans-c.is) in
    rw c.kind_of-kind.ensures (kind_there c.args.sys.now.machine.system.conf.chans c.channels.result.now.shapes c.loop-c.c c.index-chans-c.result (c.channels.ensures.shapes ∙ c.requires.shapes) there)

pub put_content-requires : goal.put_content-requires
unfolding shapes_of
put_content-requires c =
    let same = c.chans_of-chans.ensures.value ∙ ap (λ (conf : Conf). conf.chans) c.conf.ensures.value in
    let there = rw same at (slice_get_read c.chans_of-chans.result.now _ c.loop-c.c c.index-chans-c.result refl c.loop-c-test.true c.index-chans-c.is) in
    rw c.kind_of-kind.ensures (kind_there c.args.sys.now.machine.system.conf.chans c.channels-in-loop-c.result.now.shapes c.loop-c.c c.index-chans-c.result (c.channels-in-loop-c.ensures.shapes ∙ c.requires.shapes) there)

pub loop-c-preserved : goal.loop-c-preserved
unfolding shapes_of
loop-c-preserved c =
    let g = c.args.sys.now.machine in
    let chan = c.index-chans-c.result in
    let same = c.chans_of-chans.ensures.value ∙ ap (λ (conf : Conf). conf.chans) c.conf.ensures.value in
    let there = rw same at (slice_get_read c.chans_of-chans.result.now _ c.loop-c.c chan refl c.loop-c-test.true c.index-chans-c.is) in
    let kind = kind_there g.system.conf.chans c.channels.result.now.shapes c.loop-c.c chan (c.channels.ensures.shapes ∙ c.requires.shapes) there in
    let held = rw c.channels.ensures.contents at (content_there c.channels.result.now c.loop-c.c chan.kind c.look_at.ensures kind) in
    content_put _ _ _ g.system.conf.chans g.channels c.loop-c.c chan (unwrap_or (slice_get g.channels c.loop-c.c) (Queuing [])) there held c.loop-c.invariant
    (rw (c.kind_of-kind.ensures, c.channels-in-loop-c.ensures.contents) at c.in_ok-put_content.ensures)

pub returns : goal.returns
unfolding channels_text
returns c =
    let same = c.chans_of-chans.ensures.value ∙ ap (λ (conf : Conf). conf.chans) c.conf.ensures.value in
    contents_end _ _ c.args.sys.now.machine.system.conf.chans c.args.sys.now.machine.channels c.loop-c.c (omega (arith, c.loop-c-test.false, ap length same)) c.loop-c.invariant
