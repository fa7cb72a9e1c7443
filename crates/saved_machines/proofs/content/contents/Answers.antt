use Rattle.std.proofs.Common.{◌≡◌, ◌⊎◌, Ok, Err, map, subst}
use Rattle.std.proofs.lemmas.Result.{err_from_is_err_and}
use Rattle.saved_machines.specs.SavedFields.{content_field}
use Rattle.saved_machines.specs.declared.fault.SavedFault.TheVariants as fault
use Rattle.saved_machines.proofs.ReadLemmas.{each_done, each_fail, each_on, map_more}
use Rattle.xm_conf.specs.Configuration.{Chan}
use Rattle.xm_ports.specs.Contents.{content_of}
use Rattle.saved_machines.proofs.content.contents.Goals as goal

pub returns-in_err-here : goal.returns-in_err-here
returns-in_err-here c =
    let p = err_from_is_err_and c.from_residual.result c.from_residual.ensures.1 in
    let read = subst (λ (chan : Chan). (c.in_err-here.field-0.0 ≡ fault.Memory) ⊎ ((content_field chan.kind chan.length).read c.loop-chan.cursor ≡ Err c.in_err-here.field-0.0)) c.chan.view_is c.in_err-here.ensures in
    rw (p.1, p.2)
    (each_fail (λ (chan : Chan). content_field chan.kind chan.length) c.args.chans.now (map content_of c.loop-chan.contents.items) c.loop-chan.chan-index c.loop-chan.cursor c.chan-item.result fault.Memory c.in_err-here.field-0.0 _
    c.loop-chan-test.true c.chan-item.is read c.loop-chan.invariant)

pub loop-chan-preserved : goal.loop-chan-preserved
loop-chan-preserved c =
    let read = subst (λ (chan : Chan). (content_field chan.kind chan.length).read c.loop-chan.cursor ≡ Ok (content_of c.in_ok-here.here, c.content.new.cursor)) c.chan.view_is c.in_ok-here.ensures in
    rw (map_more c.loop-chan.contents.items c.push.new.self.items c.in_ok-here.here content_of c.in-Ok.ensures.items)
    (each_on (λ (chan : Chan). content_field chan.kind chan.length) c.args.chans.now (map content_of c.loop-chan.contents.items) c.loop-chan.chan-index c.loop-chan.cursor c.chan-item.result (content_of c.in_ok-here.here) c.content.new.cursor _
    c.loop-chan-test.true c.chan-item.is read c.loop-chan.invariant)

pub returns : goal.returns
returns c =
    each_done (λ (chan : Chan). content_field chan.kind chan.length) c.args.chans.now (map content_of c.loop-chan.contents.items) c.loop-chan.chan-index c.loop-chan.cursor _ c.loop-chan-test.false c.loop-chan.invariant
