use Rattle.std.proofs.lemmas.Result.{err_from_is_err_and}
use Rattle.std.specs.Option.{option_to_list}
use Rattle.xef_images.proofs.Loads.{loaded_more, loaded_fails, loaded_all}
use Rattle.xef_images.proofs.elf.segments.Goals as goal

pub returns-in_err-loaded : goal.returns-in_err-loaded
returns-in_err-loaded c =
    let p = err_from_is_err_and c.from_residual.result c.from_residual.ensures.1 in
    let failed = rw (c.len.ensures, c.loop.segments.ok.0) at c.in_err-loaded.ensures in
    rw (p.1, p.2) (loaded_fails c.in_err-loaded.field-0.0 c.args.bytes.now c.args.place c.args.count c.loop.counter c.loop.place c.loop.segments.items c.loop.invariant c.loop-test.true failed)

pub loop-preserved : goal.loop-preserved
loop-preserved c =
    let read = rw (c.len.ensures, c.loop.segments.ok.0) at c.in_ok-loaded.ensures in
    loaded_more c.args.bytes.now c.args.place c.args.count c.loop.counter c.loop.place c.loop.segments.items (option_to_list c.in_ok-loaded.loaded) c.keep.new.segments.items c.loop.invariant c.loop-test.true
    read c.in_ok-keep.ensures.value

pub returns : goal.returns
returns c = loaded_all c.args.bytes.now c.args.place c.args.count c.loop.counter c.loop.place c.loop.segments.items c.loop.invariant c.loop-test.false
