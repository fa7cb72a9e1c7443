use Rattle.std.proofs.Common.{map, arith}
use Rattle.std.proofs.lemmas.List.{length-map}
use Rattle.std.proofs.lemmas.Result.{err_from_is_err_and}
use Rattle.guest_bus.specs.Memory.{Area}
use Rattle.guest_memory.specs.Loading.{area_of}
use Rattle.guest_memory.specs.Memories.{map_at}
use Rattle.saved_machines.specs.SavedFormat.{area_pages_format}
use Rattle.saved_machines.specs.declared.fault.SavedFault.TheVariants as fault
use Rattle.saved_machines.proofs.ReadLemmas.{each_done, each_fail, each_on, map_more, mapped_there}
use Rattle.saved_machines.proofs.pages.pages.Goals as goal

pub returns-in_err-here : goal.returns-in_err-here
returns-in_err-here c =
    let p = err_from_is_err_and c.from_residual.result c.from_residual.ensures.1 in
    let there = mapped_there area_of c.args.areas.now c.loop-n.n c.area_at.result c.area_at.ensures in
    rw (p.1, p.2)
    (each_fail (λ (area : Area). area_pages_format (map_at c.args.p c.args.loaded.now) area) (map area_of c.args.areas.now) (map (λ area. area.items) c.loop-n.pages.items) c.loop-n.n c.loop-n.cursor (area_of c.area_at.result) fault.Memory c.in_err-here.field-0.0 _
    there.0 there.1 c.in_err-here.ensures c.loop-n.invariant)

pub loop-n-preserved : goal.loop-n-preserved
loop-n-preserved c =
    let there = mapped_there area_of c.args.areas.now c.loop-n.n c.area_at.result c.area_at.ensures in
    rw (map_more c.loop-n.pages.items c.push.new.self.items c.in_ok-here.here (λ area. area.items) c.in-Ok.ensures.items)
    (each_on (λ (area : Area). area_pages_format (map_at c.args.p c.args.loaded.now) area) (map area_of c.args.areas.now) (map (λ area. area.items) c.loop-n.pages.items) c.loop-n.n c.loop-n.cursor (area_of c.area_at.result) c.in_ok-here.here.items c.area_pages.new.cursor _
    there.0 there.1 c.in_ok-here.ensures c.loop-n.invariant)

pub returns : goal.returns
returns c =
    let long = length-map c.args.areas.now area_of in
    each_done (λ (area : Area). area_pages_format (map_at c.args.p c.args.loaded.now) area) (map area_of c.args.areas.now) (map (λ area. area.items) c.loop-n.pages.items) c.loop-n.n c.loop-n.cursor _
    (omega (arith, long, c.loop-n-test.false)) c.loop-n.invariant
