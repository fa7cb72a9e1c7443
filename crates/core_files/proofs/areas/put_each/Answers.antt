use Rattle.std.proofs.Common.{◌<◌, ◌∙◌, false, arith, length}
use Rattle.system_state.specs.State.{memory_of}
use Rattle.xm_conf.specs.declared.part.Area.{Area}
use Rattle.core_files.proofs.AreaLemmas.{area_fits, area_more, area_readable, area_written}
use Rattle.core_files.proofs.areas.put_each.Goals as goal

-- an area that stands for none
abbrev no_area : Area
no_area = record { start = 0; size = 0; read_only = false }

pub put_area-after-requires-clause-readable : goal.put_area-after-requires-clause-readable
put_area-after-requires-clause-readable c =
    let below : c.loop-area.area-index < length c.args.areas.now = omega (arith, c.loop-area-test.true, c.loop-area.auto.area-index-end) in
    rw c.requires.areas (area_readable c.args.areas.now c.loop-area.area-index no_area below)

pub put_area-after-requires-clause-room : goal.put_area-after-requires-clause-room
put_area-after-requires-clause-room c =
    let below : c.loop-area.area-index < length c.args.areas.now = omega (arith, c.loop-area-test.true, c.loop-area.auto.area-index-end) in
    omega (arith, area_fits c.args.areas.now c.loop-area.area-index no_area below, c.loop-area.invariant.ends, c.loop-area.invariant.room, c.requires.room)

pub loop-area-preserved : goal.loop-area-preserved
loop-area-preserved c =
    let below : c.loop-area.area-index < length c.args.areas.now = omega (arith, c.loop-area-test.true, c.loop-area.auto.area-index-end) in
    record {
      text = area_written c.args.areas.now c.loop-area.area-index no_area below (memory_of c.args.p c.args.sys.now.machine) _ _ _ c.loop-area.invariant.text c.put_area-after.ensures.text;
      ends = omega (arith, area_more c.args.areas.now c.loop-area.area-index no_area below, c.loop-area.invariant.ends, c.put_area-after.ensures.place);
      room = c.put_area-after.ensures.room ∙ c.loop-area.invariant.room;
    }
