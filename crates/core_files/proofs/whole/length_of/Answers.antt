use Rattle.std.proofs.Common.{◌<◌, false, arith, length}
use Rattle.xm_conf.specs.declared.part.Area.{Area}
use Rattle.core_files.proofs.AreaLemmas.{area_more}
use Rattle.core_files.proofs.whole.length_of.Goals as goal

-- an area that stands for none
abbrev no_area : Area
no_area = record { start = 0; size = 0; read_only = false }

pub loop-area-preserved : goal.loop-area-preserved
loop-area-preserved c =
    let below : c.loop-area.area-index < length c.args.areas.now = omega (arith, c.loop-area-test.true, c.loop-area.auto.area-index-end) in
    record {
      counted = omega (arith, area_more c.args.areas.now c.loop-area.area-index no_area below, c.loop-area.invariant.counted);
      few = omega (arith, c.loop-area.invariant.few);
    }
