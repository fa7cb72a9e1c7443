use Rattle.upset_laws.specs.UpsetLaws.{OneUpsetTick}
use Rattle.upset_laws.proofs.UpsetLemmas.{all_upset_ticks, one_upset_tick, ready_halts, runs_plain, upsets_are_contained}
use Rattle.upset_laws.proofs.law.contains_upsets.Goals as goal

pub returns : goal.returns
returns c =
    let tick : OneUpsetTick = one_upset_tick c.one_tick.ensures.law in
    record {
      contained = upsets_are_contained;
      tick = tick;
      halted = ready_halts;
      ticks = all_upset_ticks tick c.keeps_numbers.ensures.ticks;
      plain = runs_plain;
    }
