use Rattle.std.proofs.Common.{◌<◌, ◌^◌, ◌-◌, refl, sym, subst, arith, ◌∙◌}
use Rattle.fast_loop.specs.lemmas.Ahead.{IsAheadWithin}
use Rattle.fast_loop.specs.lemmas.Coming.{IsPart}
use Rattle.fast_loop.proofs.BlockLemmas.{same_rows}
use Rattle.fast_loop.proofs.RunningLemmas.{limit_at, part_after, same_part, went_on}
use Rattle.fast_loop.proofs.blocks.blocks.Goals as goal

pub loop-part-preserved : goal.loop-part-preserved
loop-part-preserved g c =
    let under : c.loop-part.at < 2 ^ 31 = omega (arith, c.loop-part.invariant.place, c.loop-part.invariant.rows.inside) in
    let small : c.args.end - c.args.from < 2 ^ 32 = omega (arith, c.requires.few) in
    let came : IsPart c.block-part.result c.args.origin c.loop-part.at c.loop-part.limit (g.B.Bus.areas c.args.bus.now) c.loop-part.own c.block-part.new.own (g.B.Bus.memory c.loop-part.bus) (g.B.Bus.memory c.block-part.new.bus) =
    same_part c.block-part.result c.block-part.result c.args.origin c.loop-part.at c.loop-part.limit (g.B.Bus.areas c.args.bus.now) (g.B.Bus.areas c.loop-part.bus) c.loop-part.own c.block-part.new.own c.block-part.new.own (g.B.Bus.memory c.loop-part.bus) (g.B.Bus.memory c.block-part.new.bus) (g.B.Bus.memory c.block-part.new.bus) c.loop-part.invariant.areas refl refl refl c.block-part.ensures.part in
    let next = went_on c.args.origin c.args.from (c.args.end - c.args.from) c.loop-part.at c.loop-part.limit (g.B.Bus.areas c.args.bus.now) c.args.own.now c.loop-part.own c.block-part.new.own (g.B.Bus.memory c.args.bus.now) (g.B.Bus.memory c.loop-part.bus) (g.B.Bus.memory c.block-part.new.bus) c.loop-part.invariant.running under small c.block-part.result came c.if-not-enters.ensures.goes in
    let near : c.block-part.result.at < 2 ^ 31 = omega (arith, c.if-not-enters.ensures.place, c.requires.rows.inside) in
    record {
      running = next;
      place = c.if-not-enters.ensures.place;
      ahead = subst (IsAheadWithin c.args.rows.now c.block-part.result.at) (sym (limit_at c.block-part.result.at c.block-part.result.limit (c.args.end - c.args.from) near next.end small next.few)) c.if-not-enters.ensures.ahead;
      rows = same_rows c.args.rows.now (g.B.Bus.areas c.loop-part.bus) (g.B.Bus.areas c.block-part.new.bus) (g.B.Bus.memory c.block-part.new.bus) c.args.origin (sym c.block-part.ensures.areas) c.block-part.ensures.rows;
      areas = c.block-part.ensures.areas ∙ c.loop-part.invariant.areas;
      others = c.block-part.ensures.others ∙ c.loop-part.invariant.others;
    }

pub returns-then-not-enters-clause-part : goal.returns-then-not-enters-clause-part
returns-then-not-enters-clause-part g c =
    let under : c.loop-part.at < 2 ^ 31 = omega (arith, c.loop-part.invariant.place, c.loop-part.invariant.rows.inside) in
    let small : c.args.end - c.args.from < 2 ^ 32 = omega (arith, c.requires.few) in
    let came : IsPart c.block-part.result c.args.origin c.loop-part.at c.loop-part.limit (g.B.Bus.areas c.args.bus.now) c.loop-part.own c.block-part.new.own (g.B.Bus.memory c.loop-part.bus) (g.B.Bus.memory c.block-part.new.bus) =
    same_part c.block-part.result c.block-part.result c.args.origin c.loop-part.at c.loop-part.limit (g.B.Bus.areas c.args.bus.now) (g.B.Bus.areas c.loop-part.bus) c.loop-part.own c.block-part.new.own c.block-part.new.own (g.B.Bus.memory c.loop-part.bus) (g.B.Bus.memory c.block-part.new.bus) (g.B.Bus.memory c.block-part.new.bus) c.loop-part.invariant.areas refl refl refl c.block-part.ensures.part in
    part_after c.args.origin c.args.from (c.args.end - c.args.from) c.loop-part.at c.loop-part.limit (g.B.Bus.areas c.args.bus.now) c.args.own.now c.loop-part.own c.block-part.new.own (g.B.Bus.memory c.args.bus.now) (g.B.Bus.memory c.loop-part.bus) (g.B.Bus.memory c.block-part.new.bus) c.loop-part.invariant.running under small c.block-part.result came c.args.end refl
