use Rattle.std.proofs.Common.{◌<◌, ◌^◌, ◌-◌, refl, sym, arith, ◌∙◌}
use Rattle.fast_loop.specs.lemmas.Coming.{IsPart}
use Rattle.fast_loop.proofs.BlockLemmas.{same_rows}
use Rattle.fast_loop.proofs.RunningLemmas.{part_after, same_part, went_on}
use Rattle.fast_loop.proofs.careful.careful.Goals as goal

pub loop-part-preserved : goal.loop-part-preserved
loop-part-preserved g c =
    let under : c.loop-part.at < 2 ^ 31 = omega (arith, c.loop-part.invariant.place, c.loop-part.invariant.rows.inside) in
    let small : c.args.end - c.args.from < 2 ^ 32 = omega (arith, c.requires.few) in
    let came : IsPart c.words-part.result c.args.origin c.loop-part.at c.loop-part.limit (g.B.Bus.areas c.args.bus.now) c.loop-part.own c.words-part.new.own (g.B.Bus.memory c.loop-part.bus) (g.B.Bus.memory c.words-part.new.bus) =
    same_part c.words-part.result c.words-part.result c.args.origin c.loop-part.at c.loop-part.limit (g.B.Bus.areas c.args.bus.now) (g.B.Bus.areas c.loop-part.bus) c.loop-part.own c.words-part.new.own c.words-part.new.own (g.B.Bus.memory c.loop-part.bus) (g.B.Bus.memory c.words-part.new.bus) (g.B.Bus.memory c.words-part.new.bus) c.loop-part.invariant.areas refl refl refl c.words-part.ensures.part in
    record {
      running = went_on c.args.origin c.args.from (c.args.end - c.args.from) c.loop-part.at c.loop-part.limit (g.B.Bus.areas c.args.bus.now) c.args.own.now c.loop-part.own c.words-part.new.own (g.B.Bus.memory c.args.bus.now) (g.B.Bus.memory c.loop-part.bus) (g.B.Bus.memory c.words-part.new.bus) c.loop-part.invariant.running under small c.words-part.result came c.if-not-goes_within.ensures.goes;
      place = omega (arith, c.if-not-goes_within.ensures.place, c.requires.lengths);
      left = c.if-not-goes_within.ensures.left;
      rows = same_rows c.args.rows.now (g.B.Bus.areas c.loop-part.bus) (g.B.Bus.areas c.words-part.new.bus) (g.B.Bus.memory c.words-part.new.bus) c.args.origin (sym c.words-part.ensures.areas) c.words-part.ensures.rows;
      areas = c.words-part.ensures.areas ∙ c.loop-part.invariant.areas;
      others = c.words-part.ensures.others ∙ c.loop-part.invariant.others;
    }

pub returns-then-not-goes_within-clause-part : goal.returns-then-not-goes_within-clause-part
returns-then-not-goes_within-clause-part g c =
    let under : c.loop-part.at < 2 ^ 31 = omega (arith, c.loop-part.invariant.place, c.loop-part.invariant.rows.inside) in
    let small : c.args.end - c.args.from < 2 ^ 32 = omega (arith, c.requires.few) in
    let came : IsPart c.words-part.result c.args.origin c.loop-part.at c.loop-part.limit (g.B.Bus.areas c.args.bus.now) c.loop-part.own c.words-part.new.own (g.B.Bus.memory c.loop-part.bus) (g.B.Bus.memory c.words-part.new.bus) =
    same_part c.words-part.result c.words-part.result c.args.origin c.loop-part.at c.loop-part.limit (g.B.Bus.areas c.args.bus.now) (g.B.Bus.areas c.loop-part.bus) c.loop-part.own c.words-part.new.own c.words-part.new.own (g.B.Bus.memory c.loop-part.bus) (g.B.Bus.memory c.words-part.new.bus) (g.B.Bus.memory c.words-part.new.bus) c.loop-part.invariant.areas refl refl refl c.words-part.ensures.part in
    part_after c.args.origin c.args.from (c.args.end - c.args.from) c.loop-part.at c.loop-part.limit (g.B.Bus.areas c.args.bus.now) c.args.own.now c.loop-part.own c.words-part.new.own (g.B.Bus.memory c.args.bus.now) (g.B.Bus.memory c.loop-part.bus) (g.B.Bus.memory c.words-part.new.bus) c.loop-part.invariant.running under small c.words-part.result came c.args.end refl
