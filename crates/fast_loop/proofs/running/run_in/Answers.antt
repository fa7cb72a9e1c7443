use Rattle.std.proofs.Common.{◌<◌, ◌^◌, arith, ap, ◌∙◌}
use Rattle.fast_loop.specs.lemmas.Coming.{IsPart}
use Rattle.fast_loop.proofs.RunningLemmas.{ended_called, ended_left, ended_slot, part_rows, same_part, went_on}
use Rattle.fast_loop.proofs.running.run_in.Goals as goal
use Rattle.fast_loop.proofs.running.run_in.Goals.{then-extended-left, else-extended-left+else-left-eq0+else-length}

pub loop-at-preserved : goal.loop-at-preserved
loop-at-preserved g c =
    let came : IsPart c.if-extended-left.part c.args.origin c.loop-at.at c.loop-at.limit (g.B.Bus.areas c.args.bus.now) c.loop-at.own c.if-extended-left.own (g.B.Bus.memory c.loop-at.bus) (g.B.Bus.memory c.if-extended-left.bus) =
    elim c.if-extended-left.branch [
      | then-extended-left w ↦ same_part c.if-extended-left.part w.blocks-part.result c.args.origin c.loop-at.at c.loop-at.limit (g.B.Bus.areas c.args.bus.now) (g.B.Bus.areas c.loop-at.bus) c.loop-at.own c.if-extended-left.own w.blocks-part.new.own (g.B.Bus.memory c.loop-at.bus) (g.B.Bus.memory c.if-extended-left.bus) (g.B.Bus.memory w.blocks-part.new.bus) c.loop-at.invariant.areas w.part-is w.own-is (ap (λ b. g.B.Bus.memory b) w.bus-is) w.blocks-part.ensures.part
      | else-extended-left+else-left-eq0+else-length w ↦ same_part c.if-extended-left.part w.carefully-part.result c.args.origin c.loop-at.at c.loop-at.limit (g.B.Bus.areas c.args.bus.now) (g.B.Bus.areas c.loop-at.bus) c.loop-at.own c.if-extended-left.own w.carefully-part.new.own (g.B.Bus.memory c.loop-at.bus) (g.B.Bus.memory c.if-extended-left.bus) (g.B.Bus.memory w.carefully-part.new.bus) c.loop-at.invariant.areas w.part-is w.own-is (ap (λ b. g.B.Bus.memory b) w.bus-is) w.carefully-part.ensures.part
    ] in
    let under : c.loop-at.at < 2 ^ 31 = omega (arith, c.loop-at-test.true, c.requires.rows.inside) in
    record {
      running = went_on c.args.origin c.args.from c.args.most c.loop-at.at c.loop-at.limit (g.B.Bus.areas c.args.bus.now) c.args.own.now c.loop-at.own c.if-extended-left.own (g.B.Bus.memory c.args.bus.now) (g.B.Bus.memory c.loop-at.bus) (g.B.Bus.memory c.if-extended-left.bus) c.loop-at.invariant.running under c.requires.most c.if-extended-left.part came c.in-Goes.is;
      rows = elim c.if-extended-left.branch [
        | then-extended-left w ↦ part_rows c.args.rows.now (g.B.Bus.areas c.if-extended-left.bus) (g.B.Bus.areas c.loop-at.bus) (g.B.Bus.memory c.if-extended-left.bus) (g.B.Bus.memory w.blocks-part.new.bus) c.args.origin (ap (λ b. g.B.Bus.areas b) w.bus-is ∙ w.blocks-part.ensures.areas) (ap (λ b. g.B.Bus.memory b) w.bus-is) w.blocks-part.ensures.rows
        | else-extended-left+else-left-eq0+else-length w ↦ part_rows c.args.rows.now (g.B.Bus.areas c.if-extended-left.bus) (g.B.Bus.areas c.loop-at.bus) (g.B.Bus.memory c.if-extended-left.bus) (g.B.Bus.memory w.carefully-part.new.bus) c.args.origin (ap (λ b. g.B.Bus.areas b) w.bus-is ∙ w.carefully-part.ensures.areas) (ap (λ b. g.B.Bus.memory b) w.bus-is) w.carefully-part.ensures.rows
      ];
      areas = elim c.if-extended-left.branch [
        | then-extended-left w ↦ ap (λ b. g.B.Bus.areas b) w.bus-is ∙ w.blocks-part.ensures.areas ∙ c.loop-at.invariant.areas
        | else-extended-left+else-left-eq0+else-length w ↦ ap (λ b. g.B.Bus.areas b) w.bus-is ∙ w.carefully-part.ensures.areas ∙ c.loop-at.invariant.areas
      ];
      others = elim c.if-extended-left.branch [
        | then-extended-left w ↦ ap (λ b. g.B.Bus.others b) w.bus-is ∙ w.blocks-part.ensures.others ∙ c.loop-at.invariant.others
        | else-extended-left+else-left-eq0+else-length w ↦ ap (λ b. g.B.Bus.others b) w.bus-is ∙ w.carefully-part.ensures.others ∙ c.loop-at.invariant.others
      ];
    }

pub returns-in-Slot-clause-steps : goal.returns-in-Slot-clause-steps
returns-in-Slot-clause-steps g c =
    let came : IsPart c.if-extended-left.part c.args.origin c.loop-at.at c.loop-at.limit (g.B.Bus.areas c.args.bus.now) c.loop-at.own c.if-extended-left.own (g.B.Bus.memory c.loop-at.bus) (g.B.Bus.memory c.if-extended-left.bus) =
    elim c.if-extended-left.branch [
      | then-extended-left w ↦ same_part c.if-extended-left.part w.blocks-part.result c.args.origin c.loop-at.at c.loop-at.limit (g.B.Bus.areas c.args.bus.now) (g.B.Bus.areas c.loop-at.bus) c.loop-at.own c.if-extended-left.own w.blocks-part.new.own (g.B.Bus.memory c.loop-at.bus) (g.B.Bus.memory c.if-extended-left.bus) (g.B.Bus.memory w.blocks-part.new.bus) c.loop-at.invariant.areas w.part-is w.own-is (ap (λ b. g.B.Bus.memory b) w.bus-is) w.blocks-part.ensures.part
      | else-extended-left+else-left-eq0+else-length w ↦ same_part c.if-extended-left.part w.carefully-part.result c.args.origin c.loop-at.at c.loop-at.limit (g.B.Bus.areas c.args.bus.now) (g.B.Bus.areas c.loop-at.bus) c.loop-at.own c.if-extended-left.own w.carefully-part.new.own (g.B.Bus.memory c.loop-at.bus) (g.B.Bus.memory c.if-extended-left.bus) (g.B.Bus.memory w.carefully-part.new.bus) c.loop-at.invariant.areas w.part-is w.own-is (ap (λ b. g.B.Bus.memory b) w.bus-is) w.carefully-part.ensures.part
    ] in
    let under : c.loop-at.at < 2 ^ 31 = omega (arith, c.loop-at-test.true, c.requires.rows.inside) in
    ended_slot c.args.origin c.args.from c.args.most c.loop-at.at c.loop-at.limit (g.B.Bus.areas c.args.bus.now) c.args.own.now c.loop-at.own c.if-extended-left.own (g.B.Bus.memory c.args.bus.now) (g.B.Bus.memory c.loop-at.bus) (g.B.Bus.memory c.if-extended-left.bus) c.loop-at.invariant.running under c.requires.most c.if-extended-left.part came c.in-Slot.displacement c.ended_in_slot.result.went c.ended_in_slot.new.own c.in-Slot.is c.ended_in_slot.ensures.went c.ended_in_slot.ensures.at

pub returns-in-Calls-clause-steps : goal.returns-in-Calls-clause-steps
returns-in-Calls-clause-steps g c =
    let came : IsPart c.if-extended-left.part c.args.origin c.loop-at.at c.loop-at.limit (g.B.Bus.areas c.args.bus.now) c.loop-at.own c.if-extended-left.own (g.B.Bus.memory c.loop-at.bus) (g.B.Bus.memory c.if-extended-left.bus) =
    elim c.if-extended-left.branch [
      | then-extended-left w ↦ same_part c.if-extended-left.part w.blocks-part.result c.args.origin c.loop-at.at c.loop-at.limit (g.B.Bus.areas c.args.bus.now) (g.B.Bus.areas c.loop-at.bus) c.loop-at.own c.if-extended-left.own w.blocks-part.new.own (g.B.Bus.memory c.loop-at.bus) (g.B.Bus.memory c.if-extended-left.bus) (g.B.Bus.memory w.blocks-part.new.bus) c.loop-at.invariant.areas w.part-is w.own-is (ap (λ b. g.B.Bus.memory b) w.bus-is) w.blocks-part.ensures.part
      | else-extended-left+else-left-eq0+else-length w ↦ same_part c.if-extended-left.part w.carefully-part.result c.args.origin c.loop-at.at c.loop-at.limit (g.B.Bus.areas c.args.bus.now) (g.B.Bus.areas c.loop-at.bus) c.loop-at.own c.if-extended-left.own w.carefully-part.new.own (g.B.Bus.memory c.loop-at.bus) (g.B.Bus.memory c.if-extended-left.bus) (g.B.Bus.memory w.carefully-part.new.bus) c.loop-at.invariant.areas w.part-is w.own-is (ap (λ b. g.B.Bus.memory b) w.bus-is) w.carefully-part.ensures.part
    ] in
    let under : c.loop-at.at < 2 ^ 31 = omega (arith, c.loop-at-test.true, c.requires.rows.inside) in
    ended_called c.args.origin c.args.from c.args.most c.loop-at.at c.loop-at.limit (g.B.Bus.areas c.args.bus.now) c.args.own.now c.loop-at.own c.if-extended-left.own (g.B.Bus.memory c.args.bus.now) (g.B.Bus.memory c.loop-at.bus) (g.B.Bus.memory c.if-extended-left.bus) c.loop-at.invariant.running under c.requires.most c.if-extended-left.part came c.ended-in-Calls.result.went c.ended-in-Calls.new.own c.in-Calls.is c.ended-in-Calls.ensures.went c.ended-in-Calls.ensures.at

pub returns-in-Stays-clause-steps : goal.returns-in-Stays-clause-steps
returns-in-Stays-clause-steps g c =
    let came : IsPart c.if-extended-left.part c.args.origin c.loop-at.at c.loop-at.limit (g.B.Bus.areas c.args.bus.now) c.loop-at.own c.if-extended-left.own (g.B.Bus.memory c.loop-at.bus) (g.B.Bus.memory c.if-extended-left.bus) =
    elim c.if-extended-left.branch [
      | then-extended-left w ↦ same_part c.if-extended-left.part w.blocks-part.result c.args.origin c.loop-at.at c.loop-at.limit (g.B.Bus.areas c.args.bus.now) (g.B.Bus.areas c.loop-at.bus) c.loop-at.own c.if-extended-left.own w.blocks-part.new.own (g.B.Bus.memory c.loop-at.bus) (g.B.Bus.memory c.if-extended-left.bus) (g.B.Bus.memory w.blocks-part.new.bus) c.loop-at.invariant.areas w.part-is w.own-is (ap (λ b. g.B.Bus.memory b) w.bus-is) w.blocks-part.ensures.part
      | else-extended-left+else-left-eq0+else-length w ↦ same_part c.if-extended-left.part w.carefully-part.result c.args.origin c.loop-at.at c.loop-at.limit (g.B.Bus.areas c.args.bus.now) (g.B.Bus.areas c.loop-at.bus) c.loop-at.own c.if-extended-left.own w.carefully-part.new.own (g.B.Bus.memory c.loop-at.bus) (g.B.Bus.memory c.if-extended-left.bus) (g.B.Bus.memory w.carefully-part.new.bus) c.loop-at.invariant.areas w.part-is w.own-is (ap (λ b. g.B.Bus.memory b) w.bus-is) w.carefully-part.ensures.part
    ] in
    let under : c.loop-at.at < 2 ^ 31 = omega (arith, c.loop-at-test.true, c.requires.rows.inside) in
    ended_left c.args.origin c.args.from c.args.most c.loop-at.at c.loop-at.limit (g.B.Bus.areas c.args.bus.now) c.args.own.now c.loop-at.own c.if-extended-left.own (g.B.Bus.memory c.args.bus.now) (g.B.Bus.memory c.loop-at.bus) (g.B.Bus.memory c.if-extended-left.bus) c.loop-at.invariant.running under c.requires.most c.if-extended-left.part came c.ended-in-Stays.result.went c.ended-in-Stays.new.own c.in-Stays.is c.ended-in-Stays.ensures.went c.ended-in-Stays.ensures.at
