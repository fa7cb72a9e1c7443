use Rattle.std.proofs.Common.{◌+◌, ◌*◌, sym, ◌∙◌, refl, arith}
use Rattle.virt_traps.proofs.RangeLemmas.{allows_none, joined, refused_part}
use Rattle.virt_traps.proofs.save_area.may_all_be_used.Goals as goal

pub loop-i-init : goal.loop-i-init
loop-i-init g c = record { passed = allows_none _ _; memory = refl; areas = refl; others = refl }

pub returns-then-not-may_be_used-clause-answer :
    goal.returns-then-not-may_be_used-clause-answer
returns-then-not-may_be_used-clause-answer g c =
    let here = rw (c.from.ensures, c.loop-i.invariant.areas) at c.if-not-may_be_used.ensures.answer in
    sym (refused_part _ c.args.address (8 * c.args.doubles) (c.args.address + 8 * c.loop-i.i) 8 (sym here) (omega arith) (omega arith))

pub loop-i-preserved : goal.loop-i-preserved
loop-i-preserved g c =
    let here = rw (c.from.ensures, c.loop-i.invariant.areas) at c.if-not-may_be_used.ensures.answer in
    record {
      passed = joined _ c.args.address (8 * c.loop-i.i) 8 _ c.loop-i.invariant.passed (sym here) (omega arith);
      memory = c.may_be_used.ensures.memory ∙ c.loop-i.invariant.memory;
      areas = c.may_be_used.ensures.areas ∙ c.loop-i.invariant.areas;
      others = c.may_be_used.ensures.others ∙ c.loop-i.invariant.others;
    }
