use Rattle.std.proofs.Common.{arith, refl}
use Rattle.system_state.proofs.InsideLemmas.{is_kept, is_met, stays_kept}
use Rattle.system_state.proofs.PartsLemmas.{look-arms-none, look-moves_on}
use Rattle.system_state.proofs.sys.engine.meet.Goals as goal

pub index_mut-requires : goal.index_mut-requires
index_mut-requires c = omega (arith, c.from.ensures, is_kept c.sys.inside c.args.sys.now c.args.p c.sys.invariant c.sys.view_is c.requires)

pub invariant_of-sys : goal.invariant_of-sys
invariant_of-sys c =
    let here = rw c.from.ensures at c.index_mut.ensures.value in
    rw c.from.ensures
    (stays_kept c.sys.inside c.args.p c.index_mut.result.now c.meet.new.self c.sys.inside.ram c.sys.invariant here (look-arms-none c.sys.inside.time _ _ c.meet.ensures.timer) (look-moves_on c.sys.inside.time c.sys.inside.least _ _ c.meet.ensures.timer) refl refl)

pub returns : goal.returns
returns c =
    let here = rw c.from.ensures at c.index_mut.ensures.value in
    record {
      value = rw c.from.ensures (is_met c.sys.inside c.args.sys.now c.args.p c.args.first c.index_mut.result.now c.meet.new.self c.sys.invariant c.sys.view_is c.requires here c.meet.ensures.met);
    }
