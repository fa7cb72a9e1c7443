use Rattle.std.proofs.Common.{arith, refl}
use Rattle.xm_base.specs.declared.partition.State.TheVariants.{Ready}
use Rattle.span_model.specs.Meeting.{awake}
use Rattle.system_state.specs.State.{OwnState}
use Rattle.system_state.specs.contracts.own_state.PartState.{the_view}
use Rattle.system_state.proofs.InsideLemmas.{is_kept, is_turned, stays_kept}
use Rattle.system_state.proofs.sys.engine.wake.Goals as goal

pub index_mut-requires : goal.index_mut-requires
index_mut-requires c = omega (arith, c.from.ensures, is_kept c.sys.inside c.args.sys.now c.args.p c.sys.invariant c.sys.view_is c.requires)

pub invariant_of-sys : goal.invariant_of-sys
invariant_of-sys c =
    let here = rw (c.from.ensures, ← c.behind-sys.view_is) at c.index_mut.ensures.value in
    let own : OwnState = record (the_view c.behind-sys.inside) { state = Ready } in
    rw c.from.ensures (stays_kept c.sys.inside c.args.p (the_view c.behind-sys.inside) own c.sys.inside.ram c.sys.invariant here (λ unarmed. unarmed) (λ due. due) refl refl)

pub returns : goal.returns
returns c =
    let here = rw (c.from.ensures, ← c.behind-sys.view_is) at c.index_mut.ensures.value in
    let own : OwnState = record (the_view c.behind-sys.inside) { state = Ready } in
    record {
      value = rw c.from.ensures (is_turned c.sys.inside c.args.sys.now c.args.p awake (the_view c.behind-sys.inside) own c.sys.invariant c.sys.view_is c.requires here refl);
    }
