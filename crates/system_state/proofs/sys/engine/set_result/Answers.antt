use Rattle.std.proofs.Common.{arith, ap, get_or, refl, []}
use Rattle.guest_memory.specs.Memories.{map_at}
use Rattle.machine_model.specs.Caller.{with_answer}
use Rattle.sparc_step.specs.Registers.{Registers}
use Rattle.system_state.specs.State.{OwnState, with_memory}
use Rattle.system_state.specs.contracts.own_state.PartState.{the_view}
use Rattle.system_state.proofs.InsideLemmas.{is_kept, is_turned, stays_kept}
use Rattle.system_state.proofs.sys.engine.set_result.Goals as goal

pub index_mut-requires : goal.index_mut-requires
index_mut-requires c = omega (arith, c.from.ensures, is_kept c.sys.inside c.args.sys.now c.args.p c.sys.invariant c.sys.view_is c.requires)

pub invariant_of-sys : goal.invariant_of-sys
invariant_of-sys c =
    let here = rw (c.from.ensures, ← c.behind-sys.view_is) at c.index_mut.ensures.value in
    let own : OwnState = record (the_view c.behind-sys.inside) { core = c.set.new.self } in
    rw c.from.ensures (stays_kept c.sys.inside c.args.p (the_view c.behind-sys.inside) own c.sys.inside.ram c.sys.invariant here (λ unarmed. unarmed) (λ due. due) refl refl)

pub returns : goal.returns
unfolding with_answer
returns c =
    let here = rw (c.from.ensures, ← c.behind-sys.view_is) at c.index_mut.ensures.value in
    let own : OwnState = record (the_view c.behind-sys.inside) { core = c.set.new.self } in
    record {
      value = rw c.from.ensures
          (is_turned c.sys.inside c.args.sys.now c.args.p (with_answer c.args.value) (the_view c.behind-sys.inside) own c.sys.invariant c.sys.view_is c.requires here
          (ap (λ (core : Registers). with_memory (record (the_view c.behind-sys.inside) { core = core }) (map_at c.args.p c.sys.inside.ram) (get_or c.sys.inside.inputs c.args.p [])) c.set.ensures));
    }
