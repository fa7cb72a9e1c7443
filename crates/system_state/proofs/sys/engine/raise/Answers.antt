use Rattle.std.proofs.Common.{arith, ap, get_or, refl, subst, sym, Some, [], ◌∙◌}
use Rattle.guest_memory.specs.Memories.{map_at}
use Rattle.machine_model.specs.Traffic.{interrupted}
use Rattle.virt_clocks.specs.Clocks.{PartitionClocks}
use Rattle.system_state.specs.State.{IsFrom, is_timed}
use Rattle.system_state.proofs.InsideLemmas.{is_kept, is_turned, stays_kept}
use Rattle.system_state.proofs.sys.engine.raise.Goals as goal

pub index_mut-requires : goal.index_mut-requires
index_mut-requires c = omega (arith, c.from.ensures, is_kept c.sys.inside c.args.sys.now c.args.p c.sys.invariant c.sys.view_is c.requires.partition)

pub invariant_of-sys : goal.invariant_of-sys
invariant_of-sys c =
    let here = rw c.from.ensures at c.index_mut.ensures.value in
    rw c.from.ensures
    (stays_kept c.sys.inside c.args.p c.index_mut.result.now c.raise.new.self c.sys.inside.ram c.sys.invariant here
    (λ unarmed. ap (λ (clocks : PartitionClocks). is_timed clocks) c.raise.ensures.clocks ∙ unarmed)
    (λ due. subst (λ (clocks : PartitionClocks). IsFrom c.sys.inside.least clocks.hardware_timer) (sym c.raise.ensures.clocks) due) refl refl)

pub returns : goal.returns
returns c =
    let here = rw c.from.ensures at c.index_mut.ensures.value in
    record {
      value = rw c.from.ensures
          (is_turned c.sys.inside c.args.sys.now c.args.p (interrupted (Some c.args.interrupt)) c.index_mut.result.now c.raise.new.self c.sys.invariant c.sys.view_is c.requires.partition here
          (c.raise.ensures.raised (map_at c.args.p c.sys.inside.ram) (get_or c.sys.inside.inputs c.args.p [])));
    }
