use Rattle.std.proofs.Common.{arith, ap, get_or, refl, subst, sym, [], ◌∙◌}
use Rattle.guest_memory.specs.Memories.{map_at}
use Rattle.machine_model.specs.Partition.{PartitionState}
use Rattle.virt_clocks.specs.Clocks.{PartitionClocks}
use Rattle.system_state.specs.State.{IsFrom, OwnState, is_timed, with_memory}
use Rattle.system_state.specs.Turning.{counted_on}
use Rattle.system_state.specs.contracts.own_state.PartState.{the_view}
use Rattle.system_state.proofs.InsideLemmas.{is_kept, is_part, is_turned, stays_kept}
use Rattle.system_state.proofs.sys.engine.count_on.Goals as goal

pub index_mut-requires : goal.index_mut-requires
index_mut-requires c = omega (arith, c.from.ensures, is_kept c.sys.inside c.args.sys.now c.args.p c.sys.invariant c.sys.view_is c.requires.partition)

pub pass_many-requires : goal.pass_many-requires
pass_many-requires c =
    let here = rw (c.from.ensures, ← c.behind-sys.view_is) at c.index_mut.ensures.value in
    let part = is_part c.sys.inside c.args.sys.now c.args.p (the_view c.behind-sys.inside) c.sys.invariant c.sys.view_is c.requires.partition here in
    omega (arith, c.requires.clock, ap (λ (ps : PartitionState). ps.clocks.execution) part)

pub invariant_of-sys : goal.invariant_of-sys
invariant_of-sys c =
    let here = rw (c.from.ensures, ← c.behind-sys.view_is) at c.index_mut.ensures.value in
    let own : OwnState = record (the_view c.behind-sys.inside) { clocks = c.pass_many.new.self } in
    rw c.from.ensures
    (stays_kept c.sys.inside c.args.p (the_view c.behind-sys.inside) own c.sys.inside.ram c.sys.invariant here
    (λ unarmed. ap (λ (clocks : PartitionClocks). is_timed clocks) c.pass_many.ensures.value ∙ unarmed)
    (λ due. subst (λ (clocks : PartitionClocks). IsFrom c.sys.inside.least clocks.hardware_timer) (sym c.pass_many.ensures.value) due) refl refl)

pub returns : goal.returns
returns c =
    let here = rw (c.from.ensures, ← c.behind-sys.view_is) at c.index_mut.ensures.value in
    let own : OwnState = record (the_view c.behind-sys.inside) { clocks = c.pass_many.new.self } in
    record {
      value = rw c.from.ensures
          (is_turned c.sys.inside c.args.sys.now c.args.p (counted_on c.args.ticks) (the_view c.behind-sys.inside) own c.sys.invariant c.sys.view_is c.requires.partition here
          (ap (λ (clocks : PartitionClocks). with_memory (record (the_view c.behind-sys.inside) { clocks = clocks }) (map_at c.args.p c.sys.inside.ram) (get_or c.sys.inside.inputs c.args.p [])) c.pass_many.ensures.value));
    }
