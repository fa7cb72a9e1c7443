use Rattle.std.proofs.Common.{arith, ap, length, sym, ◌∙◌}
use Rattle.machine_model.specs.Partition.{PartitionState}
use Rattle.system_state.specs.contracts.own_state.PartState.{the_view}
use Rattle.system_state.proofs.InsideLemmas.{is_in_inputs, is_kept, is_part}
use Rattle.system_state.proofs.sys.Sys.inputs_left.Goals as goal

pub index-requires : goal.index-requires
index-requires c = omega (arith, c.from.ensures, is_kept c.self.inside c.args.self.now c.args.p c.self.invariant c.self.view_is c.requires)

pub left-requires : goal.left-requires
left-requires c = is_in_inputs c.self.inside c.args.self.now c.args.p c.self.invariant c.self.view_is c.requires

pub returns : goal.returns
returns c =
    let here = rw (c.from.ensures, ← c.behind-self.view_is) at c.index.ensures in
    let part = is_part c.self.inside c.args.self.now c.args.p (the_view c.behind-self.inside) c.self.invariant c.self.view_is c.requires here in
    record { value = c.left.ensures.value ∙ sym (ap (λ (ps : PartitionState). length ps.inputs) part) }
