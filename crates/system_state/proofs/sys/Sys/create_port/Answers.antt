use Rattle.std.proofs.Common.{arith, ap, refl, sym, ◌∙◌, length}
use Rattle.xm_ports.specs.Ports.{created}
use Rattle.machine_model.specs.Partition.{PartitionState}
use Rattle.system_state.specs.State.{OwnState, SysState, part_at, with_machine, with_part}
use Rattle.system_state.specs.contracts.own_state.PartState.{the_view}
use Rattle.system_state.proofs.InsideLemmas.{if_ok, is_changed, is_kept, is_part, made_set, stays_kept}
use Rattle.system_state.proofs.sys.Sys.create_port.Goals as goal

pub index_mut-requires : goal.index_mut-requires
index_mut-requires c = omega (arith, c.from.ensures, is_kept c.self.inside c.args.self.now c.args.p c.self.invariant c.self.view_is c.requires)

pub create-requires : goal.create-requires
create-requires c = omega (arith, is_kept c.self.inside c.args.self.now c.args.p c.self.invariant c.self.view_is c.requires, c.self.invariant.counted, ap (λ conf. length conf.parts) c.conf.ensures.value)

pub returns-clause-answer : goal.returns-clause-answer
returns-clause-answer c =
    let here = rw (c.from.ensures, ← c.behind-self.view_is) at c.index_mut.ensures.value in
    let part = is_part c.self.inside c.args.self.now c.args.p (the_view c.behind-self.inside) c.self.invariant c.self.view_is c.requires here in
    c.create.ensures.answer
    ∙ ap (λ conf. created conf c.args.p c.args.name.now c.args.kind c.args.way c.args.size c.args.most c.behind-self.inside.ports) (c.conf.ensures.value ∙ ap (λ (s : SysState). s.machine.system.conf) c.self.view_is)
    ∙ ap (λ ps. created c.args.self.now.machine.system.conf c.args.p c.args.name.now c.args.kind c.args.way c.args.size c.args.most ps.made) (sym part)

pub returns-clause-made : goal.returns-clause-made
returns-clause-made c =
    let here = rw (c.from.ensures, ← c.behind-self.view_is) at c.index_mut.ensures.value in
    let part = is_part c.self.inside c.args.self.now c.args.p (the_view c.behind-self.inside) c.self.invariant c.self.view_is c.requires here in
    let own : OwnState = record (the_view c.behind-self.inside) { ports = c.create.new.self } in
    if_ok c.create.result _ _ (λ port made.
    rw c.from.ensures
    (is_changed c.self.inside c.args.self.now c.args.p own c.self.view_is
    ∙ ap (λ (ps : PartitionState). with_machine (with_part c.args.p ps c.args.self.now.machine) c.args.self.now) (made_set (the_view c.behind-self.inside) c.create.new.self _ _ port (part_at c.args.p c.args.self.now.machine) part made))) c.create.ensures.made

pub invariant_of-self : goal.invariant_of-self
invariant_of-self c =
    let here = rw (c.from.ensures, ← c.behind-self.view_is) at c.index_mut.ensures.value in
    let own : OwnState = record (the_view c.behind-self.inside) { ports = c.create.new.self } in
    rw c.from.ensures (stays_kept c.self.inside c.args.p (the_view c.behind-self.inside) own c.self.inside.ram c.self.invariant here (λ unarmed. unarmed) (λ due. due) refl refl)
