use Rattle.std.proofs.Common.{arith, ap, get_or, refl, set, [], ◌∙◌}
use Rattle.guest_memory.specs.Memories.{map_at}
use Rattle.machine_model.specs.Partition.{PartitionState}
use Rattle.system_state.specs.State.{OwnState, SysState, part_at, with_machine, with_memory, with_part}
use Rattle.system_state.specs.contracts.own_state.PartState.{the_view}
use Rattle.system_state.proofs.InsideLemmas.{is_at, is_in_memories, is_kept, is_stepped, seen_with, stays_kept_with}
use Rattle.system_state.specs.lemmas.StateLemmas.{part_set}
use Rattle.system_state.proofs.StepLemmas.{gone_seen, turned_seen}
use Rattle.system_state.proofs.sys.Sys.step_many.Goals as goal

pub index_mut-requires : goal.index_mut-requires
index_mut-requires c = omega (arith, c.from.ensures, is_kept c.self.inside c.args.self.now c.args.p c.self.invariant c.self.view_is c.requires)

pub step_part-requires : goal.step_part-requires
step_part-requires c = is_in_memories c.self.inside c.args.self.now c.args.p c.self.invariant c.self.view_is c.requires

pub returns-clause-went : goal.returns-clause-went
returns-clause-went c =
    let here = rw (c.from.ensures, ← c.behind-self.view_is) at c.index_mut.ensures.value in
    let lent = is_at c.self.inside c.args.self.now c.args.p (the_view c.behind-self.inside) c.self.invariant c.self.view_is c.requires here in
    rw (← lent.areas, lent.part) c.step_part.ensures.went

pub returns-clause-at : goal.returns-clause-at
returns-clause-at c =
    let here = rw (c.from.ensures, ← c.behind-self.view_is) at c.index_mut.ensures.value in
    let lent = is_at c.self.inside c.args.self.now c.args.p (the_view c.behind-self.inside) c.self.invariant c.self.view_is c.requires here in
    rw (← lent.areas, lent.part) c.step_part.ensures.at

pub returns-clause-gone : goal.returns-clause-gone
returns-clause-gone c =
    let here = rw (c.from.ensures, ← c.behind-self.view_is) at c.index_mut.ensures.value in
    let lent = is_at c.self.inside c.args.self.now c.args.p (the_view c.behind-self.inside) c.self.invariant c.self.view_is c.requires here in
    let own : OwnState = record (the_view c.behind-self.inside) { core = c.step_part.new.core } in
    let new : SysState = seen_with c.self.inside (set c.self.inside.parts.items c.args.p own) c.step_part.new.ram in
    let left = with_memory own (map_at c.args.p c.step_part.new.ram) (get_or c.self.inside.inputs c.args.p []) in
    let changed = is_stepped c.self.inside c.args.self.now c.args.p own (map_at c.args.p c.step_part.new.ram) c.step_part.new.ram c.self.view_is c.step_part.ensures.others in
    let after = part_set c.args.self.now new c.args.p left c.requires changed in
    rw c.from.ensures (gone_seen c.step_part.result.turn c.step_part.result.went c.args.most _ _ _ left (part_at c.args.p c.args.self.now.machine) (part_at c.args.p new.machine) lent.areas lent.part after c.step_part.ensures.gone)

pub returns-clause-others : goal.returns-clause-others
returns-clause-others c =
    let here = rw (c.from.ensures, ← c.behind-self.view_is) at c.index_mut.ensures.value in
    let lent = is_at c.self.inside c.args.self.now c.args.p (the_view c.behind-self.inside) c.self.invariant c.self.view_is c.requires here in
    let own : OwnState = record (the_view c.behind-self.inside) { core = c.step_part.new.core } in
    let new : SysState = seen_with c.self.inside (set c.self.inside.parts.items c.args.p own) c.step_part.new.ram in
    let left = with_memory own (map_at c.args.p c.step_part.new.ram) (get_or c.self.inside.inputs c.args.p []) in
    let changed = is_stepped c.self.inside c.args.self.now c.args.p own (map_at c.args.p c.step_part.new.ram) c.step_part.new.ram c.self.view_is c.step_part.ensures.others in
    let after = part_set c.args.self.now new c.args.p left c.requires changed in
    rw c.from.ensures (changed
    ∙ ap (λ (ps : PartitionState). with_machine (with_part c.args.p ps c.args.self.now.machine) c.args.self.now)
    (turned_seen _ left (part_at c.args.p c.args.self.now.machine) (part_at c.args.p new.machine) lent.part after refl))

pub invariant_of-self : goal.invariant_of-self
invariant_of-self c =
    let here = rw (c.from.ensures, ← c.behind-self.view_is) at c.index_mut.ensures.value in
    let own : OwnState = record (the_view c.behind-self.inside) { core = c.step_part.new.core } in
    rw c.from.ensures (stays_kept_with c.self.inside c.args.p (the_view c.behind-self.inside) own _ c.step_part.new.ram c.self.invariant here (λ unarmed. unarmed) (λ due. due) c.step_part.ensures.others)
