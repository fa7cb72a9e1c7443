use Rattle.std.proofs.Common.{arith, get_or, refl, set, []}
use Rattle.guest_memory.specs.Memories.{areas_at, map_at}
use Rattle.virt_traps.specs.Settled.{settled}
use Rattle.system_state.specs.State.{OwnState, SysState, part_at, with_memory}
use Rattle.system_state.specs.contracts.own_state.PartState.{the_view}
use Rattle.system_state.proofs.InsideLemmas.{is_at, is_become, is_in_memories, is_kept, seen_with, stays_kept_with}
use Rattle.system_state.specs.lemmas.StateLemmas.{part_set}
use Rattle.system_state.proofs.StepLemmas.{called_seen}
use Rattle.system_state.proofs.sys.Sys.step_core.Goals as goal

pub index_mut-requires : goal.index_mut-requires
index_mut-requires c = omega (arith, c.from.ensures, is_kept c.self.inside c.args.self.now c.args.p c.self.invariant c.self.view_is c.requires)

pub settle_part-requires : goal.settle_part-requires
settle_part-requires c = is_in_memories c.self.inside c.args.self.now c.args.p c.self.invariant c.self.view_is c.requires

pub returns-clause-turn : goal.returns-clause-turn
returns-clause-turn c =
    let here = rw (c.from.ensures, ← c.behind-self.view_is) at c.index_mut.ensures.value in
    let lent = is_at c.self.inside c.args.self.now c.args.p (the_view c.behind-self.inside) c.self.invariant c.self.view_is c.requires here in
    rw (← lent.areas, lent.part) c.settle_part.ensures.turn

pub returns-clause-value : goal.returns-clause-value
returns-clause-value c =
    let here = rw (c.from.ensures, ← c.behind-self.view_is) at c.index_mut.ensures.value in
    let lent = is_at c.self.inside c.args.self.now c.args.p (the_view c.behind-self.inside) c.self.invariant c.self.view_is c.requires here in
    let own : OwnState = record (the_view c.behind-self.inside) { core = c.settle_part.new.core } in
    rw c.from.ensures
    (is_become c.self.inside c.args.self.now c.args.p own _ c.settle_part.new.ram _ c.self.view_is c.settle_part.ensures.memory
    (rw (lent.part, ← lent.areas, c.settle_part.ensures.core) refl))

pub returns-clause-called : goal.returns-clause-called
returns-clause-called c =
    let here = rw (c.from.ensures, ← c.behind-self.view_is) at c.index_mut.ensures.value in
    let lent = is_at c.self.inside c.args.self.now c.args.p (the_view c.behind-self.inside) c.self.invariant c.self.view_is c.requires here in
    let own : OwnState = record (the_view c.behind-self.inside) { core = c.settle_part.new.core } in
    let after = with_memory own (settled (areas_at c.args.p c.self.inside.ram) (the_view c.behind-self.inside).core (map_at c.args.p c.self.inside.ram)).memory (get_or c.self.inside.inputs c.args.p []) in
    let new : SysState = seen_with c.self.inside (set c.self.inside.parts.items c.args.p own) c.settle_part.new.ram in
    let changed = is_become c.self.inside c.args.self.now c.args.p own _ c.settle_part.new.ram after c.self.view_is c.settle_part.ensures.memory refl in
    rw c.from.ensures
    (called_seen c.settle_part.result _ after (part_at c.args.p c.args.self.now.machine) (part_at c.args.p new.machine) lent.part (part_set c.args.self.now new c.args.p after c.requires changed) c.settle_part.ensures.called)

pub invariant_of-self : goal.invariant_of-self
invariant_of-self c =
    let here = rw (c.from.ensures, ← c.behind-self.view_is) at c.index_mut.ensures.value in
    let own : OwnState = record (the_view c.behind-self.inside) { core = c.settle_part.new.core } in
    rw c.from.ensures (stays_kept_with c.self.inside c.args.p (the_view c.behind-self.inside) own _ c.settle_part.new.ram c.self.invariant here (λ unarmed. unarmed) (λ due. due) c.settle_part.ensures.memory)
