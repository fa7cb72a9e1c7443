use Rattle.std.proofs.Common.{arith, refl}
use Rattle.system_state.specs.State.{OwnState}
use Rattle.system_state.specs.contracts.own_state.PartState.{the_view}
use Rattle.system_state.proofs.InsideLemmas.{is_at, is_become, is_in_memories, is_kept, stays_kept_with}
use Rattle.system_state.proofs.sys.Sys.deliver_to.Goals as goal

pub index_mut-own-requires : goal.index_mut-own-requires
index_mut-own-requires c = omega (arith, c.from.ensures, is_kept c.self.inside c.args.self.now c.args.p c.self.invariant c.self.view_is c.requires)

pub deliver_part-requires : goal.deliver_part-requires
deliver_part-requires c = is_in_memories c.self.inside c.args.self.now c.args.p c.self.invariant c.self.view_is c.requires

pub returns-clause-answer : goal.returns-clause-answer
returns-clause-answer c =
    let here = rw (c.from.ensures, ← c.own.view_is) at c.index_mut-own.ensures.value in
    let lent = is_at c.self.inside c.args.self.now c.args.p (the_view c.own.inside) c.self.invariant c.self.view_is c.requires here in
    rw (← lent.areas, lent.part) c.deliver_part.ensures.answer

pub returns-clause-value : goal.returns-clause-value
returns-clause-value c =
    let here = rw (c.from.ensures, ← c.own.view_is) at c.index_mut-own.ensures.value in
    let lent = is_at c.self.inside c.args.self.now c.args.p (the_view c.own.inside) c.self.invariant c.self.view_is c.requires here in
    let own : OwnState = record (the_view c.own.inside) { core = c.deliver_part.new.core; virt = c.deliver_part.new.virt } in
    rw c.from.ensures
    (is_become c.self.inside c.args.self.now c.args.p own _ c.deliver_part.new.ram _ c.self.view_is c.deliver_part.ensures.memory
    (rw (lent.part, ← lent.areas, c.deliver_part.ensures.core, c.deliver_part.ensures.traps) refl))

pub invariant_of-self : goal.invariant_of-self
invariant_of-self c =
    let here = rw (c.from.ensures, ← c.own.view_is) at c.index_mut-own.ensures.value in
    let own : OwnState = record (the_view c.own.inside) { core = c.deliver_part.new.core; virt = c.deliver_part.new.virt } in
    rw c.from.ensures (stays_kept_with c.self.inside c.args.p (the_view c.own.inside) own _ c.deliver_part.new.ram c.self.invariant here (λ unarmed. unarmed) (λ due. due) c.deliver_part.ensures.memory)
