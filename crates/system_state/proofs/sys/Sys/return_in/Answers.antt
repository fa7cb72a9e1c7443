use Rattle.std.proofs.Common.{arith, ap, length, refl}
use Rattle.guest_memory.specs.Memories.{Memories}
use Rattle.system_state.specs.State.{OwnState}
use Rattle.system_state.specs.contracts.own_state.PartState.{the_view}
use Rattle.system_state.proofs.InsideLemmas.{is_at, is_in_memories, is_kept, is_returned, stays_kept}
use Rattle.system_state.proofs.sys.Sys.return_in.Goals as goal

pub index_mut-own-requires : goal.index_mut-own-requires
index_mut-own-requires c = omega (arith, c.from.ensures, is_kept c.self.inside c.args.self.now c.args.p c.self.invariant c.self.view_is c.requires)

pub return_part-requires : goal.return_part-requires
return_part-requires c = is_in_memories c.self.inside c.args.self.now c.args.p c.self.invariant c.self.view_is c.requires

pub returns-clause-answer : goal.returns-clause-answer
returns-clause-answer c =
    let here = rw (c.from.ensures, ← c.own.view_is) at c.index_mut-own.ensures.value in
    let lent = is_at c.self.inside c.args.self.now c.args.p (the_view c.own.inside) c.self.invariant c.self.view_is c.requires here in
    rw (← lent.areas, lent.part) c.return_part.ensures.answer

pub returns-clause-value : goal.returns-clause-value
returns-clause-value c =
    let here = rw (c.from.ensures, ← c.own.view_is) at c.index_mut-own.ensures.value in
    let lent = is_at c.self.inside c.args.self.now c.args.p (the_view c.own.inside) c.self.invariant c.self.view_is c.requires here in
    let own : OwnState = record (the_view c.own.inside) { core = c.return_part.new.core; virt = c.return_part.new.virt } in
    rw c.from.ensures
    (is_returned c.self.inside c.args.self.now c.args.p own c.return_part.new.ram _ c.self.view_is c.return_part.ensures.memory
    (rw (lent.part, ← lent.areas, c.return_part.ensures.core, c.return_part.ensures.traps) refl))

pub invariant_of-self : goal.invariant_of-self
invariant_of-self c =
    let here = rw (c.from.ensures, ← c.own.view_is) at c.index_mut-own.ensures.value in
    let own : OwnState = record (the_view c.own.inside) { core = c.return_part.new.core; virt = c.return_part.new.virt } in
    rw c.from.ensures
    (stays_kept c.self.inside c.args.p (the_view c.own.inside) own c.return_part.new.ram c.self.invariant here (λ unarmed. unarmed) (λ due. due)
    (ap (λ (m : Memories). m.areas) c.return_part.ensures.memory) (ap (λ (m : Memories). length m.maps) c.return_part.ensures.memory))
