use Rattle.std.proofs.Common.{◌≡◌, ◌≤◌, ◌++◌, ◌∙◌, List, ℕ, ap, arith, drop, length}
use Rattle.std.specs.Vec.{with_items}
use Rattle.std.proofs.lemmas.List.{with_items_is}
use Rattle.machine_saves.proofs.PutLemmas.{ok_then}
use Rattle.machine_saves.proofs.parts.put_state.Goals as goal

pub head_into-requires-clause-size : goal.head_into-requires-clause-size
head_into-requires-clause-size c = ap length c.deref_mut.ensures.value ∙ c.in_ok-head.ensures

pub put_from-requires : goal.put_from-requires
put_from-requires c =
    let all = c.deref.ensures.value ∙ with_items_is c.in_ok-head.head c.head_into.new.into (c.head_into.auto.into ∙ c.deref_mut.ensures.len) in
    let long : length c.in_ok-head.head.items ≡ 3470 = c.in_ok-head.ensures in
    omega (arith, ap length all, c.head_into.auto.into, ap length c.deref_mut.ensures.value, long)

pub returns : goal.returns
returns c =
    let all = c.deref.ensures.value ∙ with_items_is c.in_ok-head.head c.head_into.new.into (c.head_into.auto.into ∙ c.deref_mut.ensures.len) in
    ok_then c.put_from.result _ _ (λ put. put ∙ ap (λ (bytes : List ℕ). c.args.out.now.items ++ drop 6 bytes) (all ∙ c.head_into.ensures.head)) c.put_from.ensures
