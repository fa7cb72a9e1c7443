use Rattle.std.proofs.Common.{arith, refl}
use Rattle.system_state.proofs.InsideLemmas.{is_kept, is_lent, is_lent_value, lent_kept}
use Rattle.system_state.proofs.sys.Sys.part_mut.Goals as goal

pub index_mut-requires : goal.index_mut-requires
index_mut-requires c = omega (arith, c.from.ensures, is_kept c.self.inside c.args.self.now c.args.p c.self.invariant c.self.view_is c.requires)

pub returns : goal.returns
returns c =
    let here = rw c.from.ensures at c.index_mut.ensures.value in (
      (refl, λ w. rw c.from.ensures (is_lent c.self.inside c.args.self.now c.args.p c.index_mut.result.now w c.self.invariant c.self.view_is c.requires here)),
      record {
        lent = tt;
        value = is_lent_value c.self.inside c.args.self.now c.args.p c.index_mut.result.now c.self.invariant c.self.view_is c.requires here;
      },
    )

pub invariant_of-self-lent : goal.invariant_of-self-lent
invariant_of-self-lent c =
    let stays = rw c.deref.ensures.value at c.least_but-self-inside.ensures in
    λ w. rw c.from.ensures (lent_kept c.self.inside c.args.p c.least_but-self-inside.result w c.self.invariant stays)
