use Rattle.std.proofs.Common.{arith}
use Rattle.system_state.proofs.InsideLemmas.{is_kept, is_lent_value}
use Rattle.system_state.proofs.sys.Sys.part.Goals as goal

pub index-requires : goal.index-requires
index-requires c = omega (arith, c.from.ensures, is_kept c.self.inside c.args.self.now c.args.p c.self.invariant c.self.view_is c.requires)

pub returns : goal.returns
returns c =
    let here = rw c.from.ensures at c.index.ensures in
    record { value = is_lent_value c.self.inside c.args.self.now c.args.p c.index.result.now c.self.invariant c.self.view_is c.requires here }
