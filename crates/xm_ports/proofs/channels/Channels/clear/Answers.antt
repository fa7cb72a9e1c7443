use Rattle.std.proofs.Common.{◌≡◌, ◌++◌, take, drop, length, arith}
use Rattle.std.proofs.lemmas.Grind.{common_steps}
use Rattle.xm_ports.proofs.TableLemmas.{kept_cleared}
use Rattle.xm_ports.proofs.channels.Channels.clear.Goals as goal

pub invariant_of-self : goal.invariant_of-self
invariant_of-self c =
    let counted : length c.clear_all.new.channels ≡ c.self.inside.channels.len = grind (arith, common_steps) in
    let e : take c.self.inside.channels.len (c.clear_all.new.channels ++ drop (length c.clear_all.new.channels) c.self.inside.channels.items) ≡ c.clear_all.new.channels = grind (arith, common_steps) in
    rw (e, c.clear_all.ensures.table, c.deref_mut.ensures.value) (kept_cleared _ c.self.invariant)
