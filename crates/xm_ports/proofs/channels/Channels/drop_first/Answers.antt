use Rattle.xm_ports.specs.Channels.{first_taken, IsQueuing}
use Rattle.xm_ports.proofs.TableLemmas.{kept_taken}
use Rattle.xm_ports.proofs.ChannelLemmas.{there, table-set}
use Rattle.xm_ports.proofs.channels.Channels.drop_first.Goals as goal

pub invariant_of-self : goal.invariant_of-self
invariant_of-self c =
    let has = rw (← c.self.view_is) at c.requires.channel in
    let here = there (λ shape. IsQueuing shape.kind) c.self.inside.channels.items c.args.chan _ has (rw c.from.ensures at c.index_mut.ensures.value) in
    rw (c.from.ensures, table-set first_taken _ _ _ _ here c.drop_first.ensures.shape c.drop_first.ensures.content) (kept_taken _ _ c.self.invariant)

pub returns : goal.returns
returns c =
    let has = rw (← c.self.view_is) at c.requires.channel in
    let here = there (λ shape. IsQueuing shape.kind) c.self.inside.channels.items c.args.chan _ has (rw c.from.ensures at c.index_mut.ensures.value) in
    record { dropped = rw (← c.self.view_is, c.from.ensures) (table-set first_taken _ _ _ _ here c.drop_first.ensures.shape c.drop_first.ensures.content) }
