use Rattle.xm_ports.specs.Channels.{put, IsSampling}
use Rattle.xm_ports.proofs.TableLemmas.{kept_put_sampling}
use Rattle.xm_ports.proofs.ChannelLemmas.{there, table-set}
use Rattle.xm_ports.proofs.channels.Channels.put_sampling.Goals as goal

pub invariant_of-self : goal.invariant_of-self
invariant_of-self c =
    let has = rw (← c.self.view_is) at c.requires.channel in
    let fits = rw (← c.self.view_is) at c.requires.bytes in
    let here = there (λ shape. IsSampling shape.kind) c.self.inside.channels.items c.args.chan _ has (rw c.from.ensures at c.index_mut.ensures.value) in
    rw (c.from.ensures, table-set (put c.args.now c.args.bytes.now) _ _ _ _ here c.put_sampling.ensures.shape c.put_sampling.ensures.content)
    (kept_put_sampling _ _ _ _ c.self.invariant has fits)

pub returns : goal.returns
returns c =
    let has = rw (← c.self.view_is) at c.requires.channel in
    let here = there (λ shape. IsSampling shape.kind) c.self.inside.channels.items c.args.chan _ has (rw c.from.ensures at c.index_mut.ensures.value) in
    record { put = rw (← c.self.view_is, c.from.ensures) (table-set (put c.args.now c.args.bytes.now) _ _ _ _ here c.put_sampling.ensures.shape c.put_sampling.ensures.content) }
