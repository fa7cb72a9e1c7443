use Rattle.xm_ports.specs.Channels.{IsQueuing}
use Rattle.xm_ports.proofs.ChannelLemmas.{there, full-there, table-sent}
use Rattle.xm_ports.proofs.channels.Channels.send.Goals as goal

pub invariant_of-self : goal.invariant_of-self
invariant_of-self c =
    let has = rw (← c.self.view_is) at c.requires.channel in
    let fits = rw (← c.self.view_is) at c.requires.bytes in
    let here = there (λ shape. IsQueuing shape.kind) c.self.inside.channels.items c.args.chan _ has (rw c.from.ensures at c.index_mut.ensures.value) in
    let full = full-there c.self.inside.channels.items c.args.chan _ here _ c.send.ensures.full in
    rw c.from.ensures
    (table-sent c.args.bytes.now c.self.inside.channels.items c.args.chan _ _ _ here c.send.ensures.shape c.send.ensures.sent c.send.ensures.unchanged full c.self.invariant has fits).0

pub returns-clause-full : goal.returns-clause-full
returns-clause-full c =
    let has = rw (← c.self.view_is) at c.requires.channel in
    let here = there (λ shape. IsQueuing shape.kind) c.self.inside.channels.items c.args.chan _ has (rw c.from.ensures at c.index_mut.ensures.value) in
    rw (← c.self.view_is) (full-there c.self.inside.channels.items c.args.chan _ here _ c.send.ensures.full)

pub returns-clause-sent : goal.returns-clause-sent
returns-clause-sent c =
    let has = rw (← c.self.view_is) at c.requires.channel in
    let fits = rw (← c.self.view_is) at c.requires.bytes in
    let here = there (λ shape. IsQueuing shape.kind) c.self.inside.channels.items c.args.chan _ has (rw c.from.ensures at c.index_mut.ensures.value) in
    let full = full-there c.self.inside.channels.items c.args.chan _ here _ c.send.ensures.full in
    rw (← c.self.view_is, c.from.ensures)
    (table-sent c.args.bytes.now c.self.inside.channels.items c.args.chan _ _ _ here c.send.ensures.shape c.send.ensures.sent c.send.ensures.unchanged full c.self.invariant has fits).1
