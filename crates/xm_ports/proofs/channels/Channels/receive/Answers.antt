use Rattle.std.proofs.Common.{◌≡◌, length}
use Rattle.xm_ports.specs.Channels.{first_taken, IsQueuing}
use Rattle.xm_ports.proofs.TableLemmas.{kept_taken}
use Rattle.xm_ports.proofs.ChannelLemmas.{there, content_there, table-set, none-counted, both_none, table-received}
use Rattle.xm_ports.proofs.channels.Channels.receive.Goals as goal

pub invariant_of-self : goal.invariant_of-self
invariant_of-self c =
    let has = rw (← c.self.view_is) at c.requires.channel in
    let here = there (λ shape. IsQueuing shape.kind) c.self.inside.channels.items c.args.chan _ has (rw c.from.ensures at c.index_mut.ensures.value) in
    rw (c.from.ensures, table-set first_taken _ _ _ _ here c.receive.ensures.shape c.receive.ensures.taken) (kept_taken _ _ c.self.invariant)

pub returns-clause-none : goal.returns-clause-none
returns-clause-none c =
    let has = rw (← c.self.view_is) at c.requires.channel in
    let here = there (λ shape. IsQueuing shape.kind) c.self.inside.channels.items c.args.chan _ has (rw c.from.ensures at c.index_mut.ensures.value) in
    rw (← c.self.view_is, content_there _ _ _ here) (none-counted length _ _ c.receive.ensures.length)

pub returns-clause-unchanged : goal.returns-clause-unchanged
returns-clause-unchanged c =
    let has = rw (← c.self.view_is) at c.requires.channel in
    let here = there (λ shape. IsQueuing shape.kind) c.self.inside.channels.items c.args.chan _ has (rw c.from.ensures at c.index_mut.ensures.value) in
    rw (← c.self.view_is, c.from.ensures)
    (both_none _ (c.receive.new.into ≡ c.args.into.now) _ (table-received _ _ _ _ _ here c.receive.ensures.shape c.receive.ensures.taken c.receive.ensures.length).1 c.receive.ensures.unchanged)

pub returns-clause-length : goal.returns-clause-length
returns-clause-length c =
    let has = rw (← c.self.view_is) at c.requires.channel in
    let here = there (λ shape. IsQueuing shape.kind) c.self.inside.channels.items c.args.chan _ has (rw c.from.ensures at c.index_mut.ensures.value) in
    rw (← c.self.view_is, content_there _ _ _ here) c.receive.ensures.length

pub returns-clause-bytes : goal.returns-clause-bytes
returns-clause-bytes c =
    let has = rw (← c.self.view_is) at c.requires.channel in
    let here = there (λ shape. IsQueuing shape.kind) c.self.inside.channels.items c.args.chan _ has (rw c.from.ensures at c.index_mut.ensures.value) in
    rw (← c.self.view_is, content_there _ _ _ here) c.receive.ensures.bytes

pub returns-clause-taken : goal.returns-clause-taken
returns-clause-taken c =
    let has = rw (← c.self.view_is) at c.requires.channel in
    let here = there (λ shape. IsQueuing shape.kind) c.self.inside.channels.items c.args.chan _ has (rw c.from.ensures at c.index_mut.ensures.value) in
    rw (← c.self.view_is, c.from.ensures)
    (table-received _ _ _ _ _ here c.receive.ensures.shape c.receive.ensures.taken c.receive.ensures.length).0
