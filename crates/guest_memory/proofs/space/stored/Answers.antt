use Rattle.std.proofs.Common.{sym}
use Rattle.guest_memory.proofs.AccessLemmas.{refused_too, store_free, store_refused}
use Rattle.guest_memory.proofs.space.stored.Goals as goal

pub returns-then-is_refused : goal.returns-then-is_refused
returns-then-is_refused c = store_refused c.args.entries.now c.in-Ok.place c.args.address c.args.size c.requires c.in-Ok.ensures (sym c.if-is_refused.ensures)

pub returns-else-is_refused : goal.returns-else-is_refused
returns-else-is_refused c = store_free c.args.entries.now c.in-Ok.place c.args.address c.args.size c.requires c.in-Ok.ensures (sym c.if-is_refused.ensures)

pub returns-in-Err : goal.returns-in-Err
returns-in-Err c = refused_too _ c.args.address _ c.in-Err.fault c.in-Err.ensures
