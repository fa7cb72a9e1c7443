use Rattle.std.proofs.Common.{ℕ, ap, ◌∙◌, List, subst, sym}
use Rattle.guest_memory.specs.Memories.{map_at}
use Rattle.guest_bus.specs.Memory.{bytes_at}
use Rattle.xm_ports.specs.Channels.{FitsChannel, put, with_content}
use Rattle.system_state.proofs.sys.messages.put_copied.Goals as goal

pub read-requires-clause-readable : goal.read-requires-clause-readable
read-requires-clause-readable c = rw c.requires.size c.requires.readable

pub put_sampling-requires-clause-bytes : goal.put_sampling-requires-clause-bytes
put_sampling-requires-clause-bytes c =
    let is = c.read.ensures ∙ ap (bytes_at (map_at c.args.p c.args.ram.now) c.args.address) c.requires.size in
    subst (λ (m : List ℕ). FitsChannel m c.args.chan c.args.channels.now) (sym is) c.requires.bytes

pub returns : goal.returns
returns c =
    let is = c.read.ensures ∙ ap (bytes_at (map_at c.args.p c.args.ram.now) c.args.address) c.requires.size in
    c.put_sampling.ensures.put ∙ ap (λ (m : List ℕ). with_content (put c.args.now m) c.args.chan c.args.channels.now) is
