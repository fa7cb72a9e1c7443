use Rattle.std.proofs.Common.{ℕ, ap, ◌∙◌, List, subst, sym}
use Rattle.guest_memory.specs.Memories.{map_at}
use Rattle.guest_bus.specs.Memory.{bytes_at}
use Rattle.xm_ports.specs.Channels.{FitsChannel, put, with_content}
use Rattle.system_state.proofs.InsideLemmas.{on_ok}
use Rattle.system_state.proofs.sys.messages.send_copied.Goals as goal

pub read-requires-clause-readable : goal.read-requires-clause-readable
read-requires-clause-readable c = rw c.requires.size c.requires.readable

pub send-requires-clause-bytes : goal.send-requires-clause-bytes
send-requires-clause-bytes c =
    let is = c.read.ensures ∙ ap (bytes_at (map_at c.args.p c.args.ram.now) c.args.address) c.requires.size in
    subst (λ (m : List ℕ). FitsChannel m c.args.chan c.args.channels.now) (sym is) c.requires.bytes

pub returns-clause-sent : goal.returns-clause-sent
returns-clause-sent c =
    let is = c.read.ensures ∙ ap (bytes_at (map_at c.args.p c.args.ram.now) c.args.address) c.requires.size in
    on_ok c.send.result _ _ (λ sent. λ now. sent now ∙ ap (λ (m : List ℕ). with_content (put now m) c.args.chan c.args.channels.now) is) c.send.ensures.sent
