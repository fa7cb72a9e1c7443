use Rattle.std.proofs.Common.{ℕ, ap, ◌∙◌, List, subst, sym}
use Rattle.xm_ports.specs.Channels.{FitsChannel, put, with_content}
use Rattle.system_state.proofs.InsideLemmas.{on_ok}
use Rattle.system_state.proofs.sys.messages.send_read.Goals as goal

pub send-requires-clause-bytes : goal.send-requires-clause-bytes
send-requires-clause-bytes c = subst (λ (m : List ℕ). FitsChannel m c.args.chan c.args.channels.now) (sym c.in-Some.ensures.value) c.requires.bytes

pub returns-in-Some-clause-sent : goal.returns-in-Some-clause-sent
returns-in-Some-clause-sent c =
    on_ok c.send.result _ _ (λ sent. λ now. sent now ∙ ap (λ (m : List ℕ). with_content (put now m) c.args.chan c.args.channels.now) c.in-Some.ensures.value) c.send.ensures.sent
