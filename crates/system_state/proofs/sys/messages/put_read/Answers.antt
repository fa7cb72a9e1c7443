use Rattle.std.proofs.Common.{ℕ, ap, ◌∙◌, List, subst, sym}
use Rattle.xm_ports.specs.Channels.{FitsChannel, put, with_content}
use Rattle.system_state.proofs.sys.messages.put_read.Goals as goal

pub put_sampling-requires-clause-bytes : goal.put_sampling-requires-clause-bytes
put_sampling-requires-clause-bytes c = subst (λ (m : List ℕ). FitsChannel m c.args.chan c.args.channels.now) (sym c.in-Some.ensures.value) c.requires.bytes

pub returns-in-Some : goal.returns-in-Some
returns-in-Some c = c.put_sampling.ensures.put ∙ ap (λ (m : List ℕ). with_content (put c.args.now m) c.args.chan c.args.channels.now) c.in-Some.ensures.value
