use Rattle.std.proofs.Common.{◌≡◌, ◌*◌, ◌≤◌, length, take}
use Rattle.std.specs.Prelude.{sum_by}
use Rattle.xm_ports.specs.Channels.{Content, messages_of}
use Rattle.generated_runs.proofs.counting.waiting_in.Given as goal

abbrev pub invariant-loop-chan : goal.invariant-loop-chan
invariant-loop-chan l = record {
  sum : l.sum ≡ sum_by (λ (content : Content). length (messages_of content)) (take l.chan l.channels.contents);
  few : l.sum ≤ 64 * l.chan;
}
