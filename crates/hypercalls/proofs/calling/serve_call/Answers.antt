use Rattle.std.proofs.Common.{ap}
use Rattle.hypercalls.proofs.CallLemmas.{call_counts, call_keeps}
use Rattle.hypercalls.proofs.ServedLemmas.{KeptParts}
use Rattle.hypercalls.proofs.calling.serve_call.Goals as goal

pub returns-clause-count : goal.returns-clause-count
returns-clause-count c = call_counts c.args.p c.args.pc c.program_counter-npc.result _ _ _ c.serve.ensures.served

pub returns-clause-clock : goal.returns-clause-clock
returns-clause-clock c = ap (λ (kept : KeptParts). kept.execution) (call_keeps c.args.p c.args.pc c.program_counter-npc.result _ _ _ c.requires.partition c.serve.ensures.served)

pub returns-clause-log : goal.returns-clause-log
returns-clause-log c = ap (λ (kept : KeptParts). kept.health) (call_keeps c.args.p c.args.pc c.program_counter-npc.result _ _ _ c.requires.partition c.serve.ensures.served)
