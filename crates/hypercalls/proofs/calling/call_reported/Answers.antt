use Rattle.std.proofs.Common.{subst}
use Rattle.span_model.specs.Passes.{part_at}
use Rattle.system_state.specs.Serving.{caller_at}
use Rattle.system_state.specs.declared.served.Note.{Note}
use Rattle.machine_model.specs.LocalTick.{called}
use Rattle.tick_steps.specs.Work.{IsNotedBy}
use Rattle.hypercalls.proofs.CallLemmas.{call_alone, call_entered, call_noted, call_quiet, call_worked}
use Rattle.hypercalls.proofs.calling.call_reported.Goals as goal

pub returns-clause-worked : goal.returns-clause-worked
returns-clause-worked c =
    call_worked c.args.p c.args.pc (part_at c.args.p c.args.sys.now.machine).core.pc c.ticks.result c.serve_call-served.result c.follow-reach.result _ _ _ _ _ _ _ c.requires.partition c.requires.empty
    c.serve_call-served.ensures.served c.count_tick.ensures.value c.ticks.ensures.value c.put_trace.ensures.value c.follow-reach.ensures.done c.follow-reach.ensures.act c.follow-reach.ensures.one

pub returns-clause-alone : goal.returns-clause-alone
returns-clause-alone c =
    call_alone c.args.p c.args.pc (part_at c.args.p c.args.sys.now.machine).core.pc c.serve_call-served.result c.follow-reach.result c.args.sys.now c.serve_call-served.new.sys c.count_tick.new.sys
    c.serve_call-served.ensures.served c.follow-reach.ensures.act

pub returns-clause-noted : goal.returns-clause-noted
returns-clause-noted c =
    call_noted c.args.p c.args.pc (part_at c.args.p c.args.sys.now.machine).core.pc c.serve_call-served.result c.args.sys.now c.serve_call-served.new.sys c.serve_call-served.ensures.served

pub returns-clause-asked : goal.returns-clause-asked
returns-clause-asked c = c.serve_call-served.ensures.served.asked

pub returns-clause-entered : goal.returns-clause-entered
returns-clause-entered c =
    call_entered c.args.p c.args.pc (part_at c.args.p c.args.sys.now.machine).core.pc c.serve_call-served.result c.args.sys.now c.serve_call-served.new.sys c.serve_call-served.ensures.served

pub returns-then-is_quiet-clause-worked : goal.returns-then-is_quiet-clause-worked
returns-then-is_quiet-clause-worked c =
    let note_is = rw c.if-is_quiet.true at c.is_quiet.ensures.note in
    let act_is = rw c.if-is_quiet.true at c.is_quiet.ensures.act in
    call_quiet c.args.p c.args.pc (part_at c.args.p c.args.sys.now.machine).core.pc c.serve_call-served.result c.args.sys.now c.serve_call-served.new.sys c.count_tick.new.sys c.args.lines.now
    c.requires.partition c.requires.empty c.serve_call-served.ensures.served c.count_tick.ensures.value note_is act_is

pub returns-then-is_quiet-clause-noted : goal.returns-then-is_quiet-clause-noted
returns-then-is_quiet-clause-noted c =
    let note_is = rw c.if-is_quiet.true at c.is_quiet.ensures.note in
    let caller = caller_at c.args.p c.args.pc (part_at c.args.p c.args.sys.now.machine).core.pc c.args.sys.now in
    subst (λ (n : Note). IsNotedBy c.args.p caller.sight (called caller) n c.args.sys.now) note_is
    (call_noted c.args.p c.args.pc (part_at c.args.p c.args.sys.now.machine).core.pc c.serve_call-served.result c.args.sys.now c.serve_call-served.new.sys c.serve_call-served.ensures.served)
