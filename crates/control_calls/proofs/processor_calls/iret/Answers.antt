use Rattle.std.proofs.Common.{Ok, Err, subst}
use Rattle.machine_model.specs.Caller.{answering, invalid_parameter}
use Rattle.machine_model.specs.OwnEffects.{undone}
use Rattle.machine_model.specs.Emission.{Unseen}
use Rattle.virt_traps.specs.declared.delivery.IretFault.TheVariants.{Stack, Unaligned}
use Rattle.control_calls.proofs.ProcessorLemmas.{return_answered, return_made}
use Rattle.system_state.specs.Serving.{IsServed, caller_of}
use Rattle.system_state.specs.State.{SysState}
use Rattle.control_calls.proofs.processor_calls.iret.Goals as goal

pub returns-in-Ok : goal.returns-in-Ok
returns-in-Ok c =
    let new = c.return_in.new.self in
    return_answered c.args.site c.args.sys.now new (record { note = _; act = _ }) (Ok tt) c.in-Ok.ensures.answer (return_made c.args.site c.args.sys.now new c.return_in.ensures.value)

pub returns-in-Err-Unaligned : goal.returns-in-Err-Unaligned
returns-in-Err-Unaligned c =
    return_answered c.args.site c.args.sys.now c.answer.new.sys c.answer.result (Err Unaligned) (rw c.in-Err-Unaligned.field-0-is at c.in-Err-Unaligned.ensures.answer)
    (subst (λ (m : SysState). IsServed c.args.site.part Unseen (answering invalid_parameter (caller_of c.args.site m).state) c.answer.result m c.answer.new.sys) c.in-Err-Unaligned.ensures.unchanged c.answer.ensures)

pub returns-in-Err-Stack : goal.returns-in-Err-Stack
returns-in-Err-Stack c =
    return_answered c.args.site c.args.sys.now c.undo.new.sys c.undo.result (Err Stack) (rw c.in-Err-Stack.field-0-is at c.in-Err-Stack.ensures.answer)
    (subst (λ (m : SysState). IsServed c.args.site.part Unseen (undone (caller_of c.args.site m) (caller_of c.args.site m).state) c.undo.result m c.undo.new.sys) c.in-Err-Stack.ensures.unchanged c.undo.ensures)
