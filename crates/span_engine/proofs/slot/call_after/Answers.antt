use Rattle.std.proofs.Common.{subst, sym}
use Rattle.system_state.specs.declared.served.Note.TheVariants as note
use Rattle.tick_steps.specs.lemmas.SpanTerms.{AreDoneFrom}
use Rattle.tick_steps.specs.declared.beyond.Beyond.TheVariants as beyond
use Rattle.tick_steps.specs.declared.span.Span.{Span}
use Rattle.span_engine.proofs.SpanLemmas.{can_work, stands, worked_can_end, worked_frame}
use Rattle.span_engine.proofs.TurnedLemmas.{call_done, next_stays}
use Rattle.span_engine.proofs.slot.call_after.Goals as goal

pub call_reported-requires-clause-partition : goal.call_reported-requires-clause-partition
call_reported-requires-clause-partition c = (can_work c.args.p c.args.went c.args.sys.now c.stand_after.new.sys c.requires.take c.stand_after.ensures).partition

pub call_reported-requires-clause-next : goal.call_reported-requires-clause-next
call_reported-requires-clause-next c = next_stays c.args.p c.args.sys.now c.stand_after.new.sys (stands c.args.p c.args.went c.args.sys.now c.stand_after.new.sys c.stand_after.ensures).part c.requires.next

pub call_reported-requires-clause-traces : goal.call_reported-requires-clause-traces
call_reported-requires-clause-traces c = (can_work c.args.p c.args.went c.args.sys.now c.stand_after.new.sys c.requires.take c.stand_after.ensures).traces

pub call_reported-requires-clause-made : goal.call_reported-requires-clause-made
call_reported-requires-clause-made c = (can_work c.args.p c.args.went c.args.sys.now c.stand_after.new.sys c.requires.take c.stand_after.ensures).made

pub call_reported-requires-clause-clock : goal.call_reported-requires-clause-clock
call_reported-requires-clause-clock c = (can_work c.args.p c.args.went c.args.sys.now c.stand_after.new.sys c.requires.take c.stand_after.ensures).clock

pub call_reported-requires-clause-log : goal.call_reported-requires-clause-log
call_reported-requires-clause-log c = (can_work c.args.p c.args.went c.args.sys.now c.stand_after.new.sys c.requires.take c.stand_after.ensures).health

pub end_call-requires-clause-can : goal.end_call-requires-clause-can
end_call-requires-clause-can c =
    worked_can_end c.args.p c.args.went _ c.in-Some.emitted.0 c.in-Some.emitted.1 c.args.sys.now c.stand_after.new.sys c.call_reported.new.sys c.call_reported.new.lines
    c.requires.take c.stand_after.ensures (rw c.in-Some.is at c.call_reported.ensures.worked) c.call_reported.ensures.few

pub end_call-requires-clause-frame : goal.end_call-requires-clause-frame
end_call-requires-clause-frame c =
    let worked = rw c.in-Some.is at c.call_reported.ensures.worked in
    worked_frame c.args.p _ c.in-Some.emitted.0 c.in-Some.emitted.1 c.stand_after.new.sys c.call_reported.new.sys c.call_reported.new.lines worked
    (can_work c.args.p c.args.went c.args.sys.now c.stand_after.new.sys c.requires.take c.stand_after.ensures).frame

pub pass_call-requires-clause-frame : goal.pass_call-requires-clause-frame
pass_call-requires-clause-frame c =
    let worked = rw c.in-None.is at c.call_reported.ensures.worked in
    worked_frame c.args.p _ note.Nothing beyond.Nothing c.stand_after.new.sys c.call_reported.new.sys c.call_reported.new.lines worked
    (can_work c.args.p c.args.went c.args.sys.now c.stand_after.new.sys c.requires.take c.stand_after.ensures).frame

pub returns-in-Some : goal.returns-in-Some
returns-in-Some c =
    let worked = rw c.in-Some.is at c.call_reported.ensures.worked in
    let alone = rw c.in-Some.is at c.call_reported.ensures.alone in
    let noted = rw c.in-Some.is at c.call_reported.ensures.noted in
    record {
      done = λ g first ps most is.
          subst (λ (span : Span). AreDoneFrom span most g c.args.sys.now c.end_call.new.sys c.end_call.new.lines) (sym c.end_call.ensures.span)
          (call_done c.tick_in_passes.ensures.others c.calm_ticks.ensures.gone c.undisturbed_ticks.ensures.next c.tick_in_passes.ensures.next c.acts_within_bounds.ensures.law c.keeps_numbers.ensures.runs
          g c.args.p first ps c.args.went most c.args.pc c.in-Some.emitted.0 c.in-Some.emitted.1 c.args.sys.now c.stand_after.new.sys c.call_reported.new.sys c.end_call.new.sys c.call_reported.new.lines c.end_call.new.lines
          is c.stand_after.ensures worked alone noted c.end_call.ensures.ended.state c.end_call.ensures.ended.lines c.end_call.ensures.ended.few);
    }

pub returns-in-None : goal.returns-in-None
returns-in-None c =
    let worked = rw c.in-None.is at c.call_reported.ensures.worked in
    let noted = rw c.in-None.is at c.call_reported.ensures.noted in
    record {
      done = λ g first ps most is.
          subst (λ (span : Span). AreDoneFrom span most g c.args.sys.now c.pass_call.new.sys c.pass_call.new.lines) (sym c.pass_call.ensures.span)
          (call_done c.tick_in_passes.ensures.others c.calm_ticks.ensures.gone c.undisturbed_ticks.ensures.next c.tick_in_passes.ensures.next c.acts_within_bounds.ensures.law c.keeps_numbers.ensures.runs
          g c.args.p first ps c.args.went most c.args.pc note.Nothing beyond.Nothing c.args.sys.now c.stand_after.new.sys c.call_reported.new.sys c.pass_call.new.sys c.call_reported.new.lines c.pass_call.new.lines
          is c.stand_after.ensures worked tt noted c.pass_call.ensures.ended.state c.pass_call.ensures.ended.lines c.pass_call.ensures.ended.few);
    }
