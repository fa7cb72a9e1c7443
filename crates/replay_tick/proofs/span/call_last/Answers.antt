use Rattle.replay_tick.proofs.SpanEndLemmas.{call_next, call_worked, can_end_if}
use Rattle.replay_tick.proofs.span.call_last.Goals as goal

pub end_work-requires : goal.end_work-requires
end_work-requires c = can_end_if c.args.p c.call_alone-work.result _ _ c.args.sys.now c.call_alone-work.new.sys c.call_alone-work.new.lines c.requires.take c.call_alone-work.ensures

pub returns : goal.returns
returns c = λ before is.
    c.end_work.ensures before (call_worked c.args.p c.args.pc _ c.call_alone-work.result before c.args.sys.now c.call_alone-work.new.sys c.call_alone-work.new.lines is
    (call_next c.args.p c.args.pc before c.args.sys.now is).0 c.call_alone-work.ensures)
