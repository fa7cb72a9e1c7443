use Rattle.replay_tick.proofs.SpanEndLemmas.{can_end_if, trap_worked}
use Rattle.replay_tick.proofs.span.trap_last.Goals as goal

pub end_work-requires : goal.end_work-requires
end_work-requires c = can_end_if c.args.p c.trap_alone-work.result _ _ c.args.sys.now c.trap_alone-work.new.sys c.trap_alone-work.new.lines c.requires.take c.trap_alone-work.ensures

pub returns : goal.returns
returns c = λ before is.
    c.end_work.ensures before (trap_worked c.args.p c.args.tt c.args.pc c.trap_alone-work.result before c.args.sys.now c.trap_alone-work.new.sys c.trap_alone-work.new.lines is c.trap_alone-work.ensures)
