use Rattle.std.proofs.Common.{[], arith, subst, sym, true}
use Rattle.replay_tick.specs.lemmas.LoneSpanTerms.{DoesSpan}
use Rattle.replay_tick.specs.declared.span.LoneSpan.{LoneSpan}
use Rattle.replay_tick.proofs.SpanLemmas.{resting_span}
use Rattle.replay_tick.proofs.span.rest_in_slots.Goals as goal

pub returns : goal.returns
returns c =
    subst (λ (done : LoneSpan). DoesSpan done c.args.p true c.args.most c.args.sys.now c.rest_many.new.sys []) (sym c.quiet_span.ensures)
    (resting_span c.keeps_facts_alone.ensures.law c.late_rest.ensures.twice c.args.p c.args.most c.args.most c.args.sys.now c.rest_many.new.sys c.requires.can c.requires.can.some (omega arith)
    c.rest_many.ensures.state c.rest_many.ensures.frame c.requires.turns)
