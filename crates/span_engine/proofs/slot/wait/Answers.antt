use Rattle.std.proofs.Common.{arith}
use Rattle.span_engine.proofs.SpanLemmas.{wait_done}
use Rattle.span_engine.proofs.slot.wait.Goals as goal

pub returns : goal.returns
returns c = record {
  done = wait_done c.resting_ticks.ensures.law c.calm_ticks.ensures.resting c.slot_goes_on.ensures.left c.tick_in_passes.ensures.all c.keeps_numbers.ensures.runs c.args.most _ c.args.sys.now c.rest.new.sys c.end_ticks.new.sys c.args.lines.now c.end_ticks.new.lines c.quiet.result
      c.requires.nobodys c.requires.stretch c.requires.running c.requires.parts c.requires.some c.requires.frame c.requires.empty
      (omega (arith, c.requires.some, c.now.ensures.value)) c.rest.ensures c.end_ticks.ensures.state c.end_ticks.ensures.lines c.end_ticks.ensures.few c.quiet.ensures;
}
