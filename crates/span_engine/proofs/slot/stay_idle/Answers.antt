use Rattle.std.proofs.Common.{rules}
use Rattle.span_engine.proofs.SpanLemmas.{idle_done}
use Rattle.span_engine.proofs.slot.stay_idle.Goals as goal

pub returns : goal.returns
returns c = record {
  done = λ g ps is. idle_done c.undisturbed_ticks.ensures.idle c.calm_ticks.ensures.idle c.slot_goes_on.ensures.left c.tick_in_passes.ensures.others c.keeps_numbers.ensures.runs g c.args.p c.ticks_undisturbed-ticks.result c.args.most ps
      c.args.sys.now c.pass.new.sys c.args.lines.now c.pass.new.lines c.pass.new.span is c.ticks_undisturbed-ticks.ensures.some c.ticks_undisturbed-ticks.ensures.within c.ticks_undisturbed-ticks.ensures.calm c.requires.empty
      (search rules) (search rules) c.pass.ensures.few c.pass.ensures.span;
}
