use Rattle.std.proofs.Common.{◌∙◌, ap, subst, ℕ}
use Rattle.std.specs.Prelude.{min}
use Rattle.machine_model.specs.Facts.{HasFacts}
use Rattle.span_engine.specs.Place.{IsAt}
use Rattle.xm_conf.specs.Description.{described}
use Rattle.xm_conf.specs.Fits.{Fits}
use Rattle.xm_machine.specs.Machine.{Meaning}
use Rattle.xm_machine.proofs.SpanLemmas.{spanned_ranges, spanned_received}
use Rattle.xm_machine.proofs.machine.Machine.span.Goals as goal

pub returns-in-Ok-clause-received : goal.returns-in-Ok-clause-received
returns-in-Ok-clause-received g c =
    spanned_received c.keeps_numbers.ensures.runs c.in-Ok.stepped c.args.most c.min.result c.place_of.result c.args.self.now c.step.new.self (g.O.Sink.got c.args.out.now) (g.O.Sink.got c.step.new.out)
    c.requires.running c.in-Ok.ensures.step c.in-Ok.ensures.kept (subst (λ (m : Meaning). IsAt c.place_of.result m.state) c.self.view_is c.place_of.ensures.at)
    (c.min.ensures ∙ ap (λ (left : ℕ). min c.args.most left) c.span_left-left.ensures) c.in-Ok.ensures.bare

pub returns-in-Ok-clause-ranges : goal.returns-in-Ok-clause-ranges
returns-in-Ok-clause-ranges g c =
    spanned_ranges c.keeps_numbers.ensures.runs c.in-Ok.stepped c.args.most c.min.result c.place_of.result c.args.self.now c.step.new.self (g.O.Sink.got c.args.out.now) (g.O.Sink.got c.step.new.out)
    c.requires.running c.in-Ok.ensures.step c.in-Ok.ensures.kept c.trades_few_bytes.ensures.messages c.trades_few_bytes.ensures.sights c.keeps_facts.ensures.ticks
    (subst (λ (m : Meaning). Fits (described m.state.system.conf)) c.self.view_is c.self.invariant.fits)
    (subst (λ (m : Meaning). HasFacts m.state) c.self.view_is c.self.invariant.counted.facts)
