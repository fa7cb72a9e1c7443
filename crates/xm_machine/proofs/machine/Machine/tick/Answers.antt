use Rattle.std.proofs.Common.{ap, sym, ◌∙◌}
use Rattle.xm_machine.specs.Machine.{Meaning}
use Rattle.xm_machine.proofs.AloneLemmas.{cut_tick_alone, halted_tick_alone, tick_alone}
use Rattle.xm_machine.proofs.CuedLemmas.{halted_cued, keeps_stepped, tick_cued}
use Rattle.xm_machine.proofs.GoingLemmas.{halted_tick}
use Rattle.xm_machine.proofs.HeardLemmas.{halted_heard, tick_heard}
use Rattle.xm_machine.proofs.machine.Machine.tick.Goals as goal

pub returns-else-not-halted-clause-tick : goal.returns-else-not-halted-clause-tick
returns-else-not-halted-clause-tick g c =
    halted_tick c.args.self.now.state (g.O.Sink.got c.args.out.now)
    (ap (λ (m : Meaning). m.state.halted) (sym c.self.view_is) ∙ sym c.halted.ensures.value ∙ c.if-not-halted.false)

pub returns-else-not-halted-clause-alone : goal.returns-else-not-halted-clause-alone
returns-else-not-halted-clause-alone g c =
    halted_tick_alone c.all_ticks.ensures.law c.args.self.now.state
    (ap (λ (m : Meaning). m.state.halted) (sym c.self.view_is) ∙ sym c.halted.ensures.value ∙ c.if-not-halted.false)

pub returns-in_err-step-clause-alone : goal.returns-in_err-step-clause-alone
returns-in_err-step-clause-alone g c =
    cut_tick_alone c.all_ticks.ensures.law c.args.self.now.state c.step.new.self.state (g.O.Sink.got c.args.out.now) (g.O.Sink.got c.step.new.out) c.in_err-step.ensures.step.cut

pub returns-in_ok-step-clause-alone : goal.returns-in_ok-step-clause-alone
returns-in_ok-step-clause-alone g c =
    tick_alone c.all_ticks.ensures.law c.in_ok-step.field-0.lines c.args.self.now.state c.step.new.self.state (g.O.Sink.got c.args.out.now) (g.O.Sink.got c.step.new.out) c.in_ok-step.ensures.step.step

pub returns-else-not-halted-clause-heard : goal.returns-else-not-halted-clause-heard
returns-else-not-halted-clause-heard g c =
    halted_heard c.keeps_numbers.ensures.runs c.args.self.now.state (record { places = _; marks = _ })
    (ap (λ (m : Meaning). m.state.halted) (sym c.self.view_is) ∙ sym c.halted.ensures.value ∙ c.if-not-halted.false)

pub returns-in_err-step-clause-heard : goal.returns-in_err-step-clause-heard
returns-in_err-step-clause-heard g c =
    let step = c.in_err-step.ensures.step.cut in
    tick_heard c.args.self.now.state c.step.new.self.state step.done (record { places = _; marks = _ }) (record { places = _; marks = _ }) step.some step.within step.are.state c.in_err-step.ensures.heard

pub returns-in_ok-step-clause-heard : goal.returns-in_ok-step-clause-heard
returns-in_ok-step-clause-heard g c =
    let step = c.in_ok-step.ensures.step.step in
    tick_heard c.args.self.now.state c.step.new.self.state step.done (record { places = _; marks = _ }) (record { places = _; marks = _ }) step.some step.within step.are.state c.in_ok-step.ensures.heard

pub returns-else-not-halted-clause-cues : goal.returns-else-not-halted-clause-cues
returns-else-not-halted-clause-cues g c =
    halted_cued c.args.self.now (ap (λ (m : Meaning). m.state.halted) (sym c.self.view_is) ∙ sym c.halted.ensures.value ∙ c.if-not-halted.false)

pub returns-in_err-step-clause-cues : goal.returns-in_err-step-clause-cues
returns-in_err-step-clause-cues g c =
    tick_cued c.keeps_numbers.ensures.ticks c.keeps_numbers.ensures.runs c.args.self.now c.step.new.self c.in_err-step.ensures.kept

pub returns-in_ok-step-clause-cues : goal.returns-in_ok-step-clause-cues
returns-in_ok-step-clause-cues g c =
    tick_cued c.keeps_numbers.ensures.ticks c.keeps_numbers.ensures.runs c.args.self.now c.step.new.self
    (keeps_stepped c.in_ok-step.field-0 1 c.args.self.now c.step.new.self (g.O.Sink.got c.args.out.now) (g.O.Sink.got c.step.new.out) c.in_ok-step.ensures.step c.in_ok-step.ensures.kept)
