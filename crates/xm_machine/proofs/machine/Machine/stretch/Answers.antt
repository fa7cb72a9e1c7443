use Rattle.xm_machine.proofs.StretchLemmas.{is_stretched, stretch_alone, stretch_cued, stretch_cut_alone, stretch_cut_cued}
use Rattle.xm_machine.proofs.machine.Machine.stretch.Goals as goal

pub returns-in-Ok-clause-stretch : goal.returns-in-Ok-clause-stretch
returns-in-Ok-clause-stretch g c =
    is_stretched c.in-Ok.stepped c.args.most c.args.self.now.state c.run_stretch.new.self.state (g.O.Sink.got c.args.out.now) (g.O.Sink.got c.run_stretch.new.out)
    c.in-Ok.ensures.steps c.in-Ok.ensures.whole

pub returns-in-Ok-clause-alone : goal.returns-in-Ok-clause-alone
returns-in-Ok-clause-alone g c =
    stretch_alone c.all_ticks.ensures.law c.in-Ok.stepped.ticks c.args.most c.args.self.now.state c.run_stretch.new.self.state (g.O.Sink.got c.args.out.now) (g.O.Sink.got c.run_stretch.new.out)
    (returns-in-Ok-clause-stretch g c)

pub returns-in-Err-clause-alone : goal.returns-in-Err-clause-alone
returns-in-Err-clause-alone g c =
    stretch_cut_alone c.all_ticks.ensures.law c.args.most c.args.self.now.state c.run_stretch.new.self.state (g.O.Sink.got c.args.out.now) (g.O.Sink.got c.run_stretch.new.out)
    c.in-Err.ensures.steps

pub returns-in-Ok-clause-cues : goal.returns-in-Ok-clause-cues
returns-in-Ok-clause-cues g c =
    stretch_cued c.keeps_numbers.ensures.ticks c.keeps_numbers.ensures.runs c.in-Ok.stepped.ticks c.args.most c.args.self.now c.run_stretch.new.self
    (g.O.Sink.got c.args.out.now) (g.O.Sink.got c.run_stretch.new.out) (returns-in-Ok-clause-stretch g c) c.in-Ok.ensures.kept

pub returns-in-Err-clause-cues : goal.returns-in-Err-clause-cues
returns-in-Err-clause-cues g c =
    stretch_cut_cued c.keeps_numbers.ensures.ticks c.keeps_numbers.ensures.runs c.args.most c.args.self.now c.run_stretch.new.self c.in-Err.ensures.kept
