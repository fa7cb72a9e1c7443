use Rattle.std.proofs.Common.{map}
use Rattle.std.proofs.lemmas.Result.{err_from_is_err_and}
use Rattle.system_state.specs.State.{memory_of}
use Rattle.machine_model.specs.Emission as emission
use Rattle.tick_steps.specs.Work.{console_emissions}
use Rattle.xm_machine.proofs.HeardLemmas.{others_heard}
use Rattle.xm_machine.proofs.OutLemmas.{rest_cut}
use Rattle.xm_machine.proofs.report.print_tick.Goals as goal

pub returns-in_err-others-clause-printed : goal.returns-in_err-others-clause-printed
returns-in_err-others-clause-printed g c =
    let p = err_from_is_err_and c.from_residual-in_err-others.result c.from_residual-in_err-others.ensures.1 in
    let cut = rw c.as_slice-rest.ensures.value at c.in_err-others.ensures.printed in
    rw (p.1) (rest_cut (map (emission.line_of c.args.n c.args.p) (console_emissions c.args.note (memory_of c.args.p c.args.sys.now.machine))) c.args.lines.now
    (g.O.Sink.got c.args.out.now) (g.O.Sink.got c.print_console.new.out) (g.O.Sink.got c.put_all.new.out) c.in_ok-console.ensures.printed.1 cut)

pub returns-in_err-console-clause-heard : goal.returns-in_err-console-clause-heard
returns-in_err-console-clause-heard g c =
    others_heard c.args.sys.now.machine (map (emission.line_of c.args.n c.args.p) (console_emissions c.args.note (memory_of c.args.p c.args.sys.now.machine))) c.args.lines.now
    (record { places = _; marks = _ }) (record { places = _; marks = _ }) c.as_slice-rest.ensures.other c.in_err-console.ensures.heard

pub returns-in_err-others-clause-heard : goal.returns-in_err-others-clause-heard
returns-in_err-others-clause-heard g c =
    others_heard c.args.sys.now.machine (map (emission.line_of c.args.n c.args.p) (console_emissions c.args.note (memory_of c.args.p c.args.sys.now.machine))) c.args.lines.now
    (record { places = _; marks = _ }) (record { places = _; marks = _ }) c.as_slice-rest.ensures.other c.in_ok-console.ensures.heard

pub returns-clause-heard : goal.returns-clause-heard
returns-clause-heard g c =
    others_heard c.args.sys.now.machine (map (emission.line_of c.args.n c.args.p) (console_emissions c.args.note (memory_of c.args.p c.args.sys.now.machine))) c.args.lines.now
    (record { places = _; marks = _ }) (record { places = _; marks = _ }) c.as_slice-rest.ensures.other c.in_ok-console.ensures.heard
