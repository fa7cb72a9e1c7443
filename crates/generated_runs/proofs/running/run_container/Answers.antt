use Rattle.std.proofs.Common.{ℕ, List, length, ap, ◌∙◌, refl, sym}
use Rattle.machine_model.specs.Machine.{Machine, run}
use Rattle.system_state.specs.State.{with_inputs}
use Rattle.generated_system.specs.Generated.{generated}
use Rattle.generated_system.specs.Reported.{run_length}
use Rattle.generated_runs.proofs.RunLemmas.{keeps_system, one_system, sixteen, starts_fresh, starts_running, reported_so}
use Rattle.generated_runs.proofs.running.run_container.Goals as goal

pub system_in-requires : goal.system_in-requires
system_in-requires c = (generated c.args.number, c.requires.read)

pub boot-requires : goal.boot-requires
boot-requires c =
    let is = one_system c.args.container.now (generated c.args.number) c.in_ok-system.system c.requires.read c.in_ok-system.ensures in
    rw (c.in_ok-inputs.ensures.value, is) (sym (sixteen c.args.number))

pub run_frames-ran-requires-clause-length : goal.run_frames-ran-requires-clause-length
unfolding run_length
run_frames-ran-requires-clause-length c = refl

pub run_frames-ran-requires-clause-fresh : goal.run_frames-ran-requires-clause-fresh
run_frames-ran-requires-clause-fresh c = ap (λ (m : Machine). m.ticks) c.in_ok-machine.ensures.state ∙ starts_fresh (with_inputs c.in_ok-system.system c.in_ok-inputs.inputs)

pub run_frames-ran-requires-clause-running : goal.run_frames-ran-requires-clause-running
run_frames-ran-requires-clause-running c = ap (λ (m : Machine). m.halted) c.in_ok-machine.ensures.state ∙ starts_running (with_inputs c.in_ok-system.system c.in_ok-inputs.inputs)

pub lines_of-requires-clause-conf : goal.lines_of-requires-clause-conf
lines_of-requires-clause-conf c =
    let is = one_system c.args.container.now (generated c.args.number) c.in_ok-system.system c.requires.read c.in_ok-system.ensures in
    let state = c.run_frames-ran.ensures.state ∙ ap (λ (m : Machine). run m run_length) c.in_ok-machine.ensures.state in
    (keeps_system c.keeps_numbers.ensures.runs c.keeps_numbers.ensures.boots c.args.number c.in_ok-system.system c.in_ok-inputs.inputs c.run_frames-ran.new.machine.state is state).0

pub lines_of-requires-clause-channels : goal.lines_of-requires-clause-channels
lines_of-requires-clause-channels c =
    let is = one_system c.args.container.now (generated c.args.number) c.in_ok-system.system c.requires.read c.in_ok-system.ensures in
    let state = c.run_frames-ran.ensures.state ∙ ap (λ (m : Machine). run m run_length) c.in_ok-machine.ensures.state in
    (keeps_system c.keeps_numbers.ensures.runs c.keeps_numbers.ensures.boots c.args.number c.in_ok-system.system c.in_ok-inputs.inputs c.run_frames-ran.new.machine.state is state).1

pub returns : goal.returns
returns c =
    let is = one_system c.args.container.now (generated c.args.number) c.in_ok-system.system c.requires.read c.in_ok-system.ensures in
    let state = rw c.in_ok-machine.ensures.state at c.run_frames-ran.ensures.state in
    let lines = rw c.in_ok-machine.ensures.state at c.run_frames-ran.ensures.lines in
    let long = ap (λ (bytes : List ℕ). length bytes) c.requires.text in
    let reported = reported_so c.args.number (length c.args.container.now) c.run_frames-ran.result.lines c.in_ok-system.system c.in_ok-inputs.inputs c.run_frames-ran.new.machine.state is c.in_ok-inputs.ensures.value long state lines in
    rw (← reported) c.lines_of.ensures
