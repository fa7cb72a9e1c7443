use Rattle.std.proofs.Common.{[], ◌<◌, arith, get_or, length, refl, ap}
use Rattle.continuation_laws.specs.Onward.{coming}
use Rattle.upset_model.specs.Places.{upsets_of}
use Rattle.machine_model.specs.Machine.{Machine, start}
use Rattle.system_state.specs.State.{with_inputs}
use Rattle.run_commands.proofs.BeginLemmas.{boot_ticks}
use Rattle.run_commands.proofs.RunLemmas.{boot_parts, file_recorded, numbers_recorded, only_inside, only_recorded}
use Rattle.run_commands.proofs.recording.script_of.Goals as goal

pub returns-clause-file : goal.returns-clause-file
returns-clause-file c =
    let g = c.in_ok-machine.machine.state in
    let only =
    only_recorded (upsets_of (coming [] g)) g c.args.ticks c.args.p c.new-recording.result c.from_mut.result.now c.«record».new.recordings
    c.new-recording.ensures.partition c.from_mut.ensures.value c.in_ok-record.ensures.partitions c.in_ok-record.ensures.recorded in
    file_recorded _ c.finish.result (upsets_of (coming [] g)) g (start (with_inputs c.args.system c.args.inputs)) c.args.ticks c.args.p (get_or c.«record».new.recordings 0 c.new-recording.result) c.in_ok-machine.ensures.state
    (λ k. refl) only.0 only.1 c.finish.ensures

pub returns-clause-numbers : goal.returns-clause-numbers
returns-clause-numbers c =
    let g = c.in_ok-machine.machine.state in
    let only =
    only_recorded (upsets_of (coming [] g)) g c.args.ticks c.args.p c.new-recording.result c.from_mut.result.now c.«record».new.recordings
    c.new-recording.ensures.partition c.from_mut.ensures.value c.in_ok-record.ensures.partitions c.in_ok-record.ensures.recorded in
    numbers_recorded c.finish.result (upsets_of (coming [] g)) g (start (with_inputs c.args.system c.args.inputs)) c.args.ticks c.args.p (get_or c.«record».new.recordings 0 c.new-recording.result) c.in_ok-machine.ensures.state
    (λ k. refl) only.0 only.1

pub record-requires-clause-most : goal.record-requires-clause-most
record-requires-clause-most c =
    omega (arith, c.requires.most, ap (λ (m : Machine). m.ticks) c.in_ok-machine.ensures.state, boot_ticks (with_inputs c.args.system c.args.inputs))

pub record-requires-clause-inside : goal.record-requires-clause-inside
record-requires-clause-inside c =
    let parts = boot_parts c.args.system c.args.inputs c.in_ok-machine.machine.state c.in_ok-machine.ensures.state in
    let below : c.args.p < length c.in_ok-machine.machine.state.system.conf.parts = omega (arith, c.requires.partition, parts) in
    only_inside c.from_mut.result.now c.new-recording.result c.args.p (length c.in_ok-machine.machine.state.system.conf.parts) c.new-recording.ensures.partition c.from_mut.ensures.value below
