use Rattle.std.proofs.Common.{◌≡◌, length, ap, refl, sym, ◌∙◌}
use Rattle.machine_model.specs.Caller.{is_room, with_written}
use Rattle.machine_model.specs.Partition.{PartitionState}
use Rattle.machine_model.specs.PortEffects.{held_read}
use Rattle.machine_model.specs.Structures.{word}
use Rattle.xm_ports.specs.Channels.{content_at, sample_of}
use Rattle.port_calls.specs.lemmas.Messages.{first_refusal, sample_tests}
use Rattle.port_calls.proofs.ReadingLemmas.{caller_state, held_room, room_after, sample_done, sample_refused, sample_size, sample_there, validity_room}
use Rattle.system_state.specs.State.{sample_bytes, table_in, with_machine, with_part}
use Rattle.port_calls.specs.lemmas.MadePortsTerms.{port_in}
use Rattle.system_state.specs.Serving.{caller_of}
use Rattle.system_state.specs.lemmas.ServedLemmas.{served_as}
use Rattle.port_calls.proofs.message_calls.read_sample.Goals as goal

pub returns-in-Some : goal.returns-in-Some
returns-in-Some c =
    served_as refl (sample_refused (caller_of c.args.site c.args.sys.now) (port_in c.args.site.part c.args.sys.now c.args.port) _ c.args.time c.args.size c.in-Some.code c.requires.head c.in-Some.ensures) c.answer.ensures

pub write_sample-requires-clause-channel : goal.write_sample-requires-clause-channel
write_sample-requires-clause-channel c = c.requires.made.of_kind

pub write_sample-requires-clause-room : goal.write_sample-requires-clause-room
write_sample-requires-clause-room c =
    let passed = rw c.in_default.is at c.sample_refusal.ensures in
    held_room c.args.site c.args.sys.now c.argument-to.result c.args.time c.args.size _ c.requires.head passed c.argument-to.ensures.value

pub answer_written-requires-clause-room : goal.answer_written-requires-clause-room
answer_written-requires-clause-room c =
    let passed = rw c.in_default.is at c.sample_refusal.ensures in
    let caller = caller_of c.args.site c.args.sys.now in
    let four : length c.to_be_bytes.result ≡ 4 = ap length c.to_be_bytes.ensures in
    room_after c.args.site c.args.sys.now c.write_sample.new.sys _ c.argument-at.result (length c.to_be_bytes.result) c.write_sample.ensures
    (ap (λ n. is_room caller c.argument-at.result n) four ∙ ap (λ d. is_room caller d 4) c.argument-at.ensures.value ∙ validity_room caller c.args.size passed)

pub returns : goal.returns
returns c =
    let caller = caller_of c.args.site c.args.sys.now in
    let port = port_in c.args.site.part c.args.sys.now c.args.port in
    let held = sample_of (content_at c.args.port.chan (table_in c.args.sys.now)) in
    let passed = rw c.in_default.is at c.sample_refusal.ensures in
    let valid = rw c.now.ensures.value at c.validity_at-valid.ensures in
    let size = sample_size held c.args.time c.args.size c.requires.head in
    let written =
    c.write_sample.ensures
    ∙ ap (λ (ps : PartitionState). with_machine (with_part c.args.site.part (with_written c.argument-to.result (sample_bytes held) ps) c.args.sys.now.machine) c.args.sys.now) (sym (caller_state c.args.site c.args.sys.now)) in
    served_as refl (sym (ap (λ o. held_read o caller port) (sample_there held c.args.time c.args.size c.requires.head)))
    (sample_done c.args.site c.args.sys.now c.write_sample.new.sys c.answer_written.new.sys c.args.port c.args.time c.args.size c.argument-at.result c.argument-to.result (sample_bytes held) c.to_be_bytes.result c.answer_written.result c.requires.caller
    (passed ∙ ap (λ n. first_refusal (sample_tests caller n)) size) c.argument-to.ensures.value c.argument-at.ensures.value size (c.to_be_bytes.ensures ∙ ap word valid) written c.answer_written.ensures)
