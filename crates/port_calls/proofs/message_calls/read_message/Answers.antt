use Rattle.std.proofs.Common.{[], ap, refl, subst, sym, ◌∙◌}
use Rattle.std.specs.Prelude.{IsSomeAnd, length, unwrap_or, ◌≤◌}
use Rattle.machine_model.specs.Caller.{with_written}
use Rattle.machine_model.specs.Partition.{PartitionState}
use Rattle.machine_model.specs.PortEffects.{first_read}
use Rattle.xm_ports.specs.Channels.{ChannelTable, HasQueue, content_at, first_message}
use Rattle.port_calls.specs.lemmas.Messages.{first_refusal, message_tests}
use Rattle.port_calls.proofs.ReadingLemmas.{caller_state, first_room, held_few, held_size, held_there, message_done, message_refused}
use Rattle.system_state.specs.State.{table_in, with_machine, with_part}
use Rattle.port_calls.specs.lemmas.MadePortsTerms.{port_in}
use Rattle.system_state.specs.Serving.{caller_of}
use Rattle.system_state.specs.lemmas.ServedLemmas.{served_as}
use Rattle.port_calls.proofs.message_calls.read_message.Goals as goal

pub returns-in-Some : goal.returns-in-Some
returns-in-Some c =
    served_as refl (message_refused (caller_of c.args.site c.args.sys.now) (port_in c.args.site.part c.args.sys.now c.args.port) _ c.args.size c.in-Some.code c.requires.size c.in-Some.ensures) c.answer.ensures

pub write_first-requires-clause-channel : goal.write_first-requires-clause-channel
write_first-requires-clause-channel c = c.requires.made.of_kind

pub write_first-requires-clause-room : goal.write_first-requires-clause-room
write_first-requires-clause-room c =
    let passed = rw c.in_default.is at c.message_refusal.ensures in
    first_room c.args.site c.args.sys.now c.argument-to.result c.args.size _ c.requires.size passed c.argument-to.ensures.value

pub drop_first-requires-clause-channel : goal.drop_first-requires-clause-channel
drop_first-requires-clause-channel c =
    let same = ap table_in c.set_result.ensures ∙ ap table_in c.write_first.ensures in
    subst (λ (t : ChannelTable). HasQueue c.args.port.chan t) (sym same) c.requires.made.of_kind

pub drop_first-requires-clause-first : goal.drop_first-requires-clause-first
drop_first-requires-clause-first c =
    let same = ap table_in c.set_result.ensures ∙ ap table_in c.write_first.ensures in
    subst (λ (t : ChannelTable). IsSomeAnd (first_message (content_at c.args.port.chan t)) (λ first. length first ≤ 4096)) (sym same) (held_few _ c.args.size c.requires.size c.requires.few)

pub returns : goal.returns
returns c =
    let caller = caller_of c.args.site c.args.sys.now in
    let port = port_in c.args.site.part c.args.sys.now c.args.port in
    let held = first_message (content_at c.args.port.chan (table_in c.args.sys.now)) in
    let passed = rw c.in_default.is at c.message_refusal.ensures in
    let size = held_size held c.args.size c.requires.size in
    let written =
    c.write_first.ensures
    ∙ ap (λ (ps : PartitionState). with_machine (with_part c.args.site.part (with_written c.argument-to.result (unwrap_or held []) ps) c.args.sys.now.machine) c.args.sys.now) (sym (caller_state c.args.site c.args.sys.now)) in
    served_as refl (sym (ap (λ o. first_read o caller port) (held_there held c.args.size c.requires.size)))
    (message_done c.args.site c.args.sys.now c.write_first.new.sys c.set_result.new.sys c.drop_first.new.sys c.args.port c.args.size c.argument-to.result (unwrap_or held []) c.requires.caller c.requires.made.named
    (passed ∙ ap (λ n. first_refusal (message_tests caller n)) size) c.argument-to.ensures.value size written c.set_result.ensures c.drop_first.ensures)
