use Rattle.std.proofs.Common.{refl, sym, ◌∙◌}
use Rattle.port_calls.specs.lemmas.MadePortsTerms.{port_in}
use Rattle.system_state.specs.Serving.{caller_of}
use Rattle.port_calls.proofs.MessageLemmas.{put_few, put_full, put_passed, put_refused, room_for}
use Rattle.system_state.specs.lemmas.ServedLemmas.{served_as}
use Rattle.port_calls.proofs.message_calls.send_on.Goals as goal

pub returns-in-Some : goal.returns-in-Some
returns-in-Some c =
    served_as refl (put_refused c.args.kind (caller_of c.args.site c.args.sys.now) (port_in c.args.site.part c.args.sys.now c.args.port) c.in-Some.code c.in-Some.ensures) c.answer.ensures

pub returns-then-is_filled : goal.returns-then-is_filled
returns-then-is_filled c =
    let passed = rw c.in_default.is at c.put_refusal.ensures in
    served_as refl (put_full c.args.kind (caller_of c.args.site c.args.sys.now) (port_in c.args.site.part c.args.sys.now c.args.port) passed (sym c.is_filled.ensures ∙ c.if-is_filled.true)) c.answer-then-is_filled.ensures

pub put_message-requires-clause-few : goal.put_message-requires-clause-few
put_message-requires-clause-few c =
    let passed = rw c.in_default.is at c.put_refusal.ensures in
    put_few c.args.site c.args.sys.now c.args.kind c.args.port c.requires.made passed

pub put_message-requires-clause-room : goal.put_message-requires-clause-room
put_message-requires-clause-room c = room_for c.args.kind c.args.site.part c.args.sys.now c.args.port c.requires.made (sym c.is_filled.ensures ∙ c.if-is_filled.false)

pub returns : goal.returns
returns c =
    let passed = rw c.in_default.is at c.put_refusal.ensures in
    served_as refl (put_passed c.args.kind (caller_of c.args.site c.args.sys.now) (port_in c.args.site.part c.args.sys.now c.args.port) passed (sym c.is_filled.ensures ∙ c.if-is_filled.false)) c.put_message.ensures
