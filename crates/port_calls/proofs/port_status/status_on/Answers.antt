use Rattle.std.proofs.Common.{◌≡◌, length, ap, refl, ◌∙◌}
use Rattle.port_calls.specs.lemmas.MadePortsTerms.{port_in}
use Rattle.port_calls.specs.lemmas.OnPortsTerms.{status_bytes}
use Rattle.system_state.specs.Serving.{caller_of}
use Rattle.system_state.specs.lemmas.ServedLemmas.{served_as}
use Rattle.port_calls.proofs.PortStatusLemmas.{status_given, status_written}
use Rattle.port_calls.proofs.port_status.status_on.Goals as goal

pub returns-in-Some : goal.returns-in-Some
returns-in-Some c =
    let size : length c.bytes-bytes.result.now ≡ status_bytes c.args.kind = ap length c.bytes-bytes.ensures ∙ c.status_of-status.ensures.size in
    served_as refl (status_given c.args.kind (caller_of c.args.site c.args.sys.now) (port_in c.args.site.part c.args.sys.now c.args.port) (length c.bytes-bytes.result.now) c.argument-at.result _ c.argument-at.ensures.value size c.in-Some.ensures) c.answer.ensures

pub returns : goal.returns
unfolding caller_of
returns c =
    let caller = caller_of c.args.site c.args.sys.now in
    let port = port_in c.args.site.part c.args.sys.now c.args.port in
    let size : length c.bytes-bytes.result.now ≡ status_bytes c.args.kind = ap length c.bytes-bytes.ensures ∙ c.status_of-status.ensures.size in
    let passed = rw c.in_default.is at c.room.ensures in
    served_as refl
    (status_given c.args.kind caller port (length c.bytes-bytes.result.now) c.argument-at.result _ c.argument-at.ensures.value size passed
    ∙ status_written c.args.kind caller port c.argument-at.result c.bytes-bytes.result.now c.argument-at.ensures.value (c.bytes-bytes.ensures ∙ c.status_of-status.ensures.value)) c.answer_written.ensures
