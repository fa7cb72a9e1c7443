use Rattle.std.proofs.Common.{ap, refl, sym}
use Rattle.guest_bus.specs.Memory.{Memory, bytes_at}
use Rattle.port_calls.specs.lemmas.MadePortsTerms.{port_in}
use Rattle.port_calls.proofs.MessageLemmas.{caller_set, may_put, memory_set, message_fits, put_by, readable_set}
use Rattle.system_state.specs.Serving.{caller_of}
use Rattle.system_state.specs.State.{memory_of}
use Rattle.port_calls.proofs.message_calls.put_message.Goals as goal

pub put_bytes-requires-clause-partition : goal.put_bytes-requires-clause-partition
put_bytes-requires-clause-partition c = caller_set c.args.site c.args.sys.now c.set_result.new.sys _ c.requires.caller c.set_result.ensures

pub put_bytes-requires-clause-readable : goal.put_bytes-requires-clause-readable
put_bytes-requires-clause-readable c =
    let may = may_put (caller_of c.args.site c.args.sys.now) (port_in c.args.site.part c.args.sys.now c.args.port) (sym c.requires.tests) in
    readable_set c.args.site c.args.sys.now c.set_result.new.sys _ c.argument-at.result c.argument-size.result c.argument-at.ensures.value c.argument-size.ensures.value may.readable c.set_result.ensures

pub put_bytes-requires-clause-bytes : goal.put_bytes-requires-clause-bytes
put_bytes-requires-clause-bytes c =
    message_fits (caller_of c.args.site c.args.sys.now) (port_in c.args.site.part c.args.sys.now c.args.port) (memory_of c.args.site.part c.set_result.new.sys.machine) c.argument-at.result c.argument-size.result (sym c.requires.tests) c.argument-size.ensures.value

pub returns : goal.returns
returns c =
    put_by c.args.site c.args.sys.now c.set_result.new.sys c.put_bytes.new.sys c.args.port c.argument-at.result c.argument-size.result c.argument-size.result _ c.requires.named (sym c.requires.tests) c.argument-at.ensures.value
    c.argument-size.ensures.value refl
    (ap (λ (m : Memory). bytes_at m c.argument-at.result c.argument-size.result) (memory_set c.args.site c.args.sys.now c.set_result.new.sys 0 c.requires.caller c.set_result.ensures)) c.set_result.ensures c.put_bytes.ensures
