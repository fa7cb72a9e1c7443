use Rattle.std.proofs.Common.{refl}
use Rattle.port_calls.specs.lemmas.MadePortsTerms.{port_in}
use Rattle.port_calls.specs.declared.on_ports.PortWork.TheVariants as work
use Rattle.system_state.specs.Serving.{caller_of}
use Rattle.system_state.specs.lemmas.ServedLemmas.{served_as}
use Rattle.port_calls.proofs.OnPortLemmas.{call_made, call_unmade}
use Rattle.port_calls.proofs.on_ports.call_port.Goals as goal

pub returns-in_default : goal.returns-in_default
returns-in_default c =
    let unmade = rw c.in_default.is at c.made_port.ensures.value in
    served_as refl (call_unmade c.args.kind c.args.work (caller_of c.args.site c.args.sys.now) unmade) c.answer.ensures

pub returns-in-Send : goal.returns-in-Send
returns-in-Send c =
    rw c.in-Send.is (served_as refl (call_made c.args.kind work.Send (caller_of c.args.site c.args.sys.now) (port_in c.args.site.part c.args.sys.now c.in-Some.port) c.in-Some.ensures.value) c.send_on.ensures)

pub returns-in-Receive : goal.returns-in-Receive
returns-in-Receive c =
    rw c.in-Receive.is (served_as refl (call_made c.args.kind work.Receive (caller_of c.args.site c.args.sys.now) (port_in c.args.site.part c.args.sys.now c.in-Some.port) c.in-Some.ensures.value) c.receive_on.ensures)

pub returns-in-Status : goal.returns-in-Status
returns-in-Status c =
    rw c.in-Status.is (served_as refl (call_made c.args.kind work.Status (caller_of c.args.site c.args.sys.now) (port_in c.args.site.part c.args.sys.now c.in-Some.port) c.in-Some.ensures.value) c.status_on.ensures)
