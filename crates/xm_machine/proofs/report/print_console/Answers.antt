use Rattle.guest_bus.specs.Memory.{bytes_at}
use Rattle.system_state.specs.State.{memory_of}
use Rattle.xm_machine.proofs.HeardLemmas.{line_heard}
use Rattle.xm_machine.proofs.report.print_console.Goals as goal

pub returns-in-Console-clause-heard : goal.returns-in-Console-clause-heard
returns-in-Console-clause-heard g c =
    rw c.in-Console.is (line_heard c.args.sys.now.machine c.args.n c.args.p (bytes_at (memory_of c.args.p c.args.sys.now.machine) c.in-Console.at c.in-Console.size)
    (record { places = _; marks = _ }) (record { places = _; marks = _ }) c.put_console.ensures.heard)
