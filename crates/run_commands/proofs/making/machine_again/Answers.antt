use Rattle.std.proofs.Common.{◌≡◌, ℕ, List, Ok, IfOk, drop, length, map, sym, subst}
use Rattle.command_line.specs.Seen.{seen_options}
use Rattle.file_commands.specs.EndingValues.{vector_bytes}
use Rattle.file_commands.specs.Inputs.{inputs_for}
use Rattle.loaded_system.specs.System.{System}
use Rattle.machine_model.specs.Machine.{start}
use Rattle.system_state.specs.State.{with_inputs}
use Rattle.run_commands.specs.declared.beginning.Beginning.{Beginning}
use Rattle.run_commands.specs.lemmas.Beginnings.{IsNamed, machine_of}
use Rattle.run_commands.proofs.making.machine_again.Goals as goal

pub returns-in-Boot : goal.returns-in-Boot
returns-in-Boot c =
    let options = seen_options c.args.options in
    let contents = map vector_bytes c.args.contents.now in
    let boots = subst (λ (s : System). (inputs : List (List ℕ)) → inputs_for (length s.conf.parts) options (drop 1 contents) ≡ Ok inputs
    → IfOk c.boot_again.result (λ machine. machine.state ≡ start (with_inputs s inputs))) c.in_ok-again.ensures c.boot_again.ensures in
    subst (λ (b : Beginning). IfOk c.boot_again.result (λ machine. machine.state ≡ machine_of c.args.system.now b)) (sym c.in-Boot.is)
    (boots _ (subst (IsNamed options contents c.args.system.now) c.in-Boot.is c.requires.named).1)
