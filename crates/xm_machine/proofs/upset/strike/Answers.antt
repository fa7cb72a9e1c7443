use Rattle.std.proofs.Common.{sym, ap, ◌∙◌}
use Rattle.machine_model.specs.Machine.{Machine}
use Rattle.system_state.specs.State.{with_machine}
use Rattle.xm_machine.proofs.UpsetLemmas.{halted_ready, struck_ready}
use Rattle.xm_machine.proofs.upset.strike.Goals as goal

pub returns-then-not-halted : goal.returns-then-not-halted
returns-then-not-halted c =
    let goes = sym c.halted.ensures.value ∙ c.if-not-halted.true in
    c.flip.ensures ∙ ap (λ (g : Machine). with_machine g c.args.sys.now) (struck_ready c.args.line c.args.sys.now.machine goes c.requires.partition)

pub returns-else-not-halted : goal.returns-else-not-halted
returns-else-not-halted c =
    let halts = sym c.halted.ensures.value ∙ c.if-not-halted.false in
    ap (λ (g : Machine). with_machine g c.args.sys.now) (sym (halted_ready c.args.line c.args.sys.now.machine halts))
