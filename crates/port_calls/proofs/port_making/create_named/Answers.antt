use Rattle.std.proofs.Common.{◌∙◌, refl, subst, ℕ}
use Rattle.std.specs.Prelude.{Result}
use Rattle.xm_ports.specs.Ports.{with_port}
use Rattle.xm_ports.specs.declared.ports.CreateFault.{CreateFault}
use Rattle.machine_model.specs.Caller.{answering}
use Rattle.machine_model.specs.PortEffects.{by_created}
use Rattle.machine_model.specs.Emission.{Unseen}
use Rattle.system_state.specs.Serving.{IsServed, caller_of}
use Rattle.system_state.specs.State.{SysState, part_at}
use Rattle.port_calls.proofs.PortMakingLemmas.{created_seen}
use Rattle.system_state.specs.lemmas.ServedLemmas.{served_changed}
use Rattle.port_calls.proofs.port_making.create_named.Goals as goal

pub returns-in-Ok : goal.returns-in-Ok
unfolding caller_of
returns-in-Ok c =
    let site = c.args.site in
    let sys = c.args.sys.now in
    let w = c.args.wanted in
    let ps = record (part_at site.part sys.machine) { made = with_port c.in-Ok.port (part_at site.part sys.machine).made } in
    let created = c.in-Ok.ensures.answer ∙ created_seen sys site c.args.name.now w.kind w.way w.length w.most in
    subst (λ (r : Result ℕ CreateFault). IsServed site.part Unseen (by_created r (caller_of site sys)) c.answer.result sys c.answer.new.sys) created
    (subst (λ (value : ℕ). IsServed site.part Unseen (answering value ps) c.answer.result sys c.answer.new.sys) c.from.ensures
    (served_changed site sys c.create_port.new.self c.answer.new.sys ps c.answer.result (answering c.from.result) refl refl c.requires c.in-Ok.ensures.made c.answer.ensures))

pub returns-in-Err : goal.returns-in-Err
returns-in-Err c =
    let site = c.args.site in
    let sys = c.args.sys.now in
    let w = c.args.wanted in
    let created = c.in-Err.ensures.answer ∙ created_seen sys site c.args.name.now w.kind w.way w.length w.most in
    subst (λ (r : Result ℕ CreateFault). IsServed site.part Unseen (by_created r (caller_of site sys)) c.answer-in-Err.result sys c.answer-in-Err.new.sys) created
    (subst (λ (value : ℕ). IsServed site.part Unseen (answering value (caller_of site sys).state) c.answer-in-Err.result sys c.answer-in-Err.new.sys) c.create_refusal.ensures
    (subst (λ (s : SysState). IsServed site.part Unseen (answering c.create_refusal.result (caller_of site s).state) c.answer-in-Err.result s c.answer-in-Err.new.sys) c.in-Err.ensures.unchanged c.answer-in-Err.ensures))
