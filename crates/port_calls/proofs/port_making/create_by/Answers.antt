use Rattle.std.proofs.Common.{◌∙◌, ap, subst, length, Option, List, ℕ}
use Rattle.machine_model.specs.Caller.{caller_bytes}
use Rattle.machine_model.specs.PortEffects.{creating}
use Rattle.machine_model.specs.Emission.{Unseen}
use Rattle.port_calls.specs.lemmas.PortNamesTerms.{name_in}
use Rattle.system_state.specs.Serving.{IsServed, caller_of}
use Rattle.port_calls.proofs.PortMakingLemmas.{name_read}
use Rattle.port_calls.proofs.port_making.create_by.Goals as goal

pub returns-in-Some : goal.returns-in-Some
returns-in-Some c =
    let caller = caller_of c.args.site c.args.sys.now in
    let w = c.args.wanted in
    let name = c.in-Some.ensures ∙ ap name_in (c.read.ensures ∙ ap (λ at. caller_bytes caller at (length c.args.bytes.now)) c.argument-address.ensures.value) ∙ name_read caller (length c.args.bytes.now) c.requires.readable in
    subst (λ (n : Option (List ℕ)). IsServed c.args.site.part Unseen (creating w.kind w.way w.length w.most n caller) c.create_named.result c.args.sys.now c.create_named.new.sys) name c.create_named.ensures

pub returns-in-None : goal.returns-in-None
returns-in-None c =
    let caller = caller_of c.args.site c.args.sys.now in
    let w = c.args.wanted in
    let name = c.in-None.ensures ∙ ap name_in (c.read.ensures ∙ ap (λ at. caller_bytes caller at (length c.args.bytes.now)) c.argument-address.ensures.value) ∙ name_read caller (length c.args.bytes.now) c.requires.readable in
    subst (λ (n : Option (List ℕ)). IsServed c.args.site.part Unseen (creating w.kind w.way w.length w.most n caller) c.answer.result c.args.sys.now c.answer.new.sys) name c.answer.ensures
