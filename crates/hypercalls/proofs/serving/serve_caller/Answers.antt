use Rattle.std.proofs.Common.{◌≡◌, None, sym, ap, ◌∙◌, subst}
use Rattle.machine_model.specs.Caller.{Caller, Served}
use Rattle.machine_model.specs.Calls.{by_call, call_of}
use Rattle.machine_model.specs.Hypercalls.{served}
use Rattle.system_state.specs.Serving.{IsServed, caller_of}
use Rattle.hypercalls.proofs.ServingLemmas.{number_in, unknown_unseen, unseen_of}
use Rattle.hypercalls.proofs.serving.serve_caller.Goals as goal

pub returns-in-None : goal.returns-in-None
unfolding served
returns-in-None c =
    let caller = caller_of c.args.site c.args.sys.now in
    let unknown : call_of (number_in c.args.site c.args.sys.now) ≡ None = ap call_of (sym c.argument.ensures.value) ∙ sym c.call_of.ensures ∙ c.in-None.is in
    subst (λ (s : Served). IsServed c.args.site.part caller.sight s c.answer.result c.args.sys.now c.answer.new.sys) (ap (λ found. by_call found caller) (sym unknown))
    (unseen_of c.args.site c.args.sys.now c.answer.new.sys _ c.answer.result (unknown_unseen (number_in c.args.site c.args.sys.now) unknown) c.answer.ensures)
