use Rattle.std.proofs.Common.{ap, refl, sym}
use Rattle.machine_model.specs.PortEffects.{held_read}
use Rattle.port_calls.proofs.ReadingLemmas.{sample_none}
use Rattle.port_calls.specs.lemmas.MadePortsTerms.{port_in}
use Rattle.system_state.specs.Serving.{caller_of}
use Rattle.system_state.specs.lemmas.ServedLemmas.{served_as}
use Rattle.port_calls.proofs.message_calls.read_held_sample.Goals as goal

pub returns-in_default : goal.returns-in_default
returns-in_default c =
    let none = rw c.in_default.is at c.sample_head.ensures.value in
    served_as refl (sym (ap (λ o. held_read o (caller_of c.args.site c.args.sys.now) (port_in c.args.site.part c.args.sys.now c.args.port)) (sample_none _ none))) c.answer.ensures
