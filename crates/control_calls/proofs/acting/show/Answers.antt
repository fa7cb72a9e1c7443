use Rattle.system_state.specs.lemmas.ServedLemmas.{answered_set}
use Rattle.control_calls.proofs.ActLemmas.{served_shown}
use Rattle.control_calls.proofs.acting.show.Goals as goal

pub returns : goal.returns
returns c =
    served_shown c.args.site c.args.sys.now _ c.args.address c.args.value c.args.bytes.now c.args.act c.requires.room c.requires.one c.requires.event c.requires.wanted
    (answered_set c.args.sys.now c.write.new.sys _ c.args.site.part c.args.value _ c.requires.caller c.write.ensures c.set_result.ensures.value)
