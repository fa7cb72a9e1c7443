use Rattle.std.proofs.Common.{refl}
use Rattle.system_state.specs.lemmas.ServedLemmas.{answered_set}
use Rattle.system_state.proofs.answering.answer_written.Goals as goal

pub returns : goal.returns
returns c = record {
  state = answered_set c.args.sys.now c.write.new.sys _ c.args.site.part c.args.value _ c.requires.caller c.write.ensures c.set_result.ensures.value;
  emitted = refl;
  upshot = refl;
  traffic = refl;
  seen = refl;
  readable = tt;
  one = tt;
  asked = tt;
  entered = tt;
  event = tt;
}
