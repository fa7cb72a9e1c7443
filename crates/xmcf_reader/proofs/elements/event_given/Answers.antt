use Rattle.std.proofs.Common.{◌∙◌, ap}
use Rattle.xm_conf.specs.Health.{event_named}
use Rattle.xmcf_reader.specs.Elements.{event_given}
use Rattle.xmcf_reader.proofs.elements.event_given.Goals as goal

pub returns : goal.returns
unfolding event_given
returns c = c.named.ensures.value ∙ ap event_named c.text_of.ensures
