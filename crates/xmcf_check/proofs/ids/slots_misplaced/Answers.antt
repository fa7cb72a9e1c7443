use Rattle.xm_conf.specs.declared.item.Item.TheVariants as item
use Rattle.xmcf_check.proofs.IdLemmas.{some_misplaced, none_misplaced}
use Rattle.xmcf_check.proofs.ids.slots_misplaced.Goals as goal

pub returns-in-Some : goal.returns-in-Some
returns-in-Some c = some_misplaced (item.Slot c.args.p) c.args.ids.now c.in-Some.n c.alone.result c.in-Some.ensures c.alone.ensures

pub returns-in-None : goal.returns-in-None
returns-in-None c = none_misplaced (item.Slot c.args.p) c.args.ids.now c.in-None.ensures
