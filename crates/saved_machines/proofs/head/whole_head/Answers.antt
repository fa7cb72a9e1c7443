use Rattle.saved_machines.proofs.HeadLemmas.{in_head}
use Rattle.saved_machines.proofs.head.whole_head.Goals as goal

pub returns : goal.returns
returns c = in_head c.args.conf.now c.args.wanted c.args.before.now c.new-cursor.result c.first_head.result c.first_head.new.cursor c.new-cursor.ensures c.first_head.ensures.value
