use Rattle.xm_ports.proofs.FilledLemmas.{suits_there}
use Rattle.xm_ports.proofs.channels.filled.Goals as goal

pub resumed-requires : goal.resumed-requires
resumed-requires c =
    suits_there c.args.chans.now c.args.contents.now c.loop-c.c c.index-chans-c.result c.index-contents-c.result c.requires.suits c.requires.counted c.loop-c-test.true c.index-chans-c.is c.index-contents-c.is
