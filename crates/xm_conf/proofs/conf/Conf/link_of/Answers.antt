use Rattle.std.proofs.Common.{rules}
use Rattle.xm_conf.specs.View.{link_of}
use Rattle.xm_conf.proofs.ViewLemmas.{link_of_found}
use Rattle.xm_conf.proofs.conf.Conf.link_of.Goals as goal

pub returns-clause-value : goal.returns-clause-value
unfolding link_of
returns-clause-value c = search rules

pub returns-clause-found : goal.returns-clause-found
returns-clause-found c = rw (returns-clause-value c) (link_of_found c.args.self.now c.args.part c.args.number)
